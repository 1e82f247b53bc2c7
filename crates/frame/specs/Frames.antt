-- Document 01, 'Frame': "43 bits, high to low: start 0, Frame ID 8, data 16, auxiliary 8, CRC 8, stop 11". `word` is the data, `aux` the auxiliary bits.
use Rattle.std.specs.Prelude.{Bool, cond, ◌&&◌, ℕ, ◌+◌, ◌*◌, ◌/◌, ◌%◌, ◌^◌, ltb, eqb, Result, Ok, Err}
use Rattle.refusal.specs.Refusals.{number_of}
use Rattle.refusal.specs.declared.Refusal.{Refusal}
use Rattle.refusal.specs.declared.Refusal.TheVariants as refusal
use Rattle.frame.specs.Crc.{crc_of}
use Rattle.frame.specs.declared.Fields.{Fields}

-- "the 32 middle bits"
abbrev pub middle : ℕ → ℕ → ℕ → ℕ
middle id word aux = id * 2 ^ 24 + word * 2 ^ 8 + aux

-- the number with these fields: start bit 0, the middle bits, the CRC, stop bits 11
abbrev pub compose : ℕ → ℕ → ℕ → ℕ → ℕ
compose id word aux crc = middle id word aux * 2 ^ 10 + crc * 2 ^ 2 + 3

-- "The CRC is the remainder of the 32 middle bits"
unfoldable pub crc_for : ℕ → ℕ → ℕ → ℕ
crc_for id word aux = crc_of (middle id word aux)

-- the frame that carries these values
unfoldable pub encoded : ℕ → ℕ → ℕ → ℕ
encoded id word aux = compose id word aux (crc_for id word aux)

-- well framed: below 2^43, start bit 0, stop bits 11. What is not is "bad framing"
abbrev pub framed : ℕ → Bool
framed f = ltb f (2 ^ 43) && (eqb (f / 2 ^ 42 % 2) 0 && eqb (f % 4) 3)

abbrev pub id_of : ℕ → ℕ
id_of f = f / 2 ^ 34 % 2 ^ 8

abbrev pub data_of : ℕ → ℕ
data_of f = f / 2 ^ 18 % 2 ^ 16

abbrev pub aux_of : ℕ → ℕ
aux_of f = f / 2 ^ 10 % 2 ^ 8

-- the CRC as received
abbrev pub crc_in : ℕ → ℕ
crc_in f = f / 2 ^ 2 % 2 ^ 8

-- what a number is read as: a refusal by its number, or all the fields it carries
pub data Reading : Type 0 where
  refused : (number : ℕ) → Reading
  fields : (id word aux crc : ℕ) → Reading

unfoldable pub read : ℕ → Reading
read f = cond (framed f) (fields (id_of f) (data_of f) (aux_of f) (crc_in f)) (refused (number_of refusal.FramingError))

-- the paper's number and values for each answer of `frame::decode`
abbrev pub reading_of : Result Fields Refusal → Reading
reading_of (Ok f) = fields f.id f.«data» f.auxiliary f.crc
reading_of (Err r) = refused (number_of r)

-- whether a CRC as received is right for the fields beside it; "CRC wrong" is false
unfoldable pub crc_right : ℕ → ℕ → ℕ → ℕ → Bool
crc_right id word aux crc = eqb crc (crc_for id word aux)
