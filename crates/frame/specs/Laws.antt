-- Document 01, 'Frame': the laws of the frame and its CRC, as statements. proofs/Laws.antt proves each record.
use Rattle.std.specs.Prelude.{◌≡◌, Bool, true, false, List, ℕ, ◌+◌, ◌*◌, ◌/◌, ◌%◌, ◌^◌, ◌<◌, get_or, Result}
use Rattle.std.specs.Int.Bits.{bit_xor}
use Rattle.refusal.specs.declared.Refusal.{Refusal}
use Rattle.frame.specs.declared.Fields.{Fields}
use Rattle.frame.specs.Polynomials.{from_coefficients, product, Remainder}
use Rattle.frame.specs.Crc.{crc_of, of_bits, of_bytes, bits_of, bits_in}
use Rattle.frame.specs.Frames.{middle, compose, crc_for, encoded, framed, refused, fields, read, reading_of, crc_right}

-- the polynomials are those of the paper
pub record PolynomialLaws : Type 0 where
  -- coefficient k of a sum is the sum of theirs, modulo 2
  pub sum_coefficient : (a b k : ℕ) → bit_xor a b / 2 ^ k % 2 ≡ (a / 2 ^ k % 2 + b / 2 ^ k % 2) % 2
  -- 1 × q = q, (x p) × q = x (p × q), (a + b) × q = a × q + b × q: no other product has these three
  pub product_one : (q : List Bool) → product 1 q ≡ from_coefficients q
  pub product_shift : (p : ℕ) (q : List Bool) → product (p * 2) q ≡ product p q * 2
  pub product_sum : (a b : ℕ) (q : List Bool) → product (bit_xor a b) q ≡ bit_xor (product a q) (product b q)

-- "The CRC law is shown for any message length."
pub record CrcLaws : Type 0 where
  -- every polynomial has a remainder by the generator, and only one
  pub remainder_exists : (a : ℕ) → (r : ℕ) × Remainder a r
  pub remainder_unique : (a r s : ℕ) → Remainder a r → Remainder a s → r ≡ s
  -- the CRC of a message of bits is the remainder of the message times x^8; and of a message of bytes
  pub crc_of_bits : (bits : List Bool) → Remainder (of_bits bits * 2 ^ 8) (crc_of (of_bits bits))
  pub crc_of_bytes : (bytes : List ℕ) → Remainder (of_bytes bytes * 2 ^ 8) (crc_of (of_bytes bytes))
  -- bytes write the message that their bits write, high bit first
  pub bytes_as_bits : (bytes : List ℕ) → ((k : ℕ) → get_or bytes k 0 < 2 ^ 8) → of_bits (bits_of bytes) ≡ of_bytes bytes
  -- "high bit first, starting from 0": bits brought in one by one, zeros in front too, give the CRC
  pub bit_by_bit : (bits : List Bool) → bits_in 0 bits ≡ crc_of (of_bits bits)

-- f is the composition of these four fields, each in its range
pub record Parts (f : ℕ) : Type 0 where
  pub id : ℕ
  pub word : ℕ
  pub aux : ℕ
  pub crc : ℕ
  pub id_fits : id < 2 ^ 8
  pub word_fits : word < 2 ^ 16
  pub aux_fits : aux < 2 ^ 8
  pub crc_fits : crc < 2 ^ 8
  pub whole : f ≡ compose id word aux crc

pub record FrameLaws : Type 0 where
  -- "The CRC is the remainder of the 32 middle bits, as a polynomial times x^8"; no other CRC is right
  pub crc_remainder : (id word aux : ℕ) → Remainder (middle id word aux * 2 ^ 8) (crc_for id word aux)
  pub crc_right_lem : (id word aux : ℕ) → crc_right id word aux (crc_for id word aux) ≡ true
  pub crc_only : (id word aux crc : ℕ) → crc_right id word aux crc ≡ true → crc ≡ crc_for id word aux
  -- a frame built from its fields is well framed, and reads back as those fields with the right CRC
  pub encoded_framed : (id word aux : ℕ) → id < 2 ^ 8 → word < 2 ^ 16 → aux < 2 ^ 8 → framed (encoded id word aux) ≡ true
  pub round_trip : (id word aux : ℕ) → id < 2 ^ 8 → word < 2 ^ 16 → aux < 2 ^ 8
      → read (encoded id word aux) ≡ fields id word aux (crc_for id word aux)
  -- a well-framed number, its CRC right or wrong, is the composition of exactly one ID, data, auxiliary and CRC, and is read as those
  pub parts_exist : (f : ℕ) → framed f ≡ true → Parts f
  pub parts_unique : (f : ℕ) (p q : Parts f) → (p.id ≡ q.id) × (p.word ≡ q.word) × (p.aux ≡ q.aux) × (p.crc ≡ q.crc)
  pub parts_read : (f : ℕ) (p : Parts f) → read f ≡ fields p.id p.word p.aux p.crc
  -- what is not well framed is the composition of none
  pub parts_framed : (f : ℕ) → Parts f → framed f ≡ true
  -- no other number is read as a well-framed one is
  pub read_one_to_one : (f g : ℕ) → framed f ≡ true → read f ≡ read g → f ≡ g
  -- what is not well framed is refused 7, and nothing else is refused
  pub refused_7 : (f : ℕ) → framed f ≡ false → read f ≡ refused 7
  pub refused_only : (f number : ℕ) → read f ≡ refused number → (framed f ≡ false) × (number ≡ 7)
  -- two answers of `frame::decode` that mean the same are the same
  pub reading_one_to_one : (x y : Result Fields Refusal) → reading_of x ≡ reading_of y → x ≡ y
