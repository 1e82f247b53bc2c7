-- Document 01, 'Frame': "The CRC", worked out by long division of the message times x^8, "high bit first, starting from 0".
-- That it is the remainder is a law: `CrcLaws` in Laws.antt. A message is the number that its bits write, and so a polynomial.
use Rattle.std.specs.Prelude.{Bool, cond, List, [], ◌∷◌, ℕ, zero, suc, ◌+◌, ◌*◌, ◌/◌, ◌%◌, ◌^◌, ltb, eqb}
use Rattle.std.specs.Int.Bits.{bit_xor}
use Rattle.frame.specs.Polynomials.{generator}

-- the generator is taken away once where there is an x^8
unfoldable pub reduced : ℕ → ℕ
unfolding generator
reduced t = cond (ltb t (2 ^ 8)) t (bit_xor t generator)

-- the next bit b of the message comes in: r becomes the remainder of x r + b x^8
unfoldable pub bit_in : ℕ → ℕ → ℕ
unfolding reduced
bit_in r b = reduced (bit_xor (r * 2) (b * 2 ^ 8))

-- the bits of n brought in, high bit first, starting from 0; the first argument bounds their number
unfoldable pub divided : ℕ → ℕ → ℕ
unfolding bit_in
divided zero n = 0
divided (suc k) zero = 0
divided (suc k) (suc n) = bit_in (divided k (suc n / 2)) (suc n % 2)

-- the CRC of a message of any length
unfoldable pub crc_of : ℕ → ℕ
unfolding divided
crc_of n = divided n n

-- the message m with these bits after it, high bit first
abbrev pub with_bits : ℕ → List Bool → ℕ
with_bits m [] = m
with_bits m (b ∷ bs) = with_bits (m * 2 + cond b 1 0) bs

abbrev pub of_bits : List Bool → ℕ
of_bits bs = with_bits 0 bs

-- the message m with these bytes after it, high byte first
abbrev pub with_bytes : ℕ → List ℕ → ℕ
with_bytes m [] = m
with_bytes m (b ∷ bs) = with_bytes (m * 2 ^ 8 + b) bs

abbrev pub of_bytes : List ℕ → ℕ
of_bytes bs = with_bytes 0 bs

-- bit k of a number
abbrev pub bit : ℕ → ℕ → Bool
bit k b = eqb (b / 2 ^ k % 2) 1

-- the bits of bytes, high bit first
abbrev pub bits_of : List ℕ → List Bool
bits_of [] = []
bits_of (b ∷ bs) = bit 7 b ∷ bit 6 b ∷ bit 5 b ∷ bit 4 b ∷ bit 3 b ∷ bit 2 b ∷ bit 1 b ∷ bit 0 b ∷ bits_of bs

-- bits brought in one after the other, from the remainder r
unfoldable pub bits_in : ℕ → List Bool → ℕ
unfolding bit_in
bits_in r [] = r
bits_in r (b ∷ bs) = bits_in (bit_in r (cond b 1 0)) bs
