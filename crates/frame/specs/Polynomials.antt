-- Document 01, 'Frame': a "polynomial .. over two-valued coefficients", and "the remainder .. by x^8 + x^7 + x^5 + x^4 + x + 1".
-- A polynomial is the number whose binary digit k is the coefficient of x^k: the sum of two is `bit_xor`, times x^k is `* 2 ^ k`, and a degree below k
-- is `< 2 ^ k`.
use Rattle.std.specs.Prelude.{◌≡◌, Bool, cond, List, [], ◌∷◌, ℕ, ◌+◌, ◌*◌, ◌^◌, ◌<◌}
use Rattle.std.specs.Int.Bits.{bit_xor}

-- the generator: x^8 + x^7 + x^5 + x^4 + x + 1
unfoldable pub generator : ℕ
generator = 0b1_1011_0011

-- the polynomial whose coefficients are listed, the lowest first
abbrev pub from_coefficients : List Bool → ℕ
from_coefficients [] = 0
from_coefficients (b ∷ q) = from_coefficients q * 2 + cond b 1 0

-- p times the polynomial whose coefficients are listed, the lowest first: p (b + x q) = b p + x (p q)
unfoldable pub product : ℕ → List Bool → ℕ
product p [] = 0
product p (b ∷ q) = bit_xor (cond b p 0) (product p q * 2)

-- r is the remainder of a by the generator: a = generator × quotient + r, and the degree of r is below 8
pub record Remainder (a r : ℕ) : Type 0 where
  pub quotient : List Bool
  pub divides : a ≡ bit_xor (product generator quotient) r
  pub low : r < 2 ^ 8
