-- Document 02, card 7: "The data is a signed code in two's complement, and the voltage is exactly code × 10 / 32,768."
use Rattle.std.specs.Prelude.{ℕ, ◌<◌, false, not, ℤ, pos, negsuc, nat_abs, ◌*ℤ◌, Float}
use Rattle.std.specs.Int.Signed.{non_neg}
use Rattle.std.specs.Float.{fin, binary64}
use Rattle.std.specs.Float.Ieee.{mul, div, of_int}
use Rattle.std.specs.Float.Ieee.Exact.{HasValue}
use Rattle.codes.specs.Codes.{code_of}

-- 10 and 32,768 as an f64 has them: 5 × 2 and 1 × 2 ^ 15
abbrev pub ten : Float
ten = fin false 5 (pos 1)

abbrev pub full_scale : Float
full_scale = fin false 1 (pos 15)

-- the voltage of a word of data as f64 arithmetic has it, each operation rounded to the nearest
unfoldable pub voltage_of : ℕ → Float
unfolding mul div of_int
voltage_of word = div binary64 (mul binary64 (of_int binary64 (code_of word)) ten) full_scale

-- ---- Its value

-- x is exactly z / d, for a d above 0: finite, with z's sign, and |z| / d in size
abbrev pub IsFraction : Float → (z : ℤ) (d : ℕ) → Type 0
IsFraction x z d = HasValue x (not (non_neg z)) (nat_abs z) d

-- "the voltage is exactly code × 10 / 32,768", of every word of data
abbrev pub VoltageExact : Type 0
VoltageExact = (word : ℕ) → word < 65536 → IsFraction (voltage_of word) (code_of word *ℤ pos 10) 32768

-- "8000h is −10, 0 is 0, and 7FFFh is 9.99969482421875."
pub record VoltageRows : Type 0 where
  pub lowest : IsFraction (voltage_of 0x8000) (negsuc 9) 1
  pub nought : IsFraction (voltage_of 0) (pos 0) 1
  pub highest : IsFraction (voltage_of 0x7fff) (pos 999969482421875) 100000000000000
  -- the codes next to 0
  pub one : IsFraction (voltage_of 1) (pos 10) 32768
  pub minus_one : IsFraction (voltage_of 0xffff) (negsuc 9) 32768
