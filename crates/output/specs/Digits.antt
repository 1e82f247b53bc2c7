-- The digits of numbers as text (tests/CALLS.md, Records: "Hexadecimal digits are upper-case"; "all other numbers are decimal").
use Rattle.std.specs.Prelude.{ℕ, zero, suc, ◌+◌, ◌/◌, ◌%◌, ◌^◌, cond, List, [], ◌∷◌, ◌++◌, ltb}
use Rattle.io.specs.Digits.{last_digits, IsDigitCount}
use Rattle.output.specs.declared.printer.Printer.{Printer}
use Rattle.output.specs.Blocks.{Prints}

-- the upper-case digit of a number below 16
unfoldable pub hex_digit : ℕ → ℕ
hex_digit d = cond (ltb d 10) (48 + d) (55 + d)

-- the last k hexadecimal digits of a number, the highest first
unfoldable pub hex_of : ℕ → ℕ → List ℕ
hex_of zero x = []
hex_of (suc k) x = hex_digit (x / 16 ^ k % 16) ∷ hex_of k x

-- what printing these bytes and then a number does to a printer: the number has its decimal digits, as few as hold it
pub record PrintsNumber (before after : Printer) (bytes : List ℕ) (x : ℕ) : Type 0 where
  pub places : ℕ
  pub fewest : IsDigitCount 10 1 x places
  pub prints : Prints before after (bytes ++ last_digits 10 places x)
