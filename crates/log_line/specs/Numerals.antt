-- Document 01, 'Run file and log line': "prints records, refusals and frames of channels 1–4 in one line, or "file 8"": that what is printed of a
-- count is its decimal numeral, and that the line tells all it is printed from. Proofs: proofs/Numerals.antt and proofs/Reading.antt.
use Rattle.std.specs.Prelude.{ℕ, ◌+◌, ◌-◌, ◌*◌, ◌≤◌, ◌<◌, ◌≡◌, List, [], ◌∷◌}
use Rattle.tally.specs.declared.Counts.{Counts}
use Rattle.tally.specs.Answers.{RunAnswer, counted, refused}
use Rattle.log_line.specs.Lines.{decimal, log_line}

-- bytes read as decimal digits, the highest first: the number that they make after digits that make `value`
unfoldable pub read_on : ℕ → List ℕ → ℕ
read_on value [] = value
read_on value (byte ∷ text) = read_on (value * 10 + (byte - 48)) text

-- every byte is a digit, `0` to `9`
abbrev pub Digits : List ℕ → Type 0
Digits [] = Unit {0}
Digits (byte ∷ text) = (48 ≤ byte) × (byte ≤ 57) × Digits text

-- there is a digit, and no `0` stands in front of another
abbrev pub Shortest : List ℕ → Type 0
Shortest [] = ⊥
Shortest (byte ∷ []) = Unit {0}
Shortest (byte ∷ (next ∷ text)) = 48 < byte

pub record Numeral (n : ℕ) (text : List ℕ) : Type 0 where
  pub value : read_on 0 text ≡ n
  pub digits : Digits text
  pub shortest : Shortest text

-- counts are below 2^32
abbrev pub DecimalIsNumeral : Type 0
DecimalIsNumeral = (n : ℕ) → n < 10000000000 → Numeral n (decimal n)

-- every number that a line prints is below 10^10
pub record SmallCounts (c : Counts) : Type 0 where
  pub steps : c.steps < 10000000000
  pub refused : c.refused < 10000000000
  pub first : c.first < 10000000000
  pub second : c.second < 10000000000
  pub third : c.third < 10000000000
  pub fourth : c.fourth < 10000000000

abbrev pub Small : RunAnswer → Type 0
Small (counted c) = SmallCounts c
Small (refused k) = k < 10000000000

-- two answers never print alike: the line tells the six counts, or the number
abbrev pub LineTells : Type 0
LineTells = (x y : RunAnswer) → Small x → Small y → log_line x ≡ log_line y → x ≡ y
