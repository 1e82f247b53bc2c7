-- Document 02, card 4: what the call answers. Document 01: "For an answer that is an enum, a definition gives this paper's number and values for each of its
-- cases, and the promises use that definition."
use Rattle.std.specs.Prelude.{ℕ, Result, Ok, Err}
use Rattle.refusal.specs.Refusals.{number_of}
use Rattle.refusal.specs.declared.Refusal.{Refusal}

pub data Answer : Type 0 where
  -- "answers how many words it wrote to each buffer"
  wrote : (words : ℕ) → Answer
  -- document 01: "A refusal returns its number alone."
  refused : (number : ℕ) → Answer

-- what each case of the code's answer stands for
abbrev pub count_of : Result ℕ Refusal → Answer
count_of (Ok k) = wrote k
count_of (Err r) = refused (number_of r)
