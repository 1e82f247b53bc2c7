-- Document 01, 'Calls', and 'Code places and language forms': "For an answer that is an enum, a definition gives this paper's number and values
-- for each of its cases, and the promises use that definition."
use Rattle.std.specs.Prelude.{ℕ, Result, Ok, Err}
use Rattle.refusal.specs.declared.Refusal.{Refusal}
use Rattle.refusal.specs.Refusals.{number_of}
use Rattle.channel_core.specs.Answers.{Answer}
use Rattle.channel_core.specs.Answers as ans

-- the answer of a register read
abbrev pub read_outcome_of : Result ℕ Refusal → Answer
read_outcome_of (Ok v) = ans.value v
read_outcome_of (Err k) = ans.refused (number_of k)
