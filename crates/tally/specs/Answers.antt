-- Document 01, 'Run file and log line', and 'Code places and language forms': what a run answers, and which of it the code's result stands for.
use Rattle.std.specs.Prelude.{ℕ, Result, Ok, Err}
use Rattle.refusal.specs.Refusals.{number_of}
use Rattle.refusal.specs.declared.Refusal.{Refusal}
use Rattle.tally.specs.declared.Counts.{Counts}

pub data RunAnswer : Type 0 where
  -- "records, refusals and frames of channels 1–4"
  counted : Counts → RunAnswer
  refused : (number : ℕ) → RunAnswer

abbrev pub ran_of : Result Counts Refusal → RunAnswer
ran_of (Ok c) = counted c
ran_of (Err k) = refused (number_of k)
