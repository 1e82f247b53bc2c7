-- Document 01, 'Run file and log line', and 'Code places and language forms': the number or the value that the reader's answer stands for.
use Rattle.std.specs.Prelude.{ℕ, Result, Ok, Err}
use Rattle.refusal.specs.Refusals.{number_of}
use Rattle.refusal.specs.declared.Refusal.{Refusal}
use Rattle.channel_core.specs.Answers.{Answer}
use Rattle.channel_core.specs.Answers as ans

-- the length of the records in bytes, or the refusal
abbrev pub bytes_of : Result ℕ Refusal → Answer
bytes_of (Ok k) = ans.part_length k
bytes_of (Err k) = ans.refused (number_of k)
