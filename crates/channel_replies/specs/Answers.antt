-- Document 01, 'Calls', and 'Code places and language forms': "For an answer that is an enum, a definition gives this paper's number and values
-- for each of its cases, and the promises use that definition."
use Rattle.std.specs.Prelude.{Result, Ok, Err}
use Rattle.refusal.specs.declared.Refusal.{Refusal}
use Rattle.refusal.specs.Refusals.{number_of}
use Rattle.channel_core.specs.Answers.{Answer}
use Rattle.channel_core.specs.Answers as ans
use Rattle.readback.specs.declared.Disposition.{Disposition}
use Rattle.channel_replies.specs.Replying.{receipt_answer}

-- the answer of a reply
abbrev pub receipt_of : Result Disposition Refusal → Answer
receipt_of (Ok receipt) = receipt_answer receipt
receipt_of (Err k) = ans.refused (number_of k)
