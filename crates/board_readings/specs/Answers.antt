-- Document 02, cards 7 and 10, and document 01, 'Code places and language forms': "For an answer that is an enum, a definition gives this paper's number
-- and values for each of its cases, and the promises use that definition."
use Rattle.std.specs.Prelude.{Result, Ok, Err}
use Rattle.refusal.specs.Refusals.{number_of}
use Rattle.refusal.specs.declared.Refusal.{Refusal}
use Rattle.tick_outcome.specs.declared.TickOutcome.{TickOutcome}
use Rattle.channel_core.specs.Answers.{Answer}
use Rattle.channel_core.specs.Answers as ans
use Rattle.channel_readings.specs.Answers.{readings_of}
use Rattle.channel_readings.specs.declared.Readings.{Readings}

-- card 7: four readings, or the refusal
abbrev pub measurement_of : Result Readings Refusal → Answer
measurement_of (Ok r) = readings_of r
measurement_of (Err k) = ans.refused (number_of k)

-- card 10: what the last tick did, or the refusal
abbrev pub tick_report_of : Result TickOutcome Refusal → Answer
tick_report_of (Ok x) = ans.last_tick (ans.reason_of x)
tick_report_of (Err k) = ans.refused (number_of k)
