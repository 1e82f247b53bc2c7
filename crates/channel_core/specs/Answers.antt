-- Document 01, 'Calls' and 'A channel's life': what calls answer, in its own numbers and values, and which of them each case of an answer in the code stands for.
use Rattle.std.specs.Prelude.{ℕ, Bool, true, false, cond, List, [], eqb, Option, Some, None, Ok, Err}
use Rattle.std.specs.Prelude as prelude
use Rattle.refusal.specs.declared.Refusal.{Refusal}
use Rattle.refusal.specs.Refusals.{number_of}
use Rattle.tick_outcome.specs.declared.TickOutcome.{TickOutcome}
use Rattle.tick_outcome.specs.declared.TickOutcome.TheVariants as tick
use Rattle.channel_core.specs.Results.{Result, AdcReading, TickReason}
use Rattle.channel_core.specs.Results as result

-- A new kind of result is a case of `Result`, and a name for it here, unless a definition by cases on an answer has to tell it from the others.
pub data Answer : Type 0 where
  -- "A refusal returns its number alone."
  refused : (number : ℕ) → Answer
  -- a register's word
  value : ℕ → Answer
  -- a tick that sent: the channel's frame
  frame : ℕ → Answer
  -- a reply that counts among the six
  kept : Answer
  lost : Answer
  -- the words of a part, in order
  part : List ℕ → Answer
  -- any other result
  other : Result → Answer

-- a write, arming, an event, a user change
abbrev pub done : Answer
done = other result.done

-- a channel's bit, when Main 28 or 2A is read
abbrev pub bit : Bool → Answer
bit b = other (result.bit b)

-- a tick that sent nothing: "each channel's frame or none"
abbrev pub none : Answer
none = other result.none

-- a reply that is document 01's "unasked"
abbrev pub unsolicited : Answer
unsolicited = other result.unsolicited

-- the length of a part, or the count that a download remembers
abbrev pub part_length : ℕ → Answer
part_length k = other (result.part_length k)

-- the four readings of a send
abbrev pub readings : (third fourth fifth sixth : AdcReading) → Answer
readings third fourth fifth sixth = other (result.readings third fourth fifth sixth)

-- what the last tick did
abbrev pub last_tick : TickReason → Answer
last_tick x = other (result.last_tick x)

-- refused with this number, or not
abbrev pub unless : ℕ → Answer → Answer
unless k a = cond (eqb k 0) a (refused k)

-- the answer of a tick
abbrev pub line_of : Option ℕ → Answer
line_of None = none
line_of (Some f) = frame f

-- the answer of a call that has nothing to tell but that it was done
abbrev pub outcome_of : prelude.Result Unit Refusal → Answer
outcome_of (Ok u) = done
outcome_of (Err k) = refused (number_of k)

-- the name of what a tick did
abbrev pub reason_of : TickOutcome → TickReason
reason_of tick.NoTick = result.no_tick
reason_of tick.Sent = result.sent
reason_of tick.Disarmed = result.disarmed
reason_of tick.Idle = result.idle
reason_of tick.StartDelay = result.start_delay
reason_of tick.StartGap = result.start_gap
reason_of tick.ResumeGap = result.resume_gap
reason_of tick.BetweenEdges = result.between_edges

-- ---- Tests of an answer

-- a refusal's number
abbrev pub is_refusal : Answer → Bool
is_refusal (refused k) = true
is_refusal (value v) = false
is_refusal (frame f) = false
is_refusal kept = false
is_refusal lost = false
is_refusal (part s) = false
is_refusal (other r) = false

-- a tick that answered a frame
abbrev pub is_frame : Answer → Bool
is_frame (refused k) = false
is_frame (value v) = false
is_frame (frame f) = true
is_frame kept = false
is_frame lost = false
is_frame (part s) = false
is_frame (other r) = false

-- a reply that was answered kept or lost
abbrev pub is_received : Answer → Bool
is_received (refused k) = false
is_received (value v) = false
is_received (frame f) = false
is_received kept = true
is_received lost = true
is_received (part s) = false
is_received (other r) = false

-- ---- The part in an answer

-- the part that a call with this answer returns: "the empty part when refused"
abbrev pub part_of : Answer → List ℕ
part_of (refused k) = []
part_of (value v) = []
part_of (frame f) = []
part_of kept = []
part_of lost = []
part_of (part s) = s
part_of (other r) = []
