-- Document 01, 'Calls': the results that no definition by cases on an answer tells apart. Laws name them by equation.
use Rattle.std.specs.Prelude.{ℕ, Bool, Float}

-- document 02, card 7: "Each of the four readings is a voltage, or lost, or damaged by a wrong CRC."
pub data AdcReading : Type 0 where
  volts : Float → AdcReading
  lost : AdcReading
  damaged : AdcReading

-- document 02, card 10, "what the last tick did": the eight names of its list, in its order
pub data TickReason : Type 0 where
  -- "no tick yet"
  no_tick : TickReason
  -- "sent"
  sent : TickReason
  -- "disarmed"
  disarmed : TickReason
  -- "idle"
  idle : TickReason
  -- "start delay"
  start_delay : TickReason
  -- "start gap"
  start_gap : TickReason
  -- "resume gap"
  resume_gap : TickReason
  -- "between clock edges"
  between_edges : TickReason

pub data Result : Type 0 where
  -- a write, arming, an event, a user change
  done : Result
  -- a channel's bit, when Main 28 or 2A is read
  bit : Bool → Result
  -- a tick that sent nothing
  none : Result
  -- a reply that is document 01's "unasked"
  unsolicited : Result
  -- the length of a part, or the count that a download remembers
  part_length : ℕ → Result
  -- the four readings of a send, by its third to sixth replies
  readings : (third fourth fifth sixth : AdcReading) → Result
  -- what the last tick did
  last_tick : TickReason → Result
