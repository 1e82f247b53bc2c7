-- Document 02, card 10: what the last tick did, over any history. Which tick was the last, and whether it sent, are told, as in specs/History, by calls and
-- what they answered; "The condition, save for no tick yet, is that of the state just before that tick."
use Rattle.std.specs.Prelude.{ℕ, ◌<◌, ◌≡◌, Bool, true, false, cond, not, ◌&&◌, List, [], ◌∷◌, leb, ltb}
use Rattle.sequencer.specs.declared.Stage.{Stage}
use Rattle.sequencer.specs.declared.Stage.TheVariants as stage
use Rattle.sequencer.specs.declared.Sequencer.{Sequencer}
use Rattle.sequencer.specs.Playing.{is_idle, is_starting, is_resuming}
use Rattle.channel_core.specs.Results.{TickReason}
use Rattle.channel_core.specs.Results as reason
use Rattle.channel_core.specs.Answers.{is_frame}
use Rattle.channel_core.specs.Answers as ans
use Rattle.channel.specs.Calls.{outside}
use Rattle.channel.specs.OneChannel.{ChannelCall, OneChannel, one_channel, transition, response, transitions, query, last_tick}
use Rattle.channel.specs.OneChannel as call
use Rattle.histories.specs.History.{Entry, entry, history, resets, makes_tick}

-- ---- The last tick

-- the tick itself, with the state before it and what it answered; or there was none
pub data LastTick : Type 0 where
  no_tick : LastTick
  made_tick : Entry → LastTick

-- after a call: "Reset returns the channel to no tick yet."; a tick that is refused is none
abbrev pub last_tick_after : LastTick → Entry → LastTick
last_tick_after t e = cond (resets e) no_tick (cond (makes_tick e) (made_tick e) t)

unfoldable pub last_tick_since : LastTick → List Entry → LastTick
last_tick_since t [] = t
last_tick_since t (e ∷ es) = last_tick_since (last_tick_after t e) es

-- after an opening of the board and a list of calls
abbrev pub last_tick_over : ℕ → ℕ → List ℕ → List ℕ → List ChannelCall → LastTick
last_tick_over n m setpoints readbacks ks = last_tick_since no_tick (history (one_channel n m setpoints readbacks) ks)

-- ---- The conditions, each by itself

-- "sent": the tick answered a frame, a setpoint's or a command frame: "A command frame counts as sent."
abbrev pub has_sent : Entry → Bool
has_sent e = is_frame e.answer

-- the rest are of the sequencer just before the tick: "disarmed"
abbrev pub is_disarmed : Sequencer → Bool
is_disarmed s = not s.armed

-- "start delay": a Start is under way, which loads the delay plus 10, and more than 10 ticks are left
abbrev pub in_start_delay : Sequencer → Bool
in_start_delay s = is_starting s.stage && ltb 10 s.left

-- "start gap": the delay is over, and this tick is one of the nine before the one on which the first setpoint leaves
abbrev pub in_start_gap : Sequencer → Bool
in_start_gap s = is_starting s.stage && not (outside 2 10 s.left)

-- "resume gap": the resume's delay is over, and this tick is one of document 01's "then 9 ticks are silent"
abbrev pub in_resume_gap : Sequencer → Bool
in_resume_gap s = is_resuming s.stage && not (outside 2 10 s.resume)

-- the clock runs: once the first word has left, through a pause and after the last word, and "A resume delay between repeats counts as between edges.",
-- whether or not a repeat falls into it
abbrev pub is_clocked : Stage → (resume : ℕ) → Bool
is_clocked stage.Idle resume = false
is_clocked stage.Starting resume = false
is_clocked stage.Running resume = true
is_clocked (stage.Paused k) resume = true
is_clocked stage.Resuming resume = ltb 10 resume
is_clocked stage.Ended resume = true

-- "between clock edges": none of its edges comes with this tick
abbrev pub is_between_edges : Sequencer → Bool
is_between_edges s = is_clocked s.stage s.resume && leb 2 s.left

-- the condition of each name, of a tick
abbrev pub condition_at : TickReason → Entry → Bool
condition_at reason.no_tick e = false
condition_at reason.sent e = has_sent e
condition_at reason.disarmed e = is_disarmed e.before.channel.sequencer
condition_at reason.idle e = is_idle e.before.channel.sequencer.stage
condition_at reason.start_delay e = in_start_delay e.before.channel.sequencer
condition_at reason.start_gap e = in_start_gap e.before.channel.sequencer
condition_at reason.resume_gap e = in_resume_gap e.before.channel.sequencer
condition_at reason.between_edges e = is_between_edges e.before.channel.sequencer

-- where there was no tick, "no tick yet" alone holds
abbrev pub condition_before : TickReason → Bool
condition_before reason.no_tick = true
condition_before reason.sent = false
condition_before reason.disarmed = false
condition_before reason.idle = false
condition_before reason.start_delay = false
condition_before reason.start_gap = false
condition_before reason.resume_gap = false
condition_before reason.between_edges = false

abbrev pub condition : TickReason → LastTick → Bool
condition x no_tick = condition_before x
condition x (made_tick e) = condition_at x e

-- ---- The claim

-- the place in "this list": "no tick yet, sent, disarmed, idle, start delay, start gap, resume gap, or between clock edges"
abbrev pub place : TickReason → ℕ
place reason.no_tick = 0
place reason.sent = 1
place reason.disarmed = 2
place reason.idle = 3
place reason.start_delay = 4
place reason.start_gap = 5
place reason.resume_gap = 6
place reason.between_edges = 7

-- "that the named reason held and that the ones before it in this list didn't"
pub record FirstHeld (x : TickReason) (t : LastTick) : Type 0 where
  pub held : condition x t ≡ true
  pub none_before : (y : TickReason) → place y < place x → condition y t ≡ false

-- so there is one name at most that may be given
abbrev pub OneFirstHeld : Type 0
OneFirstHeld = (x y : TickReason) (t : LastTick) → FirstHeld x t → FirstHeld y t → x ≡ y

-- a channel asked what its last tick did, whatever it is lent
pub record Reports (o : OneChannel) (t : LastTick) : Type 0 where
  pub named : TickReason
  pub answers : (one two : ℕ) → response o (query last_tick one two) ≡ ans.last_tick named
  pub first_held : FirstHeld named t

-- from any opening, after any list of calls
abbrev pub LastTickNamed : Type 0
LastTickNamed =
    (n m : ℕ) (setpoints readbacks : List ℕ) (ks : List ChannelCall)
    → Reports (transitions (one_channel n m setpoints readbacks) ks) (last_tick_over n m setpoints readbacks ks)

-- ---- What comes after a tick changes nothing of it

-- none of these calls is a tick or a reset that took place
abbrev pub NoTickNorReset : List Entry → Type 0
NoTickNorReset [] = Unit {0}
NoTickNorReset (e ∷ es) = (makes_tick e ≡ false) × (resets e ≡ false) × NoTickNorReset es

-- disarm, arm, Start, Resume, Group End, a user change and all else leave the answer, in any state
abbrev pub LastTickStays : Type 0
LastTickStays =
    (o : OneChannel) (ks : List ChannelCall) → NoTickNorReset (history o ks)
    → (one two : ℕ) → response (transitions o ks) (query last_tick one two) ≡ response o (query last_tick one two)

-- so in any state: a tick that takes place, then any calls of which none is a tick or a reset that took place: the name is that of the first condition that
-- held of that tick
abbrev pub LastTickSeen : Type 0
LastTickSeen =
    (o : OneChannel) (lent : ℕ) (ks : List ChannelCall)
    → let e = entry o (call.tick lent) in
    makes_tick e ≡ true → NoTickNorReset (history (transition o (call.tick lent)) ks)
    → Reports (transitions (transition o (call.tick lent)) ks) (made_tick e)

-- and a reset that takes place, then no tick that does, leaves no tick yet
abbrev pub ResetForgets : Type 0
ResetForgets =
    (o : OneChannel) (k : ChannelCall) (ks : List ChannelCall)
    → resets (entry o k) ≡ true → NoTickNorReset (history (transition o k) ks)
    → (one two : ℕ) → response (transitions (transition o k) ks) (query last_tick one two) ≡ ans.last_tick reason.no_tick
