-- Document 02, card 10: "For any channel, say what the last tick did: no tick yet, sent, disarmed, idle, start delay, start gap, resume gap, or between
-- clock edges. The condition, save for no tick yet, is that of the state just before that tick."
use Rattle.std.specs.Prelude.{Bool, cond, leb}
use Rattle.sequencer.specs.declared.Stage.{Stage}
use Rattle.sequencer.specs.declared.Stage.TheVariants as stage
use Rattle.sequencer.specs.declared.Sequencer.{Sequencer}
use Rattle.tick_outcome.specs.declared.TickOutcome.{TickOutcome}
use Rattle.tick_outcome.specs.declared.TickOutcome.TheVariants as tick

-- of a tick that sends nothing on an armed channel, by what was under way just before it. Start loads "the current user's start delay .. plus 10", so
-- "ticks 1 to D are start delay" while more than 10 are left, and "D + 1 to D + 9 are start gap". A resume is loaded so too; "A resume delay between
-- repeats counts as between edges.", and resume gap is document 01's "then 9 ticks are silent"
abbrev pub silence_at : Stage → Sequencer → TickOutcome
silence_at stage.Idle s = tick.Idle
silence_at stage.Starting s = cond (leb s.left 10) tick.StartGap tick.StartDelay
silence_at stage.Running s = tick.BetweenEdges
silence_at (stage.Paused k) s = tick.BetweenEdges
silence_at stage.Resuming s = cond (leb s.resume 10) tick.ResumeGap tick.BetweenEdges
silence_at stage.Ended s = tick.BetweenEdges

unfoldable pub silence : Sequencer → TickOutcome
silence s = cond s.armed (silence_at s.stage s) tick.Disarmed

-- of any tick: a frame of it, a setpoint's or a command frame, comes before all else: "A command frame counts as sent."
unfoldable pub outcome : (sends : Bool) → Sequencer → TickOutcome
outcome sends s = cond sends tick.Sent (silence s)
