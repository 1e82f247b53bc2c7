-- Document 01, 'A channel's life': ticks that only count down. How many of the next ticks certainly are so, whatever words, depth, periods
-- and Frame IDs they are handed, and the state after so many of them; `quiet_next` of proofs/QuietTicks.antt says that single ticks give just this.
use Rattle.std.specs.Prelude.{ℕ, ◌-◌, min, cond, leb}
use Rattle.sequencer.specs.declared.Stage.{Stage}
use Rattle.sequencer.specs.declared.Stage.TheVariants as stage
use Rattle.sequencer.specs.declared.Sequencer.{Sequencer}
use Rattle.sequencer.specs.Playing.{with_left, with_resume}
use Rattle.command_frames.specs.Commanding.{is_due}
use Rattle.channel_core.specs.declared.Channel.{Channel}

-- idle, no tick sends a setpoint: as many as 32 bits count
abbrev pub idle_ticks : ℕ
idle_ticks = 0xffffffff

-- those before the tick that sends. While resuming: the silent ticks; before them, to the next repeat or to the delay's end
abbrev pub quiet_at : Stage → Sequencer → ℕ
quiet_at stage.Idle s = idle_ticks
quiet_at stage.Starting s = s.left - 1
quiet_at stage.Running s = s.left - 1
quiet_at (stage.Paused k) s = s.left - 1
quiet_at stage.Resuming s = cond (leb s.resume 10) (s.resume - 1) (min (s.left - 1) (s.resume - 10))
quiet_at stage.Ended s = s.left - 1

unfoldable pub quiet_ticks : Sequencer → ℕ
quiet_ticks s = quiet_at s.stage s

-- of a channel: a tick on which a command frame leaves is not quiet
unfoldable pub channel_quiet_ticks : Channel → ℕ
channel_quiet_ticks c = cond (is_due c.commands.waiting) 0 (quiet_ticks c.sequencer)

-- the countdowns lowered by k at once; that to the next repeat stands still through a resume's silent ticks
abbrev pub after_quiet_at : Stage → Sequencer → ℕ → Sequencer
after_quiet_at stage.Idle s k = s
after_quiet_at stage.Starting s k = with_left s (s.left - k)
after_quiet_at stage.Running s k = with_left s (s.left - k)
after_quiet_at (stage.Paused j) s k = with_left s (s.left - k)
after_quiet_at stage.Resuming s k =
    cond (leb s.resume 10) (with_resume s (s.resume - k)) (with_left (with_resume s (s.resume - k)) (s.left - k))
after_quiet_at stage.Ended s k = with_left s (s.left - k)

unfoldable pub after_quiet : Sequencer → ℕ → Sequencer
after_quiet s k = after_quiet_at s.stage s k
