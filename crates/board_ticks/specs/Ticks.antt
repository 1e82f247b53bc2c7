-- Document 01, 'Calls': ticks in a row of the board, nothing else happening meanwhile, each channel by itself over its part of the setpoints.
-- `ticks_next`, `ticks_answer` and `frames_next` of proofs/TicksInRow.antt say that the board's single ticks give just this.
use Rattle.std.specs.Prelude.{ℕ, min, cond, List, length}
use Rattle.channel_core.specs.declared.Channel.{Channel}
use Rattle.channel_ticks.specs.Quiet as one
use Rattle.channel_ticks.specs.Ticks.{ticks_of, frames_in, frames_at}
use Rattle.board_state.specs.declared.Board.{Board}
use Rattle.board_state.specs.State.{channel_at, with_channel_at}
use Rattle.board_state.specs.Parts.{own}
use Rattle.board_state.specs.Checks.{setpoint_size, setpoints_fit, no_channel}

-- of k ticks, where they are not refused: a channel after them, how many answer a frame of it, and a list with these frames, each at the place
-- of its tick, the first tick's at 0
unfoldable pub channel_ticks : Board → List ℕ → ℕ → ℕ → Channel
channel_ticks b s number k = ticks_of (channel_at b number) (own s (setpoint_size b) number) b.n b.user k

unfoldable pub channel_frames : Board → List ℕ → ℕ → ℕ → ℕ
channel_frames b s number k = frames_in (channel_at b number) (own s (setpoint_size b) number) b.n b.user k

unfoldable pub channel_frames_at : Board → List ℕ → ℕ → ℕ → List ℕ → List ℕ
channel_frames_at b s number k l = frames_at (channel_at b number) (own s (setpoint_size b) number) b.n b.user k l

-- the board after k ticks; refused, each leaves it as it was
unfoldable pub ticks_board : Board → List ℕ → ℕ → Board
ticks_board b s k =
    cond (setpoints_fit b (length s))
    (with_channel_at (with_channel_at (with_channel_at (with_channel_at b 1 (channel_ticks b s 1 k)) 2 (channel_ticks b s 2 k)) 3 (channel_ticks b s 3 k)) 4
    (channel_ticks b s 4 k))
    b

-- how many of them are refused
unfoldable pub ticks_refused : Board → List ℕ → ℕ → ℕ
ticks_refused b s k = cond (setpoints_fit b (length s)) 0 k

-- how many of them answer a frame of a channel
unfoldable pub ticks_frames : Board → List ℕ → ℕ → ℕ → ℕ
ticks_frames b s number k = cond (setpoints_fit b (length s)) (channel_frames b s number k) 0

-- a list with the frames of channel 1 to 4
unfoldable pub ticks_frames_at : Board → List ℕ → ℕ → ℕ → List ℕ → List ℕ
ticks_frames_at b s number k l = cond (no_channel number) l (cond (setpoints_fit b (length s)) (channel_frames_at b s number k l) l)

-- how many of the next ticks only count down in all four channels, with no command frame: `quiet_run` says that they answer no frame
unfoldable pub quiet_ticks : Board → ℕ
quiet_ticks b =
    min (min (one.channel_quiet_ticks (channel_at b 1)) (one.channel_quiet_ticks (channel_at b 2)))
    (min (one.channel_quiet_ticks (channel_at b 3)) (one.channel_quiet_ticks (channel_at b 4)))
