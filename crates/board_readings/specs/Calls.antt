-- Document 02, card 7: "The call names a channel and describes its last setpoint send since idle"; card 10: "For any channel, say what the last tick
-- did". Both are lent nothing and change nothing: refused 2 where there is no such channel, else what the channel itself answers.
use Rattle.std.specs.Prelude.{ℕ, cond}
use Rattle.channel_core.specs.Answers.{Answer, last_tick, reason_of}
use Rattle.channel_readings.specs.Measuring as one
use Rattle.board_state.specs.declared.Board.{Board}
use Rattle.board_state.specs.State.{channel_at}
use Rattle.board_state.specs.Checks.{out_of_range, no_channel}

unfoldable pub readings_answer : Board → (number : ℕ) → Answer
readings_answer b number = cond (no_channel number) out_of_range (one.readings_answer (channel_at b number))

unfoldable pub last_tick_answer : Board → (number : ℕ) → Answer
last_tick_answer b number = cond (no_channel number) out_of_range (last_tick (reason_of (channel_at b number).outcome))
