-- Document 01, 'Run file and log line': what one record does to the board and its memory, and what the board's own calls answer to it.
use Rattle.std.specs.Prelude.{ℕ, zero, suc, List, [], ◌∷◌, ◌++◌, length}
use Rattle.refusal.specs.Refusals.{number_of}
use Rattle.refusal.specs.declared.Refusal.TheVariants as refusal
use Rattle.channel_core.specs.Answers.{Answer}
use Rattle.channel_core.specs.Answers as ans
use Rattle.board_state.specs.declared.Board.{Board}
use Rattle.board.specs.Worlds.{World, world}
use Rattle.board.specs.Answers.{BoardAnswer, one}
use Rattle.board.specs.Calls.{tick_board, tick_board_answer, event_board, event_answer, event_words, user_board, user_answer}
use Rattle.board_channels.specs.Calls.{setpoint_answer, setpoint_words, arm_board, disarm_board, arm_answer, reply_board, reply_answer, reply_words}
use Rattle.board_registers.specs.Calls.{write_board, write_answer, write_words, read_board, read_answer}
use Rattle.records.specs.Requests.{Asked}
use Rattle.records.specs.Requests as asked

-- "5 b ticks": the board after k ticks, and what each of them answered
unfoldable pub ticked : Board → List ℕ → ℕ → Board
ticked b s zero = b
ticked b s (suc k) = tick_board (ticked b s k) s

unfoldable pub tick_answers : Board → List ℕ → ℕ → List BoardAnswer
tick_answers b s zero = []
tick_answers b s (suc k) = tick_answers b s k ++ (tick_board_answer (ticked b s k) s ∷ [])

-- 9
abbrev pub bad_record : Answer
bad_record = ans.refused (number_of refusal.BadRecord)

-- after a record
unfoldable pub after : World → Asked → World
after w (asked.write address value) =
    world (write_board w.board (length w.readbacks) address value) w.setpoints (write_words w.board w.readbacks address value)
after w (asked.read address) = world (read_board w.board address) w.setpoints w.readbacks
after w (asked.setpoint number user buffer index word) =
    world w.board (setpoint_words w.board w.setpoints number user buffer index word) w.readbacks
after w (asked.event code) =
    world (event_board w.board (length w.readbacks) code) w.setpoints (event_words w.board w.readbacks code)
after w (asked.ticks k) = world (ticked w.board w.setpoints k) w.setpoints w.readbacks
after w (asked.reply number frame) =
    world (reply_board w.board (length w.readbacks) number frame) w.setpoints (reply_words w.board w.readbacks number frame)
after w (asked.user user) = world (user_board w.board user) w.setpoints w.readbacks
after w (asked.arm number) = world (arm_board w.board number) w.setpoints w.readbacks
after w (asked.disarm number) = world (disarm_board w.board number) w.setpoints w.readbacks
after w asked.bad = w

-- the answers to a record, in order: one for each call that it makes; a bad record makes none and shows 9
unfoldable pub answers : World → Asked → List BoardAnswer
answers w (asked.write address value) = one (write_answer w.board (length w.readbacks) address value) ∷ []
answers w (asked.read address) = one (read_answer w.board address) ∷ []
answers w (asked.setpoint number user buffer index word) =
    one (setpoint_answer w.board (length w.setpoints) number user buffer index) ∷ []
answers w (asked.event code) = one (event_answer w.board (length w.readbacks)) ∷ []
answers w (asked.ticks k) = tick_answers w.board w.setpoints k
answers w (asked.reply number frame) = one (reply_answer w.board (length w.readbacks) number frame) ∷ []
answers w (asked.user user) = one (user_answer user) ∷ []
answers w (asked.arm number) = one (arm_answer number) ∷ []
answers w (asked.disarm number) = one (arm_answer number) ∷ []
answers w asked.bad = one bad_record ∷ []
