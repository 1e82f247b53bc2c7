-- Document 01, 'Calls': opening, and the calls that every channel shares, by the one-channel definitions. Of each: its refusal (0: none) where it is
-- the board's, its answer, the board after it, and what it leaves of the memory that it is lent. Refused, it leaves all as it was.
use Rattle.std.specs.Prelude.{ℕ, zero, suc, ◌*◌, cond, List, Result, Ok, Err, length, eqb}
use Rattle.refusal.specs.Refusals.{number_of}
use Rattle.refusal.specs.declared.Refusal.{Refusal}
use Rattle.refusal.specs.declared.Refusal.TheVariants as refusal
use Rattle.channel_core.specs.declared.Channel.{Channel}
use Rattle.channel_core.specs.Answers.{Answer, unless}
use Rattle.channel_core.specs.Answers as ans
use Rattle.channel_core.specs.Behaviour as core
use Rattle.channel.specs.Calls.{outside}
use Rattle.channel.specs.OneChannel.{user_refusal}
use Rattle.board_state.specs.declared.Board.{Board}
use Rattle.board_state.specs.State.{opened, channel_at, with_channel_at, with_user, event_came}
use Rattle.board_state.specs.Parts.{own, with_own}
use Rattle.board_state.specs.Checks.{setpoint_size, readback_size, setpoints_fit, readbacks_fit, size_mismatch}
use Rattle.board.specs.Answers.{BoardAnswer}
use Rattle.board.specs.Answers as answers

-- ---- Opening

-- 1: "a depth out of range, or lent lengths other than 64 × N and 8 × M"
unfoldable pub open_refusal : ℕ → ℕ → ℕ → ℕ → ℕ
open_refusal n m setpoints readbacks =
    cond (outside 1 1048576 n) (number_of refusal.SizeMismatch)
    (cond (outside 1 8388608 m) (number_of refusal.SizeMismatch)
    (cond (eqb setpoints (n * 64)) (cond (eqb readbacks (m * 8)) 0 (number_of refusal.SizeMismatch)) (number_of refusal.SizeMismatch)))

-- the board beside a refused opening: no depths, the rest as at an opening
abbrev pub closed : Board
closed = opened 0 0

unfoldable pub open_board : ℕ → ℕ → ℕ → ℕ → Board
open_board n m setpoints readbacks = cond (eqb (open_refusal n m setpoints readbacks) 0) (opened n m) closed

-- the board that an opening gives: where it is refused the closed one
abbrev pub board_of : Result Board Refusal → Board
board_of (Ok b) = b
board_of (Err k) = closed

-- the answer of an opening
abbrev pub opening_of : Result Board Refusal → Answer
opening_of (Ok b) = ans.done
opening_of (Err k) = ans.refused (number_of k)

unfoldable pub open_answer : ℕ → ℕ → ℕ → ℕ → Answer
open_answer n m setpoints readbacks = unless (open_refusal n m setpoints readbacks) ans.done

-- ---- Tick: every channel, over its part of the setpoints

unfoldable pub tick_channel : Board → List ℕ → ℕ → Channel
tick_channel b s number = core.tick_of (channel_at b number) (own s (setpoint_size b) number) b.n b.user

unfoldable pub tick_frame : Board → List ℕ → ℕ → Answer
tick_frame b s number = core.tick_answer (channel_at b number) (own s (setpoint_size b) number) b.n b.user

unfoldable pub tick_board : Board → List ℕ → Board
tick_board b s =
    cond (setpoints_fit b (length s))
    (with_channel_at (with_channel_at (with_channel_at (with_channel_at b 1 (tick_channel b s 1)) 2 (tick_channel b s 2)) 3 (tick_channel b s 3)) 4 (tick_channel b s 4))
    b

unfoldable pub tick_board_answer : Board → List ℕ → BoardAnswer
tick_board_answer b s =
    cond (setpoints_fit b (length s)) (answers.each (tick_frame b s 1) (tick_frame b s 2) (tick_frame b s 3) (tick_frame b s 4)) (answers.one size_mismatch)

-- ---- Event: channel by channel, each over its part of the readbacks

unfoldable pub event_board_at : Board → ℕ → ℕ → Board
event_board_at b code number = with_channel_at b number (core.event_of (channel_at b number) b.user code)

unfoldable pub event_words_at : Board → List ℕ → ℕ → ℕ → List ℕ
event_words_at b s code number =
    with_own s (readback_size b) number (core.event_words (channel_at b number) (own s (readback_size b) number) b.m code)

-- after channels 1 to k
unfoldable pub event_boards : Board → ℕ → ℕ → Board
event_boards b code zero = b
event_boards b code (suc k) = event_board_at (event_boards b code k) code (suc k)

unfoldable pub event_parts : Board → List ℕ → ℕ → ℕ → List ℕ
event_parts b s code zero = s
event_parts b s code (suc k) = event_words_at (event_boards b code k) (event_parts b s code k) code (suc k)

unfoldable pub event_board : Board → ℕ → ℕ → Board
event_board b lent code = cond (readbacks_fit b lent) (event_came (event_boards b code 4)) b

unfoldable pub event_answer : Board → ℕ → Answer
event_answer b lent = cond (readbacks_fit b lent) ans.done size_mismatch

unfoldable pub event_words : Board → List ℕ → ℕ → List ℕ
event_words b s code = cond (readbacks_fit b (length s)) (event_parts b s code 4) s

-- ---- User change

unfoldable pub changed_at : Board → ℕ → Board
changed_at b number = with_channel_at b number (core.user_changed (channel_at b number))

unfoldable pub user_board : Board → ℕ → Board
user_board b user =
    cond (eqb (user_refusal user) 0)
    (cond (eqb user b.user) b (with_user (changed_at (changed_at (changed_at (changed_at b 1) 2) 3) 4) user))
    b

unfoldable pub user_answer : ℕ → Answer
user_answer user = unless (user_refusal user) ans.done
