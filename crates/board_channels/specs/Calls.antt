-- Document 01, 'Calls': the calls that name a channel by its number, by the one-channel definitions. Of each: its refusal (0: none) where it is
-- the board's, its answer, the board after it, and what it leaves of the memory that it is lent. Refused, it leaves all as it was.
use Rattle.std.specs.Prelude.{ℕ, Bool, true, false, cond, List, [], length}
use Rattle.refusal.specs.Refusals.{number_of}
use Rattle.refusal.specs.declared.Refusal.TheVariants as refusal
use Rattle.channel_core.specs.Answers.{Answer, unless}
use Rattle.channel_core.specs.Answers as ans
use Rattle.channel_replies.specs.Replying as replies
use Rattle.channel.specs.Calls as one
use Rattle.board_state.specs.declared.Board.{Board}
use Rattle.board_state.specs.State.{channel_at, with_channel_at}
use Rattle.board_state.specs.Parts.{own, with_own}
use Rattle.board_state.specs.Checks.{setpoint_size, readback_size, setpoints_fit, readbacks_fit, size_mismatch, out_of_range, no_channel}

-- ---- Setpoint write

unfoldable pub setpoint_answer : Board → ℕ → ℕ → ℕ → ℕ → ℕ → Answer
setpoint_answer b lent number user buffer index =
    cond (setpoints_fit b lent)
    (cond (no_channel number) out_of_range (one.setpoint_answer (channel_at b number) b.n user buffer index))
    size_mismatch

unfoldable pub setpoint_words : Board → List ℕ → ℕ → ℕ → ℕ → ℕ → ℕ → List ℕ
setpoint_words b s number user buffer index word =
    cond (setpoints_fit b (length s))
    (cond (no_channel number) s
    (with_own s (setpoint_size b) number
    (one.setpoint_words (channel_at b number) (own s (setpoint_size b) number) b.n user buffer index word)))
    s

-- ---- Arm, disarm

-- armed (`on`) or disarmed
unfoldable pub set_armed : Board → ℕ → Bool → Board
set_armed b number on = cond (no_channel number) b (with_channel_at b number (one.set_armed (channel_at b number) on))

abbrev pub arm_board : Board → ℕ → Board
arm_board b number = set_armed b number true

abbrev pub disarm_board : Board → ℕ → Board
disarm_board b number = set_armed b number false

unfoldable pub arm_answer : ℕ → Answer
arm_answer number = cond (no_channel number) out_of_range ans.done

-- ---- Reply

unfoldable pub reply_board : Board → ℕ → ℕ → ℕ → Board
reply_board b lent number f =
    cond (readbacks_fit b lent) (cond (no_channel number) b (with_channel_at b number (replies.reply_of (channel_at b number) b.m f))) b

unfoldable pub reply_answer : Board → ℕ → ℕ → ℕ → Answer
reply_answer b lent number f =
    cond (readbacks_fit b lent) (cond (no_channel number) out_of_range (replies.reply_answer (channel_at b number) b.m f)) size_mismatch

unfoldable pub reply_words : Board → List ℕ → ℕ → ℕ → List ℕ
reply_words b s number f =
    cond (readbacks_fit b (length s))
    (cond (no_channel number) s
    (with_own s (readback_size b) number
    (replies.reply_words (channel_at b number) (own s (readback_size b) number) b.m b.user f)))
    s

-- ---- Retired readbacks, and the call that answers the number or the part's length

abbrev pub retired_refusal : Board → ℕ → ℕ → ℕ → ℕ
retired_refusal b number first second = one.then (one.retired_refusal b.m first second) (cond (no_channel number) (number_of refusal.OutOfRange) 0)

unfoldable pub retired_words : Board → ℕ → List ℕ → List ℕ → List ℕ
retired_words b number first second =
    cond (no_channel number) [] (one.retired_words (channel_at b number) b.m first second)

unfoldable pub retired_answer : Board → ℕ → List ℕ → List ℕ → Answer
retired_answer b number first second =
    unless (retired_refusal b number (length first) (length second)) (ans.part (retired_words b number first second))

unfoldable pub retired_length : Board → ℕ → List ℕ → List ℕ → Answer
retired_length b number first second =
    unless (retired_refusal b number (length first) (length second)) (ans.part_length (length (retired_words b number first second)))
