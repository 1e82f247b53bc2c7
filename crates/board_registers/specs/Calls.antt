-- Document 01, 'Calls': register write and read, by the one-channel definitions. Of each: its answer, the board after it, and what it leaves of the
-- memory that it is lent. Refused, it leaves all as it was.
use Rattle.std.specs.Prelude.{ℕ, cond, List, length, eqb}
use Rattle.refusal.specs.Refusals.{number_of}
use Rattle.refusal.specs.declared.Refusal.TheVariants as refusal
use Rattle.address_map.specs.Addresses.{Named, named, main, channel, nothing}
use Rattle.register_map.specs.AccessRule.{main_access}
use Rattle.register_map.specs.AccessRefusals.{read_refusal, write_refusal}
use Rattle.channel_core.specs.Answers.{Answer, unless}
use Rattle.channel_core.specs.Answers as ans
use Rattle.channel_registers.specs.Calls as one
use Rattle.board_state.specs.declared.Board.{Board}
use Rattle.board_state.specs.State.{channel_at, with_channel_at}
use Rattle.board_state.specs.Main.{main_written, main_value, main_read}
use Rattle.board_state.specs.Parts.{own, with_own}
use Rattle.board_state.specs.Checks.{readback_size, readbacks_fit, size_mismatch}

-- refused 3
abbrev pub unmapped : Answer
unmapped = ans.refused (number_of refusal.UnmappedRegister)

-- ---- Register write: the channel or Main by the address, after the length

abbrev pub write_board_at : Named → Board → ℕ → Board
write_board_at (main offset) b value = cond (eqb (write_refusal (main_access offset)) 0) (main_written b offset value) b
write_board_at (channel number offset) b value = with_channel_at b number (one.written_of (channel_at b number) offset value)
write_board_at nothing b value = b

abbrev pub write_answer_at : Named → Board → ℕ → Answer
write_answer_at (main offset) b value = unless (write_refusal (main_access offset)) ans.done
write_answer_at (channel number offset) b value = one.written_answer (channel_at b number) offset value
write_answer_at nothing b value = unmapped

abbrev pub write_words_at : Named → Board → List ℕ → ℕ → List ℕ
write_words_at (main offset) b s value = s
write_words_at (channel number offset) b s value =
    with_own s (readback_size b) number (one.written_words (channel_at b number) (own s (readback_size b) number) b.m offset value)
write_words_at nothing b s value = s

unfoldable pub write_board : Board → ℕ → ℕ → ℕ → Board
write_board b lent address value = cond (readbacks_fit b lent) (write_board_at (named address) b value) b

unfoldable pub write_answer : Board → ℕ → ℕ → ℕ → Answer
write_answer b lent address value = cond (readbacks_fit b lent) (write_answer_at (named address) b value) size_mismatch

unfoldable pub write_words : Board → List ℕ → ℕ → ℕ → List ℕ
write_words b s address value = cond (readbacks_fit b (length s)) (write_words_at (named address) b s value) s

-- ---- Register read

abbrev pub read_board_at : Named → Board → Board
read_board_at (main offset) b = cond (eqb (read_refusal (main_access offset)) 0) (main_read b offset) b
read_board_at (channel number offset) b = with_channel_at b number (one.read_of (channel_at b number) offset)
read_board_at nothing b = b

abbrev pub read_answer_at : Named → Board → Answer
read_answer_at (main offset) b = unless (read_refusal (main_access offset)) (ans.value (main_value b offset))
read_answer_at (channel number offset) b = one.read_answer (channel_at b number) offset
read_answer_at nothing b = unmapped

unfoldable pub read_board : Board → ℕ → Board
read_board b address = read_board_at (named address) b

unfoldable pub read_answer : Board → ℕ → Answer
read_answer b address = read_answer_at (named address) b
