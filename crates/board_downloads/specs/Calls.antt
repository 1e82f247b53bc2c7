-- Document 02, card 8: a channel's download, by the channel's number. Of each call: its answer, and the board after it where it changes that. Refused, it
-- leaves the board as it was; no call changes a lent word.
use Rattle.std.specs.Prelude.{ℕ, cond, List, [], length}
use Rattle.downloads.specs.Portions as download
use Rattle.channel_core.specs.Answers.{Answer, unless}
use Rattle.channel_core.specs.Answers as ans
use Rattle.channel.specs.Calls.{then}
use Rattle.channel.specs.Downloads as one
use Rattle.board_state.specs.declared.Board.{Board}
use Rattle.board_state.specs.State.{channel_at, with_channel_at}
use Rattle.board_state.specs.Checks.{out_of_range, no_channel}
use Rattle.board_channels.specs.Calls.{retired_refusal}

-- ---- Opening, lent nothing: "remembers the retired count and answers it", and is refused 2 where there is no such channel

unfoldable pub opened_board : Board → (number : ℕ) → Board
opened_board b number = cond (no_channel number) b (with_channel_at b number (one.download_opened (channel_at b number)))

unfoldable pub opening_answer : Board → (number : ℕ) → Answer
opening_answer b number = cond (no_channel number) out_of_range (one.opening_answer (channel_at b number))

-- ---- A portion, and the call that answers the number or the part's length

-- "on the terms of a retired-readbacks call": 1, then 2 for the channel; then 12, which is "checked after the channel and before the range", then 2
abbrev pub portion_refusal : Board → (number index size k j : ℕ) → ℕ
portion_refusal b number index size k j = then (retired_refusal b number k j) (download.portion_refusal (channel_at b number).download index size)

-- none where there is no such channel, and else what the channel gives: "the empty part when refused"
unfoldable pub portion_words : Board → (number index size : ℕ) → (s t : List ℕ) → List ℕ
portion_words b number index size s t = cond (no_channel number) [] (one.portion_words (channel_at b number) b.m index size s t)

unfoldable pub portion_answer : Board → (number index size : ℕ) → (s t : List ℕ) → Answer
portion_answer b number index size s t =
    unless (portion_refusal b number index size (length s) (length t)) (ans.part (portion_words b number index size s t))

unfoldable pub portion_length : Board → (number index size : ℕ) → (s t : List ℕ) → Answer
portion_length b number index size s t =
    unless (portion_refusal b number index size (length s) (length t)) (ans.part_length (length (portion_words b number index size s t)))
