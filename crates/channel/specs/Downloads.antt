-- Document 02, card 8: the download of one channel. Its portions go by the two readback buffers lent, as retired readbacks does.
use Rattle.std.specs.Prelude.{ℕ, cond, List, [], length, eqb}
use Rattle.registers.specs.Map.{second_active, readback_place}
use Rattle.readback.specs.Storing.{retired_part}
use Rattle.downloads.specs.Portions.{download_of, count_of, portion_of}
use Rattle.downloads.specs.Portions as download
use Rattle.channel_core.specs.declared.Channel.{Channel}
use Rattle.channel_core.specs.Answers.{Answer, unless}
use Rattle.channel_core.specs.Answers as ans
use Rattle.channel_core.specs.State.{with_download}
use Rattle.channel.specs.Calls.{then, retired_refusal}

-- "Opening a download of a channel remembers the retired count and answers it.", whether one is open or not
unfoldable pub download_opened : Channel → Channel
download_opened c = with_download c (download_of c.readbacks.retired)

abbrev pub opening_answer : Channel → Answer
opening_answer c = ans.part_length c.readbacks.retired

-- "A portion is lent the channel's two buffers on the terms of a retired-readbacks call.": 1; then 12, then 2
abbrev pub portion_refusal : Channel → (m index size one two : ℕ) → ℕ
portion_refusal c m index size one two = then (retired_refusal m one two) (download.portion_refusal c.download index size)

-- the retired part of these buffers, by the count that the download remembers
abbrev pub download_part : Channel → (one two : List ℕ) → List ℕ
download_part c one two = retired_part (second_active c.registers readback_place) (count_of c.download) one two

-- "the empty part when refused"
unfoldable pub portion_words : Channel → (m index size : ℕ) → (one two : List ℕ) → List ℕ
portion_words c m index size one two =
    cond (eqb (portion_refusal c m index size (length one) (length two)) 0) (portion_of (download_part c one two) index size) []

-- what document 01 calls its twin: "answers the number or the part's length"
unfoldable pub portion_length : Channel → (m index size : ℕ) → (one two : List ℕ) → Answer
portion_length c m index size one two =
    unless (portion_refusal c m index size (length one) (length two)) (ans.part_length (length (portion_words c m index size one two)))
