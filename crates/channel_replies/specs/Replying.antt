-- Document 01, 'A channel's life': what a reply does to a channel, over the channel's own 2 × M readback words, and what it is answered.
-- Document 02, card 1: replies to a command frame. Card 7: replies that are ADC words.
use Rattle.std.specs.Prelude.{ℕ, Bool, true, false, cond, not, List}
use Rattle.frame.specs.Frames.{Reading, refused, fields, read, crc_right}
use Rattle.status.specs.declared.Status.{Status}
use Rattle.status.specs.Latching.{latched, crc_error}
use Rattle.registers.specs.Map.{second_active, readback_place}
use Rattle.adc_words.specs.declared.AdcWord.{AdcWord}
use Rattle.adc_words.specs.Positions.{adc_word, with_reply}
use Rattle.sequencer.specs.Playing.{is_idle, send_of, answered}
use Rattle.readback.specs.declared.Disposition.{Disposition}
use Rattle.readback.specs.declared.Disposition.TheVariants as disposition
use Rattle.readback.specs.Storing.{disposition_of, stored_word, kept_in, kept_words}
use Rattle.command_frames.specs.Commanding.{takes, received}
use Rattle.channel_core.specs.declared.Channel.{Channel}
use Rattle.channel_core.specs.Answers.{Answer}
use Rattle.channel_core.specs.Answers as ans
use Rattle.channel_core.specs.State.{with_status, with_sequencer, with_readbacks, with_adc, with_commands}

-- what becomes of a well-framed reply that no command frame takes
unfoldable pub disposition_now : Channel → ℕ → Disposition
disposition_now c m = disposition_of (is_idle c.sequencer.stage) c.sequencer.last c.readbacks.stored m

-- "A wrong CRC, kept or lost, latches CRC."
abbrev pub crc_status : Status → Bool → Status
crc_status s right = cond right s (latched s crc_error)

-- what such a reply is answered
abbrev pub receipt_answer : Disposition → Answer
receipt_answer disposition.Unsolicited = ans.unsolicited
receipt_answer disposition.Lost = ans.lost
receipt_answer disposition.Kept = ans.kept

-- a reply that was due, kept or lost, "counts among the six", and its CRC is checked; `adc` is what is kept of it where its position,
-- after those that came before it, is that of an ADC word
abbrev pub reply_counted : Channel → Bool → AdcWord → Channel
reply_counted c right adc =
    with_adc (with_sequencer (with_status c (crc_status c.status right)) (answered c.sequencer)) (with_reply c.adc (send_of c.sequencer.last).replies adc)

-- the channel after it; an unasked one changes nothing. Card 7: "A reading is lost when its reply wasn't stored, with a wrong CRC or not."
abbrev pub received_channel : Disposition → Channel → ℕ → Bool → ℕ → Channel
received_channel disposition.Unsolicited c m right word = c
received_channel disposition.Lost c m right word = reply_counted c right (adc_word false right word)
received_channel disposition.Kept c m right word = with_readbacks (reply_counted c right (adc_word true right word)) (kept_in c.readbacks m)

-- the readback words after it: only a kept reply is stored
abbrev pub received_words : Disposition → Channel → List ℕ → ℕ → ℕ → List ℕ
received_words disposition.Unsolicited c s m word = s
received_words disposition.Lost c s m word = s
received_words disposition.Kept c s m word = kept_words c.readbacks s (second_active c.registers readback_place) m word

-- "Up to six replies after it go to E4–FA, answered as kept and stored in no buffer": so the CRC is checked, and nothing else moves
abbrev pub command_reply : Channel → Bool → ℕ → ℕ → Channel
command_reply c right id word = with_commands (with_status c (crc_status c.status right)) (received c.commands (not right) id word)

-- a reply by what its number is read as: refused 7, which changes nothing; or received with its fields, for a command frame where that takes it
abbrev pub reply_answer_as : Reading → Channel → ℕ → Answer
reply_answer_as (refused k) c m = ans.refused k
reply_answer_as (fields id word aux crc) c m = cond (takes c.commands) ans.kept (receipt_answer (disposition_now c m))

abbrev pub reply_as : Reading → Channel → ℕ → Channel
reply_as (refused k) c m = c
reply_as (fields id word aux crc) c m =
    cond (takes c.commands) (command_reply c (crc_right id word aux crc) id word)
    (received_channel (disposition_now c m) c m (crc_right id word aux crc) word)

abbrev pub reply_words_as : Reading → Channel → List ℕ → ℕ → ℕ → List ℕ
reply_words_as (refused k) c s m user = s
reply_words_as (fields id word aux crc) c s m user =
    cond (takes c.commands) s
    (received_words (disposition_now c m) c s m (stored_word (send_of c.sequencer.last) user (not (crc_right id word aux crc)) id word))

-- a reply: what it is answered, the channel after it, and its readback words
unfoldable pub reply_answer : Channel → ℕ → ℕ → Answer
reply_answer c m f = reply_answer_as (read f) c m

unfoldable pub reply_of : Channel → ℕ → ℕ → Channel
reply_of c m f = reply_as (read f) c m

unfoldable pub reply_words : Channel → List ℕ → ℕ → ℕ → ℕ → List ℕ
reply_words c s m user f = reply_words_as (read f) c s m user
