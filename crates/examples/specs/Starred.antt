-- Document 01, 'Marked * and unmarked examples': the starred ones, as rows of one proposition, `Starred`. A group of rows is a record of its own.
use Rattle.std.specs.Prelude.{◌≡◌, true, false, cond, ℕ, ◌+◌, ◌-◌, ◌^◌, ◌≤◌, ◌<◌, leb}
use Rattle.examples.specs.RunRows.{RunRows}
use Rattle.frame.specs.Frames.{crc_for, encoded, framed, refused, fields, read, crc_right}
use Rattle.status.specs.Bits.{bit_at}
use Rattle.registers.specs.Map.{start_event}
use Rattle.sequencer.specs.declared.Kind.TheVariants as kind
use Rattle.sequencer.specs.declared.LastSend.{LastSend}
use Rattle.sequencer.specs.Words.{kind_of}
use Rattle.readback.specs.Storing.{stored_word}
use Rattle.channel_core.specs.Answers.{Answer}
use Rattle.channel.specs.OneChannel.{OneChannel, transition}
use Rattle.timing.specs.Ticking.{after, on_tick, word_at, between, frame_of, NextSetpoint}
use Rattle.timing.specs.Timing.{command, event_call, triggered_by, delay, NeitherEndsNorStarts}

-- ---- Frames

-- "ID, data 0": the auxiliary value, its CRC and its frame
abbrev pub FrameOf : ℕ → ℕ → ℕ → Type 0
FrameOf aux crc frame = (crc_for 0 0 aux ≡ crc) × (encoded 0 0 aux ≡ frame)

pub record FrameRows : Type 0 where
  -- "auxiliary 0, 1, 2, 3 give CRC 00h, B3h, D5h, 66h; frames 3, 1743, 2903, 3483"
  pub auxiliary_0 : FrameOf 0 0x00 3
  pub auxiliary_1 : FrameOf 1 0xb3 1743
  pub auxiliary_2 : FrameOf 2 0xd5 2903
  pub auxiliary_3 : FrameOf 3 0x66 3483
  -- "Frame 7 is well framed, CRC wrong."
  pub frame_7 : (framed 7 ≡ true) × (read 7 ≡ fields 0 0 0 1) × (crc_right 0 0 0 1 ≡ false)
  -- "2 and 2^42 + 3 refuse 7."
  pub frame_2 : read 2 ≡ refused 7
  pub start_bit_1 : read (2 ^ 42 + 3) ≡ refused 7

-- ---- Start delays

-- any armed channel, with this start delay for the current user, started by its event: no setpoint before this tick, and the first on it
abbrev pub FirstSetpointOn : (delay tick : ℕ) → Type 0
FirstSetpointOn d tick =
    (o : OneChannel) (code : ℕ) → o.channel.sequencer.armed ≡ true → triggered_by o start_event code ≡ true → delay o 0 ≡ d
    → NextSetpoint (transition o (event_call o code)) tick 0

pub record DelayRows : Type 0 where
  -- "Delay 0: first frame on tick 10. Delay FFFFFFh: tick 16,777,225."
  pub delay_0 : FirstSetpointOn 0 10
  pub delay_most : FirstSetpointOn 0xffffff 16777225

-- ---- Resume delays

-- "Period 10, pause 1": an armed channel with clock code 3, whose word at index 0 has D16 and is not the last; an event that is Resume 1
pub record PauseOne (o : OneChannel) (code : ℕ) : Type 0 where
  pub armed : o.channel.sequencer.armed ≡ true
  pub clock_code : o.channel.registers.clock ≡ 3
  pub pause_bit_lem : bit_at (word_at o 0) 16 ≡ true
  pub last_bit : bit_at (word_at o 0) 31 ≡ false
  pub deep : 2 ≤ o.n
  pub resume_1 : triggered_by o 1 code ≡ true
  pub neither_ends_nor_starts : NeitherEndsNorStarts o code

-- "sent on tick 10": started by command, and ten ticks later; "then loaded": then the event
abbrev pub started : OneChannel → OneChannel
started o = transition o (command o 1)

abbrev pub resumed : OneChannel → ℕ → OneChannel
resumed o code = transition (after (started o) 10) (event_call (after (started o) 10) code)

-- what tick t from the Start answers, with that event between ticks 10 and 11. Others than those named send no setpoint (`between`): they answer none,
-- but for a command frame on the first, if one was due.
abbrev pub tick_of : OneChannel → ℕ → ℕ → Answer
tick_of o code t = cond (leb t 10) (on_tick (started o) t) (on_tick (resumed o code) (t - 10))

pub record Resume25 (o : OneChannel) (code : ℕ) : Type 0 where
  pub on_10 : tick_of o code 10 ≡ frame_of o (word_at o 0)
  pub on_20 : tick_of o code 20 ≡ frame_of o (word_at o 0)
  pub on_30 : tick_of o code 30 ≡ frame_of o (word_at o 0)
  pub on_45 : tick_of o code 45 ≡ frame_of o (word_at o 1)
  pub others : (t : ℕ) → 1 ≤ t → t < 45 → (t ≡ 10 → ⊥) → (t ≡ 20 → ⊥) → (t ≡ 30 → ⊥) → tick_of o code t ≡ between (started o) t

pub record Resume0 (o : OneChannel) (code : ℕ) : Type 0 where
  pub on_10 : tick_of o code 10 ≡ frame_of o (word_at o 0)
  pub on_20 : tick_of o code 20 ≡ frame_of o (word_at o 1)
  pub others : (t : ℕ) → 1 ≤ t → t < 20 → (t ≡ 10 → ⊥) → tick_of o code t ≡ between (started o) t

pub record ResumeRows : Type 0 where
  -- "resume delay 25 then loaded: repeats on 20 and 30, next word on 45"
  pub delay_25 : (o : OneChannel) (code : ℕ) → PauseOne o code → delay o 1 ≡ 25 → Resume25 o code
  -- "Delay 0: next on 20."
  pub delay_0 : (o : OneChannel) (code : ℕ) → PauseOne o code → delay o 1 ≡ 0 → Resume0 o code

-- ---- Words

-- the last send was first and last, and used no tag, whatever Frame ID it carried
abbrev pub first_and_last : (id : ℕ) → LastSend
first_and_last id = record { first = true; paused = false; last = true; id = id; tagged = false; replies = 0 }

pub record WordRows : Type 0 where
  -- "D31 with D16: last.", where its place does not make it so (`false`)
  pub d31_with_d16 : (word : ℕ) → bit_at word 31 ≡ true → bit_at word 16 ≡ true → kind_of word false ≡ kind.Last
  -- "User 1, first and last, ID 15h, data 1234h: A0151234h."
  pub stored_word_lem : (id : ℕ) → stored_word (first_and_last id) 1 false 0x15 0x1234 ≡ 0xA0151234

pub record Starred : Type 0 where
  pub frames : FrameRows
  pub delays : DelayRows
  pub resumes : ResumeRows
  pub words : WordRows
  -- the whole case
  pub runs : RunRows
