-- Document 01, 'Calls' and 'Register map': register write and register read of one channel, over its own part of the lent memory.
-- Document 02, card 1: E0–FE, and refusal 10; card 2: 0C.
-- Each refusal is decided by one definition (0: none), in the order of document 01's table, 10 where its card says; what a call does goes by cases on it.
use Rattle.std.specs.Prelude.{ℕ, Bool, cond, not, ◌&&◌, List, eqb, leb, ltb}
use Rattle.refusal.specs.Refusals.{number_of}
use Rattle.refusal.specs.declared.Refusal.TheVariants as refusal
use Rattle.register_map.specs.AccessRule.{channel_access}
use Rattle.register_map.specs.AccessRefusals.{read_refusal, write_refusal}
use Rattle.status.specs.Bits.{bit_at, word_of_bits}
use Rattle.status.specs.declared.Status.{Status}
use Rattle.status.specs.declared.Latches.{Latches}
use Rattle.status.specs.Latching.{enabled, cleared_in}
use Rattle.registers.specs.Map.{stored, loaded}
use Rattle.sequencer.specs.Playing.{is_idle, with_missing}
use Rattle.command_frames.specs.Commanding as cmd
use Rattle.channel_core.specs.declared.Channel.{Channel}
use Rattle.channel_core.specs.Answers.{Answer, unless}
use Rattle.channel_core.specs.Answers as ans
use Rattle.channel_core.specs.State.{reset, with_status, with_registers, with_sequencer, with_commands}
use Rattle.channel_core.specs.Behaviour.{commanded, command_words}

-- ---- Register write

-- "FC written with D0 while disarmed or not idle", D1 or no D1
abbrev pub cannot_send : Channel → ℕ → ℕ → Bool
cannot_send c offset value = eqb offset 0xfc && (bit_at value 0 && not (c.sequencer.armed && is_idle c.sequencer.stage))

-- 3, 4; 10 "checked after 4"; 5: "clock code above 3", "A code is the whole word written"
unfoldable pub register_refusal : Channel → ℕ → ℕ → ℕ
register_refusal c offset value =
    cond (eqb (write_refusal (channel_access offset)) 0)
    (cond (cannot_send c offset value) (number_of refusal.FunctionActive)
    (cond (eqb offset 0x0a) (cond (ltb 3 value) (number_of refusal.InvalidClock) 0) 0))
    (write_refusal (channel_access offset))

-- 00 Interrupt Enable, 06 Reset, 08 Commands, E0–FE; the others hold what they keep of the value
unfoldable pub register_effect : Channel → ℕ → ℕ → Channel
register_effect c offset value =
    cond (eqb offset 0x00) (with_status c (enabled c.status value))
    (cond (eqb offset 0x06) (cond (bit_at value 0) (reset c) c)
    (cond (eqb offset 0x08) (commanded c value)
    (cond (leb 0xe0 offset) (with_commands c (cmd.stored c.commands offset value)) (with_registers c (stored c.registers offset value)))))

-- the call: the channel after it, its answer, and (below) its readback words; a refused one changes nothing
unfoldable pub written_of : Channel → ℕ → ℕ → Channel
written_of c offset value = cond (eqb (register_refusal c offset value) 0) (register_effect c offset value) c

unfoldable pub written_answer : Channel → ℕ → ℕ → Answer
written_answer c offset value = unless (register_refusal c offset value) ans.done

-- its readback words: Commands with D2 writes an end word
unfoldable pub register_words : Channel → List ℕ → ℕ → ℕ → ℕ → List ℕ
register_words c s m offset value = cond (eqb offset 0x08) (command_words c s m value) s

unfoldable pub written_words : Channel → List ℕ → ℕ → ℕ → ℕ → List ℕ
written_words c s m offset value = cond (eqb (register_refusal c offset value) 0) (register_words c s m offset value) s

-- ---- Register read

-- the status with one copy replaced
abbrev pub with_interrupt : Status → Latches → Status
with_interrupt s l = record { enable = s.enable; interrupt = l; polling = s.polling }

abbrev pub with_polling : Status → Latches → Status
with_polling s l = record { enable = s.enable; interrupt = s.interrupt; polling = l }

-- "Reading a status clears the latched bits .. of that register only."; "Read-only register 0C shows it and a read clears it."
unfoldable pub read_effect : Channel → ℕ → Channel
read_effect c offset =
    cond (eqb offset 0x02) (with_status c (with_interrupt c.status (cleared_in c.status.interrupt)))
    (cond (eqb offset 0x04) (with_status c (with_polling c.status (cleared_in c.status.polling)))
    (cond (eqb offset 0x0c) (with_sequencer c (with_missing c.sequencer 0)) c))

-- what a read shows, before it clears anything
unfoldable pub read_value : Channel → ℕ → ℕ
read_value c offset =
    cond (eqb offset 0x00) c.status.enable
    (cond (eqb offset 0x02) (word_of_bits c.status.interrupt.bits)
    (cond (eqb offset 0x04) (word_of_bits c.status.polling.bits)
    (cond (eqb offset 0x0c) c.sequencer.missing
    (cond (leb 0xe0 offset) (cmd.loaded c.commands offset) (loaded c.registers offset)))))

-- the call: the channel after it, and its answer
unfoldable pub read_of : Channel → ℕ → Channel
read_of c offset = cond (eqb (read_refusal (channel_access offset)) 0) (read_effect c offset) c

unfoldable pub read_answer : Channel → ℕ → Answer
read_answer c offset = unless (read_refusal (channel_access offset)) (ans.value (read_value c offset))
