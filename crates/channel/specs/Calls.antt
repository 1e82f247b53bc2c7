-- Document 01, 'Calls' and 'Register map': the calls that name a channel, but the register calls and the reply, over its own part of the lent memory.
-- Document 02, cards 1 and 6: what disarm drops.
-- Each refusal is decided by one definition (0: none), in the order of document 01's table; what a call does goes by cases on it.
use Rattle.std.specs.Prelude.{ℕ, ◌-◌, Bool, cond, ◌&&◌, ◌||◌, List, [], length, set, eqb, leb, ltb}
use Rattle.refusal.specs.Refusals.{number_of}
use Rattle.refusal.specs.declared.Refusal.TheVariants as refusal
use Rattle.status.specs.Latching.{taken_in}
use Rattle.registers.specs.declared.Registers.{Registers}
use Rattle.registers.specs.Map.{second_active, readback_place}
use Rattle.sequencer.specs.Playing as seq
use Rattle.readback.specs.Storing.{retired_part}
use Rattle.command_frames.specs.Commanding.{dropped}
use Rattle.channel_core.specs.declared.Channel.{Channel}
use Rattle.channel_core.specs.Answers.{Answer, unless}
use Rattle.channel_core.specs.Answers as ans
use Rattle.channel_core.specs.State.{with_status, with_sequencer, with_commands}
use Rattle.channel_core.specs.Behaviour.{setpoint_place}
use Rattle.channel_registers.specs.Calls.{with_interrupt, with_polling}

-- ---- Refusals, one before another

-- the first refusal, if there is one, before the second
abbrev pub then : ℕ → ℕ → ℕ
then first second = cond (eqb first 0) second first

-- ---- Setpoint write

-- "channel, user, buffer or index (from 0) out of range", but for the channel
abbrev pub outside : ℕ → ℕ → ℕ → Bool
outside low high x = ltb x low || ltb high x

-- 2, of a number out of range
abbrev pub range_refusal : (low high : ℕ) → ℕ → ℕ
range_refusal low high x = cond (outside low high x) (number_of refusal.OutOfRange) 0

-- the active one of a user's setpoint buffers, 1 or 2
abbrev pub active_buffer : Registers → ℕ → ℕ
active_buffer r user = cond (second_active r (user - 1)) 2 1

-- 2, then 6: "setpoint write to the active buffer of an armed channel", the named user's
unfoldable pub setpoint_refusal : Channel → ℕ → ℕ → ℕ → ℕ → ℕ
setpoint_refusal c n user buffer index =
    cond (outside 1 8 user) (number_of refusal.OutOfRange)
    (cond (outside 1 2 buffer) (number_of refusal.OutOfRange)
    (cond (leb n index) (number_of refusal.OutOfRange)
    (cond (c.sequencer.armed && eqb buffer (active_buffer c.registers user)) (number_of refusal.ActiveBuffer) 0)))

-- the call: its answer, and the setpoint words after it; the channel stays as it is
unfoldable pub setpoint_answer : Channel → ℕ → ℕ → ℕ → ℕ → Answer
setpoint_answer c n user buffer index = unless (setpoint_refusal c n user buffer index) ans.done

unfoldable pub setpoint_words : Channel → List ℕ → ℕ → ℕ → ℕ → ℕ → ℕ → List ℕ
setpoint_words c s n user buffer index word =
    cond (eqb (setpoint_refusal c n user buffer index) 0) (set s (setpoint_place (user - 1) (buffer - 1) n index) word) s

-- ---- Arm, disarm

-- "Arming an armed channel changes nothing."
unfoldable pub armed_of : Channel → Channel
armed_of c = with_sequencer c (seq.armed c.sequencer)

-- "Disarm idles, without EE."; card 1: "Disarm and reset drop a waiting frame.", also of a channel that is not armed; card 6: and "a tag not yet used"
unfoldable pub disarmed_of : Channel → Channel
disarmed_of c = with_commands (with_sequencer c (seq.disarmed c.sequencer)) (dropped c.commands)

-- armed (`on`) or disarmed
abbrev pub set_armed : Channel → Bool → Channel
set_armed c on = cond on (armed_of c) (disarmed_of c)

-- ---- Retired readbacks

-- "(M each for the two retired buffers)"
abbrev pub retired_refusal : ℕ → ℕ → ℕ → ℕ
retired_refusal m one two = cond (eqb one m) (cond (eqb two m) 0 (number_of refusal.SizeMismatch)) (number_of refusal.SizeMismatch)

-- "gives the empty part when refused"
unfoldable pub retired_words : Channel → ℕ → List ℕ → List ℕ → List ℕ
retired_words c m one two =
    cond (eqb (retired_refusal m (length one) (length two)) 0)
    (retired_part (second_active c.registers readback_place) c.readbacks.retired one two)
    []

-- what document 01 calls its twin: "answers the number or the part's length"
unfoldable pub retired_length : Channel → ℕ → List ℕ → List ℕ → Answer
retired_length c m one two = unless (retired_refusal m (length one) (length two)) (ans.part_length (length (retired_words c m one two)))

-- ---- Main's statuses

-- "reading Main 28 or 2A answers its bit and clears it there"; `polling` is 2A
abbrev pub main_bit : Channel → Bool → Bool
main_bit c polling = cond polling c.status.polling.main c.status.interrupt.main

-- the channel after its bit is read there
unfoldable pub main_taken : Channel → Bool → Channel
main_taken c polling =
    cond polling (with_status c (with_polling c.status (taken_in c.status.polling)))
    (with_status c (with_interrupt c.status (taken_in c.status.interrupt)))
