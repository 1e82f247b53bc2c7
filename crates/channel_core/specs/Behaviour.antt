-- Document 01, 'A channel's life': what a channel does, over its own part of the lent memory (16 × N setpoint words, 2 × M readback words).
-- Document 02, card 1: command frames, at a tick and a Group End; card 2: what a setpoint send latches for the send before it; card 3: an end word at
-- every Group End; card 6: tags; card 8: a Group End ends the download; card 10: what a tick did.
use Rattle.std.specs.Prelude.{ℕ, ◌+◌, ◌-◌, ◌*◌, ◌%◌, Bool, true, false, cond, List, get_or, eqb, Option}
use Rattle.frame.specs.Frames.{encoded}
use Rattle.status.specs.declared.Status.{Status}
use Rattle.status.specs.Bits.{bit_at, bit_of}
use Rattle.status.specs.Latching.{latched, run, group_end, early_end, missing_readback}
use Rattle.registers.specs.declared.Registers.{Registers}
use Rattle.registers.specs.Map.{period_of, triggers_of, start_event, group_end_event, tag_event, delay_of, second_active, readback_place}
use Rattle.registers.specs.Map as reg
use Rattle.downloads.specs.Portions.{no_download}
use Rattle.sequencer.specs.declared.LastSend.{LastSend}
use Rattle.sequencer.specs.declared.Sequencer.{Sequencer}
use Rattle.sequencer.specs.Transmissions.{Transmission}
use Rattle.sequencer.specs.Transmissions as transmission
use Rattle.sequencer.specs.Playing.{is_idle, unfinished, idled, shortfall, ticked}
use Rattle.sequencer.specs.Playing as seq
use Rattle.tick_outcome.specs.declared.TickOutcome.{TickOutcome}
use Rattle.tick_outcome.specs.Outcomes.{outcome}
use Rattle.readback.specs.Storing.{end_words}
use Rattle.readback.specs.Storing as rb
use Rattle.command_frames.specs.declared.CommandFrames.{CommandFrames}
use Rattle.command_frames.specs.Commanding.{is_due, command_frame}
use Rattle.command_frames.specs.Commanding as cmd
use Rattle.channel_core.specs.declared.Channel.{Channel}
use Rattle.channel_core.specs.Answers.{Answer, is_frame}
use Rattle.channel_core.specs.Answers as ans
use Rattle.channel_core.specs.State.{with_status, with_sequencer, with_outcome, with_commands, condition_latched}

-- ---- Start

-- "Start (its event, or Commands D0) works if armed." "From idle it latches RUN; otherwise the function restarts, with no RUN."
unfoldable pub started : Channel → ℕ → Channel
started c delay =
    cond c.sequencer.armed
    (with_sequencer (cond (is_idle c.sequencer.stage) (condition_latched c run) c) (seq.started c.sequencer delay))
    c

-- ---- Idle

-- the status as the channel is idled: "latch EE if the channel isn't idle and the last word wasn't sent since its latest Start"
abbrev pub early_ended : Status → Sequencer → Status
early_ended s q = cond (unfinished q) (latched s early_end) s

-- "A user change to another user idles every channel, with EE as above."
unfoldable pub user_changed : Channel → Channel
user_changed c = with_sequencer (with_status c (early_ended c.status c.sequencer)) (idled c.sequencer)

-- ---- Group End

-- "Group End (event, or Commands D2), armed or not: latch EE ..; idle; ..; readback buffers switch, the new one empty; users with Switch D0
-- set switch and the bits clear; the setpoint count is shown, then cleared; latch GE." A command frame that waits for it is due (card 1), "a tag not yet
-- used" is dropped (card 6), and it "ends the download" (card 8).
unfoldable pub group_ended : Channel → Channel
group_ended c =
    record {
      status = latched (early_ended c.status c.sequencer) group_end;
      registers = reg.group_ended c.registers c.sequencer.count;
      sequencer = seq.group_ended c.sequencer;
      readbacks = rb.group_ended c.readbacks;
      adc = c.adc;
      download = no_download;
      outcome = c.outcome;
      commands = cmd.group_ended c.commands;
    }

-- "02000000h goes after the stored readbacks ..", before the buffers switch; card 3: "Group End always writes the end word."
unfoldable pub group_words : Channel → List ℕ → ℕ → List ℕ
group_words c s m = end_words c.readbacks s (second_active c.registers readback_place) m

-- ---- "One event or command does Group End, Start, Resume in that order."; card 6: "Tag acts last within one event or command."

-- Group End, where it is asked for
unfoldable pub ended_if : Bool → Channel → Channel
ended_if on c = cond on (group_ended c) c

unfoldable pub ended_words : Bool → Channel → List ℕ → ℕ → List ℕ
ended_words on c s m = cond on (group_words c s m) s

-- Start, where it is asked for
unfoldable pub started_if : Bool → Channel → ℕ → Channel
started_if on c delay = cond on (started c delay) c

-- Resume of a pause (1–4, and 0 for the VME pause), where it is asked for
unfoldable pub resumed_if : Bool → Channel → ℕ → ℕ → Channel
resumed_if on c pause delay = cond on (with_sequencer c (seq.resumed c.sequencer pause delay)) c

-- Tag, where it is asked for
unfoldable pub tagged_if : Bool → Channel → Channel
tagged_if on c = cond on (with_sequencer c (seq.tagged c.sequencer)) c

-- "Resume k (its event, for pause k)": each Resume event with this code, by the registers `r`, with the current user's delay
unfoldable pub resumed_on : Registers → Channel → ℕ → ℕ → Channel
resumed_on r c user code =
    resumed_if (triggers_of r 4 code)
    (resumed_if (triggers_of r 3 code)
    (resumed_if (triggers_of r 2 code)
    (resumed_if (triggers_of r 1 code) c 1 (delay_of r 1 user))
    2 (delay_of r 2 user))
    3 (delay_of r 3 user))
    4 (delay_of r 4 user)

-- an event: its registers say what it does; delays are the current user's
unfoldable pub event_of : Channel → ℕ → ℕ → Channel
event_of c user code =
    tagged_if (triggers_of c.registers tag_event code)
    (resumed_on c.registers
    (started_if (triggers_of c.registers start_event code) (ended_if (triggers_of c.registers group_end_event code) c)
    (delay_of c.registers 0 user))
    user code)

-- its readback words after an event: Group End writes an end word
unfoldable pub event_words : Channel → List ℕ → ℕ → ℕ → List ℕ
event_words c s m code = ended_words (triggers_of c.registers group_end_event code) c s m

-- a write to Commands: D2 Group End, D0 Start, D1 Resume of the VME pause (pause 0), D3 Tag; delays are 0
unfoldable pub commanded : Channel → ℕ → Channel
commanded c value =
    tagged_if (bit_at value 3) (resumed_if (bit_at value 1) (started_if (bit_at value 0) (ended_if (bit_at value 2) c) 0) 0 0)

-- its readback words after a write to Commands
unfoldable pub command_words : Channel → List ℕ → ℕ → ℕ → List ℕ
command_words c s m value = ended_words (bit_at value 2) c s m

-- ---- A tick

-- index of a setpoint in the channel's 16 × N words, "by .. user, buffer .., index", user and buffer from 0
abbrev pub setpoint_place : ℕ → ℕ → ℕ → ℕ → ℕ
setpoint_place user buffer n index = (user * 2 + buffer) * n + index

-- the word at the index due, of the current user's active buffer (0 past the words that are lent)
unfoldable pub due_of : Channel → List ℕ → ℕ → ℕ → ℕ
due_of c s n user = get_or s (setpoint_place (user - 1) (bit_of (second_active c.registers (user - 1))) n c.sequencer.index) 0

-- the sequencer's share of a tick
abbrev pub played_of : Channel → List ℕ → ℕ → ℕ → transmission.Ticked
played_of c s n user = ticked c.sequencer (due_of c s n user) n (period_of c.registers.clock) c.registers.id

-- card 2: "Each shortfall latches D4 of both channel statuses."; so many replies are missing, 0 is no shortfall
abbrev pub shortfall_status : Status → ℕ → Status
shortfall_status s missing = cond (eqb missing 0) s (latched s missing_readback)

-- the status with a condition of a word that was sent; 0 is none
abbrev pub condition_status : Status → ℕ → Status
condition_status s k = cond (eqb k 0) s (latched s k)

-- what is latched for a shortfall and for a word
abbrev pub latched_by : Status → ℕ → ℕ → Status
latched_by s missing k = condition_status (shortfall_status s missing) k

-- the status with what a send latches: it "first looks at the setpoint send before it since idle", which is `last`
abbrev pub send_status : Status → Option LastSend → Transmission → Status
send_status s last transmission.Nothing = s
send_status s last (transmission.Word word k) = latched_by s (shortfall last) k

-- "Setpoint frames carry the register's Frame ID, D15–D0 of the word, auxiliary 0."
abbrev pub send_frame : ℕ → Transmission → Answer
send_frame id transmission.Nothing = ans.none
send_frame id (transmission.Word word k) = ans.frame (encoded id (word % 65536) 0)

-- a setpoint leaves
abbrev pub is_setpoint : Transmission → Bool
is_setpoint transmission.Nothing = false
is_setpoint (transmission.Word word k) = true

-- the condition of the word that leaves; 0: none
abbrev pub condition_in : Transmission → ℕ
condition_in transmission.Nothing = 0
condition_in (transmission.Word word k) = k

-- the command frame that is due, or none
abbrev pub command_answer : CommandFrames → Answer
command_answer f = cond (is_due f.waiting) (ans.frame (command_frame f)) ans.none

-- the frame of a tick: the setpoint's, and where none leaves the command frame that is due, or none
abbrev pub tick_line : ℕ → CommandFrames → Transmission → Answer
tick_line id f transmission.Nothing = command_answer f
tick_line id f (transmission.Word word k) = send_frame id (transmission.Word word k)

-- "A tick answers with each channel's frame or none." Never two: `NeverTogether` (histories).
unfoldable pub tick_answer : Channel → List ℕ → ℕ → ℕ → Answer
tick_answer c s n user = tick_line c.registers.id c.commands (played_of c s n user).transmission

-- the channel moved by a tick, but for what is said of the tick
abbrev pub advanced_of : Channel → List ℕ → ℕ → ℕ → Channel
advanced_of c s n user =
    with_commands
    (with_sequencer (with_status c (send_status c.status c.sequencer.last (played_of c s n user).transmission)) (played_of c s n user).sequencer)
    (cmd.ticked c.commands (is_setpoint (played_of c s n user).transmission))

-- card 10: "what the last tick did", by whether it answers a frame, and by "the state just before that tick"
unfoldable pub tick_outcome_of : Channel → List ℕ → ℕ → ℕ → TickOutcome
tick_outcome_of c s n user = outcome (is_frame (tick_answer c s n user)) c.sequencer

-- "tick (1 µs)": the channel after it
unfoldable pub tick_of : Channel → List ℕ → ℕ → ℕ → Channel
tick_of c s n user = with_outcome (advanced_of c s n user) (tick_outcome_of c s n user)
