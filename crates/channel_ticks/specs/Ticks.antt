-- Document 01, 'A channel's life': ticks in a row of a channel by itself, nothing else happening meanwhile: the channel after them, and the
-- frames that they answer.
use Rattle.std.specs.Prelude.{ℕ, zero, suc, ◌+◌, Bool, false, cond, not, ◌&&◌, List, set, eqb, ltb}
use Rattle.status.specs.Latching.{pause_bit, end_of_function}
use Rattle.sequencer.specs.declared.Stage.{Stage}
use Rattle.sequencer.specs.declared.Stage.TheVariants as stage
use Rattle.sequencer.specs.declared.Sequencer.{Sequencer}
use Rattle.sequencer.specs.Playing.{with_missing, missing_with}
use Rattle.sequencer.specs.Runs.{holds}
use Rattle.tick_outcome.specs.declared.TickOutcome.TheVariants as tick
use Rattle.command_frames.specs.Commanding.{is_due, command_frame, with_receiving}
use Rattle.command_frames.specs.Commanding as cmd
use Rattle.channel_core.specs.declared.Channel.{Channel}
use Rattle.channel_core.specs.Answers.{Answer, is_frame}
use Rattle.channel_core.specs.Answers as ans
use Rattle.channel_core.specs.State.{with_status, with_sequencer, with_outcome, with_commands}
use Rattle.channel_core.specs.Behaviour.{latched_by, tick_of, tick_answer}
use Rattle.channel_ticks.specs.Quiet.{quiet_ticks}

-- the channel after k ticks
unfoldable pub ticks_of : Channel → List ℕ → ℕ → ℕ → ℕ → Channel
ticks_of c s n user zero = c
ticks_of c s n user (suc k) = tick_of (ticks_of c s n user k) s n user

-- what the tick after k ticks answers: "frame or none"
abbrev pub answer_after : Channel → List ℕ → ℕ → ℕ → ℕ → Answer
answer_after c s n user k = tick_answer (ticks_of c s n user k) s n user

-- how many of k ticks answer a frame
unfoldable pub frames_in : Channel → List ℕ → ℕ → ℕ → ℕ → ℕ
frames_in c s n user zero = 0
frames_in c s n user (suc k) = frames_in c s n user k + cond (is_frame (answer_after c s n user k)) 1 0

-- a list with the frame of an answer at one place; as it was where there is none, or no such place
abbrev pub with_frame : Answer → ℕ → List ℕ → List ℕ
with_frame (ans.refused k) at l = l
with_frame (ans.value v) at l = l
with_frame (ans.frame f) at l = set l at f
with_frame ans.kept at l = l
with_frame ans.lost at l = l
with_frame (ans.part s) at l = l
with_frame (ans.other r) at l = l

-- a list with the frames of k ticks, each at the place of its tick, the first tick's at 0
unfoldable pub frames_at : Channel → List ℕ → ℕ → ℕ → ℕ → List ℕ → List ℕ
frames_at c s n user zero l = l
frames_at c s n user (suc k) l = with_frame (answer_after c s n user k) k (frames_at c s n user k l)

-- whether replies go to E4–FA after ticks with no command frame due: a setpoint ends it, and then there are frames
abbrev pub receiving_after : Bool → ℕ → Bool
receiving_after receiving frames = cond (ltb 0 frames) false receiving

-- ---- What ticks in a row latch and count, once for all of them: no reply comes between them, and one of their words at most has a condition (`settles` of
-- proofs/Once: it is repeated then)

-- the condition of the word that a stage repeats; 0: none
abbrev pub condition_at : Stage → ℕ
condition_at stage.Idle = 0
condition_at stage.Starting = 0
condition_at stage.Running = 0
condition_at (stage.Paused k) = pause_bit k
condition_at stage.Resuming = 0
condition_at stage.Ended = end_of_function

-- the condition of their words, by the stages before the first and after the last of them: one that was repeated before has none now
abbrev pub condition_between : Stage → Stage → ℕ
condition_between before after = cond (holds before) 0 (condition_at after)

-- a channel after ticks with no command frame due, but for what the last of them did: the condition of their words, their sequencer, whose count of
-- missing readbacks has only what they found, and the number of their frames
abbrev pub after_ticks : Channel → ℕ → Sequencer → ℕ → Channel
after_ticks c condition q frames =
    with_commands
    (with_sequencer (with_status c (latched_by c.status q.missing condition))
    (with_missing q (missing_with c.sequencer.missing q.missing)))
    (with_receiving c.commands (receiving_after c.commands.receiving frames))

-- ---- A command frame, before the ticks in a row

-- whether the next tick sends a setpoint: it does exactly where none of the next ticks only counts down (`sends_next_lem` of proofs/QuietTicks)
abbrev pub sends_next : Channel → Bool
sends_next c = eqb (quiet_ticks c.sequencer) 0

-- the next tick's share of the command frames done, before the rest of it, where one is due (`command_first_lem` of proofs/TicksInRow: the tick then comes
-- to the same, but for what it did: `ticks_command` there)
abbrev pub command_first : Channel → Channel
command_first c = cond (is_due c.commands.waiting) (with_commands c (cmd.ticked c.commands (sends_next c))) c

-- a command frame leaves on the next tick
abbrev pub command_leaves : Channel → Bool
command_leaves c = is_due c.commands.waiting && not (sends_next c)

abbrev pub command_frames_first : Channel → ℕ
command_frames_first c = cond (command_leaves c) 1 0

abbrev pub with_command_frame : Channel → List ℕ → List ℕ
with_command_frame c l = cond (command_leaves c) (set l 0 (command_frame c.commands)) l

-- after k ticks: where there is one, and a command frame left on it (so `frames` is 1), that tick sent
abbrev pub sent_if : Channel → (frames k : ℕ) → Channel
sent_if c frames k = cond (eqb frames 1 && eqb k 1) (with_outcome c tick.Sent) c
