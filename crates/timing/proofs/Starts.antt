-- Start: nothing on ticks 1 to delay + 9, and the frame of index 0 on tick delay + 10. Assumes nothing.
use Prim.Native.Nat.{ℕ, ◌+◌}
use mathlib.Core.Bool.{true}
use mathlib.Core.Path.{◌≡◌, refl, sym, ap, subst, ◌∙◌}
use mathlib.Core.List.{List}
use native.Mathlib.Omega.{arith}
use Rattle.status.specs.Bits.{bit_at}
use Rattle.registers.specs.Map.{start_event, group_end_event, tag_event}
use Rattle.sequencer.specs.declared.Sequencer.{Sequencer}
use Rattle.sequencer.specs.Playing as seq
use Rattle.sequencer.specs.Runs.{Leaves}
use Rattle.sequencer.proofs.Laws as laws
use Rattle.channel_core.specs.Behaviour.{ended_if}
use Rattle.channel_core.specs.declared.Channel.{Channel}
use Rattle.command_frames.specs.declared.CommandFrames.{CommandFrames}
use Rattle.channel.specs.OneChannel.{OneChannel, transition, with_channel, with_readbacks}
use Rattle.timing.specs.Ticking.{word_at, period, Keeps, NextSetpoint}
use Rattle.timing.specs.Timing.{command, event_call, triggered_by, delay}
use Rattle.timing.specs.Timing as the
use Rattle.timing.proofs.Bridge.{next_setpoint}
use Rattle.timing.proofs.Calls.{command_transition, event_transition, tag_if, command_starts, event_starts, command_registers, event_registers, command_frames_lem, event_frames}

start_setpoint : (o : OneChannel) (s : Sequencer) (d : ℕ) → o.channel.sequencer ≡ seq.started s d → NextSetpoint o (d + 10) 0
start_setpoint o s d e =
    next_setpoint o (d + 10) 0 (omega arith)
    (subst (λ (q : Sequencer). Leaves (word_at o) o.n (period o) o.channel.registers.id q (d + 10) 0) (sym e)
    (laws.start (word_at o) o.n (period o) o.channel.registers.id s d))

-- the sequencer that a Start leaves
pub command_started : (o : OneChannel) (value : ℕ) → o.channel.sequencer.armed ≡ true → bit_at value 0 ≡ true
    → (transition o (command o value)).channel.sequencer ≡ seq.started (tag_if (bit_at value 3) (ended_if (bit_at value 2) o.channel).sequencer) 0
command_started o value armed on =
    ap (λ (p : OneChannel). p.channel.sequencer) (command_transition o value) ∙ command_starts o.channel value armed on

pub event_started : (o : OneChannel) (code : ℕ) → o.channel.sequencer.armed ≡ true → triggered_by o start_event code ≡ true
    → (transition o (event_call o code)).channel.sequencer
    ≡ seq.started (tag_if (triggered_by o tag_event code) (ended_if (triggered_by o group_end_event code) o.channel).sequencer) (delay o 0)
event_started o code armed on =
    ap (λ (p : OneChannel). p.channel.sequencer) (event_transition o code) ∙ event_starts o.channel o.user code armed on

pub start_by_command : the.StartByCommand
start_by_command o value armed on = start_setpoint (transition o (command o value)) _ 0 (command_started o value armed on)

pub start_by_event : the.StartByEvent
start_by_event o code armed on = start_setpoint (transition o (event_call o code)) _ (delay o 0) (event_started o code armed on)

same_registers_keep : (o : OneChannel) (c : Channel) (s : List ℕ) → c.registers ≡ o.channel.registers → c.commands ≡ o.channel.commands
    → Keeps o (with_readbacks (with_channel o c) s)
same_registers_keep o c s e f =
    record {
      same_n = refl;
      same_m = refl;
      same_user = refl;
      same_registers = e;
      same_header = ap (λ (g : CommandFrames). g.header) f;
      same_word = ap (λ (g : CommandFrames). g.word) f;
      same_replies = ap (λ (g : CommandFrames). g.replies) f;
      same_setpoints = refl;
    }

pub start_keeps : the.StartKeeps
start_keeps o = (
  λ value off.
      subst (Keeps o) (sym (command_transition o value)) (same_registers_keep o _ _ (command_registers o.channel value off) (command_frames_lem o.channel value off)),
  λ code off.
      subst (Keeps o) (sym (event_transition o code)) (same_registers_keep o _ _ (event_registers o.channel o.user code off) (event_frames o.channel o.user code off)),
)
