-- The channels that the starred rows speak of are reached by calls, by computation. Assumes nothing.
use Prim.Native.Nat.{ℕ}
use mathlib.Core.Path.{refl}
use native.Mathlib.Omega.{arith}
use Rattle.register_map.specs.AccessRule.{channel_access}
use Rattle.registers.specs.Map.{stored}
use Rattle.sequencer.specs.Playing as seq
use Rattle.channel_core.specs.State.{opened}
use Rattle.channel_registers.specs.Calls.{register_refusal, register_effect, register_words}
use Rattle.channel.specs.Calls.{setpoint_refusal, setpoint_words, armed_of}
use Rattle.channel.specs.OneChannel.{refusal_of, effect, transition}
use Rattle.examples.specs.Starred.{PauseOne}
use Rattle.examples.specs.Reached.{pausing, Reached}

pauses : (low : ℕ) → PauseOne (pausing low) 1
unfolding transition refusal_of effect register_refusal register_effect register_words channel_access stored setpoint_refusal setpoint_words armed_of seq.armed opened
pauses low =
    record {
      armed = refl;
      clock_code = refl;
      pause_bit_lem = refl;
      last_bit = refl;
      deep = omega arith;
      resume_1 = refl;
      neither_ends_nor_starts = (refl, refl);
    }

pub reached : Reached
unfolding transition refusal_of effect register_refusal register_effect register_words channel_access stored setpoint_refusal setpoint_words armed_of seq.armed opened
reached =
    record {
      start_0 = (refl, refl, refl);
      start_most = (refl, refl, refl);
      resume_25 = (pauses 25, refl);
      resume_0 = (pauses 0, refl);
    }
