-- Arming an armed channel changes nothing; disarming latches nothing. Assumes nothing.
use mathlib.Core.Path.{◌≡◌, refl, sym, ap}
use mathlib.Core.Bool.{Bool, true}
use Rattle.sequencer.specs.Playing as seq
use Rattle.channel_core.specs.declared.Channel.{Channel}
use Rattle.channel_core.specs.State.{with_sequencer}
use Rattle.channel.specs.Calls.{armed_of, disarmed_of}

pub disarm_latches_nothing : (c : Channel) → (disarmed_of c).status ≡ c.status
unfolding disarmed_of
disarm_latches_nothing c = refl

pub arm_armed : (c : Channel) → c.sequencer.armed ≡ true → armed_of c ≡ c
unfolding armed_of seq.armed
arm_armed c e = ap (λ (b : Bool). with_sequencer c (seq.with_armed c.sequencer b)) (sym e)
