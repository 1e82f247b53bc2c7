-- `Channel::resume_on` meets its contract: four Resume events, one after the other. Assumes nothing.
use Rattle.std.proofs.Common.{◌≡◌, refl, arith}
use Rattle.channel_core.specs.Behaviour.{resumed_if, resumed_on}
use Rattle.channel_core.proofs.Resumes.{resumed_before, one_more}
use Rattle.channel_core.proofs.Channel.resume_on.Goals.{then-triggers, else-triggers}
use Rattle.channel_core.proofs.Channel.resume_on.Goals as goal

pub loop-pause-init : goal.loop-pause-init
unfolding resumed_before
loop-pause-init c = refl

pub loop-pause-preserved : goal.loop-pause-preserved
unfolding resumed_if
loop-pause-preserved c =
    let e = one_more c.args.registers.now c.args.self.now c.args.user c.args.code c.loop-pause.pause (omega arith) in
    elim c.if-triggers.branch [ then-triggers w ↦ grind (arith, e) | else-triggers w ↦ grind (arith, e) ]

pub returns : goal.returns
unfolding resumed_before resumed_on
returns c =
    let last : c.loop-pause.pause ≡ 5 = omega arith in
    rw last at c.loop-pause.invariant
