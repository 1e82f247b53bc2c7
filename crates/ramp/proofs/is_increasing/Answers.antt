-- `ramp::is_increasing` meets its contract: a step that does not rise, and all that do, are those of the list. Assumes nothing.
use mathlib.Core.Path.{sym, ap}
use native.Mathlib.Omega.{arith}
use Rattle.ramp.specs.declared.Breakpoint.{Breakpoint}
use Rattle.ramp.proofs.Increasing.{increasing_all, falls_at}
use Rattle.ramp.proofs.is_increasing.Goals as goal

pub returns-then-breakpoint_at : goal.returns-then-breakpoint_at
returns-then-breakpoint_at c =
    let here = ap (λ (p : Breakpoint). p.index) c.breakpoint_at.ensures in
    let before = ap (λ (p : Breakpoint). p.index) c.breakpoint_at-in-loop-k.ensures in
    sym (falls_at c.args.points.now c.loop-k.k (omega arith) (omega arith) (omega (arith, here, before, c.if-breakpoint_at.true)))

pub returns : goal.returns
returns c = sym (increasing_all c.args.points.now (λ k h. c.loop-k.invariant k (omega arith)))
