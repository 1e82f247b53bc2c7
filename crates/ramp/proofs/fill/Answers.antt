-- `ramp::fill` meets its contract. A turn's facts are those of Filling. Assumes nothing.
use mathlib.Core.Path.{◌≡◌, sym, ap, ap₂, subst, ◌∙◌}
use Prim.Native.Nat.{ℕ, ◌+◌}
use native.Mathlib.Omega.{arith}
use mathlib.Core.Bool.{cond}
use lib.Dec.{ltb, eqb}
use lib.IntN.{ℤ}
use lib.ListN.{get_or}
use mir.Syntax.{w16}
use mir.Val.{SFits, to_z, of_z}
use borrow.Author.Rules.{rules}
use mir.ValLaws.{to_z-of_z}
use Rattle.ramp.specs.declared.Breakpoint.{Breakpoint}
use Rattle.ramp.specs.Interpolation.{code_between, remainder_between, twos_complement}
use Rattle.ramp.specs.Ramp.{zero_point}
use Rattle.ramp.specs.Rules.{Brackets}
use Rattle.ramp.proofs.Filling as filling
use Rattle.ramp.proofs.fill.Goals as goal

pub loop-i-init : goal.loop-i-init
loop-i-init c = filling.begin c.args.points.now c.args.codes.now c.args.remainders.now c.requires.0 c.requires.1

pub interpolate-sample-requires : goal.interpolate-sample-requires
interpolate-sample-requires c =
    let x = c.args in
    let o = c.loop-i in
    let r = c.segment_number-k.result in
    let last = ap (λ (p : Breakpoint). p.index) c.breakpoint_at-last.ensures in
    let e = c.segment_number-k.ensures ∙ ap (λ (p : Breakpoint). cond (ltb p.index o.i) (o.k + 1) o.k) c.breakpoint_at.ensures in
    subst (λ (p : Breakpoint). Brackets p.index c.breakpoint_at-to.result.index o.i) (sym c.breakpoint_at-from.ensures)
    (subst (λ (p : Breakpoint). Brackets (get_or x.points.now r zero_point).index p.index o.i) (sym c.breakpoint_at-to.ensures)
    (filling.near x.points.now x.codes.now x.remainders.now c.requires.0 c.requires.1 o.codes o.remainders o.k o.i o.invariant (omega (arith, last, c.loop-i-test.true)) r e))

pub loop-i-preserved : goal.loop-i-preserved
loop-i-preserved c =
    let x = c.args in
    let o = c.loop-i in
    let r = c.segment_number-k.result in
    let last = ap (λ (p : Breakpoint). p.index) c.breakpoint_at-last.ensures in
    let e = c.segment_number-k.ensures ∙ ap (λ (p : Breakpoint). cond (ltb p.index o.i) (o.k + 1) o.k) c.breakpoint_at.ensures in
    let from = get_or x.points.now r zero_point in
    let to = get_or x.points.now (r + 1) zero_point in
    let read_from_fits : SFits w16 c.breakpoint_at-from.result.code = search rules in
    let read_to_fits : SFits w16 c.breakpoint_at-to.result.code = search rules in
    let from_fits = subst (λ (p : Breakpoint). SFits w16 p.code) c.breakpoint_at-from.ensures read_from_fits in
    let to_fits = subst (λ (p : Breakpoint). SFits w16 p.code) c.breakpoint_at-to.ensures read_to_fits in
    -- what `interpolate` says, of the breakpoints' own codes, which are read back from their bits
    let from_code : to_z w16 (of_z w16 from.code) ≡ from.code = to_z-of_z w16 from.code from_fits in
    let to_code : to_z w16 (of_z w16 to.code) ≡ to.code = to_z-of_z w16 to.code to_fits in
    let code_is : c.interpolate-sample.result.code ≡ twos_complement (code_between from.index from.code to.index to.code o.i) =
    c.interpolate-sample.ensures.0
    ∙ ap₂ (λ (p q : Breakpoint). twos_complement (code_between p.index (to_z w16 (of_z w16 p.code)) q.index (to_z w16 (of_z w16 q.code)) o.i)) c.breakpoint_at-from.ensures c.breakpoint_at-to.ensures
    ∙ ap₂ (λ (s t : ℤ). twos_complement (code_between from.index s to.index t o.i)) from_code to_code in
    let remainder_is : c.interpolate-sample.result.remainder ≡ remainder_between from.index from.code to.index to.code o.i =
    c.interpolate-sample.ensures.1
    ∙ ap₂ (λ (p q : Breakpoint). remainder_between p.index (to_z w16 (of_z w16 p.code)) q.index (to_z w16 (of_z w16 q.code)) o.i) c.breakpoint_at-from.ensures c.breakpoint_at-to.ensures
    ∙ ap₂ (λ (s t : ℤ). remainder_between from.index s to.index t o.i) from_code to_code in
    filling.next x.points.now x.codes.now x.remainders.now c.requires.0 c.requires.1 o.codes o.remainders o.k o.i o.invariant (omega (arith, last, c.loop-i-test.true)) r e
    c.interpolate-sample.result.code c.interpolate-sample.result.remainder c.mark_last.result from_fits to_fits code_is remainder_is
    (c.mark_last.ensures ∙ ap (λ (m : ℕ). c.interpolate-sample.result.code + cond (eqb o.i m) 0x80000000 0) last)

pub returns-clause-in_range : goal.returns-clause-in_range
returns-clause-in_range c =
    let x = c.args in
    let o = c.loop-i in
    let last = ap (λ (p : Breakpoint). p.index) c.breakpoint_at-last.ensures in
    filling.in_range x.points.now x.codes.now x.remainders.now c.requires.0 c.requires.1 o.codes o.remainders o.k o.i o.invariant (omega (arith, last, c.loop-i-test.false, o.auto.i-end))
