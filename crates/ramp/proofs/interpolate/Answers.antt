-- `ramp::interpolate` meets its contract: the mean of the codes in offset binary has code and remainder as its whole part and remainder. Assumes nothing.
use mathlib.Core.Path.{◌≡◌, sym, subst}
use Prim.Native.Nat.{◌-◌, ◌/◌, ◌≤◌, ◌<◌}
use native.Mathlib.Omega.{arith}
use lib.IntN.{ℤ, pos, ◌+ℤ◌}
use mir.Syntax.{w16}
use mir.ValLaws.{to_z-of_z}
use Rattle.ramp.specs.Interpolation.{code_between, remainder_between}
use Rattle.ramp.proofs.Signs.{Diff, diff_sum, sum_diff}
use Rattle.ramp.proofs.Rounding.{mean, mean_of}
use Rattle.ramp.proofs.interpolate.Goals as goal

pub returns : goal.returns
unfolding code_between remainder_between
returns c =
    let x = c.args in
    let u = c.offset_binary-from.result in
    let v = c.offset_binary-to.result in
    let w = x.q - x.p in
    let d = x.i - x.p in
    let h = c.requires in
    let d_le : d ≤ w = omega arith in
    let w_pos : 0 < w = omega arith in
    -- each code is read back from its bits
    let from : Diff x.s u 32768 = sum_diff x.s u 32768 (subst (λ (z : ℤ). z +ℤ pos 32768 ≡ pos u) (to_z-of_z w16 x.s c.ranges.s) c.offset_binary-from.ensures.0) in
    let to : Diff x.t v 32768 = sum_diff x.t v 32768 (subst (λ (z : ℤ). z +ℤ pos 32768 ≡ pos v) (to_z-of_z w16 x.t c.ranges.t) c.offset_binary-to.ensures.0) in
    let e = mean_of u v d w d_le x.s x.t w_pos from to in
    let z = code_between x.p x.s x.q x.t x.i in
    (c.twos_complement-code.ensures.0 z (diff_sum z (mean u v d w d_le / w) 32768 e.0), sym e.1, c.twos_complement-code.ensures.1)
