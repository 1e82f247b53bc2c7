-- The loop of `ramp::is_increasing`: the steps before k rise. Assumes nothing.
use Prim.Native.Nat.{ℕ, suc, ◌<◌}
use Rattle.ramp.specs.Ramp.{index_at}
use Rattle.ramp.proofs.is_increasing.Given as goal

abbrev pub invariant-loop-k : goal.invariant-loop-k
invariant-loop-k l = (j : ℕ) → suc j < l.k → index_at l.points j < index_at l.points (suc j)
