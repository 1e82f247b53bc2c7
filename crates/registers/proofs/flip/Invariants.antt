-- `active` is the active buffers with the switches below `place` taken up.
use Rattle.std.proofs.Common.{◌≡◌, take}
use Rattle.registers.specs.Map.{flips}
use Rattle.registers.proofs.flip.Given as goal

abbrev pub invariant-loop-place : goal.invariant-loop-place
invariant-loop-place l = l.active ≡ flips l.fn.active (take l.place l.switches)
