-- The part of channel 1 to 4 lies within four parts of its size. Assumes nothing.
use Prim.Native.Nat.{ℕ, ◌+◌, ◌-◌, ◌*◌, ◌≤◌}
use mathlib.Core.Path.{◌≡◌}
use native.Mathlib.Nat.{mul-le-mul_right}
use native.Mathlib.Omega.{arith}
use Rattle.board_state.specs.Parts.{part_start}

pub part_within : (number size : ℕ) {start : ℕ} → number ≤ 4 → start ≡ part_start number size → start + size ≤ 4 * size
part_within number size h e = omega (arith, e, mul-le-mul_right {m = number - 1} {n = 3} size (omega arith))
