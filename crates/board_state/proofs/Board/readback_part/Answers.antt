-- `board_state::Board::readback_part` meets its contract: the index that is taken is below 4. Assumes nothing.
use Prim.Native.Nat.{◌*◌, ◌≤◌}
use native.Mathlib.Nat.{mul-le-mul_right}
use native.Mathlib.Omega.{arith}
use Rattle.board_state.proofs.Board.readback_part.Goals as goal

pub returns-clause-within : goal.returns-clause-within
returns-clause-within c =
    let few : c.min.result ≤ 3 = omega (arith, c.min.ensures) in
    omega (arith, c.part.ensures.end, mul-le-mul_right {m = c.min.result} {n = 3} (c.args.self.now.m * 2) few)
