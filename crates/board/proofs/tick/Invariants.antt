-- A tick so far: the channels up to the index, and their frames. Assumes nothing.
use Rattle.std.proofs.Common.{◌≡◌, ◌*◌, length}
use Rattle.board.proofs.Ticks.{ticked_up_to, Shown}
use Rattle.board.proofs.tick.Given as goal

abbrev pub invariant-loop-index : goal.invariant-loop-index
invariant-loop-index l =
    (length l.setpoints ≡ l.initial.b.n * 64) × (l.b ≡ ticked_up_to l.initial.b l.setpoints l.index) × (length l.frames ≡ 4)
    × Shown l.initial.b l.setpoints l.frames l.index
