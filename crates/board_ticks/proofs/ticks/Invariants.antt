-- Ticks in a row so far: the channels up to the index, and how many frames each answered. Assumes nothing.
use Rattle.std.proofs.Common.{◌≡◌, ◌*◌, length}
use Rattle.board_ticks.proofs.Channels.{ticked_up_to, Counted}
use Rattle.board_ticks.proofs.ticks.Given as goal

abbrev pub invariant-loop-index : goal.invariant-loop-index
invariant-loop-index l =
    (length l.setpoints ≡ l.initial.b.n * 64) × (l.b ≡ ticked_up_to l.initial.b l.setpoints l.count l.index) × (length l.frames ≡ 4)
    × Counted l.initial.b l.setpoints l.count l.frames l.index
