-- An event so far: the definition's steps up to the index, over a memory that fits. Assumes nothing.
use Rattle.std.proofs.Common.{◌≡◌, ◌*◌, length}
use Rattle.board.specs.Calls.{event_boards, event_parts}
use Rattle.board.proofs.event.Given as goal

abbrev pub invariant-loop-index : goal.invariant-loop-index
invariant-loop-index l =
    (length l.initial.readbacks ≡ l.initial.b.m * 8) × (l.b ≡ event_boards l.initial.b l.code l.index)
    × (l.readbacks ≡ event_parts l.initial.b l.initial.readbacks l.code l.index)
