-- A status read so far: the channels up to the index. Assumes nothing.
use Rattle.std.proofs.Common.{◌≡◌}
use Rattle.board_state.proofs.Taken.{taken_up_to}
use Rattle.board_state.proofs.Board.clear_status.Given as goal

abbrev pub invariant-loop-index : goal.invariant-loop-index
invariant-loop-index l = l.self ≡ taken_up_to l.initial.self l.index l.polling
