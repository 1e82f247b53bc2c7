-- A user change so far: the channels up to the index. Assumes nothing.
use Rattle.std.proofs.Common.{◌≡◌}
use Rattle.board.proofs.Users.{changed_up_to}
use Rattle.board.proofs.change_user.Given as goal

abbrev pub invariant-loop-index : goal.invariant-loop-index
invariant-loop-index l = l.b ≡ changed_up_to l.initial.b l.index
