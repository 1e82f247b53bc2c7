-- A user change goes from channel to channel, and one more is the definition's next step. Assumes nothing.
use Prim.Native.Nat.{ℕ, zero, suc, ◌+◌}
use mathlib.Core.Path.{◌≡◌, refl}
use Rattle.std.proofs.Common.{add-one}
use Rattle.board_state.specs.declared.Board.{Board}
use Rattle.board.specs.Calls.{changed_at}

-- after channels 1 to k
abbrev pub changed_up_to : Board → ℕ → Board
changed_up_to b zero = b
changed_up_to b (suc k) = changed_at (changed_up_to b k) (suc k)

pub one_more : (b : Board) (k : ℕ) → changed_up_to b (k + 1) ≡ changed_at (changed_up_to b k) (k + 1)
one_more b k = rw add-one refl
