-- A status read goes from channel to channel, and one more is the definition's next step. Assumes nothing.
use Prim.Native.Nat.{ℕ, zero, suc, ◌+◌}
use mathlib.Core.Path.{◌≡◌, refl}
use mathlib.Core.Bool.{Bool}
use Rattle.std.proofs.Common.{add-one}
use Rattle.board_state.specs.declared.Board.{Board}
use Rattle.board_state.specs.Main.{taken_at}

-- after channels 1 to k
abbrev pub taken_up_to : Board → ℕ → Bool → Board
taken_up_to b zero polling = b
taken_up_to b (suc k) polling = taken_at (taken_up_to b k polling) (suc k) polling

pub one_more : (b : Board) (k : ℕ) (polling : Bool) → taken_up_to b (k + 1) polling ≡ taken_at (taken_up_to b k polling) (k + 1) polling
one_more b k polling = rw add-one refl
