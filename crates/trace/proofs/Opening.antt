-- A board of depths 16 and 64 is opened on 1,024 and 512 words. Assumes nothing.
use mathlib.Core.Path.{◌≡◌}
use Rattle.std.specs.Prelude.{Result, Ok, Err, IsOk}
use Rattle.std.proofs.Common.{rules}
use Rattle.refusal.specs.declared.Refusal.{Refusal}
use Rattle.access_control.specs.declared.GuardedBoard.{GuardedBoard}
use Rattle.board.specs.Calls.{open_answer, open_refusal}
use Rattle.guarded_board.specs.Answers.{guarded_opening_of}

pub is_open : (r : Result GuardedBoard Refusal) → guarded_opening_of r ≡ open_answer 16 64 1024 512 → IsOk r
unfolding open_answer open_refusal
is_open (Ok g) e = search rules
is_open (Err k) e = cc
