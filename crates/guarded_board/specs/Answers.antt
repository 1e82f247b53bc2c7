-- Document 01, 'Calls': what each case of an answer in the code stands for.
use Rattle.std.specs.Prelude.{ℕ, Result, Ok, Err}
use Rattle.refusal.specs.declared.Refusal.{Refusal}
use Rattle.refusal.specs.Refusals.{number_of}
use Rattle.channel_core.specs.Answers.{Answer}
use Rattle.channel_core.specs.Answers as ans
use Rattle.permissions.specs.declared.BoardRights.{BoardRights}
use Rattle.board.specs.Calls.{closed}
use Rattle.access_control.specs.declared.GuardedBoard.{GuardedBoard}
use Rattle.access_control.specs.Guarding.{guarded}

-- the board that an opening with these rights gives: where it is refused the closed one, with them too
abbrev pub guarded_board_of : Result GuardedBoard Refusal → BoardRights → GuardedBoard
guarded_board_of (Ok g) rights = g
guarded_board_of (Err k) rights = guarded closed rights

-- the answer of an opening
abbrev pub guarded_opening_of : Result GuardedBoard Refusal → Answer
guarded_opening_of (Ok g) = ans.done
guarded_opening_of (Err k) = ans.refused (number_of k)

abbrev pub level_answer_of : Result ℕ Refusal → Answer
level_answer_of (Ok k) = ans.value k
level_answer_of (Err k) = ans.refused (number_of k)
