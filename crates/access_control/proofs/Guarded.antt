-- For the code of the guarded calls: the rights stay, and the part in an answer is shown to a role that may read the channel. Assumes nothing.
use Prim.Native.Nat.{ℕ}
use mathlib.Core.Path.{◌≡◌, refl, ap}
use mathlib.Core.Bool.{true, false, not}
use mathlib.Core.List.{[]}
use Rattle.channel_core.specs.Answers.{part_of}
use Rattle.channel.specs.OneChannel.{Query}
use Rattle.permissions.specs.declared.Role.{Role}
use Rattle.permissions.specs.Rights.{rights_at, may_read}
use Rattle.isolation.specs.Calls.{query, query_answer_at, Lent, answer}
use Rattle.access_control.specs.declared.GuardedBoard.{GuardedBoard}
use Rattle.access_control.specs.Guarding.{answer_to, part_in}
use Rattle.access_control.specs.Laws.{RightsKept}
use Rattle.access_control.proofs.Laws.{answer_denied, answer_granted}

pub rights_kept : RightsKept
rights_kept g p x l = refl

module _ (g : GuardedBoard) (p : Role) (number : ℕ) (which : Query) (l : Lent) where
  pub part_shown : may_read (rights_at g.rights number) p ≡ true
      → part_in (answer_to g p (query number which) l) ≡ part_of (query_answer_at g.board number which l)
  unfolding answer
  part_shown e = ap part_in (answer_granted g.rights p g.board (query number which) l (ap not e))

  -- denied, it is refused, and the part is empty
  pub part_hidden : may_read (rights_at g.rights number) p ≡ false → part_in (answer_to g p (query number which) l) ≡ []
  part_hidden e = ap part_in (answer_denied g.rights p g.board (query number which) l (ap not e))
