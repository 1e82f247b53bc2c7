-- What a guarded call comes to, by the verdict on it: for the proofs of the calls' code. Assumes nothing.
use Prim.Native.Nat.{ℕ}
use mathlib.Core.Path.{◌≡◌, sym, ap, ◌∙◌}
use mathlib.Core.Bool.{true, false}
use mathlib.Core.List.{List}
use lib.Dec.{eqb}
use Rattle.std.specs.Prelude.{Result, Ok, Err}
use Rattle.refusal.specs.declared.Refusal.{Refusal}
use Rattle.refusal.specs.Refusals.{number_of, verdict_number}
use Rattle.refusal.proofs.Laws.{refuses}
use Rattle.permissions.specs.declared.Role.{Role}
use Rattle.board_state.specs.declared.Board.{Board}
use Rattle.isolation.specs.Calls.{Call, Lent, words, answer, after, words_after}
use Rattle.access_control.specs.declared.GuardedBoard.{GuardedBoard}
use Rattle.access_control.specs.Guarding.{guard_refusal, refused_by, shown, guarded, answer_to, board_after, memory_after}
use Rattle.access_control.proofs.Laws.{passed_answer, passed_board, passed_words, stopped_answer, stopped_board, stopped_words}

-- the verdict on a call is what is checked before it is made
abbrev pub Decides : GuardedBoard → Role → Call → Lent → Result Unit Refusal → Type 0
Decides g p x l v = verdict_number v ≡ guard_refusal g.rights p g.board x l

module _ (g : GuardedBoard) (p : Role) (x : Call) (l : Lent) {v : Result Unit Refusal} (e : Decides g p x l v) where
  pub passes : {u : Unit} → v ≡ Ok u → eqb (guard_refusal g.rights p g.board x l) 0 ≡ true
  passes a = ap (λ (k : ℕ). eqb k 0) (sym e ∙ ap verdict_number a)

  pub stops : (q : Refusal) → v ≡ Err q → eqb (guard_refusal g.rights p g.board x l) 0 ≡ false
  stops q a = ap (λ (k : ℕ). eqb k 0) (sym e ∙ ap verdict_number a) ∙ refuses q

  pub allowed_answer : {u : Unit} → v ≡ Ok u → shown g.rights p (answer g.board x l) ≡ answer_to g p x l
  allowed_answer a = sym (passed_answer g.rights p g.board x l (passes a))

  pub allowed_board : {u : Unit} → v ≡ Ok u → guarded (after g.board x l) g.rights ≡ board_after g p x l
  allowed_board a = ap (λ (b : Board). guarded b g.rights) (sym (passed_board g.rights p g.board x l (passes a)))

  pub refused_answer : (q : Refusal) → v ≡ Err q → refused_by (number_of q) ≡ answer_to g p x l
  refused_answer q a =
      ap refused_by (sym (ap verdict_number a) ∙ e) ∙ sym (stopped_answer g.rights p g.board x l (stops q a))

  pub refused_board : (q : Refusal) → v ≡ Err q → g ≡ board_after g p x l
  refused_board q a = ap (λ (b : Board). guarded b g.rights) (sym (stopped_board g.rights p g.board x l (stops q a)))

-- a memory that it was lent
module _ (g : GuardedBoard) (p : Role) (x : Call) (s : List ℕ) {v : Result Unit Refusal} (e : Decides g p x (words s) v) where
  pub allowed_words : {u : Unit} → v ≡ Ok u → words_after g.board x s ≡ memory_after g p x s
  allowed_words a = sym (passed_words g.rights p g.board x s (passes g p x (words s) e a))

  pub refused_words : (q : Refusal) → v ≡ Err q → s ≡ memory_after g p x s
  refused_words q a = sym (stopped_words g.rights p g.board x s (stops g p x (words s) e q a))
