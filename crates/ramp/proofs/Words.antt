-- A buffer overwritten from its start: its length, the words below the count, and those past it. Assumes nothing.
use mathlib.Core.Path.{◌≡◌, refl, sym, subst, ◌∙◌}
use Prim.Native.Nat.{ℕ, zero, suc, ◌≤◌, ◌<◌}
use native.Mathlib.Nat.{eq-or-lt_of_le, le_of_suc-le-suc}
use native.Mathlib.Omega.{arith}
use mathlib.Core.Logic.{⊎_elim}
use mathlib.Core.List.{List}
use lib.ListN.{length, get_or, set, length-set}
use lib.Seq.{get_or-set_same, get_or-set_other}
use Rattle.ramp.specs.Ramp.{overwritten}

module _ (f : ℕ → ℕ) (words : List ℕ) where
  pub overwritten_length : (k : ℕ) → length (overwritten f k words) ≡ length words
  unfolding overwritten
  overwritten_length zero = refl
  overwritten_length (suc k) = simp length-set (overwritten_length k)

  pub overwritten_below : (k i : ℕ) → i < k → k ≤ length words → get_or (overwritten f k words) i 0 ≡ f i
  unfolding overwritten
  overwritten_below zero i l h = absurd (omega arith)
  overwritten_below (suc k) i l h = ⊎_elim
      (λ (e : i ≡ k).
      subst (λ (j : ℕ). get_or (set (overwritten f k words) k (f k)) j 0 ≡ f j) (sym e)
      (get_or-set_same (overwritten f k words) k (f k) 0 (let m = overwritten_length k in omega arith)))
      (λ (g : i < k). get_or-set_other (overwritten f k words) k i (f k) 0 (λ e. omega arith) ∙ overwritten_below k i g (omega arith))
      (eq-or-lt_of_le (le_of_suc-le-suc l))

  pub overwritten_past : (k i : ℕ) → k ≤ i → get_or (overwritten f k words) i 0 ≡ get_or words i 0
  unfolding overwritten
  overwritten_past zero i l = refl
  overwritten_past (suc k) i l = get_or-set_other (overwritten f k words) k i (f k) 0 (λ e. omega arith) ∙ overwritten_past k i (omega arith)
