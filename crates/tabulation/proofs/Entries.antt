-- The list of a rule's values has the rule's value at each entry: so has a table that antt computes to be that list. Assumes nothing.
use mathlib.Core.Path.{◌≡◌, refl, ◌∙◌, ap}
use Prim.Native.Nat.{ℕ, zero, suc, ◌+◌, ◌<◌}
use native.Mathlib.Nat.{add-zero, add-suc, suc-add, zero-add, le_of_suc-le-suc, not-suc-le-zero}
use lib.ListN.{length, get_or}
use Rattle.tabulation.specs.Tabulation.{tabulated_from, tabulated}

module _ {A : Type 0} (rule : ℕ → A) where
  length_from : (i n : ℕ) → length (tabulated_from rule i n) ≡ n
  length_from i zero = refl
  length_from i (suc n) = ap suc (length_from (suc i) n)

  pub length_of_lem : (n : ℕ) → length (tabulated rule n) ≡ n
  length_of_lem = length_from 0

  entry_from : (i n k : ℕ) (d : A) → k < n → get_or (tabulated_from rule i n) k d ≡ rule (i + k)
  entry_from i zero k d h = absurd (not-suc-le-zero h)
  entry_from i (suc n) zero d h = ap rule (rw add-zero)
  entry_from i (suc n) (suc k) d h = entry_from (suc i) n k d (le_of_suc-le-suc h) ∙ ap rule (rw (suc-add, add-suc))

  -- so too where a table computes to this list
  pub entry_of : (n k : ℕ) (d : A) → k < n → get_or (tabulated rule n) k d ≡ rule k
  entry_of n k d h = entry_from 0 n k d h ∙ ap rule (zero-add k)
