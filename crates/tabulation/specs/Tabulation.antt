-- Document 01, 'Code places and language forms': a table "whose rule is computed once over all entries". The rule's values in a list, with which a constant
-- table of the code is compared.
use Rattle.std.specs.Prelude.{List, [], ◌∷◌, ℕ, zero, suc}

module _ {A : Type 0} (rule : ℕ → A) where
  -- its values from i on, n of them
  abbrev pub tabulated_from : ℕ → ℕ → List A
  tabulated_from i zero = []
  tabulated_from i (suc n) = rule i ∷ tabulated_from (suc i) n

  -- its values at 0 to n - 1
  abbrev pub tabulated : ℕ → List A
  tabulated n = tabulated_from 0 n
