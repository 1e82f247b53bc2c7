-- Indices that rise strictly: the test, and what it says of neighbours. Assumes nothing.
use mathlib.Core.Path.{◌≡◌, refl, subst}
use Prim.Native.Nat.{ℕ, zero, suc, ◌-◌, ◌≤◌, ◌<◌}
use native.Mathlib.Omega.{arith}
use mathlib.Core.Bool.{true, false}
use mathlib.Core.List.{List, [], ◌∷◌}
use lib.Dec.{ltb}
use lib.ListN.{length}
use borrow.Author.Tests.{ltb-true, lt-ltb, le-ltb}
use Rattle.ramp.specs.declared.Breakpoint.{Breakpoint}
use Rattle.ramp.specs.Ramp.{index_at, is_increasing}
use Rattle.ramp.proofs.Tests.{and_l, and_r, and_false}

pub increasing_all : (ps : List Breakpoint) → ((k : ℕ) → suc k < length ps → index_at ps k < index_at ps (suc k)) → is_increasing ps ≡ true
unfolding is_increasing
increasing_all [] h = refl
increasing_all (a ∷ []) h = refl
increasing_all (a ∷ b ∷ ps) h = simp (lt-ltb a.index b.index (h 0 (omega arith))) (increasing_all (b ∷ ps) (λ k l. h (suc k) (omega arith)))

pub increasing_at : (ps : List Breakpoint) → is_increasing ps ≡ true → (k : ℕ) → suc k < length ps → index_at ps k < index_at ps (suc k)
unfolding is_increasing
increasing_at [] e k h = absurd (omega arith)
increasing_at (a ∷ []) e k h = absurd (omega arith)
increasing_at (a ∷ b ∷ ps) e zero h = ltb-true _ _ (and_l (ltb a.index b.index) (is_increasing (b ∷ ps)) e)
increasing_at (a ∷ b ∷ ps) e (suc k) h = increasing_at (b ∷ ps) (and_r (ltb a.index b.index) (is_increasing (b ∷ ps)) e) k (omega arith)

pub increasing_not : (ps : List Breakpoint) (k : ℕ) → suc k < length ps → index_at ps (suc k) ≤ index_at ps k → is_increasing ps ≡ false
unfolding is_increasing
increasing_not [] k h l = absurd (omega arith)
increasing_not (a ∷ []) k h l = absurd (omega arith)
increasing_not (a ∷ b ∷ ps) zero h l = simp (le-ltb a.index b.index l)
increasing_not (a ∷ b ∷ ps) (suc k) h l = and_false (ltb a.index b.index) (is_increasing (b ∷ ps)) (increasing_not (b ∷ ps) k (omega arith) l)

-- the same of an element and the one before it
pub falls_at : (ps : List Breakpoint) (k : ℕ) → 0 < k → k < length ps → index_at ps k ≤ index_at ps (k - 1) → is_increasing ps ≡ false
falls_at ps zero p h l = absurd (omega arith)
falls_at ps (suc k) p h l =
    let e : suc k - 1 ≡ k = omega arith in
    increasing_not ps k h (subst (λ (j : ℕ). index_at ps (suc k) ≤ index_at ps j) e l)
