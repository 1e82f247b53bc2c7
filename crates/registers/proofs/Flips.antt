-- One switch more: what the loop of `flip` takes up at each turn. Assumes nothing.
use Prim.Native.Nat.{ℕ, zero, suc, ◌+◌}
use mathlib.Core.Path.{◌≡◌, refl, ap}
use mathlib.Core.Bool.{Bool, true, false, cond, not}
use mathlib.Core.List.{List, [], ◌∷◌}
use native.Mathlib.Omega.{arith}
use native.Mathlib.Numerals.{add-one}
use lib.ListN.{get_or, take, set}
use Rattle.registers.specs.Map.{flips}

-- with no switches nothing switches
pub flips_none : (a : List Bool) → flips a [] ≡ a
unfolding flips
flips_none [] = refl
flips_none (x ∷ a) = refl

-- the next switch is set
pub flips_set : (a s : List Bool) (i : ℕ) → get_or s i false ≡ true
    → flips a (take (suc i) s) ≡ set (flips a (take i s)) i (not (get_or (flips a (take i s)) i false))
unfolding flips
flips_set [] s i h = refl
flips_set (x ∷ a) [] i h = let z : ◌≡◌ {A = ℕ} 0 1 = cc in absurd (omega arith)
flips_set (x ∷ a) (y ∷ s) zero h = rw h (ap (λ (l : List Bool). not x ∷ l) (flips_none a))
flips_set (x ∷ a) (y ∷ s) (suc i) h = ap (λ (l : List Bool). cond y (not x) x ∷ l) (flips_set a s i h)

-- the next switch is not set
pub flips_left : (a s : List Bool) (i : ℕ) → get_or s i false ≡ false → flips a (take (suc i) s) ≡ flips a (take i s)
unfolding flips
flips_left [] s i h = refl
flips_left (x ∷ a) [] zero h = refl
flips_left (x ∷ a) [] (suc i) h = refl
flips_left (x ∷ a) (y ∷ s) zero h = rw h (ap (λ (l : List Bool). x ∷ l) (flips_none a))
flips_left (x ∷ a) (y ∷ s) (suc i) h = ap (λ (l : List Bool). cond y (not x) x ∷ l) (flips_left a s i h)

-- so too at the index that the loop counts
pub next_set : (a s : List Bool) (i : ℕ) → get_or s i false ≡ true
    → flips a (take (i + 1) s) ≡ set (flips a (take i s)) i (not (get_or (flips a (take i s)) i false))
next_set a s i h = rw add-one (flips_set a s i h)

pub next_left : (a s : List Bool) (i : ℕ) → get_or s i false ≡ false → flips a (take (i + 1) s) ≡ flips a (take i s)
next_left a s i h = rw add-one (flips_left a s i h)
