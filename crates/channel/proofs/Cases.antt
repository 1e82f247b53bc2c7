-- Cases on a test, once for all. Assumes nothing.
use Prim.Native.Nat.{ℕ}
use mathlib.Core.Path.{◌≡◌, refl, sym, ◌∙◌}
use mathlib.Core.Bool.{Bool, true, false, cond}
use native.Mathlib.Omega.{arith}
use lib.Dec.{eqb}
use borrow.Author.Tests.{eqb-true, eq-eqb}
use Rattle.channel.specs.Calls.{then}

-- false is not true
pub clash : {A : Type 0} → false ≡ true → A
clash e = let z : ◌≡◌ {A = ℕ} 0 1 = cc in absurd (omega arith)

-- what holds of both holds of either
pub either : {A : Type 0} (P : A → Type 0) (b : Bool) {x y : A} → P x → P y → P (cond b x y)
either P true p q = p
either P false p q = q

-- the same, where the test is told
pub by_test : {A : Type 0} (P : A → Type 0) (b : Bool) {x y : A} → (b ≡ true → P x) → (b ≡ false → P y) → P (cond b x y)
by_test P true f g = f refl
by_test P false f g = g refl

-- a refusal chain that comes to 0 passed its first test: one that refuses, or one that lets on
pub passed : (b : Bool) (k x : ℕ) → eqb k 0 ≡ false → cond b k x ≡ 0 → (b ≡ false) × (x ≡ 0)
passed true k x n e = clash (sym n ∙ eq-eqb k 0 e)
passed false k x n e = (refl, e)

pub let_on : (b : Bool) (k x : ℕ) → eqb k 0 ≡ false → cond b x k ≡ 0 → (b ≡ true) × (x ≡ 0)
let_on true k x n e = (refl, e)
let_on false k x n e = clash (sym n ∙ eq-eqb k 0 e)

-- two refusals, one after the other: passed, neither applied
pub then_passed : (first second : ℕ) → then first second ≡ 0 → (first ≡ 0) × (second ≡ 0)
then_passed first second = go (eqb first 0) refl
  where
    go : (b : Bool) → eqb first 0 ≡ b → cond b second first ≡ 0 → (first ≡ 0) × (second ≡ 0)
    go true e f = (eqb-true first 0 e, f)
    go false e f = clash (sym e ∙ eq-eqb first 0 f)
