-- Cases on the offset of a register write, once for all. Assumes nothing.
use Prim.Native.Nat.{ℕ}
use mathlib.Core.Path.{◌≡◌, refl, sym, subst}
use mathlib.Core.Bool.{Bool, true, false}
use lib.Dec.{eqb}
use borrow.Author.Tests.{eqb-true}

pub at_or_not : (P : ℕ → Type 0) (a x : ℕ) → P a → (eqb x a ≡ false → P x) → P x
at_or_not P a x h g = go (eqb x a) refl
  where
    go : (b : Bool) → eqb x a ≡ b → P x
    go true e = subst P (sym (eqb-true x a e)) h
    go false e = g e

-- 00 Interrupt Enable, 06 Reset, 08 Commands, and the others
pub by_offset : (P : ℕ → Type 0) (x : ℕ) → P 0x00 → P 0x06 → P 0x08
    → (eqb x 0x00 ≡ false → eqb x 0x06 ≡ false → eqb x 0x08 ≡ false → P x) → P x
by_offset P x a b c h =
    at_or_not P 0x00 x a (λ d. at_or_not P 0x06 x b (λ e. at_or_not P 0x08 x c (λ f. h d e f)))
