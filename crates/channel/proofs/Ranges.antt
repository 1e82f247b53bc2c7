-- What a range test, and a setpoint write that is not refused, say of the numbers. Assumes nothing.
use Prim.Native.Nat.{ℕ, ◌-◌, ◌≤◌, ◌<◌}
use mathlib.Core.Path.{◌≡◌, refl, sym}
use mathlib.Core.Bool.{Bool, true, false, ◌||◌}
use native.Mathlib.Omega.{arith}
use lib.Dec.{eqb, ltb}
use borrow.Author.Tests.{ltb-false, leb-false, eqb-true, eqb-false}
use Rattle.status.specs.Bits.{bit_of}
use Rattle.channel_core.specs.declared.Channel.{Channel}
use Rattle.channel.specs.Calls.{outside, setpoint_refusal}
use Rattle.channel.proofs.Cases.{clash, passed}

pub inside : (low high x : ℕ) → outside low high x ≡ false → (low ≤ x) × (x ≤ high)
inside low high x e = go (ltb x low) refl e
  where
    go : (b : Bool) → ltb x low ≡ b → (b || ltb high x) ≡ false → (low ≤ x) × (x ≤ high)
    go true p f = clash (sym f)
    go false p f = (ltb-false x low p, ltb-false high x f)

pub record Accepted (n user buffer index : ℕ) : Type 0 where
  pub user_from : 1 ≤ user
  pub user_to : user ≤ 8
  pub buffer_from : 1 ≤ buffer
  pub buffer_to : buffer ≤ 2
  pub index_to : index < n

pub accepted : (c : Channel) (n user buffer index : ℕ) → setpoint_refusal c n user buffer index ≡ 0 → Accepted n user buffer index
unfolding setpoint_refusal
accepted c n user buffer index e =
    let a = passed _ _ _ refl e in
    let b = passed _ _ _ refl a.1 in
    let d = passed _ _ _ refl b.1 in
    let u = inside 1 8 user a.0 in
    let f = inside 1 2 buffer b.0 in
    record { user_from = u.0; user_to = u.1; buffer_from = f.0; buffer_to = f.1; index_to = leb-false n index d.0 }

-- buffer 1 or 2 as its place
pub buffer_place : (buffer : ℕ) → 1 ≤ buffer → buffer ≤ 2 → bit_of (eqb buffer 2) ≡ buffer - 1
buffer_place buffer l h = go (eqb buffer 2) refl
  where
    go : (b : Bool) → eqb buffer 2 ≡ b → bit_of b ≡ buffer - 1
    go true e = let f : buffer ≡ 2 = eqb-true buffer 2 e in omega arith
    go false e = let f : buffer ≡ 2 → ⊥ = eqb-false buffer 2 e in omega arith
