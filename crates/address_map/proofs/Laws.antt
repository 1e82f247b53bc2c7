-- Laws of addresses for callers: whose an address is, both ways. Assumes nothing.
use mathlib.Core.Path.{◌≡◌, refl}
use mathlib.Core.Bool.{Bool, true, false, cond}
use Prim.Native.Nat.{ℕ, ◌+◌, ◌*◌, ◌/◌, ◌%◌, ◌≤◌, ◌<◌}
use native.Mathlib.Omega.{arith}
use lib.Dec.{ltb}
use borrow.Author.Tests.{lt-ltb, le-ltb, ltb-true, ltb-false}
use Rattle.address_map.specs.Addresses.{main, channel, nothing, named}

-- "below 0800h is Main"
pub main_named : (address : ℕ) → address < 0x800 → named address ≡ main address
unfolding named
main_named address h = simp (lt-ltb address 0x800 h)

-- "2800h and above is refused"
pub nothing_named : (address : ℕ) → 0x2800 ≤ address → named address ≡ nothing
unfolding named
nothing_named address h = simp (le-ltb address 0x800 (omega arith), le-ltb address 0x2800 h)

-- "Channel c starts at 0800h × c": its addresses name it
pub channel_named : (number offset : ℕ) → 1 ≤ number → number ≤ 4 → offset < 0x800
    → named (0x800 * number + offset) ≡ channel number offset
unfolding named
channel_named number offset l h o =
    simp (
      le-ltb (0x800 * number + offset) 0x800 (omega arith),
      lt-ltb (0x800 * number + offset) 0x2800 (omega arith),
      quotient,
      remainder,
    )
  where
    quotient : (0x800 * number + offset) / 0x800 ≡ number
    quotient = omega arith

    remainder : (0x800 * number + offset) % 0x800 ≡ offset
    remainder = omega arith

-- and only they do
pub named_channel : (address : ℕ) {number offset : ℕ} → named address ≡ channel number offset
    → (1 ≤ number) × (number ≤ 4) × (offset < 0x800) × (address ≡ 0x800 * number + offset)
unfolding named
named_channel address {number} {offset} e = go _ _ refl refl e
  where
    go : (m c : Bool) → ltb address 0x800 ≡ m → ltb address 0x2800 ≡ c
        → cond m (main address) (cond c (channel (address / 0x800) (address % 0x800)) nothing) ≡ channel number offset
        → (1 ≤ number) × (number ≤ 4) × (offset < 0x800) × (address ≡ 0x800 * number + offset)
    go true c p q r = let z : ◌≡◌ {A = ℕ} 0 1 = cc in omega arith
    go false false p q r = let z : ◌≡◌ {A = ℕ} 0 1 = cc in omega arith
    go false true p q r =
        let n : address / 0x800 ≡ number = cc in
        let o : address % 0x800 ≡ offset = cc in
        let l : 0x800 ≤ address = ltb-false _ _ p in
        let h : address < 0x2800 = ltb-true _ _ q in
        (omega arith, omega arith, omega arith, omega arith)
