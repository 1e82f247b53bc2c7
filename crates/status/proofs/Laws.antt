-- What the definitions of status mean, bit by bit: a status word shows the latched bits at their places; Interrupt Enable drops D3 and keeps the rest; conditions latch in
-- any order, and once; D0 is no condition's. Assumes nothing.
use Prim.Native.Nat.{ℕ, zero, suc, ◌+◌, ◌*◌, ◌/◌, ◌%◌}
use mathlib.Core.Path.{◌≡◌, refl, sym, ap, ◌∙◌}
use mathlib.Core.List.{List, [], ◌∷◌}
use mathlib.Core.Bool.{Bool, true, false, ◌||◌}
use native.Mathlib.Omega.{arith}
use native.Mathlib.Nat.{pow-succ', zero-div, div-div-eq-div-mul}
use lib.ListN.{get_or, set}
use lib.Dec.{eqb}
use lib.Pow.{shr-shr}
use borrow.Author.Tests.{eq-eqb, ne_eqb}
use Rattle.status.specs.Bits.{bit_at, bit_of, word_of_bits}
use Rattle.status.specs.Latching.{condition_bit, latched_in, latched, kept_enable}
use Rattle.status.specs.declared.Condition.{Condition}
use Rattle.status.specs.declared.Condition.TheVariants as condition
use Rattle.status.specs.declared.Latches.{Latches}
use Rattle.status.specs.declared.Status.{Status}
use Rattle.status.proofs.Words.{bit_small}

-- the bits above the first are those of the rest
half : (b : Bool) (w k : ℕ) → bit_at (bit_of b + 2 * w) (suc k) ≡ bit_at w k
half b w k =
    let e : (bit_of b + 2 * w) / 2 ≡ w = omega (arith, bit_small b) in
    rw (pow-succ' 2 k, ← div-div-eq-div-mul, e)

-- D`k` of the word shown is the k-th latched bit, and 0 past the last
pub word_bit : (l : List Bool) (k : ℕ) → bit_at (word_of_bits l) k ≡ get_or l k false
unfolding word_of_bits
word_bit [] k = rw zero-div
word_bit (true ∷ l) zero = eq-eqb ((1 + 2 * word_of_bits l) / 1 % 2) 1 (omega arith)
word_bit (false ∷ l) zero = ne_eqb ((0 + 2 * word_of_bits l) / 1 % 2) 1 (omega arith)
word_bit (b ∷ l) (suc k) = half b (word_of_bits l) k ∙ word_bit l k

-- Interrupt Enable drops D3
pub enable_drops : (v : ℕ) → bit_at (kept_enable v) 3 ≡ false
enable_drops v = ne_eqb (kept_enable v / 8 % 2) 1 (omega arith)

-- D4 and above are those of a word's sixteenth
above : (v k : ℕ) → bit_at v (suc (suc (suc (suc k)))) ≡ bit_at (v / 16) k
above v k = let e : suc (suc (suc (suc k))) ≡ 4 + k = omega arith in rw (e, ← shr-shr)

-- Interrupt Enable keeps every other bit
pub enable_keeps : (v k : ℕ) → (k ≡ 3 → ⊥) → bit_at (kept_enable v) k ≡ bit_at v k
enable_keeps v zero n = let e : kept_enable v / 1 % 2 ≡ v / 1 % 2 = omega arith in rw e
enable_keeps v (suc zero) n = let e : kept_enable v / 2 % 2 ≡ v / 2 % 2 = omega arith in rw e
enable_keeps v (suc (suc zero)) n = let e : kept_enable v / 4 % 2 ≡ v / 4 % 2 = omega arith in rw e
enable_keeps v (suc (suc (suc zero))) n = absurd (n refl)
enable_keeps v (suc (suc (suc (suc k)))) n =
    let e : kept_enable v / 16 ≡ v / 16 = omega arith in
    above (kept_enable v) k ∙ ap (λ (x : ℕ). bit_at x k) e ∙ sym (above v k)

-- Two conditions latch in any order.
set_swap : (l : List Bool) (i j : ℕ) → set (set l i true) j true ≡ set (set l j true) i true
set_swap [] i j = refl
set_swap (b ∷ l) zero zero = refl
set_swap (b ∷ l) zero (suc j) = refl
set_swap (b ∷ l) (suc i) zero = refl
set_swap (b ∷ l) (suc i) (suc j) = ap (λ (t : List Bool). b ∷ t) (set_swap l i j)

or_swap : (a b c : Bool) → (b || (a || c)) ≡ (a || (b || c))
or_swap true true c = refl
or_swap true false c = refl
or_swap false true c = refl
or_swap false false c = refl

in_swap : (l : Latches) (i j : ℕ) (a b : Bool) → latched_in (latched_in l i a) j b ≡ latched_in (latched_in l j b) i a
in_swap l i j a b = rw (set_swap l.bits i j, or_swap a b l.main)

pub latched_swap : (s : Status) (i j : ℕ) → latched (latched s i) j ≡ latched (latched s j) i
unfolding latched
latched_swap s i j =
    rw (in_swap s.interrupt i j (bit_at s.enable i) (bit_at s.enable j), in_swap s.polling i j (bit_at s.enable i) (bit_at s.enable j))

-- One that latched already latches nothing more.
set_twice : (l : List Bool) (i : ℕ) → set (set l i true) i true ≡ set l i true
set_twice [] i = refl
set_twice (b ∷ l) zero = refl
set_twice (b ∷ l) (suc i) = ap (λ (t : List Bool). b ∷ t) (set_twice l i)

or_twice : (a b : Bool) → (a || (a || b)) ≡ (a || b)
or_twice true b = refl
or_twice false b = refl

in_twice : (l : Latches) (i : ℕ) (a : Bool) → latched_in (latched_in l i a) i a ≡ latched_in l i a
in_twice l i a = rw (set_twice l.bits i, or_twice a l.main)

pub latched_twice : (s : Status) (i : ℕ) → latched (latched s i) i ≡ latched s i
unfolding latched
latched_twice s i = rw (in_twice s.interrupt i (bit_at s.enable i), in_twice s.polling i (bit_at s.enable i))

-- a condition has another bit than D0
pub condition_some : (c : Condition) → eqb (condition_bit c) 0 ≡ false
condition_some condition.Run = refl
condition_some condition.EndOfFunction = refl
condition_some condition.GroupEnd = refl
condition_some condition.EarlyEnd = refl
condition_some (condition.Pause k) = ne_eqb (7 + k) 0 (omega arith)
condition_some condition.MissingReadback = refl
condition_some condition.CrcError = refl
