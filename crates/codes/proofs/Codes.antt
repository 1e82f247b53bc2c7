-- A code is the word's in two's complement, and an i32 holds it. Assumes nothing.
use mathlib.Core.Path.{◌≡◌, refl, sym, ap}
use mathlib.Core.Logic.{inl, inr}
use Prim.Native.Nat.{ℕ, ◌-◌, ◌≤◌, ◌<◌}
use mathlib.Core.Bool.{Bool, true, false, cond}
use native.Mathlib.Nat.{lt_of_lt_of_le}
use native.Mathlib.Omega.{arith}
use lib.Dec.{ltb, le→leb, lit≤}
use lib.IntN.{pos, negsuc, ◌-ℤ◌}
use lib.Signed.{mag}
use mir.Syntax.{w32}
use mir.Val.{SFits}
use borrow.Author.Tests.{lt-ltb, le-ltb, ltb-true, ltb-false}
use Rattle.codes.specs.Codes.{code_of, TwosComplement, CodesSigned}

pub code_low : (word : ℕ) → word < 32768 → code_of word ≡ pos word
code_low word h = rw (lt-ltb word 32768 h)

-- the word less 65,536
less : (word : ℕ) → word < 65536 → pos word -ℤ pos 65536 ≡ negsuc (65535 - word)
less word h = rw (lt-ltb word 65536 h) (ap negsuc (omega arith))

pub code_high : (word : ℕ) → 32768 ≤ word → word < 65536 → code_of word ≡ pos word -ℤ pos 65536
code_high word h k = rw (le-ltb word 32768 h) (sym (less word k))

pub code_range : (word : ℕ) → mag (code_of word) < 32768
code_range word = go (ltb word 32768) refl
  where
    go : (b : Bool) → ltb word 32768 ≡ b → mag (cond b (pos word) (negsuc (65535 - word))) < 32768
    go true e = ltb-true word 32768 e
    go false e = omega (arith, ltb-false word 32768 e)

pub code_fits : (word : ℕ) → SFits w32 (code_of word)
code_fits word = record { sfits = lt_of_lt_of_le (code_range word) (lit≤ tt) }

pub codes_signed : CodesSigned
codes_signed word h = go (ltb word 32768) refl
  where
    go : (b : Bool) → ltb word 32768 ≡ b → TwosComplement word (cond b (pos word) (negsuc (65535 - word)))
    go true e = record { at_least = record { le = tt }; at_most = record { le = le→leb word 32767 (omega (arith, ltb-true word 32768 e)) }; same_bits = inl refl }
    go false e = record { at_least = record { le = le→leb (65535 - word) 32767 (omega (arith, ltb-false word 32768 e)) }; at_most = record { le = tt }; same_bits = inr (sym (less word h)) }
