-- The kind of a word leaves its numbers in range: the index goes on only before the buffer's end, and the bit it latches is at most EOF's. Assumes nothing.
use Prim.Native.Nat.{ℕ, ◌+◌, ◌≤◌, ◌<◌}
use mathlib.Core.Path.{◌≡◌, refl}
use mathlib.Core.Bool.{Bool, true, false, cond}
use native.Mathlib.Omega.{arith}
use lib.Dec.{leb}
use borrow.Author.Tests.{leb-false}
use Rattle.status.specs.Bits.{bit_at}
use Rattle.status.specs.Latching.{end_of_function}
use Rattle.sequencer.specs.Words.{at_end, kind_of, index_after, condition_of}
use Rattle.sequencer.specs.declared.Kind.{Kind}
use Rattle.sequencer.specs.declared.Kind.TheVariants as kind

next_at_most : (k : Kind) (i : ℕ) → index_after k i ≤ i + 1
next_at_most kind.Plain i = omega arith
next_at_most (kind.Pause k) i = omega arith
next_at_most kind.Last i = omega arith

index_by : (w n i m : ℕ) (e : Bool) → leb n (i + 1) ≡ e → i < m → n ≤ m → index_after (kind_of w e) i < m
index_by w n i m true at h d = h
index_by w n i m false at h d = omega (arith, leb-false n (i + 1) at, next_at_most (kind_of w false) i)

-- the index due after a word of this buffer, whatever bounds its own index and the depth
pub index_below : (w n i m : ℕ) → i < m → n ≤ m → index_after (kind_of w (at_end n i)) i < m
index_below w n i m h d = index_by w n i m (at_end n i) refl h d

at_most : (t a b c d e f : Bool) →
    condition_of
    (cond t kind.Last
    (cond a kind.Last
    (cond b (kind.Pause 1)
    (cond c (kind.Pause 2) (cond d (kind.Pause 3) (cond e (kind.Pause 4) (cond f (kind.Pause 0) kind.Plain)))))))
    ≤ end_of_function
at_most true a b c d e f = omega arith
at_most false true b c d e f = omega arith
at_most false false true c d e f = omega arith
at_most false false false true d e f = omega arith
at_most false false false false true e f = omega arith
at_most false false false false false true f = omega arith
at_most false false false false false false true = omega arith
at_most false false false false false false false = omega arith

-- no word latches a bit above EOF's
pub condition_at_most : (w : ℕ) (e : Bool) → condition_of (kind_of w e) ≤ end_of_function
condition_at_most w e = at_most e (bit_at w 31) (bit_at w 16) (bit_at w 17) (bit_at w 18) (bit_at w 19) (bit_at w 20)
