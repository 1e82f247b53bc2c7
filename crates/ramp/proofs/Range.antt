-- The range of a code, and its offset binary; an answer that is no refusal. Assumes nothing.
use mathlib.Core.Path.{◌≡◌, ap}
use Prim.Native.Nat.{ℕ, suc, ◌+◌, ◌-◌, ◌<◌}
use native.Mathlib.Omega.{arith}
use lib.Dec.{leb→le, le→leb}
use lib.IntN.{ℤ, pos, negsuc}
use lib.Signed.{◌≤ℤ◌}
use mir.Syntax.{w16}
use mir.Val.{SFits}
use Rattle.ramp.proofs.Signs.{Diff}
use Rattle.ramp.specs.Answers.{Answer, wrote, refused}

pub range_of : (z : ℤ) → SFits w16 z → (negsuc 32767 ≤ℤ z) × (z ≤ℤ pos 32767)
range_of (pos n) f = let h : n < 32768 = f.sfits in (record { le = tt }, record { le = le→leb n 32767 (omega arith) })
range_of (negsuc n) f = let h : n < 32768 = f.sfits in (record { le = le→leb n 32767 (omega arith) }, record { le = tt })

-- in offset binary
pub offset_in : (z : ℤ) → negsuc 32767 ≤ℤ z → z ≤ℤ pos 32767 → (u : ℕ) × Diff z u 32768 × (u < 65536)
offset_in (pos a) g h = let l = leb→le a 32767 h.le in (a + 32768, omega arith, omega arith)
offset_in (negsuc a) g h = let l = leb→le a 32767 g.le in (32767 - a, omega arith, omega arith)

-- 0 of a refusal
abbrev pub words_plus_one : Answer → ℕ
words_plus_one (wrote k) = suc k
words_plus_one (refused k) = 0

pub refused_wrote : (number words : ℕ) → refused number ≡ wrote words → ⊥
refused_wrote number words e = let h = ap words_plus_one e in omega arith
