-- An offset outside the bounds of every span of a map, or an odd one, has no access. Assumes nothing.
use mathlib.Core.Path.{◌≡◌, refl}
use mathlib.Core.Bool.{Bool, true, false, ◌&&◌, and-eq-true_iff, and-false}
use mathlib.Core.List.{List, [], ◌∷◌}
use Prim.Native.Nat.{ℕ, ◌≤◌, ◌<◌, ◌%◌}
use native.Mathlib.Omega.{arith}
use lib.Dec.{leb}
use borrow.Author.Tests.{leb-true, lt-leb}
use Rattle.register_map.specs.AccessRule.{Span, covers, access_by}
use Rattle.std.specs.Prelude.{None}

-- each span starts at low or later and ends at high or earlier
abbrev pub inside : ℕ → ℕ → List Span → Bool
inside low high [] = true
inside low high (s ∷ ss) = (leb low s.first && leb s.last high) && inside low high ss

module _ (low high : ℕ) where
  head : (s : Span) (ss : List Span) → inside low high (s ∷ ss) ≡ true → (low ≤ s.first) × (s.last ≤ high)
  head s ss e = (leb-true _ _ bounds.0, leb-true _ _ bounds.1)
    where
      bounds : (leb low s.first ≡ true) × (leb s.last high ≡ true)
      bounds = (and-eq-true_iff _ _).0 ((and-eq-true_iff _ (inside low high ss)).0 e).0

  tail : (s : Span) (ss : List Span) → inside low high (s ∷ ss) ≡ true → inside low high ss ≡ true
  tail s ss e = ((and-eq-true_iff (leb low s.first && leb s.last high) _).0 e).1

  pub before : (ss : List Span) (offset : ℕ) → inside low high ss ≡ true → offset < low → covers ss offset ≡ false
  before [] offset e h = refl
  before (s ∷ ss) offset e h =
      simp (lt-leb s.first offset (omega (arith, head s ss e)), before ss offset (tail s ss e) h)

  pub past : (ss : List Span) (offset : ℕ) → inside low high ss ≡ true → high < offset → covers ss offset ≡ false
  past [] offset e h = refl
  past (s ∷ ss) offset e h =
      simp (lt-leb offset s.last (omega (arith, head s ss e)), and-false, past ss offset (tail s ss e) h)

module _ (map read_only write_only : List Span) (offset : ℕ) where
  pub odd : offset % 2 ≡ 1 → access_by map read_only write_only offset ≡ None
  odd h = simp h

  pub uncovered : covers map offset ≡ false → access_by map read_only write_only offset ≡ None
  uncovered e = simp (e, and-false)
