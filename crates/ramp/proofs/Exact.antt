-- Between two neighbours (p, s) and (q, t): code and remainder restore the exact fraction, at the neighbours they are theirs, and the code lies between theirs.
-- Assumes nothing.
use mathlib.Core.Path.{◌≡◌, sym, ap, subst, ◌∙◌}
use Prim.Native.Nat.{ℕ, ◌+◌, ◌-◌, ◌*◌, ◌/◌, ◌≤◌, ◌<◌}
use native.Mathlib.Nat.{add-mul, sub_self}
use native.Mathlib.Omega.{arith}
use mathlib.Core.Bool.{Bool, true, false, not}
use mathlib.Core.Logic.{◌⊎◌, inl, inr}
use lib.Dec.{T, leb, leb→le, le→leb, nleb→lt}
use lib.IntN.{ℤ, pos, negsuc, ◌+ℤ◌, ◌-ℤ◌, ◌*ℤ◌, *ℤ-zero, zero-*ℤ, +ℤ_idr, +ℤ_comm, -ℤ-+ℤ_cancel}
use lib.Signed.{◌≤ℤ◌}
use Rattle.ramp.specs.Interpolation.{floor_div, floor_mod, code_between, remainder_between}
use Rattle.ramp.specs.Laws.{Exact}
use Rattle.ramp.proofs.Signs.{Diff, over, under, diff_own, diff_add, diff_mul, diff_same, diff_scale}
use Rattle.ramp.proofs.Rounding.{floor_exact, floor_only, mean, mean_of, mean_between}

-- ---- The order, by differences from one number

pub diff_le : (y z : ℤ) (p r b : ℕ) → Diff y p b → Diff z r b → p ≤ r → y ≤ℤ z
diff_le (pos a) (pos c) p r b h k l = record { le = le→leb a c (omega arith) }
diff_le (pos a) (negsuc c) p r b h k l = absurd (omega arith)
diff_le (negsuc a) (pos c) p r b h k l = record { le = tt }
diff_le (negsuc a) (negsuc c) p r b h k l = record { le = le→leb c a (omega arith) }

module _ (p : ℕ) (s : ℤ) (q : ℕ) (t : ℤ) (apart : p < q) where
  abbrev w : ℕ
  w = q - p

  W : 0 < w
  W = omega arith

  -- ---- At the neighbours

  pub at_start : (code_between p s q t p ≡ s) × (remainder_between p s q t p ≡ 0)
  unfolding code_between remainder_between
  at_start =
      let x_is : (t -ℤ s) *ℤ pos (p - p) ≡ pos 0 = ap (λ (d : ℕ). (t -ℤ s) *ℤ pos d) (sub_self p) ∙ *ℤ-zero (t -ℤ s) in
      let f = floor_only ((t -ℤ s) *ℤ pos (p - p)) w W (pos 0) 0 W (ap (λ (y : ℤ). y +ℤ pos 0) (zero-*ℤ (pos w)) ∙ sym x_is) in
      (ap (λ (y : ℤ). s +ℤ y) f.0 ∙ +ℤ_idr s, f.1)

  pub at_end_lem : (code_between p s q t q ≡ t) × (remainder_between p s q t q ≡ 0)
  unfolding code_between remainder_between
  at_end_lem =
      let f = floor_only ((t -ℤ s) *ℤ pos w) w W (t -ℤ s) 0 W (+ℤ_idr ((t -ℤ s) *ℤ pos w)) in
      (ap (λ (y : ℤ). s +ℤ y) f.0 ∙ +ℤ_comm s (t -ℤ s) ∙ -ℤ-+ℤ_cancel t s, f.1)

  -- ---- Between them

  module _ (i : ℕ) where
    restored : code_between p s q t i *ℤ pos w +ℤ pos (remainder_between p s q t i) ≡ s *ℤ pos w +ℤ (t -ℤ s) *ℤ pos (i - p)
    unfolding code_between remainder_between
    restored =
        let x = (t -ℤ s) *ℤ pos (i - p) in
        let f = floor_div x w in
        let r = floor_mod x w in
        let e₁ = add-mul (over s) (over f) w in
        let e₂ = add-mul (under s) (under f) w in
        let sum : Diff (s +ℤ f) (over s + over f) (under s + under f) = diff_add s f (over s) (under s) (over f) (under f) (diff_own s) (diff_own f) in
        let x_is : Diff x (over f * w + r) (under f * w) = subst (λ (y : ℤ). Diff y (over f * w + r) (under f * w)) (floor_exact x w W).0 (diff_scale f w r (over f) (under f) (diff_own f)) in
        diff_same ((s +ℤ f) *ℤ pos w +ℤ pos r) (s *ℤ pos w +ℤ x) ((over s + over f) * w + r) ((under s + under f) * w) (over s * w + (over f * w + r)) (under s * w + under f * w)
        (diff_scale (s +ℤ f) w r (over s + over f) (under s + under f) sum)
        (diff_add (s *ℤ pos w) x (over s * w) (under s * w) (over f * w + r) (under f * w) (diff_mul s w (over s) (under s) (diff_own s)) x_is) (omega arith)

    small : remainder_between p s q t i < w
    unfolding remainder_between
    small = (floor_exact ((t -ℤ s) *ℤ pos (i - p)) w W).1

    -- s and t in offset binary
    module _ (u v : ℕ) (hs : Diff s u 32768) (ht : Diff t v 32768) (before : i ≤ q) where
      D : i - p ≤ w
      D = omega arith

      -- the code in offset binary
      abbrev c : ℕ
      c = mean u v (i - p) w D / w

      code_is : Diff (code_between p s q t i) c 32768
      unfolding code_between
      code_is = (mean_of u v (i - p) w D s t W hs ht).0

      pub offset_of_code : u < 65536 → v < 65536 → (m : ℕ) × Diff (code_between p s q t i) m 32768 × (m < 65536)
      offset_of_code hu hv = let h = (mean_between u v (i - p) w D 0 65535 W (omega arith) (omega arith) (omega arith) (omega arith)).1 in (c, code_is, omega arith)

      lies : ((s ≤ℤ code_between p s q t i) × (code_between p s q t i ≤ℤ t)) ⊎ ((t ≤ℤ code_between p s q t i) × (code_between p s q t i ≤ℤ s))
      lies = go (leb u v) (leb→le u v) (nleb→lt u v)
        where
          go : (b : Bool) → (T b → u ≤ v) → (T (not b) → v < u) → ((s ≤ℤ code_between p s q t i) × (code_between p s q t i ≤ℤ t)) ⊎ ((t ≤ℤ code_between p s q t i) × (code_between p s q t i ≤ℤ s))
          go true le gt =
              let l = le tt in
              let b = mean_between u v (i - p) w D u v W (omega arith) l l (omega arith) in
              inl (diff_le s (code_between p s q t i) u c 32768 hs code_is b.0, diff_le (code_between p s q t i) t c v 32768 code_is ht b.1)
          go false le gt =
              let l = gt tt in
              let b = mean_between u v (i - p) w D v u W (omega arith) (omega arith) (omega arith) (omega arith) in
              inr (diff_le t (code_between p s q t i) v c 32768 ht code_is b.0, diff_le (code_between p s q t i) s c u 32768 code_is hs b.1)

      pub exact_of : Exact p s q t i (code_between p s q t i) (remainder_between p s q t i)
      exact_of = record { restores = restored; below = small; within = lies }
