-- Rounding down, over the natural numbers. In offset binary, s = u − 32768 and t = v − 32768, the code at d of w steps from s to t is the whole part of the
-- weighted mean (u * (w − d) + v * d) / w, and the remainder is what that division leaves. Assumes nothing.
use mathlib.Core.Path.{◌≡◌, refl, sym, ap, subst, ◌∙◌}
use Prim.Native.Nat.{ℕ, suc, ◌+◌, ◌-◌, ◌*◌, ◌/◌, ◌%◌, ◌≤◌, ◌<◌}
use native.Mathlib.Nat.{add-mul, mul-add, suc-mul, zero-mul, mod-lt, mod-eq_of_lt, div-add-mod', div-eq_of_lt-le, mul-add-mod_self_right, mul-le-mul_right, div-lt_iff_lt-mul, le-div_iff_mul-le}
use native.Mathlib.Omega.{arith}
use mathlib.Core.Bool.{Bool, true, false, cond}
use lib.Dec.{ltb}
use lib.IntN.{ℤ, pos, negsuc, ◌+ℤ◌, ◌-ℤ◌, ◌*ℤ◌}
use borrow.Author.Tests.{lt-ltb, le-ltb}
use Rattle.ramp.specs.Interpolation.{floor_div, floor_mod, twos_complement}
use Rattle.ramp.proofs.Signs.{Diff, over, under, diff_own, diff_add, diff_sub, diff_mul, diff_one, diff_same, diff_to, diff_scale}

-- the quotient and the remainder are the only ones
pub only : (n q r w : ℕ) → n ≡ q * w + r → r < w → (n / w ≡ q) × (n % w ≡ r)
only n q r w e l = (
  div-eq_of_lt-le w (omega arith) (let h : (q + 1) * w ≡ q * w + 1 * w = add-mul q 1 w in omega arith),
  ap (λ (k : ℕ). k % w) e ∙ mul-add-mod_self_right q w r ∙ mod-eq_of_lt l,
)

-- ---- Rounding down

floor_small : (x : ℤ) (w : ℕ) → 0 < w → floor_mod x w < w
unfolding floor_mod
floor_small (pos a) w W = mod-lt a W
floor_small (negsuc a) w W = omega arith

floored : (x : ℤ) (w : ℕ) → 0 < w → floor_div x w *ℤ pos w +ℤ pos (floor_mod x w) ≡ x
unfolding floor_div floor_mod
floored (pos a) w W =
    let k = div-add-mod' a w in
    let z = zero-mul w in
    diff_same (pos (a / w) *ℤ pos w +ℤ pos (a % w)) (pos a) (a / w * w + a % w) (0 * w) a 0 (diff_scale (pos (a / w)) w (a % w) (a / w) 0 (omega arith)) (omega arith) (omega arith)
floored (negsuc a) w W =
    let k = div-add-mod' a w in
    let r = mod-lt a W in
    let z = zero-mul w in
    let m = suc-mul (a / w) w in
    diff_same (negsuc (a / w) *ℤ pos w +ℤ pos (w - suc (a % w))) (negsuc a) (0 * w + (w - suc (a % w))) (suc (a / w) * w) 0 (suc a)
    (diff_scale (negsuc (a / w)) w (w - suc (a % w)) 0 (suc (a / w)) (omega arith)) (omega arith) (omega arith)

-- what restores a number, the remainder being below the width, is the only such
pub restores_only : (y z : ℤ) (w a b : ℕ) → a < w → b < w → y *ℤ pos w +ℤ pos a ≡ z *ℤ pos w +ℤ pos b → (y ≡ z) × (a ≡ b)
restores_only y z w a b la lb e =
    let f = add-mul (over y) (under z) w in
    let g = add-mul (over z) (under y) w in
    let h : over y * w + a + under z * w ≡ over z * w + b + under y * w =
    diff_one (z *ℤ pos w +ℤ pos b) (over y * w + a) (under y * w) (over z * w + b) (under z * w)
    (subst (λ (x : ℤ). Diff x (over y * w + a) (under y * w)) e (diff_scale y w a (over y) (under y) (diff_own y))) (diff_scale z w b (over z) (under z) (diff_own z)) in
    let p = only ((over y + under z) * w + a) (over y + under z) a w refl la in
    let q = only ((over y + under z) * w + a) (over z + under y) b w (omega arith) lb in
    (diff_same y z (over y) (under y) (over z) (under z) (diff_own y) (diff_own z) (sym p.0 ∙ q.0), sym p.1 ∙ q.1)

module _ (x : ℤ) (w : ℕ) (W : 0 < w) where
  pub floor_exact : (floor_div x w *ℤ pos w +ℤ pos (floor_mod x w) ≡ x) × (floor_mod x w < w)
  floor_exact = (floored x w W, floor_small x w W)

  pub floor_only : (y : ℤ) (r : ℕ) → r < w → y *ℤ pos w +ℤ pos r ≡ x → (floor_div x w ≡ y) × (floor_mod x w ≡ r)
  floor_only y r l e = restores_only (floor_div x w) y w (floor_mod x w) r (floor_small x w W) l (floored x w W ∙ sym e)

  -- of m − u * w
  floor_of : (m u : ℕ) → Diff x m (u * w) → Diff (floor_div x w) (m / w) u × (floor_mod x w ≡ m % w)
  floor_of m u h =
      let k = div-add-mod' m w in
      let y = pos (m / w) -ℤ pos u in
      let d : Diff y (m / w) u = diff_to y (m / w + 0) (0 + u) (m / w) u (diff_sub (pos (m / w)) (pos u) (m / w) 0 u 0 (omega arith) (omega arith)) (omega arith) in
      let f = floor_only y (m % w) (mod-lt m W) (diff_same (y *ℤ pos w +ℤ pos (m % w)) x (m / w * w + m % w) (u * w) m (u * w) (diff_scale y w (m % w) (m / w) u d) h (omega arith)) in
      (subst (λ (z : ℤ). Diff z (m / w) u) (sym f.0) d, f.1)

-- ---- The mean
module _ (u v d w : ℕ) (D : d ≤ w) where
  abbrev pub mean : ℕ
  mean = u * (w - d) + v * d

  whole_width : (k : ℕ) → k * w ≡ k * (w - d) + k * d
  whole_width k = let e : w ≡ (w - d) + d = omega arith in ap (λ (x : ℕ). k * x) e ∙ mul-add k (w - d) d

  -- no lower than the lower of the two, no higher than the higher
  mean_least : (k : ℕ) → k ≤ u → k ≤ v → k * w ≤ mean
  mean_least k hu hv =
      let a : k * (w - d) ≤ u * (w - d) = mul-le-mul_right (w - d) hu in
      let b : k * d ≤ v * d = mul-le-mul_right d hv in
      let e = whole_width k in
      omega arith

  mean_most : (k : ℕ) → u ≤ k → v ≤ k → mean ≤ k * w
  mean_most k hu hv =
      let a : u * (w - d) ≤ k * (w - d) = mul-le-mul_right (w - d) hu in
      let b : v * d ≤ k * d = mul-le-mul_right d hv in
      let e = whole_width k in
      omega arith

  pub mean_between : (low high : ℕ) → 0 < w → low ≤ u → low ≤ v → u ≤ high → v ≤ high → (low ≤ mean / w) × (mean / w ≤ high)
  mean_between low high W lu lv hu hv =
      let h : mean / w < high + 1 = (div-lt_iff_lt-mul W).1 (let m = mean_most high hu hv in let e = add-mul high 1 w in omega arith) in
      ((le-div_iff_mul-le W).1 (mean_least low lu lv), omega arith)

  pub mean_of : (s t : ℤ) → 0 < w → Diff s u 32768 → Diff t v 32768
      → Diff (s +ℤ floor_div ((t -ℤ s) *ℤ pos d) w) (mean / w) 32768 × (floor_mod ((t -ℤ s) *ℤ pos d) w ≡ mean % w)
  mean_of s t W hs ht =
      let x = (t -ℤ s) *ℤ pos d in
      let e₁ : (v + 32768) * d ≡ v * d + 32768 * d = add-mul v 32768 d in
      let e₂ : (32768 + u) * d ≡ 32768 * d + u * d = add-mul 32768 u d in
      let e₃ = whole_width u in
      let f = floor_of x w W mean u (diff_to x ((v + 32768) * d) ((32768 + u) * d) mean (u * w) (diff_mul (t -ℤ s) d (v + 32768) (32768 + u) (diff_sub t s v 32768 u 32768 ht hs)) (omega arith)) in
      (diff_to (s +ℤ floor_div x w) (u + mean / w) (32768 + u) (mean / w) 32768 (diff_add s (floor_div x w) u 32768 (mean / w) u hs f.0) (omega arith), f.1)

-- ---- The 16 bits of a code in offset binary

pub bits_low : (z : ℤ) (c : ℕ) → Diff z c 32768 → c < 32768 → twos_complement z ≡ c + 32768
unfolding twos_complement
bits_low (pos n) c h l = absurd (omega arith)
bits_low (negsuc n) c h l = omega arith

pub bits_high : (z : ℤ) (c : ℕ) → Diff z c 32768 → 32768 ≤ c → twos_complement z ≡ c - 32768
unfolding twos_complement
bits_high (pos n) c h l = omega arith
bits_high (negsuc n) c h l = absurd (omega arith)

-- read back, either way round
pub read_bits : (z : ℤ) (m : ℕ) → Diff z m 32768 → m < 65536 → cond (ltb (twos_complement z) 32768) (pos (twos_complement z)) (negsuc (65535 - twos_complement z)) ≡ z
unfolding twos_complement
read_bits (pos a) m h l = simp (lt-ltb a 32768 (omega arith))
read_bits (negsuc a) m h l = simp (le-ltb (65535 - a) 32768 (omega arith)) (ap negsuc (omega arith))

pub bits_small : (z : ℤ) (m : ℕ) → Diff z m 32768 → m < 65536 → twos_complement z < 65536
unfolding twos_complement
bits_small (pos a) m h l = omega arith
bits_small (negsuc a) m h l = omega arith

pub bits_of : (b : ℕ) → b < 65536 → twos_complement (cond (ltb b 32768) (pos b) (negsuc (65535 - b))) ≡ b
unfolding twos_complement
bits_of b l = go (ltb b 32768)
  where
    go : (t : Bool) → twos_complement (cond t (pos b) (negsuc (65535 - b))) ≡ b
    go true = refl
    go false = omega arith
