-- Whole numbers of few enough digits, ten times them, and these by a power of two, are exact as floats: so is every voltage, by one argument. Assumes nothing.
use mathlib.Core.Path.{◌≡◌, refl, sym, ap, ◌∙◌, subst}
use Prim.Native.Nat.{ℕ, zero, suc, ◌+◌, ◌-◌, ◌*◌, ◌^◌, ◌≤◌, ◌<◌}
use native.Mathlib.Nat.{le_trans, lt_of_lt_of_le, mul-one, mul_assoc, mul_comm, mul_right_comm, mul-pos}
use native.Mathlib.Omega.{arith}
use mathlib.Core.Bool.{Bool, true, false, not}
use lib.Dec.{lit<, lit≤}
use lib.Pow.{pow_pos, pow-add, shl_lt, pow_mono}
use lib.IntN.{ℤ, pos, negsuc, nat_abs, neg_ℤ, ◌*ℤ◌}
use lib.Signed.{non_neg, nat_abs-le}
use lib.Ieee.{Float, nan, inf, fin, binary64, unlike, up, down, mul, div, of_int, round}
use lib.Ieee.Fits.{down_pos}
use lib.Ieee.Exact.{HasValue, round_exact}
use lib.Ieee.Scale.{round_same}
use lib.Ieee.Back.{round_whole}
use Rattle.codes.specs.Codes.{code_of}
use Rattle.codes.specs.Voltage.{ten, full_scale, voltage_of, IsFraction, VoltageExact}
use Rattle.codes.proofs.Codes.{code_range}

-- a / c is n / 2 ^ k, with n of no more digits than an f64 keeps: it is not rounded
exact_at : (s : Bool) (a c n k : ℕ) → 0 < c → k ≤ 1074 → n < 2 ^ 53 → a * 2 ^ k ≡ n * c → HasValue (round binary64 s a c) s n (2 ^ k)
exact_at s a c n k C K small e =
    subst (λ (x : Float). HasValue x s n (2 ^ k)) (sym (round_same binary64 s a c n (2 ^ k) C (pow_pos k) e))
    (round_exact binary64 s n (2 ^ k) n (1074 - k) (pow_pos k) small
    (lt_of_lt_of_le (shl_lt 53 (1074 - k) small) (pow_mono (room k)))
    (ap (λ (x : ℕ). n * x) (ap (λ (x : ℕ). 2 ^ x) (sym (rest k K)) ∙ pow-add 2 (1074 - k) k) ∙ sym (mul_assoc n (2 ^ (1074 - k)) (2 ^ k))))
  where
    room : (k : ℕ) → 53 + (1074 - k) ≤ 2098
    room k = omega arith

    rest : (k : ℕ) → k ≤ 1074 → 1074 - k + k ≡ 1074
    rest k h = omega arith

-- the sign of a product or quotient by a positive number
like : (t : Bool) → unlike t false ≡ t
like true = refl
like false = refl

times_ten : (x : Float) (s : Bool) (n : ℕ) → n * 10 < 2 ^ 53 → HasValue x s n 1 → HasValue (mul binary64 x ten) s (n * 10) 1
unfolding mul
times_ten nan s n small h = absurd h
times_ten (inf t) s n small h = absurd h
times_ten (fin t m e) s n small h =
    let q : m * up e ≡ n * down e = sym (mul-one (m * up e)) ∙ h.1 in
    subst (λ (z : Bool). HasValue (round binary64 (unlike t false) (m * up e * 10) (down e * 1)) z (n * 10) 1) (like t ∙ h.0)
    (exact_at (unlike t false) (m * up e * 10) (down e * 1) (n * 10) 0 (mul-pos (down_pos e) (lit< tt)) (lit≤ tt) small
    (mul-one (m * up e * 10) ∙ ap (λ (z : ℕ). z * 10) q ∙ mul_right_comm n (down e) 10 ∙ ap (λ (z : ℕ). n * 10 * z) (sym (mul-one (down e)))))

by_full_scale : (x : Float) (s : Bool) (n : ℕ) → n < 2 ^ 53 → HasValue x s n 1 → HasValue (div binary64 x full_scale) s n 32768
unfolding div
by_full_scale nan s n small h = absurd h
by_full_scale (inf t) s n small h = absurd h
by_full_scale (fin t m e) s n small h =
    let q : m * up e ≡ n * down e = sym (mul-one (m * up e)) ∙ h.1 in
    subst (λ (z : Bool). HasValue (round binary64 (unlike t false) (m * up e * 1) (32768 * down e)) z n 32768) (like t ∙ h.0)
    (exact_at (unlike t false) (m * up e * 1) (32768 * down e) n 15 (mul-pos (lit< tt) (down_pos e)) (lit≤ tt) small
    (ap (λ (z : ℕ). z * 32768) (mul-one (m * up e) ∙ q) ∙ mul_assoc n (down e) 32768 ∙ ap (λ (z : ℕ). n * z) (mul_comm (down e) 32768)))

whole : (z : ℤ) → nat_abs z ≤ 32768 → HasValue (of_int binary64 z) (not (non_neg z)) (nat_abs z) 1
unfolding of_int
whole (pos n) h = round_whole binary64 false n (le_trans h (lit≤ tt))
whole (negsuc n) h = round_whole binary64 true (suc n) (le_trans h (lit≤ tt))

ten_times : (x : Float) (z : ℤ) → HasValue x (not (non_neg z)) (nat_abs z * 10) 32768 → IsFraction x (z *ℤ pos 10) 32768
ten_times x (pos n) h = h
ten_times x (negsuc n) h = go (suc n * 10) (omega arith) h
  where
    go : (k : ℕ) → 1 ≤ k → HasValue x true k 32768 → IsFraction x (neg_ℤ (pos k)) 32768
    go zero some i = absurd (omega arith)
    go (suc k) some i = i

pub voltage_exact : VoltageExact
unfolding voltage_of
voltage_exact word h =
    let z = code_of word in
    let size = nat_abs-le z (code_range word) in
    let n = nat_abs z in
    let small : n * 10 < 9007199254740992 = omega arith in
    ten_times (voltage_of word) z
    (by_full_scale (mul binary64 (of_int binary64 z) ten) (not (non_neg z)) (n * 10) small (times_ten (of_int binary64 z) (not (non_neg z)) n small (whole z size)))
