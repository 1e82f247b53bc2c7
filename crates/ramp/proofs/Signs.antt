-- A signed number as the difference of two natural ones, for `omega`, which reads no ℤ: `Diff z p q` says that z is p − q. Assumes nothing.
use mathlib.Core.Path.{◌≡◌, sym, ap, subst, ◌∙◌}
use Prim.Native.Nat.{ℕ, zero, suc, ◌+◌, ◌-◌, ◌*◌, ◌≤◌, ◌<◌}
use native.Mathlib.Nat.{add-mul}
use native.Mathlib.Omega.{arith}
use mathlib.Core.Bool.{Bool, true, false, not, cond}
use lib.Dec.{T, ltb, ltb→lt, nltb→le}
use lib.IntN.{ℤ, pos, negsuc, neg_ℤ, sub_ℕ, ◌+ℤ◌, ◌-ℤ◌, ◌*ℤ◌}

abbrev pub Diff : ℤ → ℕ → ℕ → Type 0
Diff (pos n) p q = n + q ≡ p
Diff (negsuc n) p q = suc n + p ≡ q

-- its parts: one of them is 0
abbrev pub over : ℤ → ℕ
over (pos n) = n
over (negsuc n) = 0

abbrev pub under : ℤ → ℕ
under (pos n) = 0
under (negsuc n) = suc n

pub diff_own : (z : ℤ) → Diff z (over z) (under z)
diff_own (pos n) = omega arith
diff_own (negsuc n) = omega arith

pub diff_neg_pos : (n p q : ℕ) → n + p ≡ q → Diff (neg_ℤ (pos n)) p q
diff_neg_pos zero p q h = omega arith
diff_neg_pos (suc n) p q h = h

pub diff_neg : (z : ℤ) (p q : ℕ) → Diff z p q → Diff (neg_ℤ z) q p
diff_neg (pos n) p q h = diff_neg_pos n q p h
diff_neg (negsuc n) p q h = h

diff_subℕ : (a b p q : ℕ) → a + q ≡ b + p → Diff (sub_ℕ a b) p q
diff_subℕ a b p q h = go (ltb a b) (ltb→lt a b) (nltb→le a b)
  where
    go : (x : Bool) → (T x → a < b) → (T (not x) → b ≤ a) → Diff (cond x (negsuc (b - suc a)) (pos (a - b))) p q
    go true lt ge = let l = lt tt in omega arith
    go false lt ge = let l = ge tt in omega arith

pub diff_add : (y z : ℤ) (p q r s : ℕ) → Diff y p q → Diff z r s → Diff (y +ℤ z) (p + r) (q + s)
diff_add (pos a) (pos b) p q r s h k = omega arith
diff_add (pos a) (negsuc b) p q r s h k = diff_subℕ a (suc b) (p + r) (q + s) (omega arith)
diff_add (negsuc a) (pos b) p q r s h k = diff_subℕ b (suc a) (p + r) (q + s) (omega arith)
diff_add (negsuc a) (negsuc b) p q r s h k = omega arith

pub diff_sub : (y z : ℤ) (p q r s : ℕ) → Diff y p q → Diff z r s → Diff (y -ℤ z) (p + s) (q + r)
diff_sub y z p q r s h k = diff_add y (neg_ℤ z) p q s r h (diff_neg z r s k)

times : (a b c k : ℕ) → a + b ≡ c → a * k + b * k ≡ c * k
times a b c k h = sym (add-mul a b k) ∙ ap (λ (x : ℕ). x * k) h

pub diff_mul : (z : ℤ) (k p q : ℕ) → Diff z p q → Diff (z *ℤ pos k) (p * k) (q * k)
diff_mul (pos n) k p q h = times n q p k h
diff_mul (negsuc n) k p q h = diff_neg_pos (suc n * k) (p * k) (q * k) (times (suc n) p q k h)

pub diff_one : (z : ℤ) (p q r s : ℕ) → Diff z p q → Diff z r s → p + s ≡ r + q
diff_one (pos n) p q r s h k = omega arith
diff_one (negsuc n) p q r s h k = omega arith

pub diff_same : (y z : ℤ) (p q r s : ℕ) → Diff y p q → Diff z r s → p + s ≡ r + q → y ≡ z
diff_same (pos a) (pos b) p q r s h k e = ap pos (omega arith)
diff_same (pos a) (negsuc b) p q r s h k e = absurd (omega arith)
diff_same (negsuc a) (pos b) p q r s h k e = absurd (omega arith)
diff_same (negsuc a) (negsuc b) p q r s h k e = ap negsuc (omega arith)

-- the same difference by two other numbers
pub diff_to : (z : ℤ) (p q r s : ℕ) → Diff z p q → p + s ≡ r + q → Diff z r s
diff_to (pos n) p q r s h e = omega arith
diff_to (negsuc n) p q r s h e = omega arith

-- so many times it, and a number more
pub diff_scale : (z : ℤ) (k c p q : ℕ) → Diff z p q → Diff (z *ℤ pos k +ℤ pos c) (p * k + c) (q * k)
diff_scale z k c p q h =
    diff_to (z *ℤ pos k +ℤ pos c) (p * k + c) (q * k + 0) (p * k + c) (q * k) (diff_add (z *ℤ pos k) (pos c) (p * k) (q * k) c 0 (diff_mul z k p q h) (omega arith)) (omega arith)

-- as a sum, which a contract can say
pub diff_sum : (z : ℤ) (p q : ℕ) → Diff z p q → z +ℤ pos q ≡ pos p
diff_sum z p q h = diff_same (z +ℤ pos q) (pos p) (p + q) (q + 0) p 0 (diff_add z (pos q) p q q 0 h (omega arith)) (omega arith) (omega arith)

pub sum_diff : (z : ℤ) (p q : ℕ) → z +ℤ pos q ≡ pos p → Diff z p q
sum_diff z p q e =
    let h : Diff (z +ℤ pos q) (over z + q) (under z + 0) = diff_add z (pos q) (over z) (under z) q 0 (diff_own z) (omega arith) in
    let g : over z + q + 0 ≡ p + (under z + 0) = diff_one (pos p) (over z + q) (under z + 0) p 0 (subst (λ (y : ℤ). Diff y (over z + q) (under z + 0)) e h) (omega arith) in
    diff_to z (over z) (under z) p q (diff_own z) (omega arith)
