-- There is one remainder by the generator; `crc_of` is that of the message times x^8, and a bit or a byte more of the message changes it so. Assumes nothing.
use mathlib.Core.Path.{◌≡◌, refl, sym, ap, ap₂, ◌∙◌, subst, subst₂}
use mathlib.Core.Logic.{◌⊎◌, inl, inr, ⊎_elim}
use mathlib.Core.Bool.{Bool, true, false, cond}
use mathlib.Core.List.{[], ◌∷◌}
use Prim.Native.Nat.{ℕ, zero, suc, ◌+◌, ◌*◌, ◌/◌, ◌%◌, ◌^◌, ◌≤◌, ◌<◌}
use native.Mathlib.Nat.{mod-lt, le_refl, not-suc-le-zero}
use native.Mathlib.Decide.{le_ind}
use native.Mathlib.Omega.{arith}
use lib.Arith.{half_le, bin_ind}
use lib.Dec.{ltb, lit<}
use lib.Pow.{split}
use borrow.Author.Tests.{lt-ltb, le-ltb, ltb-true, ltb-false}
use lib.Bits.{bit_xor, xor_lt, xor_shr, xor_zero_r, xor_comm, xor_shifted}
use Rattle.frame.specs.Polynomials.{generator, product, Remainder}
use Rattle.frame.specs.Crc.{reduced, bit_in, divided, crc_of}
use Rattle.frame.proofs.Xor.{xor_cancel}
use Rattle.frame.proofs.Multiples.{generator_top, Congruent, congruent_refl, congruent_xor, congruent_trans, congruent_double, congruent_shl, congruent_unique}

-- ---- there is one remainder

pub remainder_unique : (a r s : ℕ) → Remainder a r → Remainder a s → r ≡ s
remainder_unique a r s h l = congruent_unique (congruent h) (congruent l) h.low l.low
  where
    congruent : {a r : ℕ} → Remainder a r → Congruent a r
    congruent h = record { quotient = h.quotient; divides = h.divides }

-- ---- a step of the division

reduced_small : (t : ℕ) → t < 256 → reduced t ≡ t
unfolding reduced
reduced_small t h = ap (λ (b : Bool). cond b t (bit_xor t generator)) (lt-ltb t 256 h)

reduced_large : (t : ℕ) → 256 ≤ t → reduced t ≡ bit_xor t generator
unfolding reduced
reduced_large t h = ap (λ (b : Bool). cond b t (bit_xor t generator)) (le-ltb t 256 h)

congruent_generator : (t : ℕ) → Congruent t (bit_xor t generator)
unfolding product
congruent_generator t =
    record {
      quotient = true ∷ [];
      divides =
          sym (xor_cancel generator t)
          ∙ ap₂ bit_xor (sym (xor_zero_r generator)) (xor_comm generator t);
    }

lt_or_ge : (a b : ℕ) → (a < b) ⊎ (b ≤ a)
lt_or_ge a b = go (ltb a b) refl
  where
    go : (t : Bool) → ltb a b ≡ t → (a < b) ⊎ (b ≤ a)
    go true e = inl (ltb-true a b e)
    go false e = inr (ltb-false a b e)

congruent_reduced : (t : ℕ) → Congruent t (reduced t)
congruent_reduced t =
    ⊎_elim (λ h. subst (Congruent t) (sym (reduced_small t h)) (congruent_refl t)) (λ h. subst (Congruent t) (sym (reduced_large t h)) (congruent_generator t))
    (lt_or_ge t 256)

below_256 : (x : ℕ) → x / 2 ^ 8 ≡ 0 → x < 2 ^ 8
below_256 x h = omega arith

top_bit : (t : ℕ) → 256 ≤ t → t < 512 → t / 2 ^ 8 ≡ 1
top_bit t h l = omega arith

reduced_low : (t : ℕ) → t < 512 → reduced t < 2 ^ 8
reduced_low t l =
    ⊎_elim (λ h. subst (λ (x : ℕ). x < 2 ^ 8) (sym (reduced_small t h)) h)
    (λ h.
    subst (λ (x : ℕ). x < 2 ^ 8) (sym (reduced_large t h))
    (below_256 (bit_xor t generator) (xor_shr t generator 8 ∙ ap₂ bit_xor (top_bit t h l) generator_top)))
    (lt_or_ge t 256)

congruent_bit_in_lem : {a r : ℕ} (b : ℕ) → Congruent a r → Congruent (bit_xor (a * 2) (b * 256)) (bit_in r b)
unfolding bit_in
congruent_bit_in_lem {a} {r} b h = congruent_trans (congruent_xor (congruent_double h) (congruent_refl (b * 256))) (congruent_reduced (bit_xor (r * 2) (b * 256)))

bit_in_low_lem : (r b : ℕ) → r < 2 ^ 8 → b < 2 → bit_in r b < 2 ^ 8
unfolding bit_in
bit_in_low_lem r b hr hb = reduced_low (bit_xor (r * 2) (b * 256)) (xor_lt 9 (r * 2) (b * 256) (omega arith) (omega arith))

-- ---- the definition is the remainder

divided_more : (k n : ℕ) → n ≤ k → divided (suc k) n ≡ divided k n
unfolding divided
divided_more zero zero h = refl
divided_more zero (suc n) h = absurd (not-suc-le-zero h)
divided_more (suc k) zero h = refl
divided_more (suc k) (suc n) h = ap (λ (x : ℕ). bit_in x (suc n % 2)) (divided_more k (suc n / 2) (half_le h))

divided_enough : (k n : ℕ) → n ≤ k → divided k n ≡ divided n n
divided_enough k n h = le_ind (λ (m : ℕ). divided m n ≡ divided n n) refl (λ m l e. divided_more m n l ∙ e) k h

pub crc_step : (n : ℕ) → crc_of n ≡ bit_in (crc_of (n / 2)) (n % 2)
unfolding crc_of
crc_step zero = refl
crc_step (suc n) = ap (λ (x : ℕ). bit_in x (suc n % 2)) (divided_enough n (suc n / 2) (half_le (le_refl (suc n))))

shifted_bit : (n b : ℕ) → b < 2 → bit_xor (n * 2 ^ 8 * 2) (b * 256) ≡ (n * 2 + b) * 2 ^ 8
shifted_bit n b h =
    ap (λ (x : ℕ). bit_xor x (b * 256)) (regroup n) ∙ xor_shifted n 9 (b * 256) (omega arith) ∙ joined n b
  where
    regroup : (n : ℕ) → n * 2 ^ 8 * 2 ≡ n * 2 ^ 9
    regroup n = omega arith

    joined : (n b : ℕ) → n * 2 ^ 9 + b * 256 ≡ (n * 2 + b) * 2 ^ 8
    joined n b = omega arith

halves : (n : ℕ) → n / 2 * 2 + n % 2 ≡ n
halves n = omega arith

pub crc_congruent : (n : ℕ) → Congruent (n * 2 ^ 8) (crc_of n)
unfolding crc_of
crc_congruent =
    bin_ind (λ (n : ℕ). Congruent (n * 2 ^ 8) (crc_of n)) (congruent_refl 0)
    (λ n ih.
    subst₂ Congruent (shifted_bit (n / 2) (n % 2) (mod-lt n (lit< tt)) ∙ ap (λ (x : ℕ). x * 2 ^ 8) (halves n)) (sym (crc_step n))
    (congruent_bit_in_lem (n % 2) ih))

pub crc_low : (n : ℕ) → crc_of n < 2 ^ 8
unfolding crc_of
crc_low =
    bin_ind (λ (n : ℕ). crc_of n < 2 ^ 8) (lit< tt)
    (λ n ih. subst (λ (x : ℕ). x < 2 ^ 8) (sym (crc_step n)) (bit_in_low_lem (crc_of (n / 2)) (n % 2) ih (mod-lt n (lit< tt))))

-- THE CRC LAW, for a message of any length
pub crc_is : (n : ℕ) → Remainder (n * 2 ^ 8) (crc_of n)
crc_is n = record { quotient = (crc_congruent n).quotient; divides = (crc_congruent n).divides; low = crc_low n }

-- every polynomial has a remainder: that of its part from x^8 on, and its low part
remainder_any : (a : ℕ) → Remainder a (bit_xor (crc_of (a / 2 ^ 8)) (a % 2 ^ 8))
remainder_any a =
    let low : a % 2 ^ 8 < 2 ^ 8 = mod-lt a (lit< tt) in
    let h : Congruent a (bit_xor (crc_of (a / 2 ^ 8)) (a % 2 ^ 8)) =
    subst (λ (x : ℕ). Congruent x (bit_xor (crc_of (a / 2 ^ 8)) (a % 2 ^ 8))) (xor_shifted (a / 2 ^ 8) 8 (a % 2 ^ 8) low ∙ split a 8)
    (congruent_xor (crc_congruent (a / 2 ^ 8)) (congruent_refl (a % 2 ^ 8))) in
    record {
      quotient = h.quotient;
      divides = h.divides;
      low = xor_lt 8 (crc_of (a / 2 ^ 8)) (a % 2 ^ 8) (crc_low (a / 2 ^ 8)) low;
    }

pub remainder_exists : (a : ℕ) → (r : ℕ) × Remainder a r
remainder_exists a = (bit_xor (crc_of (a / 2 ^ 8)) (a % 2 ^ 8), remainder_any a)

-- ---- a bit more, a byte more

pub crc_bit : (n b : ℕ) → b < 2 → crc_of (n * 2 + b) ≡ bit_in (crc_of n) b
crc_bit n b h = crc_step (n * 2 + b) ∙ ap₂ (λ (x y : ℕ). bit_in (crc_of x) y) (omega arith) (omega arith)

-- so a byte comes in by a look-up in the list of remainders of b x^8, b a byte: `bytes_in` of specs/Table.antt
pub crc_byte : (n b : ℕ) → b < 2 ^ 8 → crc_of (n * 2 ^ 8 + b) ≡ crc_of (bit_xor (crc_of n) b)
crc_byte n b h =
    congruent_unique (crc_congruent (n * 2 ^ 8 + b))
    (congruent_trans
    (congruent_shl 8 (subst (λ (x : ℕ). Congruent x (bit_xor (crc_of n) b)) (xor_shifted n 8 b h) (congruent_xor (crc_congruent n) (congruent_refl b))))
    (crc_congruent (bit_xor (crc_of n) b)))
    (crc_low (n * 2 ^ 8 + b)) (crc_low (bit_xor (crc_of n) b))
