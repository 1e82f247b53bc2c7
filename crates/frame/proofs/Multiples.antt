-- The product of polynomials is linear, multiples of the generator add, and two polynomials of degree below 8 that differ by such a multiple are equal. Assumes nothing.
use mathlib.Core.Path.{◌≡◌, refl, sym, ap, ap₂, ◌∙◌, subst, subst₂}
use mathlib.Core.Bool.{Bool, true, false, cond}
use mathlib.Core.List.{List, [], ◌∷◌}
use Prim.Native.Nat.{ℕ, zero, suc, ◌*◌, ◌/◌, ◌^◌, ◌<◌}
use native.Mathlib.Nat.{div-eq_of_lt, mul-one, mul_assoc, pow-suc}
use native.Mathlib.Omega.{arith}
use lib.Dec.{lit<}
use lib.Bits.{bit_xor, xor_lt, xor_shr, xor_self, xor_zero_r, xor_comm, xor_shifted}
use Rattle.frame.specs.Polynomials.{generator, from_coefficients, product}
use Rattle.frame.proofs.Xor.{xor_assoc, xor_four, xor_zero_eq, xor_shl}

-- ---- the product is linear

pub one_or_none : (b : Bool) → cond b 1 0 < 2
one_or_none true = lit< tt
one_or_none false = lit< tt

pub product_one : (q : List Bool) → product 1 q ≡ from_coefficients q
unfolding product
product_one [] = refl
product_one (b ∷ q) =
    ap (λ (x : ℕ). bit_xor (cond b 1 0) (x * 2)) (product_one q) ∙ xor_comm (cond b 1 0) (from_coefficients q * 2)
    ∙ xor_shifted (from_coefficients q) 1 (cond b 1 0) (one_or_none b)

cond_shift : (p : ℕ) (b : Bool) → cond b (p * 2) 0 ≡ cond b p 0 * 2
cond_shift p true = refl
cond_shift p false = refl

pub product_shift : (p : ℕ) (q : List Bool) → product (p * 2) q ≡ product p q * 2
unfolding product
product_shift p [] = refl
product_shift p (b ∷ q) =
    ap₂ bit_xor (cond_shift p b) (ap (λ (x : ℕ). x * 2) (product_shift p q)) ∙ xor_shl 1 (cond b p 0) (product p q * 2)

cond_xor : (a b : ℕ) (t : Bool) → cond t (bit_xor a b) 0 ≡ bit_xor (cond t a 0) (cond t b 0)
cond_xor a b true = refl
cond_xor a b false = refl

pub product_sum : (a b : ℕ) (q : List Bool) → product (bit_xor a b) q ≡ bit_xor (product a q) (product b q)
unfolding product
product_sum a b [] = refl
product_sum a b (t ∷ q) =
    ap₂ bit_xor (cond_xor a b t) (ap (λ (x : ℕ). x * 2) (product_sum a b q) ∙ sym (xor_shl 1 (product a q) (product b q)))
    ∙ xor_four (cond t a 0) (cond t b 0) (product a q * 2) (product b q * 2)

-- ---- multiples add

either : Bool → Bool → Bool
either true true = false
either true false = true
either false b = b

-- the sum of two lists of coefficients
added : List Bool → List Bool → List Bool
added [] q = q
added (a ∷ p) [] = a ∷ p
added (a ∷ p) (b ∷ q) = either a b ∷ added p q

cond_either : (p : ℕ) (a b : Bool) → cond (either a b) p 0 ≡ bit_xor (cond a p 0) (cond b p 0)
unfolding either
cond_either p true true = sym (xor_self p)
cond_either p true false = sym (xor_zero_r p)
cond_either p false b = refl

product_added : (p : ℕ) (q r : List Bool) → product p (added q r) ≡ bit_xor (product p q) (product p r)
unfolding product added
product_added p [] r = refl
product_added p (a ∷ q) [] = sym (xor_zero_r (product p (a ∷ q)))
product_added p (a ∷ q) (b ∷ r) =
    ap₂ bit_xor (cond_either p a b) (ap (λ (x : ℕ). x * 2) (product_added p q r) ∙ sym (xor_shl 1 (product p q) (product p r)))
    ∙ xor_four (cond a p 0) (cond b p 0) (product p q * 2) (product p r * 2)

-- a multiple of a polynomial of degree 8 that has degree below 8 is 0
product_low : (p : ℕ) → p / 2 ^ 8 ≡ 1 → (q : List Bool) → product p q < 2 ^ 8 → product p q ≡ 0
unfolding product
product_low p e [] h = refl
product_low p e (false ∷ q) h = let z : product p q ≡ 0 = product_low p e q (omega arith) in ap (λ (x : ℕ). x * 2) z
product_low p e (true ∷ q) h =
    let m : ℕ = product p q in
    let top : 1 ≡ m * 2 / 256 =
    xor_zero_eq 1 (m * 2 / 256)
    (ap (λ (x : ℕ). bit_xor x (m * 2 / 256)) (sym e) ∙ sym (xor_shr p (m * 2) 8) ∙ div-eq_of_lt h) in
    let z : product p q ≡ 0 = product_low p e q (omega arith) in
    absurd (omega arith)

pub generator_top : generator / 2 ^ 8 ≡ 1
unfolding generator
generator_top = refl

-- ---- congruent: they differ by a multiple of the generator

pub record Congruent (a r : ℕ) : Type 0 where
  pub quotient : List Bool
  pub divides : a ≡ bit_xor (product generator quotient) r

pub congruent_refl : (a : ℕ) → Congruent a a
unfolding product
congruent_refl a = record { quotient = []; divides = refl }

pub congruent_xor : {a r b s : ℕ} → Congruent a r → Congruent b s → Congruent (bit_xor a b) (bit_xor r s)
congruent_xor {a} {r} {b} {s} h l =
    let q = h.quotient in
    let q' = l.quotient in
    record {
      quotient = added q q';
      divides =
          ap₂ bit_xor h.divides l.divides
          ∙ xor_four (product generator q) r (product generator q') s
          ∙ ap (λ (x : ℕ). bit_xor x (bit_xor r s)) (sym (product_added generator q q'));
    }

pub congruent_trans : {a b c : ℕ} → Congruent a b → Congruent b c → Congruent a c
congruent_trans {a} {b} {c} h l =
    let q = h.quotient in
    let q' = l.quotient in
    record {
      quotient = added q q';
      divides =
          h.divides
          ∙ ap (bit_xor (product generator q)) l.divides
          ∙ sym (xor_assoc (product generator q) (product generator q') c)
          ∙ ap (λ (x : ℕ). bit_xor x c) (sym (product_added generator q q'));
    }

pub congruent_double : {a r : ℕ} → Congruent a r → Congruent (a * 2) (r * 2)
unfolding product
congruent_double {a} {r} h =
    record {
      quotient = false ∷ h.quotient;
      divides = ap (λ (x : ℕ). x * 2) h.divides ∙ sym (xor_shl 1 (product generator h.quotient) r);
    }

shl_suc : (a k : ℕ) → a * 2 ^ suc k ≡ a * 2 ^ k * 2
shl_suc a k = ap (λ (x : ℕ). a * x) (pow-suc 2 k) ∙ sym (mul_assoc a (2 ^ k) 2)

pub congruent_shl : {a r : ℕ} (k : ℕ) → Congruent a r → Congruent (a * 2 ^ k) (r * 2 ^ k)
congruent_shl {a} {r} zero h = subst₂ Congruent (sym (mul-one a)) (sym (mul-one r)) h
congruent_shl {a} {r} (suc k) h = subst₂ Congruent (sym (shl_suc a k)) (sym (shl_suc r k)) (congruent_double (congruent_shl k h))

pub congruent_unique : {a r s : ℕ} → Congruent a r → Congruent a s → r < 2 ^ 8 → s < 2 ^ 8 → r ≡ s
congruent_unique {a} {r} {s} h l hr hs =
    let d : Congruent (bit_xor a a) (bit_xor r s) = congruent_xor h l in
    let m : product generator d.quotient ≡ bit_xor r s =
    xor_zero_eq (product generator d.quotient) (bit_xor r s) (sym d.divides ∙ xor_self a) in
    let z : product generator d.quotient ≡ 0 =
    product_low generator generator_top d.quotient (subst (λ (x : ℕ). x < 2 ^ 8) (sym m) (xor_lt 8 r s hr hs)) in
    xor_zero_eq r s (sym m ∙ z)
