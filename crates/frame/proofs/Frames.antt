-- A frame and its fields: a well-framed number is the composition of exactly one ID, data, auxiliary and CRC, and is read as those. Assumes nothing.
use mathlib.Core.Path.{◌≡◌, refl, sym, ap, ◌∙◌}
use mathlib.Core.Logic.{◌⊎◌, inl, inr, ⊎_elim}
use mathlib.Core.Bool.{Bool, true, false, cond, ◌&&◌}
use Prim.Native.Nat.{ℕ, ◌+◌, ◌*◌, ◌/◌, ◌%◌, ◌^◌, ◌<◌}
use native.Mathlib.Omega.{arith}
use native.Mathlib.Nat.{mod-lt}
use lib.Dec.{ltb, eqb, lit<}
use lib.Pow.{split, shr-shr}
use borrow.Author.Tests.{lt-ltb, eq-eqb, ltb-true, eqb-true}
use Rattle.frame.specs.Polynomials.{Remainder}
use Rattle.frame.specs.Frames.{middle, compose, crc_for, encoded, framed, id_of, data_of, aux_of, crc_in, Reading, refused, fields, read, crc_right}
use Rattle.frame.specs.Laws.{Parts}
use Rattle.frame.proofs.Remainders.{crc_is}

-- ---- reading, by whether the number is well framed

read_framed : (f : ℕ) → framed f ≡ true → read f ≡ fields (id_of f) (data_of f) (aux_of f) (crc_in f)
unfolding read
read_framed f e = ap (λ (t : Bool). cond t (fields (id_of f) (data_of f) (aux_of f) (crc_in f)) (refused 7)) e

pub refused_7 : (f : ℕ) → framed f ≡ false → read f ≡ refused 7
unfolding read
refused_7 f e = ap (λ (t : Bool). cond t (fields (id_of f) (data_of f) (aux_of f) (crc_in f)) (refused 7)) e

either_way : (t : Bool) → (t ≡ true) ⊎ (t ≡ false)
either_way true = inl refl
either_way false = inr refl

fields_not_refused : (x : Reading) (id word aux crc number : ℕ) → x ≡ fields id word aux crc → x ≡ refused number → ⊥
fields_not_refused x id word aux crc number p q = let z : ◌≡◌ {A = ℕ} 0 1 = cc in omega arith

same_number : (x : Reading) (m n : ℕ) → x ≡ refused m → x ≡ refused n → m ≡ n
same_number x m n p q = cc

pub refused_only : (f number : ℕ) → read f ≡ refused number → (framed f ≡ false) × (number ≡ 7)
refused_only f number e =
    ⊎_elim (λ t. absurd (fields_not_refused (read f) _ _ _ _ number (read_framed f t) e))
    (λ t. (t, same_number (read f) number 7 e (refused_7 f t)))
    (either_way (framed f))

-- ---- a composition

module _ (id word aux crc : ℕ) (hi : id < 2 ^ 8) (hw : word < 2 ^ 16) (ha : aux < 2 ^ 8) (hc : crc < 2 ^ 8) where
  id_of_lem : id_of (compose id word aux crc) ≡ id
  id_of_lem = omega arith

  word_of_bits_lem : data_of (compose id word aux crc) ≡ word
  word_of_bits_lem = omega arith

  aux_of_lem : aux_of (compose id word aux crc) ≡ aux
  aux_of_lem = omega arith

  crc_of_lem : crc_in (compose id word aux crc) ≡ crc
  crc_of_lem = omega arith

  below : compose id word aux crc < 2 ^ 43
  below = omega arith

  start : compose id word aux crc / 2 ^ 42 % 2 ≡ 0
  start = omega arith

  stop : compose id word aux crc % 4 ≡ 3
  stop = omega arith

  pub compose_framed : framed (compose id word aux crc) ≡ true
  compose_framed = simp (lt-ltb _ _ below, eq-eqb _ _ start, eq-eqb _ _ stop)

  pub compose_read : read (compose id word aux crc) ≡ fields id word aux crc
  compose_read = read_framed (compose id word aux crc) compose_framed ∙ simp (id_of_lem, word_of_bits_lem, aux_of_lem, crc_of_lem)

-- ---- the CRC of a frame

pub crc_remainder : (id word aux : ℕ) → Remainder (middle id word aux * 2 ^ 8) (crc_for id word aux)
unfolding crc_for
crc_remainder id word aux = crc_is (middle id word aux)

pub crc_right_lem : (id word aux : ℕ) → crc_right id word aux (crc_for id word aux) ≡ true
unfolding crc_right
crc_right_lem id word aux = eq-eqb (crc_for id word aux) (crc_for id word aux) refl

pub crc_only : (id word aux crc : ℕ) → crc_right id word aux crc ≡ true → crc ≡ crc_for id word aux
unfolding crc_right
crc_only id word aux crc e = eqb-true crc (crc_for id word aux) e

-- ---- what is encoded

module _ (id word aux : ℕ) (hi : id < 2 ^ 8) (hw : word < 2 ^ 16) (ha : aux < 2 ^ 8) where
  pub encoded_framed : framed (encoded id word aux) ≡ true
  unfolding encoded
  encoded_framed = compose_framed id word aux (crc_for id word aux) hi hw ha (crc_remainder id word aux).low

  pub round_trip : read (encoded id word aux) ≡ fields id word aux (crc_for id word aux)
  unfolding encoded
  round_trip = compose_read id word aux (crc_for id word aux) hi hw ha (crc_remainder id word aux).low

-- ---- a well-framed number is a composition

both_left : (a b : Bool) → (a && b) ≡ true → a ≡ true
both_left true b e = refl
both_left false b e = e

both_right : (a b : Bool) → (a && b) ≡ true → b ≡ true
both_right true b e = e
both_right false b e = cc

-- the digits from j on are those from j + k on and then the k from j on
field_split : (n j k : ℕ) → n / 2 ^ j ≡ n / 2 ^ (j + k) * 2 ^ k + n / 2 ^ j % 2 ^ k
field_split n j k = sym (split (n / 2 ^ j) k) ∙ ap (λ (x : ℕ). x * 2 ^ k + n / 2 ^ j % 2 ^ k) (shr-shr n j k)

top_zero : (f : ℕ) → f < 2 ^ 43 → f / 2 ^ 42 % 2 ≡ 0 → f / 2 ^ 42 ≡ 0
top_zero f h b = omega arith

low_three : (f : ℕ) → f % 4 ≡ 3 → f ≡ f / 2 ^ 2 * 4 + 3
low_three f h = omega arith

stacked : (f a b c d e id word aux crc : ℕ) → f ≡ a * 4 + 3 → a ≡ b * 2 ^ 8 + crc → b ≡ c * 2 ^ 8 + aux → c ≡ d * 2 ^ 16 + word
    → d ≡ e * 2 ^ 8 + id → e ≡ 0 → f ≡ compose id word aux crc
stacked f a b c d e id word aux crc h₁ h₂ h₃ h₄ h₅ h₆ = omega arith

rejoined : (f : ℕ) → f < 2 ^ 43 → f / 2 ^ 42 % 2 ≡ 0 → f % 4 ≡ 3 → f ≡ compose (id_of f) (data_of f) (aux_of f) (crc_in f)
rejoined f h b e =
    stacked f (f / 2 ^ 2) (f / 2 ^ 10) (f / 2 ^ 18) (f / 2 ^ 34) (f / 2 ^ 42) (id_of f) (data_of f) (aux_of f) (crc_in f) (low_three f e)
    (field_split f 2 8) (field_split f 10 8) (field_split f 18 16) (field_split f 34 8) (top_zero f h b)

pub parts_exist : (f : ℕ) → framed f ≡ true → Parts f
parts_exist f t =
    let below : ltb f (2 ^ 43) ≡ true = both_left (ltb f (2 ^ 43)) (eqb (f / 2 ^ 42 % 2) 0 && eqb (f % 4) 3) t in
    let ends : (eqb (f / 2 ^ 42 % 2) 0 && eqb (f % 4) 3) ≡ true = both_right (ltb f (2 ^ 43)) (eqb (f / 2 ^ 42 % 2) 0 && eqb (f % 4) 3) t in
    record {
      id = id_of f;
      word = data_of f;
      aux = aux_of f;
      crc = crc_in f;
      id_fits = mod-lt (f / 2 ^ 34) (lit< tt);
      word_fits = mod-lt (f / 2 ^ 18) (lit< tt);
      aux_fits = mod-lt (f / 2 ^ 10) (lit< tt);
      crc_fits = mod-lt (f / 2 ^ 2) (lit< tt);
      whole =
          rejoined f (ltb-true f (2 ^ 43) below) (eqb-true (f / 2 ^ 42 % 2) 0 (both_left (eqb (f / 2 ^ 42 % 2) 0) (eqb (f % 4) 3) ends))
          (eqb-true (f % 4) 3 (both_right (eqb (f / 2 ^ 42 % 2) 0) (eqb (f % 4) 3) ends));
    }

module _ (f : ℕ) (p : Parts f) where
  pub parts_framed : framed f ≡ true
  parts_framed =
      ap framed p.whole ∙ compose_framed p.id p.word p.aux p.crc p.id_fits p.word_fits p.aux_fits p.crc_fits

  pub parts_read : read f ≡ fields p.id p.word p.aux p.crc
  parts_read =
      ap read p.whole ∙ compose_read p.id p.word p.aux p.crc p.id_fits p.word_fits p.aux_fits p.crc_fits

-- ---- fields tell one reading, and one number, from another

same_fields : (x : Reading) (id word aux crc id' word' aux' crc' : ℕ) → x ≡ fields id word aux crc → x ≡ fields id' word' aux' crc'
    → (id ≡ id') × (word ≡ word') × (aux ≡ aux') × (crc ≡ crc')
same_fields x id word aux crc id' word' aux' crc' p q = (cc, cc, cc, cc)

pub parts_unique : (f : ℕ) (p q : Parts f) → (p.id ≡ q.id) × (p.word ≡ q.word) × (p.aux ≡ q.aux) × (p.crc ≡ q.crc)
parts_unique f p q = same_fields (read f) _ _ _ _ _ _ _ _ (parts_read f p) (parts_read f q)

one_number : (f g : ℕ) → read f ≡ read g → (p : Parts f) → Parts g → f ≡ g
one_number f g e p q = p.whole ∙ simp (same.0, same.1, same.2, same.3) (sym q.whole)
  where
    same : (p.id ≡ q.id) × (p.word ≡ q.word) × (p.aux ≡ q.aux) × (p.crc ≡ q.crc)
    same = same_fields (read f) _ _ _ _ _ _ _ _ (parts_read f p) (e ∙ parts_read g q)

pub read_one_to_one : (f g : ℕ) → framed f ≡ true → read f ≡ read g → f ≡ g
read_one_to_one f g t e =
    ⊎_elim (λ u. one_number f g e (parts_exist f t) (parts_exist g u))
    (λ u. absurd (fields_not_refused (read f) _ _ _ _ 7 (read_framed f t) (e ∙ refused_7 g u)))
    (either_way (framed g))
