-- A list of which a part is replaced: that part, its length, and the parts beside it. Over any element and base. Assumes nothing.
use Prim.Native.Nat.{ℕ, ◌+◌, ◌-◌, ◌*◌, ◌<◌, ◌≤◌}
use mathlib.Core.Path.{◌≡◌, refl, sym, ap, ◌∙◌}
use mathlib.Core.Logic.{◌⊎◌, inl, inr}
use mathlib.Core.Bool.{Bool, true, false}
use mathlib.Core.List.{List, ◌++◌}
use native.Mathlib.Nat.{mul-le-mul_right, suc-mul}
use native.Mathlib.Omega.{arith}
use lib.ListN.{length, take, drop, get_or, length-take, length-drop, length-append, get_or-append, take-append-drop}
use lib.Dec.{ltb}
use lib.Seq.{take_at, drop_at, get_or-append-add, get_or-take, get_or-drop, ext_get_or, length-take-le}
use borrow.Author.Tests.{ltb-true, ltb-false}
use Rattle.board_state.specs.Parts.{part, splice, own, with_own}
use Rattle.board_state.proofs.Parts.{part_within}

part_length : {A : Type 0} (s : List A) (a k : ℕ) → a + k ≤ length s → length (part s a k) ≡ k
part_length s a k h = simp (length-take, length-drop) (omega arith)

splice_own : {A : Type 0} (s : List A) (a k : ℕ) → splice s a k (part s a k) ≡ s
splice_own {A} s a k =
    ap (λ (r : List A). take a s ++ r) (take-append-drop k (drop a s)) ∙ take-append-drop a s

module _ {A : Type 0} (s ys : List A) (a k : ℕ) (fits : a + k ≤ length s) (same : length ys ≡ k) where
  splice_length : length (splice s a k ys) ≡ length s
  splice_length = simp (length-append, length-take, length-drop, same) (omega arith)

  part_splice : part (splice s a k ys) a k ≡ ys
  part_splice =
      ap (take k) (drop_at (take a s) (ys ++ drop k (drop a s)) a (length-take-le a s (omega arith)))
      ∙ take_at ys (drop k (drop a s)) k same

  -- an element that lies before the part, or after it
  before : (d : A) (j : ℕ) → j < a → get_or (splice s a k ys) j d ≡ get_or s j d
  before d j h =
      get_or-append (take a s) (ys ++ drop k (drop a s)) d j (simp length-take (omega arith)) ∙ get_or-take a s j d h

  after : (d : A) (r : ℕ) → get_or (splice s a k ys) (a + (k + r)) d ≡ get_or s (a + (k + r)) d
  after d r =
      ap (λ (m : ℕ). get_or (splice s a k ys) (m + (k + r)) d) (sym (length-take-le a s (omega arith)))
      ∙ get_or-append-add (take a s) (ys ++ drop k (drop a s)) (k + r) d
      ∙ ap (λ (m : ℕ). get_or (ys ++ drop k (drop a s)) (m + r) d) (sym same)
      ∙ get_or-append-add ys (drop k (drop a s)) r d
      ∙ get_or-drop k (drop a s) r d
      ∙ get_or-drop a s (k + r) d

  -- a part beside the one replaced
  other : (d : A) (b q : ℕ) → b + q ≤ length s → ((b + q ≤ a) ⊎ (a + k ≤ b)) → part (splice s a k ys) b q ≡ part s b q
  other d b q room apart =
      ext_get_or d _ _
      (part_length (splice s a k ys) b q (rw splice_length room) ∙ sym (part_length s b q room))
      (λ i h. at i (rw (part_length (splice s a k ys) b q (rw splice_length room)) at h))
    where
      one : (i : ℕ) → i < q → ((b + q ≤ a) ⊎ (a + k ≤ b)) → get_or (splice s a k ys) (b + i) d ≡ get_or s (b + i) d
      one i h (inl l) = before d (b + i) (omega arith)
      one i h (inr g) =
          let e : b + i ≡ a + (k + (b + i - (a + k))) = omega arith in
          ap (λ (m : ℕ). get_or (splice s a k ys) m d) e ∙ after d (b + i - (a + k)) ∙ ap (λ (m : ℕ). get_or s m d) (sym e)

      at : (i : ℕ) → i < q → get_or (part (splice s a k ys) b q) i d ≡ get_or (part s b q) i d
      at i h =
          get_or-take q (drop b (splice s a k ys)) i d h ∙ get_or-drop b (splice s a k ys) i d
          ∙ one i h apart
          ∙ sym (get_or-take q (drop b s) i d h ∙ get_or-drop b s i d)

-- ---- Four parts of one size, by number from 1: a channel's own

-- a number of a channel
pub record Number (c : ℕ) : Type 0 where
  pub low : 1 ≤ c
  pub high : c ≤ 4

-- parts of one size lie beside each other
beside : (c d k : ℕ) → (c ≡ d → ⊥) → (c * k + k ≤ d * k) ⊎ (d * k + k ≤ c * k)
beside c d k ne = go (ltb c d) refl
  where
    step : (x y : ℕ) → x < y → x * k + k ≤ y * k
    step x y h = rw suc-mul at (mul-le-mul_right k h)

    go : (b : Bool) → ltb c d ≡ b → (c * k + k ≤ d * k) ⊎ (d * k + k ≤ c * k)
    go true e = inl (step c d (ltb-true c d e))
    go false e = inr (step d c (let l : d ≤ c = ltb-false c d e in omega (arith, l, ne)))

module _ (s : List ℕ) (k : ℕ) (whole : length s ≡ 4 * k) where
  room : (c : ℕ) → Number c → (c - 1) * k + k ≤ length s
  room c h = omega (arith, part_within c k h.high refl)

  pub own_length : (c : ℕ) → Number c → length (own s k c) ≡ k
  own_length c h = part_length s ((c - 1) * k) k (room c h)

  -- channel d's part replaced: it, the others', the length
  module _ (d : ℕ) (ys : List ℕ) (low : Number d) (same : length ys ≡ k) where
    pub own_mine : own (with_own s k d ys) k d ≡ ys
    own_mine = part_splice s ys ((d - 1) * k) k (room d low) same

    pub own_theirs : (c : ℕ) → Number c → (c ≡ d → ⊥) → own (with_own s k d ys) k c ≡ own s k c
    own_theirs c h ne =
        other s ys ((d - 1) * k) k (room d low) same 0 ((c - 1) * k) k (room c h)
        (beside (c - 1) (d - 1) k (λ e. ne (omega arith)))

    pub own_kept : length (with_own s k d ys) ≡ length s
    own_kept = splice_length s ys ((d - 1) * k) k (room d low) same

pub own_same : (s : List ℕ) (k d : ℕ) → with_own s k d (own s k d) ≡ s
own_same s k d = splice_own s ((d - 1) * k) k
