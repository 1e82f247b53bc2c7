-- Which two neighbours an index stands between, as the loop finds them. Assumes nothing.
use mathlib.Core.Path.{◌≡◌, refl, sym, ap, subst}
use Prim.Native.Nat.{ℕ, zero, suc, ◌+◌, ◌-◌, ◌≤◌, ◌<◌}
use native.Mathlib.Nat.{eq-or-lt_of_le}
use native.Mathlib.Omega.{arith}
use mathlib.Core.Bool.{Bool, true, false, not, cond}
use mathlib.Core.Logic.{⊎_elim}
use mathlib.Core.List.{List, [], ◌∷◌}
use lib.Dec.{T, ltb, ltb→lt, nltb→le}
use lib.ListN.{length, get_or}
use borrow.Author.Tests.{le-leb, lt-leb}
use Rattle.ramp.specs.declared.Breakpoint.{Breakpoint}
use Rattle.ramp.specs.Ramp.{zero_point, Segment, segment, segment_from, segment_of, index_at, last_index}
use Rattle.ramp.specs.Rules.{Rules}
use Rattle.ramp.specs.Rules.{Brackets}

-- the neighbours k and k + 1
abbrev pub neighbours : List Breakpoint → ℕ → Segment
neighbours ps k = segment (get_or ps k zero_point) (get_or ps (suc k) zero_point)

-- i stands in segment k: past the breakpoints up to k, the first apart, and not past the next
pub record InSegment (ps : List Breakpoint) (k i : ℕ) : Type 0 where
  pub more : suc k < length ps
  pub past : (j : ℕ) → 1 ≤ j → j ≤ k → index_at ps j < i
  pub end : i ≤ index_at ps (suc k)

-- as the loop comes to i: it may be one past the next
pub record Reached (ps : List Breakpoint) (k i : ℕ) : Type 0 where
  pub more : suc k < length ps
  pub past : (j : ℕ) → 1 ≤ j → j ≤ k → index_at ps j < i
  pub end : i ≤ index_at ps (suc k) + 1

segment_from_lem :
    (a b : Breakpoint) (ps : List Breakpoint) (k i : ℕ) → suc k < length (a ∷ b ∷ ps) → ((j : ℕ) → 1 ≤ j → j ≤ k → index_at (a ∷ b ∷ ps) j < i)
    → i ≤ index_at (a ∷ b ∷ ps) (suc k) → segment_from a b ps i ≡ neighbours (a ∷ b ∷ ps) k
unfolding segment_from
segment_from_lem a b [] zero i m p e = refl
segment_from_lem a b [] (suc k) i m p e = absurd (omega arith)
segment_from_lem a b (c ∷ ps) zero i m p e = simp (le-leb _ _ e)
segment_from_lem a b (c ∷ ps) (suc k) i m p e =
    simp (lt-leb i b.index (p 1 (omega arith) (omega arith)))
    (segment_from_lem b c ps k i (omega arith) (λ j g h. p (suc j) (omega arith) (omega arith)) e)

pub segment_at : (ps : List Breakpoint) (k i : ℕ) → InSegment ps k i → segment_of ps i ≡ neighbours ps k
unfolding segment_of
segment_at [] k i s = let h = s.more in absurd (omega arith)
segment_at (a ∷ []) k i s = let h = s.more in absurd (omega arith)
segment_at (a ∷ b ∷ ps) k i s = segment_from_lem a b ps k i s.more s.past s.end

module _ (ps : List Breakpoint) (n c d : ℕ) (rules : Rules ps n c d) where
  -- a later index is no smaller, and none is past the last
  later : (j k : ℕ) → j ≤ k → k < length ps → index_at ps j ≤ index_at ps k
  later j zero h g = let e : j ≡ 0 = omega arith in subst (λ (l : ℕ). index_at ps l ≤ index_at ps 0) (sym e) (omega arith)
  later j (suc k) h g = ⊎_elim
      (λ (e : j ≡ suc k). subst (λ (l : ℕ). index_at ps l ≤ index_at ps (suc k)) (sym e) (omega arith))
      (λ (l : j < suc k). let a = later j k (omega arith) (omega arith) in let b = rules.increasing k g in omega arith)
      (eq-or-lt_of_le h)

  pub below_last : (k : ℕ) → k < length ps → index_at ps k ≤ last_index ps
  below_last k h = later k (length ps - 1) (omega arith) (omega arith)

  -- ---- From an index to the next

  pub found_next : (k i : ℕ) → Reached ps k i → i ≤ last_index ps → InSegment ps (cond (ltb (index_at ps (suc k)) i) (suc k) k) i
  found_next k i u l = go (ltb (index_at ps (suc k)) i) (ltb→lt (index_at ps (suc k)) i) (nltb→le (index_at ps (suc k)) i)
    where
      m : suc k < length ps
      m = u.more

      further : index_at ps (suc k) < i → suc (suc k) < length ps
      further g = ⊎_elim
          (λ (e : suc (suc k) ≡ length ps).
          let f : suc k ≡ length ps - 1 = omega arith in
          let h : index_at ps (suc k) ≡ last_index ps = ap (index_at ps) f in
          absurd (omega arith))
          (λ (h : suc (suc k) < length ps). h)
          (eq-or-lt_of_le m)

      go : (b : Bool) → (T b → index_at ps (suc k) < i) → (T (not b) → i ≤ index_at ps (suc k)) → InSegment ps (cond b (suc k) k) i
      go true lt ge =
          let g = lt tt in
          let h = rules.increasing (suc k) (further g) in
          let e = u.end in
          record {
            more = further g;
            past = λ j a b. ⊎_elim (λ (f : j ≡ suc k). subst (λ (l : ℕ). index_at ps l < i) (sym f) g) (λ (f : j < suc k). u.past j a (omega arith)) (eq-or-lt_of_le b);
            end = omega arith;
          }
      go false lt ge = record { more = m; past = u.past; end = ge tt }

  pub reached_next : (k i : ℕ) → InSegment ps k i → Reached ps k (suc i)
  reached_next k i s = record { more = s.more; past = λ j a b. (let h = s.past j a b in omega arith); end = let h = s.end in omega arith }

  pub bracketed : (k i : ℕ) → InSegment ps k i → Brackets (index_at ps k) (index_at ps (suc k)) i
  bracketed k i s =
      let h = below_last (suc k) s.more in
      let l = rules.last in
      let m = rules.depth_to in
      record { after = start k s.past; before = s.end; apart = rules.increasing k s.more; small = omega arith }
    where
      start : (k : ℕ) → ((j : ℕ) → 1 ≤ j → j ≤ k → index_at ps j < i) → index_at ps k ≤ i
      start zero p = let e = rules.first in omega arith
      start (suc k) p = let h = p (suc k) (omega arith) (omega arith) in omega arith

  -- past the last index the last segment has been reached
  pub reached_last : (k : ℕ) → Reached ps k (last_index ps + 1) → suc (suc k) ≡ length ps
  reached_last k u = ⊎_elim
      (λ (e : suc (suc k) ≡ length ps). e)
      (λ (h : suc (suc k) < length ps).
      let a = rules.increasing (suc k) h in
      let b = below_last (suc (suc k)) h in
      let c = u.end in
      absurd (omega arith))
      (eq-or-lt_of_le u.more)

  -- each index up to the last stands in a segment
  pub located : (i : ℕ) → i ≤ last_index ps → (k : ℕ) × InSegment ps k i
  located zero l = let m = rules.at_least in (0, record { more = omega arith; past = λ j a b. absurd (omega arith); end = omega arith })
  located (suc i) l =
      let s = located i (omega arith) in
      (cond (ltb (index_at ps (suc s.0)) (suc i)) (suc s.0) s.0, found_next s.0 (suc i) (reached_next s.0 i s.1) l)

  -- ---- An index between two neighbours, or at one of them

  -- past the first of them, or at the first of all
  pub in_segment : (k i : ℕ) → suc k < length ps → index_at ps k < i → i ≤ index_at ps (suc k) → InSegment ps k i
  in_segment k i h g l = record { more = h; past = λ j a b. (let u = later j k b (omega arith) in omega arith); end = l }

  pub in_first : (i : ℕ) → i ≤ index_at ps 1 → InSegment ps 0 i
  in_first i l = let m = rules.at_least in record { more = omega arith; past = λ j a b. absurd (omega arith); end = l }
