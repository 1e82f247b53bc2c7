-- The loop of `fill`: what holds at its head, and what a turn makes of it. Assumes nothing.
use mathlib.Core.Path.{◌≡◌, refl, sym, ap, subst, ◌∙◌}
use Prim.Native.Nat.{ℕ, suc, ◌+◌, ◌≤◌, ◌<◌}
use native.Mathlib.Nat.{eq-or-lt_of_le}
use native.Mathlib.Numerals.{add-one}
use native.Mathlib.Omega.{arith}
use mathlib.Core.Bool.{Bool, true, false, cond}
use mathlib.Core.Logic.{⊎_elim}
use mathlib.Core.List.{List}
use lib.Dec.{ltb, eqb}
use lib.ListN.{length, get_or, set}
use mir.Syntax.{w16}
use mir.Val.{SFits}
use Rattle.ramp.specs.declared.Breakpoint.{Breakpoint}
use Rattle.ramp.specs.Interpolation.{twos_complement}
use Rattle.ramp.specs.Ramp.{zero_point, Segment, segment, segment_of, code_in, remainder_in, index_at, code_at, last_index, code_word, remainder_word, overwritten}
use Rattle.ramp.specs.Rules.{CodesInRange, Rules, Brackets}
use Rattle.ramp.proofs.Range.{range_of}
use Rattle.ramp.proofs.Segments.{InSegment, Reached, found_next, reached_next, reached_last, bracketed, segment_at}

-- what holds whenever the loop's test is reached: all before i are written
pub record Going (ps : List Breakpoint) (cs ds cs' ds' : List ℕ) (k i : ℕ) : Type 0 where
  pub reached : Reached ps k i
  pub far : i ≤ last_index ps + 1
  pub codes : cs' ≡ overwritten (code_word ps) i cs
  pub remainders : ds' ≡ overwritten (remainder_word ps) i ds
  -- a code that was read fits its type
  pub fitting : (j : ℕ) → j ≤ suc k → 0 < i → SFits w16 (code_at ps j)

module _ (ps : List Breakpoint) (cs ds : List ℕ) (n : ℕ) (rules : Rules ps n (length cs) (length ds)) where
  pub begin : Going ps cs ds cs ds 0 0
  unfolding overwritten
  begin =
      let h = rules.at_least in
      record { reached = record { more = omega arith; past = λ j a b. absurd (omega arith); end = omega arith }; far = omega arith; codes = refl; remainders = refl; fitting = λ j a b. absurd (omega arith) }

  module _ (cs' ds' : List ℕ) (k i : ℕ) (g : Going ps cs ds cs' ds' k i) where
    -- once all are written, all codes have been read
    pub in_range : i ≡ last_index ps + 1 → CodesInRange ps
    in_range e j l =
        let m = reached_last ps n (length cs) (length ds) rules k (subst (λ (x : ℕ). Reached ps k x) e g.reached) in
        range_of (code_at ps j) (g.fitting j (omega arith) (omega arith))

    module _ (h : i ≤ last_index ps) (r : ℕ) (e : r ≡ cond (ltb (index_at ps (k + 1)) i) (k + 1) k) where
      found : InSegment ps r i
      found =
          subst (λ (j : ℕ). InSegment ps j i)
          (ap (λ (j : ℕ). cond (ltb (index_at ps j) i) j k) (sym (add-one k)) ∙ sym e)
          (found_next ps n (length cs) (length ds) rules k i g.reached h)

      r_near : r ≤ k + 1
      r_near = subst (λ (j : ℕ). j ≤ k + 1) (sym e) (go (ltb (index_at ps (k + 1)) i))
        where
          go : (b : Bool) → cond b (k + 1) k ≤ k + 1
          go true = omega arith
          go false = omega arith

      pub in_list : r + 1 < length ps
      in_list = let m = found.more in omega arith

      to_is : get_or ps (suc r) zero_point ≡ get_or ps (r + 1) zero_point
      to_is = ap (λ (j : ℕ). get_or ps j zero_point) (sym (add-one r))

      abbrev here : Segment
      here = segment (get_or ps r zero_point) (get_or ps (r + 1) zero_point)

      here_is : segment_of ps i ≡ here
      here_is = segment_at ps r i found ∙ ap (λ (p : Breakpoint). segment (get_or ps r zero_point) p) to_is

      pub near : Brackets (index_at ps r) (index_at ps (r + 1)) i
      near = subst (λ (p : Breakpoint). Brackets (index_at ps r) p.index i) to_is (bracketed ps n (length cs) (length ds) rules r i found)

      pub next :
          (code remainder word : ℕ) → SFits w16 (code_at ps r) → SFits w16 (code_at ps (r + 1)) → code ≡ twos_complement (code_in here i) → remainder ≡ remainder_in here i → word ≡ code + cond (eqb i (last_index ps)) 0x80000000 0
          → Going ps cs ds (set cs' i word) (set ds' i remainder) r (i + 1)
      unfolding code_word remainder_word overwritten
      next code remainder word ff ft c d w =
          subst (λ (m : ℕ). Going ps cs ds (set cs' i word) (set ds' i remainder) r m) (sym (add-one i))
          (record {
            reached = reached_next ps n (length cs) (length ds) rules r i found;
            far = omega arith;
            codes = one_more (code_word ps) cs cs' word g.codes (w ∙ word_is);
            remainders = one_more (remainder_word ps) ds ds' remainder g.remainders (d ∙ ap (λ (s : Segment). remainder_in s i) (sym here_is));
            fitting = fit;
          })
        where
          -- the neighbours' codes, and those before, which were read while i was past them
          fit : (j : ℕ) → j ≤ suc r → 0 < suc i → SFits w16 (code_at ps j)
          fit j a b = ⊎_elim
              (λ (q : j ≡ suc r). subst (λ (m : ℕ). SFits w16 (code_at ps m)) (sym q) (subst (λ (p : Breakpoint). SFits w16 p.code) (sym to_is) ft))
              (λ (q : j < suc r). ⊎_elim
              (λ (f : j ≡ r). subst (λ (m : ℕ). SFits w16 (code_at ps m)) (sym f) ff)
              (λ (f : j < r). let past = found.past r (omega arith) (omega arith) in let m = r_near in g.fitting j (omega arith) (omega arith))
              (eq-or-lt_of_le (omega arith)))
              (eq-or-lt_of_le a)

          word_is : code + cond (eqb i (last_index ps)) 0x80000000 0 ≡ code_word ps i
          word_is = ap (λ (b : ℕ). b + cond (eqb i (last_index ps)) 0x80000000 0) (c ∙ ap (λ (s : Segment). twos_complement (code_in s i)) (sym here_is))

          one_more : (f : ℕ → ℕ) (old now : List ℕ) (v : ℕ) → now ≡ overwritten f i old → v ≡ f i → set now i v ≡ overwritten f (suc i) old
          one_more f old now v a b = ap (λ (m : List ℕ). set m i v) a ∙ ap (set (overwritten f i old) i) b
