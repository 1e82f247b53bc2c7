-- What every call leaves in the lent buffers (specs/Laws). Assumes nothing.
use mathlib.Core.Path.{◌≡◌, refl, sym, ap, subst, ◌∙◌}
use Prim.Native.Nat.{ℕ, zero, suc, ◌+◌, ◌-◌, ◌*◌, ◌/◌, ◌%◌, ◌<◌}
use native.Mathlib.Nat.{eq-or-lt_of_le}
use native.Mathlib.Numerals.{add-one}
use native.Mathlib.Omega.{arith}
use mathlib.Core.Bool.{Bool, true, false, cond, true≢false}
use mathlib.Core.Logic.{⊎_elim}
use mathlib.Core.List.{List}
use lib.Dec.{ltb, eqb, eqb-suc-suc}
use lib.IntN.{ℤ, pos, negsuc}
use lib.ListN.{length, get_or}
use Rattle.ramp.specs.declared.Breakpoint.{Breakpoint}
use Rattle.ramp.specs.Answers.{Answer, wrote, refused}
use Rattle.ramp.specs.Interpolation.{twos_complement}
use Rattle.ramp.specs.Ramp.{Segment, segment_of, code_in, remainder_in, index_at, code_at, last_index, is_valid, code_word, remainder_word, overwritten, ramp_answer, ramp_codes, ramp_remainders}
use Rattle.ramp.specs.Rules.{CodesInRange, Rules}
use Rattle.ramp.specs.Laws.{Between, signed, Exact, Written, RampWritten, RampRefused}
use Rattle.ramp.proofs.Signs.{Diff}
use Rattle.ramp.proofs.Range.{offset_in, words_plus_one}
use Rattle.ramp.proofs.Rounding.{only, read_bits, bits_small}
use Rattle.ramp.proofs.Exact.{at_start, at_end_lem, offset_of_code, exact_of}
use Rattle.ramp.proofs.Validity.{valid_rules, rules_valid}
use Rattle.ramp.proofs.Segments.{neighbours, InSegment, segment_at, bracketed, located, in_segment, in_first, below_last}
use Rattle.ramp.proofs.Words.{overwritten_length, overwritten_below, overwritten_past}

-- ---- What an answer says

abbrev refused_number : Answer → ℕ
refused_number (wrote k) = 0
refused_number (refused k) = k

module _ (ps : List Breakpoint) (n c d : ℕ) where
  wrote_valid : (words : ℕ) → ramp_answer ps n c d ≡ wrote words → (is_valid ps n c d ≡ true) × (words ≡ last_index ps + 1)
  unfolding ramp_answer
  wrote_valid words e = go (is_valid ps n c d) e
    where
      go : (b : Bool) → cond b (wrote (last_index ps + 1)) (refused 11) ≡ wrote words → (b ≡ true) × (words ≡ last_index ps + 1)
      go true f = let h = ap words_plus_one f in (refl, omega arith)
      go false f = let h = ap words_plus_one f in absurd (omega arith)

  refused_invalid : (number : ℕ) → ramp_answer ps n c d ≡ refused number → (is_valid ps n c d ≡ false) × (number ≡ 11)
  unfolding ramp_answer
  refused_invalid number e = go (is_valid ps n c d) e
    where
      go : (b : Bool) → cond b (wrote (last_index ps + 1)) (refused 11) ≡ refused number → (b ≡ false) × (number ≡ 11)
      go true f = let h = ap words_plus_one f in absurd (omega arith)
      go false f = (refl, sym (ap refused_number f))

-- ---- A word's code, and its high bits

module _ (z : ℤ) (m : ℕ) (h : Diff z m 32768) (l : m < 65536) (mark : ℕ) where
  parts : ((twos_complement z + mark * 65536) / 65536 ≡ mark) × ((twos_complement z + mark * 65536) % 65536 ≡ twos_complement z)
  parts = only (twos_complement z + mark * 65536) mark (twos_complement z) 65536 (omega arith) (bits_small z m h l)

  signed_is : signed (twos_complement z + mark * 65536) ≡ z
  signed_is = ap (λ (b : ℕ). cond (ltb b 32768) (pos b) (negsuc (65535 - b))) parts.1 ∙ read_bits z m h l

-- D31, as a part of the high bits
mark_is : (b : Bool) → cond b 0x80000000 0 ≡ cond b 0x8000 0 * 65536
mark_is true = refl
mark_is false = refl

same_test : (i last : ℕ) → eqb i last ≡ eqb (suc i) (last + 1)
same_test i last = sym (eqb-suc-suc i last) ∙ ap (eqb (suc i)) (sym (add-one last))

-- ---- The words of a list that keeps the rules

module _ (ps : List Breakpoint) (n : ℕ) (codes remainders : List ℕ) (range : CodesInRange ps) (rules : Rules ps n (length codes) (length remainders)) where
  abbrev c : ℕ
  c = length codes

  abbrev d : ℕ
  d = length remainders

  between_of : (k i : ℕ) → InSegment ps k i → Between ps k i
  between_of k i s = record { neighbours = s.more; from = (bracketed ps n c d rules k i s).after; to = s.end }

  -- at a breakpoint that two segments share they say the same
  same : (k i : ℕ) → Between ps k i → (code_in (segment_of ps i) i ≡ code_in (neighbours ps k) i) × (remainder_in (segment_of ps i) i ≡ remainder_in (neighbours ps k) i)
  same zero i b = let e = segment_at ps 0 i (in_first ps n c d rules i b.to) in (ap (λ (g : Segment). code_in g i) e, ap (λ (g : Segment). remainder_in g i) e)
  same (suc j) i b = ⊎_elim
      (λ (e : index_at ps (suc j) ≡ i).
      subst (λ (x : ℕ). (code_in (segment_of ps x) x ≡ code_in (neighbours ps (suc j)) x) × (remainder_in (segment_of ps x) x ≡ remainder_in (neighbours ps (suc j)) x)) e shared)
      (λ (l : index_at ps (suc j) < i).
      let e = segment_at ps (suc j) i (in_segment ps n c d rules (suc j) i b.neighbours l b.to) in
      (ap (λ (g : Segment). code_in g i) e, ap (λ (g : Segment). remainder_in g i) e))
      (eq-or-lt_of_le b.from)
    where
      shared :
          (code_in (segment_of ps (index_at ps (suc j))) (index_at ps (suc j)) ≡ code_in (neighbours ps (suc j)) (index_at ps (suc j)))
          × (remainder_in (segment_of ps (index_at ps (suc j))) (index_at ps (suc j)) ≡ remainder_in (neighbours ps (suc j)) (index_at ps (suc j)))
      shared =
          let x = index_at ps (suc j) in
          let m = b.neighbours in
          let up = rules.increasing j (omega arith) in
          let e = segment_at ps j x (in_segment ps n c d rules j x (omega arith) up (omega arith)) in
          let f = at_end_lem (index_at ps j) (code_at ps j) x (code_at ps (suc j)) up in
          let g = at_start x (code_at ps (suc j)) (index_at ps (suc (suc j))) (code_at ps (suc (suc j))) (rules.increasing (suc j) m) in
          (ap (λ (s : Segment). code_in s x) e ∙ f.0 ∙ sym g.0, ap (λ (s : Segment). remainder_in s x) e ∙ f.1 ∙ sym g.1)

  -- ---- One word

  abbrev codes' : List ℕ
  codes' = overwritten (code_word ps) (last_index ps + 1) codes

  abbrev remainders' : List ℕ
  remainders' = overwritten (remainder_word ps) (last_index ps + 1) remainders

  abbrev mark : ℕ → ℕ
  mark i = cond (eqb i (last_index ps)) 0x8000 0

  module _ (k i : ℕ) (b : Between ps k i) where
    abbrev z : ℤ
    z = code_in (neighbours ps k) i

    up : index_at ps k < index_at ps (suc k)
    up = rules.increasing k b.neighbours

    low : i < last_index ps + 1
    low = let h = below_last ps n c d rules (suc k) b.neighbours in let g = b.to in omega arith

    -- the neighbours' codes in offset binary, and the code's
    abbrev from : (u : ℕ) × Diff (code_at ps k) u 32768 × (u < 65536)
    from = let m = b.neighbours in offset_in (code_at ps k) (range k (omega arith)).0 (range k (omega arith)).1

    abbrev to : (v : ℕ) × Diff (code_at ps (suc k)) v 32768 × (v < 65536)
    to = offset_in (code_at ps (suc k)) (range (suc k) b.neighbours).0 (range (suc k) b.neighbours).1

    offset : (m : ℕ) × Diff z m 32768 × (m < 65536)
    offset = offset_of_code (index_at ps k) (code_at ps k) (index_at ps (suc k)) (code_at ps (suc k)) up i from.0 to.0 from.1 to.1 b.to from.2 to.2

    word_is : get_or codes' i 0 ≡ twos_complement z + mark i * 65536
    unfolding code_word
    word_is =
        let h = rules.last in
        let g = rules.codes in
        overwritten_below (code_word ps) codes (last_index ps + 1) i low (omega arith)
        ∙ ap (λ (y : ℤ). twos_complement y + cond (eqb i (last_index ps)) 0x80000000 0) (same k i b).0
        ∙ ap (λ (m : ℕ). twos_complement z + m) (mark_is (eqb i (last_index ps)))

    code_is : signed (get_or codes' i 0) ≡ z
    code_is = ap signed word_is ∙ signed_is z offset.0 offset.1 offset.2 (mark i)

    high_is : get_or codes' i 0 / 65536 ≡ mark i
    high_is = ap (λ (m : ℕ). m / 65536) word_is ∙ (parts z offset.0 offset.1 offset.2 (mark i)).0

    remainder_is : get_or remainders' i 0 ≡ remainder_in (neighbours ps k) i
    unfolding remainder_word
    remainder_is =
        let h = rules.last in
        let g = rules.remainders in
        overwritten_below (remainder_word ps) remainders (last_index ps + 1) i low (omega arith) ∙ (same k i b).1

    word_exact : Exact (index_at ps k) (code_at ps k) (index_at ps (suc k)) (code_at ps (suc k)) i (signed (get_or codes' i 0)) (get_or remainders' i 0)
    word_exact =
        subst (λ (y : ℤ). Exact (index_at ps k) (code_at ps k) (index_at ps (suc k)) (code_at ps (suc k)) i y (get_or remainders' i 0)) (sym code_is)
        (subst (λ (r : ℕ). Exact (index_at ps k) (code_at ps k) (index_at ps (suc k)) (code_at ps (suc k)) i z r) (sym remainder_is)
        (exact_of (index_at ps k) (code_at ps k) (index_at ps (suc k)) (code_at ps (suc k)) up i from.0 to.0 from.1 to.1 b.to))

  -- ---- All of them

  own_is : (k : ℕ) → k < length ps → (signed (get_or codes' (index_at ps k) 0) ≡ code_at ps k) × (get_or remainders' (index_at ps k) 0 ≡ 0)
  own_is zero h =
      let m = rules.at_least in
      let up = rules.increasing 0 (omega arith) in
      let b : Between ps 0 (index_at ps 0) = record { neighbours = omega arith; from = omega arith; to = omega arith } in
      let e = at_start (index_at ps 0) (code_at ps 0) (index_at ps 1) (code_at ps 1) up in
      (code_is 0 (index_at ps 0) b ∙ e.0, remainder_is 0 (index_at ps 0) b ∙ e.1)
  own_is (suc k) h =
      let up = rules.increasing k h in
      let b : Between ps k (index_at ps (suc k)) = record { neighbours = h; from = omega arith; to = omega arith } in
      let e = at_end_lem (index_at ps k) (code_at ps k) (index_at ps (suc k)) (code_at ps (suc k)) up in
      (code_is k (index_at ps (suc k)) b ∙ e.0, remainder_is k (index_at ps (suc k)) b ∙ e.1)

  cover : (i : ℕ) → i < last_index ps + 1 → (k : ℕ) × Between ps k i
  cover i l = let s = located ps n c d rules i (omega arith) in (s.0, between_of s.0 i s.1)

  all_written : Written ps (last_index ps + 1) codes remainders codes' remainders'
  all_written = record {
    count = refl;
    covered = cover;
    exact = word_exact;
    own = own_is;
    high = λ i l. high_is (cover i l).0 i (cover i l).1 ∙ ap (λ (b : Bool). cond b 0x8000 0) (same_test i (last_index ps));
    later_codes = overwritten_past (code_word ps) codes (last_index ps + 1);
    later_remainders = overwritten_past (remainder_word ps) remainders (last_index ps + 1);
    same_codes = overwritten_length (code_word ps) codes (last_index ps + 1);
    same_remainders = overwritten_length (remainder_word ps) remainders (last_index ps + 1);
  }

pub ramp_written : RampWritten
unfolding ramp_codes ramp_remainders
ramp_written ps n words codes remainders e =
    let a = wrote_valid ps n (length codes) (length remainders) words e in
    let rules = valid_rules ps n (length codes) (length remainders) a.0 in (
      rules,
      λ range. subst (λ (w : ℕ). Written ps w codes remainders (ramp_codes ps n codes remainders) (ramp_remainders ps n codes remainders)) (sym a.1)
          (simp a.0 (all_written ps n codes remainders range rules)),
    )

pub ramp_refused : RampRefused
unfolding ramp_codes ramp_remainders
ramp_refused ps n number codes remainders e =
    let a = refused_invalid ps n (length codes) (length remainders) number e in
    (a.1, (λ r. true≢false (sym (rules_valid ps n (length codes) (length remainders) r) ∙ a.0)), simp a.0, simp a.0)
