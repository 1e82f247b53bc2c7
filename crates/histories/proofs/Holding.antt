-- What a channel holds of readbacks against what was kept: through a Group End, a reset, a kept reply. Assumes nothing.
use Prim.Native.Nat.{ℕ, ◌+◌, ◌-◌, ◌*◌, ◌≤◌, ◌<◌}
use mathlib.Core.Path.{◌≡◌, refl, sym, ◌∙◌, ap, subst}
use mathlib.Core.Bool.{Bool, true, false, cond, not, not-not}
use mathlib.Core.List.{List, [], ◌∷◌, ◌++◌, append-nil}
use lib.ListN.{length, set, length-append, length-set}
use native.Mathlib.Omega.{arith}
use Rattle.registers.specs.Map.{second_active, readback_place}
use Rattle.readback.specs.declared.Readbacks.{Readbacks}
use Rattle.readback.specs.Storing.{place_of, end_word, end_words}
use Rattle.readback.specs.Storing as rb
use Rattle.channel.specs.OneChannel.{OneChannel}
use Rattle.histories.specs.Keeping.{Kept, nothing_kept, switched, kept_with}
use Rattle.histories.specs.EndWords.{with_written}
use Rattle.histories.proofs.Buffered.{grown}
use Rattle.histories.proofs.Buffers.{front, front_more, front_left, front_other}

-- buffer 2 is active or not, both counts, the words; and what was kept
pub record Holds (m : ℕ) (second : Bool) (r : Readbacks) (s : List ℕ) (g : Kept) : Type 0 where
  pub stored : r.stored ≡ length g.current
  pub retired : r.retired ≡ length g.retired
  pub active : length s ≡ m * 2 → front second m r.stored s ≡ g.current
  pub inactive : length s ≡ m * 2 → front (not second) m r.retired s ≡ g.retired

abbrev pub HoldsIn : OneChannel → Kept → Type 0
HoldsIn o g = Holds o.m (second_active o.channel.registers readback_place) o.channel.readbacks o.readbacks g

pub holds_opened : (m : ℕ) (s : List ℕ) → Holds m false rb.opened s nothing_kept
holds_opened m s = record { stored = refl; retired = refl; active = λ l. refl; inactive = λ l. refl }

-- ---- Group End, reset, a kept reply

module _ (m : ℕ) (r : Readbacks) (s : List ℕ) (g : Kept) where
  holds_ended : (second : Bool) → Holds m second r s g → Holds m (not second) (rb.group_ended r) (end_words r s second m) (switched g)
  holds_ended second h =
      record {
        stored = refl;
        retired = h.stored;
        active = λ l. refl;
        inactive = λ l. rw (not-not second) (front_left second m r.stored end_word s ∙ h.active (sym (length-set s _ _) ∙ l));
      }

  holds_kept : (second : Bool) (word : ℕ) → r.stored < m → r.retired ≤ m → Holds m second r s g
      → Holds m second (grown r (word ∷ [])) (set s (place_of second m r.stored) word) (kept_with g (word ∷ []))
  holds_kept second word less few h =
      record {
        stored = ap (λ (x : ℕ). x + 1) h.stored ∙ sym (length-append g.current (word ∷ []));
        retired = h.retired;
        active =
            λ l.
            let long = sym (length-set s _ _) ∙ l in
            front_more second m r.stored word s long less ∙ ap (λ (t : List ℕ). t ++ (word ∷ [])) (h.active long);
        inactive =
            λ l.
            let long = sym (length-set s _ _) ∙ l in
            front_other second m r.stored r.retired word s less few ∙ h.inactive long;
      }

  holds_none : (second : Bool) → Holds m second r s g → Holds m second r s (kept_with g [])
  holds_none second h =
      subst (λ (t : List ℕ). Holds m second r s (record { current = t; retired = g.retired })) (sym (append-nil g.current)) h

  -- what a call makes of them: a Group End or not, a reset or not, and the word that is stored otherwise, if any, for which there was space
  pub holds_buffered : (second again ends : Bool) (words : List ℕ) → length words ≤ 1
      → (cond again rb.opened (cond ends (rb.group_ended r) (grown r words))).stored ≤ m - 1 → r.retired ≤ m - 1 → Holds m second r s g
      → Holds m (cond again false (cond ends (not second) second)) (cond again rb.opened (cond ends (rb.group_ended r) (grown r words)))
      (with_written s (place_of second m r.stored) (cond ends (0x2000000 ∷ []) words))
      (cond again nothing_kept (cond ends (switched g) (kept_with g words)))
  holds_buffered second true ends words few space old h = holds_opened m _
  holds_buffered second false true words few space old h = holds_ended second h
  holds_buffered second false false [] few space old h = holds_none second h
  holds_buffered second false false (word ∷ []) few space old h = holds_kept second word (omega arith) (omega arith) h
  holds_buffered second false false (word ∷ (next ∷ words)) few space old h = absurd (omega arith)
