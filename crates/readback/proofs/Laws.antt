-- A full buffer takes no readback, and leaves the place for its end word; D25 of a stored word, and which one is an end word. Assumes nothing.
use Prim.Native.Nat.{ℕ, ◌+◌, ◌*◌, ◌/◌, ◌%◌, ◌^◌, ◌<◌, ◌≤◌}
use mathlib.Core.Path.{◌≡◌, refl, sym, ap, ◌∙◌}
use mathlib.Core.Bool.{Bool, true, false}
use mathlib.Core.List.{List}
use native.Mathlib.Omega.{arith}
use lib.ListN.{length, get_or}
use lib.Seq.{get_or-set_same}
use borrow.Author.Tests.{le-ltb}
use Rattle.status.specs.Bits.{bit_at, bit_of}
use Rattle.status.proofs.Words.{bit_small, bit_is}
use Rattle.sequencer.specs.declared.LastSend.{LastSend}
use Rattle.sequencer.specs.Runs.{unmarked}
use Rattle.readback.specs.declared.Readbacks.{Readbacks}
use Rattle.readback.specs.Storing.{capacity, stored_word, place_of, end_word, LikeEnd, end_words, kept_words}

pub full_no_readback : (r : Readbacks) (s : List ℕ) (second : Bool) (m word : ℕ) → capacity m ≤ r.stored → kept_words r s second m word ≡ s
full_no_readback r s second m word h = simp (le-ltb _ _ h)

-- full or not: the end word stands after the stored readbacks
pub end_after_stored : (r : Readbacks) (s : List ℕ) (second : Bool) (m : ℕ) → 1 ≤ m → length s ≡ m * 2 → r.stored ≤ capacity m
    → get_or (end_words r s second m) (place_of second m r.stored) 0 ≡ end_word
end_after_stored r s true m h l k = get_or-set_same s _ end_word 0 (omega arith)
end_after_stored r s false m h l k = get_or-set_same s _ end_word 0 (omega arith)

bit_unset : (b : Bool) → bit_of b ≡ 0 → b ≡ false
bit_unset true e = absurd (omega arith)
bit_unset false e = refl

bit_set : (b : Bool) → bit_of b ≡ 1 → b ≡ true
bit_set true e = refl
bit_set false e = absurd (omega arith)

module _ (l : LastSend) (user : ℕ) (wrong : Bool) (id word : ℕ) (short : id < 256) (narrow : word < 65536) where
  -- D25 of a stored word is set exactly where its send used a tag
  pub stored_tag : bit_at (stored_word l user wrong id word) 25 ≡ l.tagged
  unfolding stored_word
  stored_tag = bit_is (stored_word l user wrong id word / 2 ^ 25 % 2) l.tagged (omega (arith, bit_small l.tagged, bit_small wrong))

  -- its other bits are as they would be without
  pub tag_adds : l.tagged ≡ true → stored_word l user wrong id word ≡ stored_word (unmarked l) user wrong id word + 0x2000000
  unfolding stored_word
  tag_adds e = rw e (omega arith)

  -- a stored word is the end word exactly where it is tagged and all else in it is 0
  pub stored_end : (stored_word l user wrong id word ≡ end_word → LikeEnd l user wrong id word)
      × (LikeEnd l user wrong id word → stored_word l user wrong id word ≡ end_word)
  unfolding stored_word
  stored_end = (only, back)
    where
      only : stored_word l user wrong id word ≡ end_word → LikeEnd l user wrong id word
      only e =
          record {
            tagged = bit_set l.tagged (omega (arith, bit_small l.tagged, bit_small wrong));
            not_first = bit_unset l.first (omega arith);
            not_paused = bit_unset l.paused (omega arith);
            not_last = bit_unset l.last (omega arith);
            first_user = omega (arith, bit_small l.tagged, bit_small wrong);
            right = bit_unset wrong (omega (arith, bit_small l.tagged, bit_small wrong));
            id_0 = omega (arith, bit_small l.tagged, bit_small wrong);
            data_0 = omega (arith, bit_small l.tagged, bit_small wrong);
          }

      back : LikeEnd l user wrong id word → stored_word l user wrong id word ≡ end_word
      back h = rw (h.tagged, h.not_first, h.not_paused, h.not_last, h.first_user, h.right, h.id_0, h.data_0)

  -- so a word that is not tagged is none
  pub stored_no_end : l.tagged ≡ false → stored_word l user wrong id word ≡ end_word → ⊥
  stored_no_end none e = let z : bit_of true ≡ bit_of false = ap bit_of (sym (stored_end.0 e).tagged ∙ none) in omega arith
