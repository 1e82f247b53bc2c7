-- Replies taken one by one stand by their positions, whatever stood there before. Assumes nothing.
use Prim.Native.Nat.{ℕ, ◌+◌, ◌≤◌}
use mathlib.Core.Path.{◌≡◌, refl}
use mathlib.Core.Bool.{Bool, true, false, cond}
use mathlib.Core.List.{List, [], ◌∷◌, ◌++◌}
use native.Mathlib.Omega.{arith}
use lib.Dec.{eqb, ltb}
use lib.ListN.{length}
use borrow.Author.Tests.{ne_eqb, eqb-true, eqb-false, lt-ltb, le-ltb, ltb-true, ltb-false}
use Rattle.adc_words.specs.declared.AdcWord.{AdcWord}
use Rattle.adc_words.specs.declared.AdcWords.{AdcWords}
use Rattle.adc_words.specs.Positions.{no_reply, none_arrived, with_reply, arrived, words_of}

-- past the six no reply has a place
past_six : (w : AdcWords) (k : ℕ) (a : AdcWord) → 6 ≤ k → with_reply w k a ≡ w
unfolding with_reply
past_six w k a h = rw (ne_eqb k 2 (λ e. omega arith), ne_eqb k 3 (λ e. omega arith), ne_eqb k 4 (λ e. omega arith), ne_eqb k 5 (λ e. omega arith))

pub one_more : (replies : List AdcWord) (a : AdcWord) → with_reply (words_of replies) (length replies) a ≡ words_of (replies ++ (a ∷ []))
unfolding with_reply
one_more [] a = refl
one_more (p ∷ []) a = refl
one_more (p ∷ q ∷ []) a = refl
one_more (p ∷ q ∷ r ∷ []) a = refl
one_more (p ∷ q ∷ r ∷ s ∷ []) a = refl
one_more (p ∷ q ∷ r ∷ s ∷ t ∷ []) a = refl
one_more (p ∷ q ∷ r ∷ s ∷ t ∷ u ∷ rest) a =
    past_six (words_of (p ∷ q ∷ r ∷ s ∷ t ∷ u ∷ rest)) (length (p ∷ q ∷ r ∷ s ∷ t ∷ u ∷ rest)) a (omega arith)

-- at a position, p replies having come before that reply
place : (p k : ℕ) (x a : AdcWord) → cond (ltb p (k + 1)) (cond (eqb k p) a x) no_reply ≡ cond (eqb k p) a (cond (ltb p k) x no_reply)
place p k x a = go (eqb k p) refl
  where
    go : (here : Bool) → eqb k p ≡ here → cond (ltb p (k + 1)) (cond here a x) no_reply ≡ cond here a (cond (ltb p k) x no_reply)
    go true e = rw (lt-ltb p (k + 1) (omega (arith, eqb-true k p e)))
    go false e = further (ltb p k) refl
      where
        further : (past : Bool) → ltb p k ≡ past → cond (ltb p (k + 1)) x no_reply ≡ cond past x no_reply
        further true f = rw (lt-ltb p (k + 1) (omega (arith, ltb-true p k f)))
        further false f = rw (le-ltb p (k + 1) (omega (arith, ltb-false p k f, eqb-false k p e)))

pub arrived_more : (w : AdcWords) (k : ℕ) (a : AdcWord) → arrived (with_reply w k a) (k + 1) ≡ with_reply (arrived w k) k a
unfolding arrived with_reply
arrived_more w k a =
    rw (place 2 k w.third a, place 3 k w.fourth a, place 4 k w.fifth a, place 5 k w.sixth a)

pub arrived_none : (w : AdcWords) → arrived w 0 ≡ none_arrived
unfolding arrived
arrived_none w = refl
