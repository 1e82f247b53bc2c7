-- Ticks in a row are the definition's single ticks, one after the other, and so are their answers counted. Assumes nothing.
use Prim.Native.Nat.{ℕ, zero, suc}
use mathlib.Core.Path.{◌≡◌, refl, sym, ap, ◌∙◌}
use mathlib.Core.Bool.{Bool, true, false}
use mathlib.Core.List.{List, [], ◌∷◌, ◌++◌}
use lib.ListN.{length}
use native.Mathlib.Numerals.{add-one}
use Rattle.channel_ticks.specs.Ticks.{frames_in}
use Rattle.board_state.specs.declared.Board.{Board}
use Rattle.board.specs.Answers.{BoardAnswer}
use Rattle.board_state.specs.Checks.{setpoints_fit}
use Rattle.board.specs.Calls.{tick_board, tick_board_answer}
use Rattle.board_ticks.specs.Ticks.{channel_frames, ticks_frames, ticks_board, ticks_refused}
use Rattle.board_ticks.proofs.TicksInRow.{tick_refused, ticks_none, ticks_next, ticks_answer}
use Rattle.tally.specs.declared.Counts.{Counts}
use Rattle.tally.specs.Tallies.{tally, tallies, tally_ticks}
use Rattle.tally.proofs.TicksCounted.{tally_none, tally_refused, tally_each}
use Rattle.replay.specs.Worlds.{ticked, tick_answers}

tallies_append : (c : Counts) (xs ys : List BoardAnswer) → tallies c (xs ++ ys) ≡ tallies (tallies c xs) ys
unfolding tallies
tallies_append c [] ys = refl
tallies_append c (x ∷ xs) ys = tallies_append (tally c x) xs ys

tallies_one : (c : Counts) (x : BoardAnswer) → tallies c (x ∷ []) ≡ tally c x
unfolding tallies
tallies_one c x = refl

module _ (b : Board) (s : List ℕ) where
  -- one more tick
  board_next : (k : ℕ) {x y : Board} → ticked b s k ≡ x → tick_board x s ≡ y → ticked b s (suc k) ≡ y
  unfolding ticked
  board_next k e f = ap (λ (x : Board). tick_board x s) e ∙ f

  counts_next : (c : Counts) (k : ℕ) {x : Board} {a : BoardAnswer} {d : Counts} → ticked b s k ≡ x → tick_board_answer x s ≡ a
      → tallies c (tick_answers b s k) ≡ d → tallies c (tick_answers b s (suc k)) ≡ tally d a
  unfolding tick_answers
  counts_next c k e f g = rw (tallies_append, tallies_one) (simp (g, ap (λ (x : Board). tick_board_answer x s) e ∙ f))

  refused_board : setpoints_fit b (length s) ≡ false → (k : ℕ) → ticks_board b s k ≡ b
  unfolding ticks_board
  refused_board h k = rw h

  ticks_board_by : (t : Bool) → setpoints_fit b (length s) ≡ t → (k : ℕ) → ticked b s k ≡ ticks_board b s k
  unfolding ticked
  ticks_board_by t h zero = sym (ticks_none b s)
  ticks_board_by true h (suc k) = board_next k (ticks_board_by true h k) (ticks_next b s h k)
  ticks_board_by false h (suc k) =
      board_next k (ticks_board_by false h k ∙ refused_board h k) (tick_refused b s h).0 ∙ sym (refused_board h (suc k))

  -- Each channel's ticks by itself are the board's ticks.
  pub ticks_board_lem : (k : ℕ) → ticked b s k ≡ ticks_board b s k
  ticks_board_lem k = ticks_board_by (setpoints_fit b (length s)) refl k

  counts_refused : setpoints_fit b (length s) ≡ false → (c : Counts) (k : ℕ) → tallies c (tick_answers b s k) ≡ tally_ticks c k 0 0 0 0
  unfolding tick_answers tallies
  counts_refused h c zero = sym (tally_none c)
  counts_refused h c (suc k) =
      counts_next c k (ticks_board_lem k ∙ refused_board h k) (tick_refused b s h).1 (counts_refused h c k)
      ∙ tally_refused c k 0 0 0 0 _
      ∙ ap (λ (r : ℕ). tally_ticks c r 0 0 0 0) (add-one k)

  counts_taken : setpoints_fit b (length s) ≡ true → (c : Counts) (k : ℕ)
      → tallies c (tick_answers b s k)
      ≡ tally_ticks c 0 (ticks_frames b s 1 k) (ticks_frames b s 2 k) (ticks_frames b s 3 k) (ticks_frames b s 4 k)
  unfolding tick_answers tallies ticks_frames channel_frames frames_in
  counts_taken h c zero = rw h (sym (tally_none c))
  counts_taken h c (suc k) =
      counts_next c k (ticks_board_lem k) (ticks_answer b s h k) (counts_taken h c k)
      ∙ tally_each c 0 (ticks_frames b s 1 k) (ticks_frames b s 2 k) (ticks_frames b s 3 k) (ticks_frames b s 4 k) _ _ _ _
      ∙ rw h

  -- What they answer, counted by channel, is their answers counted in order.
  pub ticks_counts : (c : Counts) (k : ℕ)
      → tallies c (tick_answers b s k)
      ≡ tally_ticks c (ticks_refused b s k) (ticks_frames b s 1 k) (ticks_frames b s 2 k) (ticks_frames b s 3 k) (ticks_frames b s 4 k)
  unfolding ticks_refused ticks_frames
  ticks_counts c k = go (setpoints_fit b (length s)) refl
    where
      go : (t : Bool) → setpoints_fit b (length s) ≡ t
          → tallies c (tick_answers b s k)
          ≡ tally_ticks c (ticks_refused b s k) (ticks_frames b s 1 k) (ticks_frames b s 2 k) (ticks_frames b s 3 k) (ticks_frames b s 4 k)
      go true h = counts_taken h c k ∙ rw h
      go false h = counts_refused h c k ∙ rw h
