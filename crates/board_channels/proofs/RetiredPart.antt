-- The part that the retired call gives is that of its answer: the words, or none where it is refused; the board refuses what
-- the channel does, and numbers that are no channel's. Assumes nothing.
use Prim.Native.Nat.{ℕ}
use mathlib.Core.Path.{◌≡◌, refl, sym, ap, ◌∙◌}
use mathlib.Core.Bool.{Bool, true, false, cond}
use mathlib.Core.List.{List, []}
use lib.ListN.{length}
use lib.Dec.{eqb}
use Rattle.channel_core.specs.Answers.{part, unless, part_of}
use Rattle.channel_core.proofs.Laws.{part_unless}
use Rattle.channel.specs.Calls as one
use Rattle.channel.proofs.Cases.{passed, then_passed}
use Rattle.board_state.specs.declared.Board.{Board}
use Rattle.board_state.specs.State.{channel_at}
use Rattle.board_state.specs.Checks.{no_channel}
use Rattle.board_channels.specs.Calls.{retired_refusal, retired_words, retired_answer}

-- the lengths `k` and `j` are those of the buffers
pub same_refusal : (b : Board) (number k j : ℕ) → no_channel number ≡ false → retired_refusal b number k j ≡ one.retired_refusal b.m k j
same_refusal b number k j named = go (eqb k b.m) refl (eqb j b.m) refl
  where
    go : (x : Bool) → eqb k b.m ≡ x → (y : Bool) → eqb j b.m ≡ y → retired_refusal b number k j ≡ one.retired_refusal b.m k j
    go true p true q = simp (p, q, named)
    go true p false q = simp (p, q)
    go false p y q = simp (p)

-- where the buffers and the number are passed, the number is a channel's
pub passed_channel : (b : Board) (number k j : ℕ) → retired_refusal b number k j ≡ 0 → no_channel number ≡ false
passed_channel b number k j e = (passed (no_channel number) 2 0 refl (then_passed (one.retired_refusal b.m k j) (cond (no_channel number) 2 0) e).1).0

-- a call that gives words of a channel by its number, and none where there is no such channel or that refuses
pub numbered_part : (number on_board by_itself : ℕ) (words : List ℕ) → (no_channel number ≡ false → on_board ≡ by_itself) → (eqb by_itself 0 ≡ false → words ≡ [])
    → part_of (unless on_board (part (cond (no_channel number) [] words))) ≡ cond (no_channel number) [] words
numbered_part number on_board by_itself words same none = part_unless on_board (cond (no_channel number) [] words) (go (no_channel number) refl)
  where
    go : (x : Bool) → no_channel number ≡ x → eqb on_board 0 ≡ false → cond x [] words ≡ []
    go true e r = refl
    go false e r = none (sym (ap (λ (k : ℕ). eqb k 0) (same e)) ∙ r)

pub retired_part_lem : (b : Board) (number : ℕ) (s t : List ℕ) → part_of (retired_answer b number s t) ≡ retired_words b number s t
unfolding retired_answer retired_words one.retired_words
retired_part_lem b number s t =
    numbered_part number (retired_refusal b number (length s) (length t)) (one.retired_refusal b.m (length s) (length t))
    (one.retired_words (channel_at b number) b.m s t) (same_refusal b number (length s) (length t)) (λ r. rw r)
