-- Ticks in a row go from channel to channel, and read no other channel. Assumes nothing.
use Prim.Native.Nat.{ℕ, zero, suc, ◌+◌, ◌-◌, ◌<◌}
use mathlib.Core.Path.{◌≡◌, refl, ap, ◌∙◌}
use mathlib.Core.List.{List, [], ◌∷◌}
use native.Mathlib.Omega.{arith}
use borrow.Author.Count.{below_more}
use Rattle.std.proofs.Common.{add-one, length, get_or, set}
use Rattle.std.proofs.lemmas.List.{get_or-set_same, get_or-set_other}
use Rattle.channel_core.specs.State as channel
use Rattle.channel_core.specs.declared.Channel.{Channel}
use Rattle.channel_ticks.specs.Ticks.{ticks_of, frames_in}
use Rattle.board_state.specs.declared.Board.{Board}
use Rattle.board_state.specs.State.{with_channel_at}
use Rattle.board_state.specs.Parts.{own}
use Rattle.board_state.specs.Checks.{setpoint_size}
use Rattle.board_ticks.specs.Ticks.{channel_ticks, channel_frames}

-- after so many ticks of channels 1 to k
abbrev pub ticked_up_to : Board → List ℕ → (count : ℕ) → ℕ → Board
ticked_up_to b s count zero = b
ticked_up_to b s count (suc k) = with_channel_at (ticked_up_to b s count k) (suc k) (channel_ticks b s (suc k) count)

module _ (b : Board) (s : List ℕ) (count : ℕ) where
  -- a later channel ticks as on the board before
  abbrev Same : Board → ℕ → Type 0
  Same x j = (channel_ticks x s j count ≡ channel_ticks b s j count) × (channel_frames x s j count ≡ channel_frames b s j count)

  later : (k j : ℕ) → k < j → Same (ticked_up_to b s count k) j
  unfolding channel_ticks channel_frames
  later zero j h = (refl, refl)
  later (suc k) j h =
      let before : Same (ticked_up_to b s count k) j = later k j (omega arith) in
      let x = ticked_up_to b s count k in
      let e = get_or-set_other x.channels (suc k - 1) (j - 1) (channel_ticks b s (suc k) count) channel.opened (omega arith) in (
        ap (λ (c : Channel). ticks_of c (own s (setpoint_size x) j) x.n x.user count) e ∙ before.0,
        ap (λ (c : Channel). frames_in c (own s (setpoint_size x) j) x.n x.user count) e ∙ before.1,
      )

  pub depth : (k : ℕ) → (ticked_up_to b s count k).n ≡ b.n
  depth zero = refl
  depth (suc k) = depth k

  pub next_channel : (k : ℕ)
      → with_channel_at (ticked_up_to b s count k) (k + 1) (channel_ticks (ticked_up_to b s count k) s (k + 1) count) ≡ ticked_up_to b s count (k + 1)
  next_channel k = rw (add-one, (later k (suc k) (omega arith)).0) refl

  next_frames : (k : ℕ) → channel_frames (ticked_up_to b s count k) s (k + 1) count ≡ channel_frames b s (k + 1) count
  next_frames k = rw add-one (later k (suc k) (omega arith)).1

  -- the numbers of frames of channels 1 to i, in a list
  abbrev pub Counted : List ℕ → ℕ → Type 0
  Counted frames i = (k : ℕ) → k < i → get_or frames k 0 ≡ channel_frames b s (k + 1) count

  pub count_one_more : (frames : List ℕ) (i f : ℕ) → i < length frames → Counted frames i
      → f ≡ channel_frames (ticked_up_to b s count i) s (i + 1) count → Counted (set frames i f) (i + 1)
  count_one_more frames i f room counted e =
      below_more (λ k. get_or (set frames i f) k 0 ≡ channel_frames b s (k + 1) count) i
      (λ k h. rw (get_or-set_other frames i k f 0 (omega arith)) (counted k h))
      (rw (get_or-set_same frames i f 0 room) (e ∙ next_frames i))

  -- those of all four
  pub all_counted : (frames : List ℕ) → length frames ≡ 4 → Counted frames 4
      → frames ≡ channel_frames b s 1 count ∷ channel_frames b s 2 count ∷ channel_frames b s 3 count ∷ channel_frames b s 4 count ∷ []
  all_counted [] h counted = absurd (omega arith)
  all_counted (x ∷ []) h counted = absurd (omega arith)
  all_counted (x ∷ y ∷ []) h counted = absurd (omega arith)
  all_counted (x ∷ y ∷ z ∷ []) h counted = absurd (omega arith)
  all_counted (x ∷ y ∷ z ∷ w ∷ []) h counted =
      rw (counted 0 (omega arith), counted 1 (omega arith), counted 2 (omega arith), counted 3 (omega arith)) refl
  all_counted (x ∷ y ∷ z ∷ w ∷ v ∷ rest) h counted = absurd (omega arith)
