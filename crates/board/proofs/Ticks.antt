-- A tick goes from channel to channel, and reads no other channel. Assumes nothing.
use Prim.Native.Nat.{ℕ, zero, suc, ◌+◌, ◌-◌, ◌<◌}
use mathlib.Core.Path.{◌≡◌, refl, ap, ◌∙◌}
use mathlib.Core.List.{List}
use native.Mathlib.Omega.{arith}
use borrow.Author.Count.{below_more}
use Rattle.std.proofs.Common.{Option, None, add-one, length, get_or, set}
use Rattle.std.proofs.lemmas.List.{get_or-set_same, get_or-set_other}
use Rattle.channel_core.specs.Answers.{line_of}
use Rattle.channel_core.specs.Behaviour as core
use Rattle.channel_core.specs.State as channel
use Rattle.channel_core.specs.declared.Channel.{Channel}
use Rattle.board_state.specs.declared.Board.{Board}
use Rattle.board_state.specs.State.{with_channel_at}
use Rattle.board_state.specs.Parts.{own}
use Rattle.board_state.specs.Checks.{setpoint_size}
use Rattle.board.specs.Calls.{tick_channel, tick_frame}

-- after the ticks of channels 1 to k
abbrev pub ticked_up_to : Board → List ℕ → ℕ → Board
ticked_up_to b s zero = b
ticked_up_to b s (suc k) = with_channel_at (ticked_up_to b s k) (suc k) (tick_channel b s (suc k))

module _ (b : Board) (s : List ℕ) where
  -- a later channel ticks as on the board before
  abbrev Same : Board → ℕ → Type 0
  Same x j = (tick_channel x s j ≡ tick_channel b s j) × (tick_frame x s j ≡ tick_frame b s j)

  later : (k j : ℕ) → k < j → Same (ticked_up_to b s k) j
  unfolding tick_channel tick_frame
  later zero j h = (refl, refl)
  later (suc k) j h =
      let before : Same (ticked_up_to b s k) j = later k j (omega arith) in
      let x = ticked_up_to b s k in
      let e = get_or-set_other x.channels (suc k - 1) (j - 1) (tick_channel b s (suc k)) channel.opened (omega arith) in (
        ap (λ (c : Channel). core.tick_of c (own s (setpoint_size x) j) x.n x.user) e ∙ before.0,
        ap (λ (c : Channel). core.tick_answer c (own s (setpoint_size x) j) x.n x.user) e ∙ before.1,
      )

  pub tick_depth : (k : ℕ) → (ticked_up_to b s k).n ≡ b.n
  tick_depth zero = refl
  tick_depth (suc k) = tick_depth k

  pub next_channel : (k : ℕ) → with_channel_at (ticked_up_to b s k) (k + 1) (tick_channel (ticked_up_to b s k) s (k + 1)) ≡ ticked_up_to b s (k + 1)
  next_channel k = rw (add-one, (later k (suc k) (omega arith)).0) refl

  next_frame : (k : ℕ) → tick_frame (ticked_up_to b s k) s (k + 1) ≡ tick_frame b s (k + 1)
  next_frame k = rw add-one (later k (suc k) (omega arith)).1

  -- the frames of channels 1 to i, in a list
  abbrev pub Shown : List (Option ℕ) → ℕ → Type 0
  Shown frames i = (k : ℕ) → k < i → line_of (get_or frames k None) ≡ tick_frame b s (k + 1)

  pub show_one_more : (frames : List (Option ℕ)) (i : ℕ) (f : Option ℕ) → i < length frames → Shown frames i
      → line_of f ≡ tick_frame (ticked_up_to b s i) s (i + 1) → Shown (set frames i f) (i + 1)
  show_one_more frames i f room shown e =
      below_more (λ k. line_of (get_or (set frames i f) k None) ≡ tick_frame b s (k + 1)) i
      (λ k h. rw (get_or-set_other frames i k f None (omega arith)) (shown k h))
      (rw (get_or-set_same frames i f None room) (e ∙ next_frame i))
