-- Ticks in a row of any board, on any memory: channel by channel they are the board's single ticks. Assumes nothing.
use Prim.Native.Nat.{ℕ, zero, suc, ◌≤◌}
use mathlib.Core.Path.{◌≡◌, refl, sym, ap, ◌∙◌}
use mathlib.Core.Bool.{Bool, true, false, cond}
use mathlib.Core.List.{List, [], ◌∷◌}
use native.Mathlib.Omega.{arith}
use lib.ListN.{length, get_or, set}
use Rattle.channel_core.specs.declared.Channel.{Channel}
use Rattle.channel_core.specs.Answers.{Answer}
use Rattle.channel_core.specs.State.{opened}
use Rattle.channel_core.specs.Behaviour.{advanced_of, tick_of, tick_answer}
use Rattle.channel_ticks.specs.Ticks.{ticks_of, answer_after, frames_at, with_frame}
use Rattle.channel_ticks.specs.Quiet as one
use Rattle.channel_ticks.proofs.TicksInRow as channel
use Rattle.sequencer.specs.Playing.{ticked}
use Rattle.command_frames.specs.Commanding as cmd
use Rattle.board_state.specs.declared.Board.{Board}
use Rattle.board_state.specs.State.{channel_at, with_channel_at, with_channels}
use Rattle.board_state.specs.Parts.{own}
use Rattle.board_state.specs.Checks.{setpoint_size, setpoints_fit, size_mismatch, no_channel}
use Rattle.board.specs.Answers as answers
use Rattle.board.specs.Calls.{tick_channel, tick_frame, tick_board, tick_board_answer}
use Rattle.board_ticks.specs.Ticks.{channel_ticks, channel_frames, channel_frames_at, ticks_board, ticks_frames, ticks_frames_at, quiet_ticks}

-- each channel moved by itself
abbrev four : List Channel → (ℕ → Channel → Channel) → List Channel
four cs f =
    set (set (set (set cs 0 (f 1 (get_or cs 0 opened))) 1 (f 2 (get_or cs 1 opened))) 2 (f 3 (get_or cs 2 opened))) 3 (f 4 (get_or cs 3 opened))

abbrev moved : Board → (ℕ → Channel → Channel) → Board
moved b f =
    with_channel_at (with_channel_at (with_channel_at (with_channel_at b 1 (f 1 (channel_at b 1))) 2 (f 2 (channel_at b 2))) 3 (f 3 (channel_at b 3))) 4
    (f 4 (channel_at b 4))

-- twice
four_twice : (cs : List Channel) (f g : ℕ → Channel → Channel) → four (four cs f) g ≡ four cs (λ j c. g j (f j c))
four_twice [] f g = refl
four_twice (c ∷ []) f g = refl
four_twice (c ∷ d ∷ []) f g = refl
four_twice (c ∷ d ∷ e ∷ []) f g = refl
four_twice (c ∷ d ∷ e ∷ i ∷ cs) f g = refl

-- left as they are
four_same : (cs : List Channel) → four cs (λ j c. c) ≡ cs
four_same [] = refl
four_same (c ∷ []) = refl
four_same (c ∷ d ∷ []) = refl
four_same (c ∷ d ∷ e ∷ []) = refl
four_same (c ∷ d ∷ e ∷ i ∷ cs) = refl

-- seen again, by what is looked at in each; where that stays of an opened one, so it does of the channel that stands for one past the end
module _ (f : ℕ → Channel → Channel) (look : ℕ → Channel → Answer) (still : (j : ℕ) → look j (f j opened) ≡ look j opened) where
  four_at : (cs : List Channel)
      → (look 1 (get_or (four cs f) 0 opened) ≡ look 1 (f 1 (get_or cs 0 opened)))
      × (look 2 (get_or (four cs f) 1 opened) ≡ look 2 (f 2 (get_or cs 1 opened)))
      × (look 3 (get_or (four cs f) 2 opened) ≡ look 3 (f 3 (get_or cs 2 opened)))
      × (look 4 (get_or (four cs f) 3 opened) ≡ look 4 (f 4 (get_or cs 3 opened)))
  four_at [] = (sym (still 1), sym (still 2), sym (still 3), sym (still 4))
  four_at (c ∷ []) = (refl, sym (still 2), sym (still 3), sym (still 4))
  four_at (c ∷ d ∷ []) = (refl, refl, sym (still 3), sym (still 4))
  four_at (c ∷ d ∷ e ∷ []) = (refl, refl, refl, sym (still 4))
  four_at (c ∷ d ∷ e ∷ i ∷ cs) = (refl, refl, refl, refl)

-- an opened channel is idle, and answers the same after any ticks
advanced_opened : (s : List ℕ) (n user k : ℕ) → channel.advanced s n user opened k ≡ opened
unfolding channel.advanced ticked cmd.ticked opened
advanced_opened s n user zero = refl
advanced_opened s n user (suc k) = ap (λ (c : Channel). advanced_of c s n user) (advanced_opened s n user k)

answer_opened : (s : List ℕ) (n user k : ℕ) → answer_after opened s n user k ≡ tick_answer opened s n user
answer_opened s n user k = channel.answer_is s n user opened k ∙ ap (λ (c : Channel). tick_answer c s n user) (advanced_opened s n user k)

module _ (b : Board) (s : List ℕ) where
  -- A tick that is refused changes nothing.
  pub tick_refused : setpoints_fit b (length s) ≡ false → (tick_board b s ≡ b) × (tick_board_answer b s ≡ answers.one size_mismatch)
  unfolding tick_board tick_board_answer
  tick_refused h = (rw h, rw h)

  pub ticks_none : ticks_board b s 0 ≡ b
  unfolding ticks_board channel_ticks ticks_of
  ticks_none = go (setpoints_fit b (length s))
    where
      go : (t : Bool) → cond t (moved b (λ j c. c)) b ≡ b
      go true = ap (with_channels b) (four_same b.channels)
      go false = refl

  -- what the tick after k ticks answers of a channel
  abbrev pub answer_of : ℕ → ℕ → Answer
  answer_of number k = answer_after (channel_at b number) (own s (setpoint_size b) number) b.n b.user k

  module _ (fit : setpoints_fit b (length s) ≡ true) where
    -- Ticks in a row, channel by channel, are the board's.
    pub ticks_next : (k : ℕ) → tick_board (ticks_board b s k) s ≡ ticks_board b s (suc k)
    unfolding ticks_board channel_ticks ticks_of tick_board tick_channel
    ticks_next k =
        rw fit
        (rw fit
        (ap (with_channels b)
        (four_twice b.channels (λ j c. ticks_of c (own s (setpoint_size b) j) b.n b.user k)
        (λ j c. tick_of c (own s (setpoint_size b) j) b.n b.user))))

    -- So is what they answer.
    pub ticks_answer : (k : ℕ) → tick_board_answer (ticks_board b s k) s ≡ answers.each (answer_of 1 k) (answer_of 2 k) (answer_of 3 k) (answer_of 4 k)
    unfolding ticks_board channel_ticks tick_board_answer tick_frame
    ticks_answer k =
        let a = four_at (λ j c. ticks_of c (own s (setpoint_size b) j) b.n b.user k)
        (λ j c. tick_answer c (own s (setpoint_size b) j) b.n b.user)
        (λ j. answer_opened (own s (setpoint_size b) j) b.n b.user k) b.channels in
        rw fit (rw fit (simp (a.0, a.1, a.2, a.3)))

    -- Each frame of a channel's list is the one that the tick of that place answered.
    pub frames_next : (number : ℕ) → no_channel number ≡ false → (k : ℕ) (l : List ℕ)
        → ticks_frames_at b s number (suc k) l ≡ with_frame (answer_of number k) k (ticks_frames_at b s number k l)
    unfolding ticks_frames_at channel_frames_at frames_at
    frames_next number h k l = rw (h, fit)

  frames_none : (number k : ℕ) → k ≤ one.channel_quiet_ticks (channel_at b number) → ticks_frames b s number k ≡ 0
  unfolding ticks_frames channel_frames
  frames_none number k h = go (setpoints_fit b (length s))
    where
      go : (t : Bool) → cond t (channel_frames b s number k) 0 ≡ 0
      go true = (channel.quiet_run (own s (setpoint_size b) number) b.n b.user (channel_at b number) k h).1
      go false = refl

  -- As many ticks as are quiet answer no frame of any channel.
  pub quiet_run : (k : ℕ) → k ≤ quiet_ticks b
      → (ticks_frames b s 1 k ≡ 0) × (ticks_frames b s 2 k ≡ 0) × (ticks_frames b s 3 k ≡ 0) × (ticks_frames b s 4 k ≡ 0)
  unfolding quiet_ticks
  quiet_run k h = (frames_none 1 k (omega arith), frames_none 2 k (omega arith), frames_none 3 k (omega arith), frames_none 4 k (omega arith))
