-- Quiet ticks, of any state, words, depths and periods: each only counts down, and transmits nothing. Assumes nothing.
use Prim.Native.Nat.{ℕ, zero, suc, ◌-◌, ◌≤◌, ◌<◌, min}
use mathlib.Core.Path.{◌≡◌, refl, sym, ap, ◌∙◌}
use mathlib.Core.Bool.{Bool, true, false, cond}
use native.Mathlib.Omega.{arith}
use native.Mathlib.Nat.{sub-zero}
use lib.Dec.{eqb, leb}
use borrow.Author.Tests.{le-leb, lt-leb, leb-true, leb-false, eqb-true}
use Rattle.sequencer.specs.Playing.{ticked, ticked_at, sent_as, sent_next, repeated, advancing, repeating, resuming, quiet, with_left, with_resume}
use Rattle.channel_ticks.specs.Quiet.{quiet_at, quiet_ticks, after_quiet_at, after_quiet}
use Rattle.sequencer.specs.declared.Stage.{Stage}
use Rattle.sequencer.specs.declared.Stage.TheVariants as stage
use Rattle.sequencer.specs.declared.Sequencer.{Sequencer}
use Rattle.sequencer.specs.Transmissions.{Ticked}
use Rattle.channel_core.specs.Behaviour.{is_setpoint}

module _ (s : Sequencer) (due n p id : ℕ) where
  -- a countdown that is 2 or more goes down by 1
  advance_next : (k : ℕ) → k < s.left - 1 → advancing (with_left s (s.left - k)) due n p id ≡ quiet (with_left s (s.left - suc k))
  unfolding advancing
  advance_next k h =
      let d : s.left - k - 1 ≡ s.left - suc k = omega arith in
      simp (lt-leb (s.left - k) 1 (omega arith), d)

  repeat_next : (r k : ℕ) → k < s.left - 1
      → repeating (with_left (with_resume s r) (s.left - k)) p id ≡ quiet (with_left (with_resume s r) (s.left - suc k))
  unfolding repeating
  repeat_next r k h =
      let d : s.left - k - 1 ≡ s.left - suc k = omega arith in
      simp (lt-leb (s.left - k) 1 (omega arith), d)

  -- within a resume: its silent ticks, and its delay
  silent_next : (k : ℕ) → s.resume ≤ 10 → k < s.resume - 1
      → resuming (with_resume s (s.resume - k)) due n p id ≡ quiet (with_resume s (s.resume - suc k))
  unfolding resuming
  silent_next k few h =
      let d : s.resume - k - 1 ≡ s.resume - suc k = omega arith in
      simp (lt-leb (s.resume - k) 1 (omega arith), le-leb (s.resume - k) 10 (omega arith), d)

  delay_next : (k : ℕ) → k < min (s.left - 1) (s.resume - 10)
      → resuming (with_left (with_resume s (s.resume - k)) (s.left - k)) due n p id
      ≡ quiet (with_left (with_resume s (s.resume - suc k)) (s.left - suc k))
  unfolding resuming
  delay_next k h =
      let d : s.resume - k - 1 ≡ s.resume - suc k = omega arith in
      simp (lt-leb (s.resume - k) 1 (omega arith), lt-leb (s.resume - k) 10 (omega arith), d)
      (repeat_next (s.resume - suc k) k (omega arith))

  resume_next : (b : Bool) (k : ℕ) → leb s.resume 10 ≡ b → k < cond b (s.resume - 1) (min (s.left - 1) (s.resume - 10))
      → resuming (cond b (with_resume s (s.resume - k)) (with_left (with_resume s (s.resume - k)) (s.left - k))) due n p id
      ≡ quiet (cond b (with_resume s (s.resume - suc k)) (with_left (with_resume s (s.resume - suc k)) (s.left - suc k)))
  resume_next true k e h = silent_next k (leb-true s.resume 10 e) h
  resume_next false k e h = delay_next k h

  resume_stage : (b : Bool) (r l : ℕ) → (cond b (with_resume s r) (with_left (with_resume s r) l)).stage ≡ s.stage
  resume_stage true r l = refl
  resume_stage false r l = refl

  next_at : (g : Stage) → s.stage ≡ g → (k : ℕ) → k < quiet_at g s
      → ticked (after_quiet_at g s k) due n p id ≡ quiet (after_quiet_at g s (suc k))
  unfolding ticked
  next_at stage.Idle e k h = ap (λ (g : Stage). ticked_at g s due n p id) e
  next_at stage.Starting e k h =
      ap (λ (g : Stage). ticked_at g (with_left s (s.left - k)) due n p id) e ∙ advance_next k h
  next_at stage.Running e k h =
      ap (λ (g : Stage). ticked_at g (with_left s (s.left - k)) due n p id) e ∙ advance_next k h
  next_at (stage.Paused j) e k h =
      ap (λ (g : Stage). ticked_at g (with_left s (s.left - k)) due n p id) e ∙ repeat_next s.resume k h
  next_at stage.Resuming e k h =
      ap (λ (g : Stage). ticked_at g (after_quiet_at stage.Resuming s k) due n p id)
      (resume_stage (leb s.resume 10) (s.resume - k) (s.left - k) ∙ e)
      ∙ resume_next (leb s.resume 10) k refl h
  next_at stage.Ended e k h =
      ap (λ (g : Stage). ticked_at g (with_left s (s.left - k)) due n p id) e ∙ repeat_next s.resume k h

  -- After k quiet ticks, one more is quiet too and gives the state after k + 1 of them.
  pub quiet_next : (k : ℕ) → k < quiet_ticks s → ticked (after_quiet s k) due n p id ≡ quiet (after_quiet s (suc k))
  unfolding quiet_ticks after_quiet
  quiet_next k h = next_at s.stage refl k h

none_resume : (s : Sequencer) (b : Bool) → cond b (with_resume s (s.resume - 0)) (with_left (with_resume s (s.resume - 0)) (s.left - 0)) ≡ s
none_resume s true = simp sub-zero
none_resume s false = simp sub-zero

none_at : (g : Stage) (s : Sequencer) → after_quiet_at g s 0 ≡ s
none_at stage.Idle s = refl
none_at stage.Starting s = simp sub-zero
none_at stage.Running s = simp sub-zero
none_at (stage.Paused k) s = simp sub-zero
none_at stage.Resuming s = none_resume s (leb s.resume 10)
none_at stage.Ended s = simp sub-zero

pub quiet_none : (s : Sequencer) → after_quiet s 0 ≡ s
unfolding after_quiet
quiet_none s = none_at s.stage s

-- ---- The next tick sends exactly where none is quiet

pub ne_some : (k : ℕ) → eqb k 0 ≡ false → 0 < k
ne_some zero e = let z : ◌≡◌ {A = ℕ} 0 1 = cc in absurd (omega arith)
ne_some (suc k) e = omega arith

module _ (s : Sequencer) (due n p id : ℕ) where
  advance_sends : s.left - 1 ≡ 0 → is_setpoint (advancing s due n p id).transmission ≡ true
  unfolding advancing sent_next sent_as
  advance_sends h = rw (le-leb s.left 1 (omega arith))

  repeat_sends : (r : ℕ) → s.left - 1 ≡ 0 → is_setpoint (repeating (with_resume s r) p id).transmission ≡ true
  unfolding repeating repeated
  repeat_sends r h = rw (le-leb s.left 1 (omega arith))

  resume_sends : (b : Bool) → leb s.resume 10 ≡ b → cond b (s.resume - 1) (min (s.left - 1) (s.resume - 10)) ≡ 0
      → is_setpoint (resuming s due n p id).transmission ≡ true
  unfolding resuming sent_next sent_as
  resume_sends true e h = let f = leb-true s.resume 10 e in rw (le-leb s.resume 1 (omega arith))
  resume_sends false e h =
      let f = leb-false s.resume 10 e in
      rw (lt-leb s.resume 1 (omega arith), e) (repeat_sends (s.resume - 1) (omega arith))

  sends_at : (g : Stage) → s.stage ≡ g → quiet_at g s ≡ 0 → is_setpoint (ticked_at g s due n p id).transmission ≡ true
  sends_at stage.Idle e h = absurd (omega arith)
  sends_at stage.Starting e h = advance_sends h
  sends_at stage.Running e h = advance_sends h
  sends_at (stage.Paused k) e h = repeat_sends s.resume h
  sends_at stage.Resuming e h = resume_sends (leb s.resume 10) refl h
  sends_at stage.Ended e h = repeat_sends s.resume h

  pub sends_next_lem : eqb (quiet_ticks s) 0 ≡ is_setpoint (ticked s due n p id).transmission
  unfolding quiet_ticks ticked
  sends_next_lem = go (eqb (quiet_ticks s) 0) refl
    where
      go : (b : Bool) → eqb (quiet_ticks s) 0 ≡ b → b ≡ is_setpoint (ticked s due n p id).transmission
      go true e = sym (sends_at s.stage refl (eqb-true (quiet_ticks s) 0 e))
      go false e =
          let some : 0 < quiet_ticks s = ne_some (quiet_ticks s) e in
          sym (ap (λ (x : Ticked). is_setpoint x.transmission) (ap (λ (q : Sequencer). ticked q due n p id) (sym (quiet_none s)) ∙ quiet_next s due n p id 0 some))
