-- One tick by the stage, ticks in a row, and the two general laws: a silent countdown, and a word repeated on its beat. Assumes nothing.
use Prim.Native.Nat.{ℕ, zero, suc, ◌+◌, ◌*◌, ◌-◌, ◌≤◌, ◌<◌}
use mathlib.Core.Path.{◌≡◌, refl, sym, ap, subst, ◌∙◌}
use mathlib.Core.Bool.{Bool, true, false, cond}
use native.Mathlib.Omega.{arith}
use native.Mathlib.Nat.{add-zero, add-suc, suc-mul}
use lib.Dec.{leb}
use borrow.Author.Tests.{le-leb, lt-leb}
use Rattle.sequencer.specs.Playing.{ticked, ticked_at, advancing, repeating, resuming, sent_next, sent_as, repeated, quiet, with_left, with_resume}
use Rattle.sequencer.specs.Runs.{next, ticks, sends, again, advances, holds, Beat, Repeats, Leaves}
use Rattle.sequencer.specs.declared.Stage.{Stage}
use Rattle.sequencer.specs.declared.Stage.TheVariants as stage
use Rattle.sequencer.specs.declared.Sequencer.{Sequencer}
use Rattle.sequencer.specs.Transmissions as transmission
use Rattle.sequencer.specs.Transmissions.{Ticked}

clash : {A : Type 0} → false ≡ true → A
clash e = absurd (let z : ◌≡◌ {A = ℕ} 0 1 = cc in omega arith)

advances_at : (g : Stage) (s : Sequencer) (due n p id : ℕ) → advances g ≡ true → ticked_at g s due n p id ≡ advancing s due n p id
advances_at stage.Idle s due n p id h = clash h
advances_at stage.Starting s due n p id h = refl
advances_at stage.Running s due n p id h = refl
advances_at (stage.Paused k) s due n p id h = clash h
advances_at stage.Resuming s due n p id h = clash h
advances_at stage.Ended s due n p id h = clash h

holds_at : (g : Stage) (s : Sequencer) (due n p id : ℕ) → holds g ≡ true → ticked_at g s due n p id ≡ repeating s p id
holds_at stage.Idle s due n p id h = clash h
holds_at stage.Starting s due n p id h = clash h
holds_at stage.Running s due n p id h = clash h
holds_at (stage.Paused k) s due n p id h = refl
holds_at stage.Resuming s due n p id h = clash h
holds_at stage.Ended s due n p id h = refl

-- what a repeat leaves
pub record Same (a b : Sequencer) : Type 0 where
  pub stage_same : b.stage ≡ a.stage
  pub resume_same : b.resume ≡ a.resume
  pub index_same : b.index ≡ a.index
  pub word_same : b.word ≡ a.word

repeat_same : (s : Sequencer) (p id : ℕ) (e : Bool) → Same s (cond e (repeated s p id) (quiet (with_left s (s.left - 1)))).sequencer
unfolding repeated
repeat_same s p id true = record { stage_same = refl; resume_same = refl; index_same = refl; word_same = refl }
repeat_same s p id false = record { stage_same = refl; resume_same = refl; index_same = refl; word_same = refl }

pub repeating_same : (s : Sequencer) (p id : ℕ) → Same s (repeating s p id).sequencer
unfolding repeating
repeating_same s p id = repeat_same s p id (leb s.left 1)

pub repeating_now : (s : Sequencer) (p id : ℕ) → s.left ≡ 1
    → ((repeating s p id).transmission ≡ again s.word) × ((repeating s p id).sequencer.left ≡ p)
unfolding repeating repeated
repeating_now s p id e = let h : leb s.left 1 ≡ true = le-leb s.left 1 (omega arith) in (rw h, rw h)

pub repeating_wait : (s : Sequencer) (p id l : ℕ) → s.left ≡ suc l → 1 ≤ l
    → ((repeating s p id).transmission ≡ transmission.Nothing) × ((repeating s p id).sequencer.left ≡ l)
unfolding repeating
repeating_wait s p id l e some =
    let h : leb s.left 1 ≡ false = lt-leb s.left 1 (omega arith) in
    (rw h, rw h (omega arith))

-- the beat of tick 1 is, one tick on, that of a whole period
beat_after : (p j : ℕ) → Beat 1 p (suc (suc j)) → 1 ≤ p → Beat p p (suc j)
beat_after p j x some = go x.0 x.1
  where
    go : (r : ℕ) → suc (suc j) ≡ 1 + r * p → Beat p p (suc j)
    go zero e = absurd (omega arith)
    go (suc r) e = (r, omega (arith, suc-mul r p))

beat_before : (p j : ℕ) → Beat p p (suc j) → Beat 1 p (suc (suc j))
beat_before p j x = (suc x.0, omega (arith, x.1, suc-mul x.0 p))

module _ (words : ℕ → ℕ) (n p id : ℕ) where
  pub advances_wait : (s : Sequencer) → advances s.stage ≡ true → (j : ℕ) → 1 ≤ j
      → next words n p id (with_left s (suc j)) ≡ quiet (with_left s j)
  unfolding ticked advancing
  advances_wait s h j some =
      advances_at s.stage (with_left s (suc j)) (words s.index) n p id h
      ∙ (let e : suc j - 1 ≡ j = omega arith in simp (lt-leb (suc j) 1 (omega arith), e))

  pub advances_send : (s : Sequencer) → advances s.stage ≡ true
      → next words n p id (with_left s 1) ≡ sent_next s (words s.index) n p id
  unfolding ticked advancing sent_next sent_as
  advances_send s h = advances_at s.stage (with_left s 1) (words s.index) n p id h

  pub resume_wait : (s : Sequencer) → s.stage ≡ stage.Resuming → (j : ℕ) → 1 ≤ j → j < 10
      → next words n p id (with_resume s (suc j)) ≡ quiet (with_resume s j)
  unfolding ticked resuming
  resume_wait s h j some few =
      ap (λ (g : Stage). ticked_at g (with_resume s (suc j)) (words s.index) n p id) h
      ∙ (let e : suc j - 1 ≡ j = omega arith in simp (lt-leb (suc j) 1 (omega arith), le-leb (suc j) 10 (omega arith), e))

  pub resume_send : (s : Sequencer) → s.stage ≡ stage.Resuming
      → next words n p id (with_resume s 1) ≡ sent_next s (words s.index) n p id
  unfolding ticked resuming sent_next sent_as
  resume_send s h = ap (λ (g : Stage). ticked_at g (with_resume s 1) (words s.index) n p id) h

  pub hold_turn : (s : Sequencer) → holds s.stage ≡ true → next words n p id s ≡ repeating s p id
  unfolding ticked
  hold_turn s h = holds_at s.stage s (words s.index) n p id h

  pub resume_turn : (s : Sequencer) (r : ℕ) → s.stage ≡ stage.Resuming → s.resume ≡ suc r → 10 ≤ r
      → next words n p id s ≡ repeating (with_resume s r) p id
  unfolding ticked resuming
  resume_turn s r h e many =
      ap (λ (g : Stage). ticked_at g s (words s.index) n p id) h
      ∙ (let d : s.resume - 1 ≡ r = omega arith in
      simp (lt-leb s.resume 1 (omega arith), lt-leb s.resume 10 (omega arith), d))

  -- ticks in a row, cut in two
  pub ticks_add : (s : Sequencer) (a b : ℕ) → ticks words n p id s (a + b) ≡ ticks words n p id (ticks words n p id s a) b
  unfolding ticks
  ticks_add s a zero = ap (ticks words n p id s) (add-zero a)
  ticks_add s a (suc b) =
      ap (ticks words n p id s) (add-suc a b)
      ∙ ap (λ (t : Sequencer). (next words n p id t).sequencer) (ticks_add s a b)

  pub sends_add : (s : Sequencer) (a b : ℕ) → 1 ≤ b → sends words n p id s (a + b) ≡ sends words n p id (ticks words n p id s a) b
  unfolding sends
  sends_add s a zero h = absurd (omega arith)
  sends_add s a (suc b) h =
      ap (sends words n p id s) (add-suc a b)
      ∙ ap (λ (t : Sequencer). (next words n p id t).transmission) (ticks_add s a b)

  -- the first tick apart
  ticks_front : (s : Sequencer) (k : ℕ) → ticks words n p id (next words n p id s).sequencer k ≡ ticks words n p id s (suc k)
  unfolding ticks
  ticks_front s k = sym (ticks_add s 1 k) ∙ ap (ticks words n p id s) (let e : 1 + k ≡ suc k = omega arith in e)

  sends_front : (s : Sequencer) (k : ℕ) → sends words n p id s (suc (suc k)) ≡ sends words n p id (next words n p id s).sequencer (suc k)
  unfolding sends
  sends_front s k = ap (λ (t : Sequencer). (next words n p id t).transmission) (sym (ticks_front s k))

  -- a silent countdown: one tick takes each of its sequencers but the first to the one before, and transmits nothing
  module _ (u : ℕ → Sequencer) (m : ℕ) (down : (j : ℕ) → 1 ≤ j → j < m → next words n p id (u (suc j)) ≡ quiet (u j)) where
    reaches : (j i : ℕ) → 1 ≤ i → j + i ≤ m → ticks words n p id (u (j + i)) j ≡ u i
    unfolding ticks
    reaches zero i h k = ap u (omega arith)
    reaches (suc j) i h k =
        ap (λ (x : ℕ). (next words n p id (ticks words n p id (u x) j)).sequencer) (omega arith)
        ∙ ap (λ (t : Sequencer). (next words n p id t).sequencer) (reaches j (suc i) (omega arith) (omega arith))
        ∙ ap (λ (t : Ticked). t.sequencer) (down i h (omega arith))

    waits : (j i : ℕ) → 1 ≤ i → m ≡ j + i → ticks words n p id (u m) j ≡ u i
    waits j i h e = ap (λ (x : ℕ). ticks words n p id (u x) j) e ∙ reaches j i h (omega arith)

    silent : (j : ℕ) → j < m → sends words n p id (u m) j ≡ transmission.Nothing
    unfolding sends
    silent zero h = refl
    silent (suc j) h =
        ap (λ (t : Sequencer). (next words n p id t).transmission) (waits j (suc (m - suc j)) (omega arith) (omega arith))
        ∙ ap (λ (t : Ticked). t.transmission) (down (m - suc j) (omega arith) (omega arith))

    -- and the last of them sends the word due
    pub leaves : (s : Sequencer) → ((j : ℕ) → (u j).index ≡ s.index) → 1 ≤ m
        → next words n p id (u 1) ≡ sent_next s (words s.index) n p id → Leaves words n p id (u m) m s.index
    unfolding ticks sends sent_next sent_as
    leaves s same some e =
        let end : m ≡ suc (m - 1) = omega arith in
        let last : next words n p id (ticks words n p id (u m) (m - 1)) ≡ sent_next s (words s.index) n p id
        = ap (next words n p id) (waits (m - 1) 1 (omega arith) (omega arith)) ∙ e in
        let rest : ticks words n p id (u m) m ≡ (sent_next s (words s.index) n p id).sequencer
        = ap (ticks words n p id (u m)) end ∙ ap (λ (t : Ticked). t.sequencer) last in
        record {
          silent = silent;
          due = λ j less. ap (λ (t : Sequencer). t.index) (waits j (m - j) (omega arith) (omega arith)) ∙ same (m - j);
          sent = ap (sends words n p id (u m)) end ∙ ap (λ (t : Ticked). t.transmission) last;
          after = record {
            stage_is = ap (λ (t : Sequencer). t.stage) rest;
            left_is = ap (λ (t : Sequencer). t.left) rest;
            index_is = ap (λ (t : Sequencer). t.index) rest;
            word_is = ap (λ (t : Sequencer). t.word) rest;
          };
        }

  -- a word repeated on its beat: in stage g, with r m for the resume count while m more ticks are sure to repeat
  module _ (g : Stage) (r : ℕ → ℕ)
      (turn : (m : ℕ) (t : Sequencer) → t.stage ≡ g → t.resume ≡ r (suc m)
      → next words n p id t ≡ repeating (with_resume t (r m)) p id)
      (some : 1 ≤ p) where
    pub record Kept (m i w : ℕ) (t : Sequencer) : Type 0 where
      pub stage_kept : t.stage ≡ g
      pub resume_kept : t.resume ≡ r m
      pub index_kept : t.index ≡ i
      pub word_kept : t.word ≡ w

    kept_on : (m i w : ℕ) (t : Sequencer) → Kept (suc m) i w t → Kept m i w (next words n p id t).sequencer
    kept_on m i w t k =
        let e = turn m t k.stage_kept k.resume_kept in
        let v = repeating_same (with_resume t (r m)) p id in
        record {
          stage_kept = ap (λ (x : Ticked). x.sequencer.stage) e ∙ v.stage_same ∙ k.stage_kept;
          resume_kept = ap (λ (x : Ticked). x.sequencer.resume) e ∙ v.resume_same;
          index_kept = ap (λ (x : Ticked). x.sequencer.index) e ∙ v.index_same ∙ k.index_kept;
          word_kept = ap (λ (x : Ticked). x.sequencer.word) e ∙ v.word_same ∙ k.word_kept;
        }

    -- it goes on to the last of those ticks
    pub kept_to : (m i w : ℕ) (t : Sequencer) → Kept m i w t → Kept 0 i w (ticks words n p id t m)
    unfolding ticks
    kept_to zero i w t k = k
    kept_to (suc m) i w t k =
        subst (λ (x : Sequencer). Kept 0 i w x) (ticks_front t m) (kept_to m i w (next words n p id t).sequencer (kept_on m i w t k))

    now : (m i w : ℕ) (t : Sequencer) → Kept (suc m) i w t → t.left ≡ 1
        → ((next words n p id t).transmission ≡ again w) × ((next words n p id t).sequencer.left ≡ p)
    now m i w t k e =
        let f = turn m t k.stage_kept k.resume_kept in
        let v = repeating_now (with_resume t (r m)) p id e in
        (ap (λ (x : Ticked). x.transmission) f ∙ v.0 ∙ ap again k.word_kept, ap (λ (x : Ticked). x.sequencer.left) f ∙ v.1)

    later : (m i w l : ℕ) (t : Sequencer) → Kept (suc m) i w t → t.left ≡ suc l → 1 ≤ l
        → ((next words n p id t).transmission ≡ transmission.Nothing) × ((next words n p id t).sequencer.left ≡ l)
    later m i w l t k e h =
        let f = turn m t k.stage_kept k.resume_kept in
        let v = repeating_wait (with_resume t (r m)) p id l e h in
        (ap (λ (x : Ticked). x.transmission) f ∙ v.0, ap (λ (x : Ticked). x.sequencer.left) f ∙ v.1)

    pub repeats : (j m l i w : ℕ) (t : Sequencer) → Kept m i w t → t.left ≡ l → 1 ≤ l → j ≤ m
        → Repeats w l p j (sends words n p id t j)
    unfolding sends ticks
    repeats zero m l i w t k e h b = record { on = λ (x : Beat l p 0). absurd (omega (arith, x.1)); off = λ none. refl }
    repeats (suc j) zero l i w t k e h b = absurd (omega arith)
    repeats (suc j) (suc m) zero i w t k e h b = absurd (omega arith)
    repeats (suc zero) (suc m) (suc zero) i w t k e h b =
        record { on = λ x. (now m i w t k e).0; off = λ none. absurd (none (0, omega arith)) }
    repeats (suc zero) (suc m) (suc (suc l)) i w t k e h b =
        record {
          on = λ (x : Beat (suc (suc l)) p 1). absurd (omega (arith, x.1));
          off = λ none. (later m i w (suc l) t k e (omega arith)).0;
        }
    repeats (suc (suc j)) (suc m) (suc zero) i w t k e h b =
        let q = repeats (suc j) m p i w (next words n p id t).sequencer (kept_on m i w t k) (now m i w t k e).1 some (omega arith) in
        record {
          on = λ x. sends_front t j ∙ q.on (beat_after p j x some);
          off = λ none. sends_front t j ∙ q.off (λ x. none (beat_before p j x));
        }
    repeats (suc (suc j)) (suc m) (suc (suc l)) i w t k e h b =
        let q = repeats (suc j) m (suc l) i w (next words n p id t).sequencer (kept_on m i w t k)
        (later m i w (suc l) t k e (omega arith)).1 (omega arith) (omega arith) in
        record {
          on = λ (x : Beat (suc (suc l)) p (suc (suc j))). sends_front t j ∙ q.on (x.0, omega (arith, x.1));
          off = λ none. sends_front t j ∙ q.off (λ (x : Beat (suc l) p (suc j)). none (x.0, omega (arith, x.1)));
        }
