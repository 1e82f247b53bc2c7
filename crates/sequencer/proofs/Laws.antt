-- Laws of ticks in a row, for any state, words, depth and period unless said: when which word leaves, and how often. Assumes nothing.
use Prim.Native.Nat.{ℕ, zero, suc, ◌+◌, ◌*◌, ◌-◌, ◌≤◌, ◌<◌, min}
use mathlib.Core.Path.{◌≡◌, refl, sym, ap, subst, subst₂, ◌∙◌}
use mathlib.Core.Bool.{true}
use native.Mathlib.Omega.{arith}
use native.Mathlib.Nat.{suc-mul}
use Rattle.sequencer.specs.Words.{stage_after, index_after}
use Rattle.sequencer.specs.Playing.{started, loaded_resume, resumed, with_left, with_resume, repeating}
use Rattle.sequencer.specs.Runs.{next, ticks, sends, kind_at, first_send, JustSent, Leaves, Repeats, advances, holds, sent_by}
use Rattle.sequencer.specs.declared.Kind.{Kind}
use Rattle.sequencer.specs.declared.Kind.TheVariants as kind
use Rattle.sequencer.specs.declared.Stage.TheVariants as stage
use Rattle.sequencer.specs.declared.Sequencer.{Sequencer}
use Rattle.sequencer.specs.Transmissions as transmission
use Rattle.sequencer.proofs.Steps as steps
use Rattle.sequencer.proofs.Moves.{resume_taken, moved, counted_with}

holds_after : (k : Kind) → (k ≡ kind.Plain → ⊥) → holds (stage_after k) ≡ true
holds_after kind.Plain h = absurd (h refl)
holds_after (kind.Pause k) h = refl
holds_after kind.Last h = refl

module _ (words : ℕ → ℕ) (n p id : ℕ) where
  -- 1. Starting or running, the word due leaves on the tick that brings the count to 0, and nothing before it.
  pub countdown : (s : Sequencer) → advances s.stage ≡ true → 1 ≤ s.left → Leaves words n p id s s.left s.index
  countdown s h some =
      steps.leaves words n p id (with_left s) s.left (λ j a b. steps.advances_wait words n p id s h j a)
      s (λ j. refl) some (steps.advances_send words n p id s h)

  -- 2. Start: nothing on ticks 1 to delay + 9, and the word at index 0 on tick delay + 10.
  pub start : (s : Sequencer) (delay : ℕ) → Leaves words n p id (started s delay) (delay + 10) 0
  unfolding started
  start s delay = countdown (started s delay) refl (omega arith)

  -- 3. After a plain word the next one leaves a period later, and nothing before it.
  pub plain_next : (i : ℕ) (s : Sequencer) → JustSent words n p i s → kind_at words n i ≡ kind.Plain → 1 ≤ p
      → Leaves words n p id s p (i + 1)
  plain_next i s sent plain some =
      subst₂ (Leaves words n p id s) sent.left_is (sent.index_is ∙ ap (λ (k : Kind). index_after k i) plain)
      (countdown s (ap advances (sent.stage_is ∙ ap stage_after plain)) (omega (arith, sent.left_is)))

  -- So in a function of plain words the word at index i leaves on tick delay + 10 + i · p.
  pub series : (s : Sequencer) (delay i : ℕ) → ((h : ℕ) → h < i → kind_at words n h ≡ kind.Plain) → 1 ≤ p
      → (sends words n p id (started s delay) (delay + 10 + i * p) ≡ first_send words n i)
      × JustSent words n p i (ticks words n p id (started s delay) (delay + 10 + i * p))
  series s delay zero plain some =
      let u = started s delay in
      let e : delay + 10 ≡ delay + 10 + 0 * p = omega arith in
      subst (λ (k : ℕ). (sends words n p id u k ≡ first_send words n 0) × JustSent words n p 0 (ticks words n p id u k)) e
      ((start s delay).sent, (start s delay).after)
  series s delay (suc i) plain some =
      let u = started s delay in
      let a = delay + 10 + i * p in
      let q = series s delay i (λ h less. plain h (omega arith)) some in
      let l = plain_next i (ticks words n p id u a) q.1 (plain i (omega arith)) some in
      let e : a + p ≡ delay + 10 + suc i * p = omega (arith, suc-mul i p) in
      let f : i + 1 ≡ suc i = omega arith in
      subst₂ (λ (k j : ℕ). (sends words n p id u k ≡ first_send words n j) × JustSent words n p j (ticks words n p id u k)) e f (
        steps.sends_add words n p id u a p some ∙ l.sent,
        subst (JustSent words n p (i + 1)) (sym (steps.ticks_add words n p id u a p)) l.after,
      )

  -- Paused or ended, the kept word leaves on tick `left` and each period after, and nothing between.
  pub hold : (s : Sequencer) → holds s.stage ≡ true → 1 ≤ s.left → 1 ≤ p
      → (j : ℕ) → Repeats s.word s.left p j (sends words n p id s j)
  hold s h loaded some j =
      steps.repeats words n p id s.stage (λ m. s.resume)
      (λ m t a b. steps.hold_turn words n p id t (ap holds a ∙ h) ∙ ap (λ (r : ℕ). repeating (with_resume t r) p id) b)
      some j j s.left s.index s.word s
      record { stage_kept = refl; resume_kept = refl; index_kept = refl; word_kept = refl }
      refl loaded (omega arith)

  -- So a word with a pause, or the last, leaves again each period after it was first sent.
  pub pause_repeats : (i : ℕ) (s : Sequencer) → JustSent words n p i s → (kind_at words n i ≡ kind.Plain → ⊥) → 1 ≤ p
      → (j : ℕ) → Repeats (words i) p p j (sends words n p id s j)
  pause_repeats i s sent stay some j =
      subst₂ (λ (w l : ℕ). Repeats w l p j (sends words n p id s j)) sent.word_is sent.left_is
      (hold s (ap holds sent.stage_is ∙ holds_after (kind_at words n i) stay) (omega (arith, sent.left_is)) some j)

  -- the last ten ticks of a resume
  last_ten : (s : Sequencer) → s.stage ≡ stage.Resuming → 1 ≤ s.resume → s.resume ≤ 10
      → Leaves words n p id s s.resume s.index
  last_ten s h some few =
      steps.leaves words n p id (with_resume s) s.resume (λ j a b. steps.resume_wait words n p id s h j a (omega arith))
      s (λ j. refl) some (steps.resume_send words n p id s h)

  module _ (s : Sequencer) (delay : ℕ) (some : 1 ≤ p) where
    turn : (m : ℕ) (t : Sequencer) → t.stage ≡ stage.Resuming → t.resume ≡ suc m + 10
        → next words n p id t ≡ repeating (with_resume t (m + 10)) p id
    turn m t a b = steps.resume_turn words n p id t (m + 10) a (omega arith) (omega arith)

    kept : steps.Kept words n p id stage.Resuming (λ m. m + 10) turn some delay s.index s.word (loaded_resume s delay)
    kept = record { stage_kept = refl; resume_kept = refl; index_kept = refl; word_kept = refl }

    in_delay : 1 ≤ s.left → (j : ℕ) → j ≤ delay → Repeats s.word s.left p j (sends words n p id (loaded_resume s delay) j)
    in_delay loaded j h =
        steps.repeats words n p id stage.Resuming (λ m. m + 10) turn some j delay s.left s.index s.word (loaded_resume s delay)
        kept refl loaded h

    past_delay : Leaves words n p id (ticks words n p id (loaded_resume s delay) delay) 10 s.index
    past_delay =
        let t = ticks words n p id (loaded_resume s delay) delay in
        let k = steps.kept_to words n p id stage.Resuming (λ m. m + 10) turn some delay s.index s.word (loaded_resume s delay) kept in
        subst₂ (Leaves words n p id t) k.resume_kept k.index_kept
        (last_ten t k.stage_kept (omega (arith, k.resume_kept)) (omega (arith, k.resume_kept)))

  -- 4. Resume of the pause, with a delay: repeats go on through the delay, its last tick included; then nine ticks are silent,
  -- and the word due leaves on the tenth, restarting the clock.
  pub resume : (s : Sequencer) (k delay : ℕ) → s.stage ≡ stage.Paused k → 1 ≤ s.left → 1 ≤ p
      → ((j : ℕ) → j ≤ delay → Repeats s.word s.left p j (sends words n p id (resumed s k delay) j))
      × ((j : ℕ) → delay < j → j < delay + 10 → sends words n p id (resumed s k delay) j ≡ transmission.Nothing)
      × (sends words n p id (resumed s k delay) (delay + 10) ≡ first_send words n s.index)
      × JustSent words n p s.index (ticks words n p id (resumed s k delay) (delay + 10))
  resume s k delay h loaded some =
      let u = loaded_resume s delay in
      let q = past_delay s delay some in
      rw (resume_taken s k delay h) (
        in_delay s delay some loaded,
        λ j a b.
            ap (sends words n p id u) (let e : j ≡ delay + (j - delay) = omega arith in e)
            ∙ steps.sends_add words n p id u delay (j - delay) (omega arith)
            ∙ q.silent (j - delay) (omega arith),
        steps.sends_add words n p id u delay 10 (omega arith) ∙ q.sent,
        subst (JustSent words n p s.index) (sym (steps.ticks_add words n p id u delay 10)) q.after,
      )

  -- 7. After k ticks the count has every word that they sent, repeats too, and stays at FFFFFFh.
  pub counts_all : (s : Sequencer) → s.count ≤ 0xffffff → (k : ℕ)
      → (ticks words n p id s k).count ≡ min (s.count + sent_by words n p id s k) 0xffffff
  unfolding ticks sends sent_by
  counts_all s h zero = omega arith
  counts_all s h (suc k) =
      let t = ticks words n p id s k in
      (moved t (words t.index) n p id).count
      ∙ counted_with (next words n p id t).transmission s.count (sent_by words n p id s k) t.count (counts_all s h k)
