-- What a stage tells of the words of ticks in a row: a word with a condition is repeated from then on, so no other has one, and the stage says which it was.
-- Of any state. Assumes nothing.
use Prim.Native.Nat.{ℕ, ◌-◌}
use mathlib.Core.Path.{◌≡◌, refl, sym, ap, ◌∙◌}
use mathlib.Core.Logic.{◌⊎◌, inl, inr}
use mathlib.Core.Bool.{Bool, true, false, cond}
use native.Mathlib.Omega.{arith}
use lib.Dec.{eqb, leb}
use borrow.Author.Tests.{eqb-true}
use Rattle.sequencer.specs.declared.Kind.{Kind}
use Rattle.sequencer.specs.declared.Kind.TheVariants as kind
use Rattle.sequencer.specs.declared.Stage.{Stage}
use Rattle.sequencer.specs.declared.Stage.TheVariants as stage
use Rattle.sequencer.specs.declared.Sequencer.{Sequencer}
use Rattle.sequencer.specs.Transmissions.{Transmission}
use Rattle.sequencer.specs.Transmissions as transmission
use Rattle.sequencer.specs.Transmissions.{Ticked}
use Rattle.sequencer.specs.Words.{at_end, kind_of, stage_after, condition_of}
use Rattle.sequencer.specs.Playing.{with_left, with_resume, sent_as, sent_next, repeated, quiet, advancing, repeating, resuming, ticked_at, ticked}
use Rattle.sequencer.specs.Runs.{holds}
use Rattle.channel_core.specs.Behaviour.{condition_in}
use Rattle.channel_ticks.specs.Ticks.{condition_at, condition_between}

-- a tick leaves a stage that tells the condition of its word
abbrev Tells : Ticked → Type 0
Tells t = condition_in t.transmission ≡ condition_at t.sequencer.stage

either_tells : (b : Bool) (x y : Ticked) → Tells x → Tells y → Tells (cond b x y)
either_tells true x y p q = p
either_tells false x y p q = q

sent_tells : (s : Sequencer) (due n p id : ℕ) → Tells (sent_next s due n p id)
unfolding sent_next sent_as
sent_tells s due n p id = go (kind_of due (at_end n s.index))
  where
    go : (k : Kind) → condition_of k ≡ condition_at (stage_after k)
    go kind.Plain = refl
    go (kind.Pause k) = refl
    go kind.Last = refl

advancing_tells : (s : Sequencer) (due n p id : ℕ) → condition_at s.stage ≡ 0 → Tells (advancing s due n p id)
unfolding advancing
advancing_tells s due n p id e =
    either_tells (leb s.left 1) (sent_next s due n p id) (quiet (with_left s (s.left - 1))) (sent_tells s due n p id) (sym e)

-- a repeat has none, and goes on
repeating_none : (s : Sequencer) (p id : ℕ) → (condition_in (repeating s p id).transmission ≡ 0) × ((repeating s p id).sequencer.stage ≡ s.stage)
unfolding repeating repeated
repeating_none s p id = go (leb s.left 1)
  where
    go : (b : Bool)
        → (condition_in (cond b (repeated s p id) (quiet (with_left s (s.left - 1)))).transmission ≡ 0)
        × ((cond b (repeated s p id) (quiet (with_left s (s.left - 1)))).sequencer.stage ≡ s.stage)
    go true = (refl, refl)
    go false = (refl, refl)

resuming_tells : (s : Sequencer) (due n p id : ℕ) → condition_at s.stage ≡ 0 → Tells (resuming s due n p id)
unfolding resuming
resuming_tells s due n p id e =
    let u = with_resume s (s.resume - 1) in
    let r = repeating_none u p id in
    either_tells (leb s.resume 1) (sent_next s due n p id) (cond (leb s.resume 10) (quiet u) (repeating u p id)) (sent_tells s due n p id)
    (either_tells (leb s.resume 10) (quiet u) (repeating u p id) (sym e) (r.0 ∙ sym (ap condition_at r.1 ∙ e)))

clash : {A : Type 0} → false ≡ true → A
clash e = absurd (let z : ◌≡◌ {A = ℕ} 0 1 = cc in omega arith)

module _ (s : Sequencer) (due n p id : ℕ) where
  -- where no word is repeated
  pub tells : holds s.stage ≡ false → Tells (ticked s due n p id)
  unfolding ticked
  tells h = go s.stage refl h
    where
      go : (g : Stage) → s.stage ≡ g → holds g ≡ false → Tells (ticked_at g s due n p id)
      go stage.Idle e h = sym (ap condition_at e)
      go stage.Starting e h = advancing_tells s due n p id (ap condition_at e)
      go stage.Running e h = advancing_tells s due n p id (ap condition_at e)
      go (stage.Paused k) e h = clash (sym h)
      go stage.Resuming e h = resuming_tells s due n p id (ap condition_at e)
      go stage.Ended e h = clash (sym h)

  -- where one is
  pub settled : holds s.stage ≡ true → (condition_in (ticked s due n p id).transmission ≡ 0) × ((ticked s due n p id).sequencer.stage ≡ s.stage)
  unfolding ticked
  settled h = go s.stage h
    where
      go : (g : Stage) → holds g ≡ true
          → (condition_in (ticked_at g s due n p id).transmission ≡ 0) × ((ticked_at g s due n p id).sequencer.stage ≡ s.stage)
      go stage.Idle e = clash e
      go stage.Starting e = clash e
      go stage.Running e = clash e
      go (stage.Paused k) e = repeating_none s p id
      go stage.Resuming e = clash e
      go stage.Ended e = repeating_none s p id

-- none is told where no word is repeated, and none between stages that are the same
pub unsettled : (g : Stage) → holds g ≡ false → condition_at g ≡ 0
unsettled stage.Idle h = refl
unsettled stage.Starting h = refl
unsettled stage.Running h = refl
unsettled (stage.Paused k) h = clash (sym h)
unsettled stage.Resuming h = refl
unsettled stage.Ended h = clash (sym h)

pub between_same : (g : Stage) → condition_between g g ≡ 0
between_same stage.Idle = refl
between_same stage.Starting = refl
between_same stage.Running = refl
between_same (stage.Paused k) = refl
between_same stage.Resuming = refl
between_same stage.Ended = refl

none_between : (g h : Stage) → holds h ≡ false → condition_between g h ≡ 0
none_between g h e = ap (cond (holds g) 0) (unsettled h e) ∙ go (holds g)
  where
    go : (b : Bool) → ◌≡◌ {A = ℕ} (cond b 0 0) 0
    go true = refl
    go false = refl

-- a word that was repeated before is repeated still
abbrev pub Repeats : Stage → Sequencer → Type 0
Repeats g s = holds g ≡ true → holds s.stage ≡ true

-- so there are not two conditions
pub alone_between : (s : Sequencer) (due n p id : ℕ) (g : Stage)
    → (condition_in (ticked s due n p id).transmission ≡ 0) ⊎ (condition_between g s.stage ≡ 0)
alone_between s due n p id g = go (holds s.stage) refl
  where
    go : (b : Bool) → holds s.stage ≡ b → (condition_in (ticked s due n p id).transmission ≡ 0) ⊎ (condition_between g s.stage ≡ 0)
    go true h = inl (settled s due n p id h).0
    go false h = inr (none_between g s.stage h)

pub repeats_next : (s : Sequencer) (due n p id : ℕ) (g : Stage) → Repeats g s → Repeats g (ticked s due n p id).sequencer
repeats_next s due n p id g o e = ap holds (settled s due n p id (o e)).1 ∙ o e

-- the condition of ticks in a row, one tick more transmitting this
abbrev pub condition_after : Transmission → ℕ → ℕ
condition_after transmission.Nothing k = k
condition_after (transmission.Word word j) k = cond (eqb j 0) k j

-- a tick with none changes none, and the first with one gives it
none_after : (x : Transmission) (k : ℕ) → condition_in x ≡ 0 → condition_after x k ≡ k
none_after transmission.Nothing k e = refl
none_after (transmission.Word word j) k e = ap (λ (y : ℕ). cond (eqb y 0) k y) e

first_after : (x : Transmission) → condition_after x 0 ≡ condition_in x
first_after transmission.Nothing = refl
first_after (transmission.Word word j) = go (eqb j 0) refl
  where
    go : (b : Bool) → eqb j 0 ≡ b → cond b 0 j ≡ j
    go true e = sym (eqb-true j 0 e)
    go false e = refl

-- the stages tell the condition of one tick more, too
pub condition_next : (s : Sequencer) (due n p id : ℕ) (g : Stage) → Repeats g s
    → condition_after (ticked s due n p id).transmission (condition_between g s.stage) ≡ condition_between g (ticked s due n p id).sequencer.stage
condition_next s due n p id g o = go (holds s.stage) refl
  where
    t : Ticked
    t = ticked s due n p id

    first : (b : Bool) → holds g ≡ b → holds s.stage ≡ false → condition_at t.sequencer.stage ≡ condition_between g t.sequencer.stage
    first true e h = clash (sym h ∙ o e)
    first false e h = rw e refl

    go : (b : Bool) → holds s.stage ≡ b → condition_after t.transmission (condition_between g s.stage) ≡ condition_between g t.sequencer.stage
    go true h = let w = settled s due n p id h in none_after t.transmission (condition_between g s.stage) w.0 ∙ ap (condition_between g) (sym w.1)
    go false h =
        ap (condition_after t.transmission) (none_between g s.stage h)
        ∙ first_after t.transmission ∙ tells s due n p id h ∙ first (holds g) refl h
