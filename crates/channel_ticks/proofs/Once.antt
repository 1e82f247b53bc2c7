-- What ticks in a row latch and count can be said at their end: a word with a condition is repeated from then on, so no other has one; D4 latches in any
-- order with it, and once; the count of missing readbacks is its own beside the rest of the sequencer. Of any state. Assumes nothing.
use Prim.Native.Nat.{ℕ, ◌+◌, ◌-◌, ◌<◌}
use mathlib.Core.Path.{◌≡◌, refl, ap, ◌∙◌}
use mathlib.Core.Logic.{◌⊎◌, inl, inr}
use mathlib.Core.Bool.{Bool, true, false, cond}
use native.Mathlib.Omega.{arith}
use lib.Dec.{eqb, leb}
use borrow.Author.Tests.{ne_eqb, eqb-true}
use Rattle.status.specs.declared.Status.{Status}
use Rattle.status.specs.Latching.{latched, missing_readback}
use Rattle.status.proofs.Laws.{latched_swap, latched_twice}
use Rattle.std.specs.declared.option.Option.{Option}
use Rattle.sequencer.specs.declared.LastSend.{LastSend}
use Rattle.sequencer.specs.declared.Stage.{Stage}
use Rattle.sequencer.specs.declared.Stage.TheVariants as stage
use Rattle.sequencer.specs.declared.Sequencer.{Sequencer}
use Rattle.sequencer.specs.Transmissions.{Transmission}
use Rattle.sequencer.specs.Transmissions as transmission
use Rattle.sequencer.specs.Transmissions.{Ticked}
use Rattle.sequencer.specs.Playing.{shortfall, missing_with, with_left, with_resume, with_missing, sent_as, sent_next, repeated, quiet, advancing, repeating, resuming, ticked_at, ticked}
use Rattle.sequencer.specs.Runs.{holds, missing_after}
use Rattle.channel_core.specs.Behaviour.{shortfall_status, condition_status, latched_by, send_status, condition_in}
use Rattle.channel_ticks.specs.Quiet.{quiet_at, quiet_ticks, after_quiet_at, after_quiet}
use Rattle.channel_ticks.specs.Ticks.{condition_at}
use Rattle.channel_ticks.proofs.Conditions.{condition_after, tells, settled, unsettled}
use Rattle.channel_ticks.proofs.QuietTicks.{ne_some}

-- ---- One word with a condition

-- a tick with a condition leaves a word that is repeated
abbrev Settles : Ticked → Type 0
Settles t = (condition_in t.transmission ≡ 0) ⊎ (holds t.sequencer.stage ≡ true)

pub settles : (s : Sequencer) (due n p id : ℕ) → Settles (ticked s due n p id)
settles s due n p id = go (holds s.stage) refl
  where
    t : Ticked
    t = ticked s due n p id

    told : (b : Bool) → holds t.sequencer.stage ≡ b → condition_in t.transmission ≡ condition_at t.sequencer.stage → Settles t
    told true h e = inr h
    told false h e = inl (e ∙ unsettled t.sequencer.stage h)

    go : (b : Bool) → holds s.stage ≡ b → Settles t
    go true h = inl (settled s due n p id h).0
    go false h = told (holds t.sequencer.stage) refl (tells s due n p id h)

-- no condition so far, or a word that is repeated
abbrev pub Once : ℕ → Sequencer → Type 0
Once k s = (k ≡ 0) ⊎ (holds s.stage ≡ true)

-- so not two of them
pub alone : (s : Sequencer) (due n p id k : ℕ) → Once k s → (condition_in (ticked s due n p id).transmission ≡ 0) ⊎ (k ≡ 0)
alone s due n p id k (inl e) = inr e
alone s due n p id k (inr h) = inl (settled s due n p id h).0

pub once_next : (s : Sequencer) (due n p id k : ℕ) → Once k s
    → Once (condition_after (ticked s due n p id).transmission k) (ticked s due n p id).sequencer
once_next s due n p id k (inr h) = inr (ap holds (settled s due n p id h).1 ∙ h)
once_next s due n p id k (inl e) = go (ticked s due n p id).transmission (settles s due n p id)
  where
    after : Stage
    after = (ticked s due n p id).sequencer.stage

    go : (x : Transmission) → (condition_in x ≡ 0) ⊎ (holds after ≡ true) → (condition_after x k ≡ 0) ⊎ (holds after ≡ true)
    go x (inr h) = inr h
    go transmission.Nothing (inl d) = inl e
    go (transmission.Word word j) (inl d) = inl (ap (λ (y : ℕ). cond (eqb y 0) k y) d ∙ e)

-- ---- What is latched

short_swap : (s : Status) (k missing : ℕ) → shortfall_status (condition_status s k) missing ≡ condition_status (shortfall_status s missing) k
short_swap s k missing = go (eqb missing 0) (eqb k 0)
  where
    go : (a b : Bool)
        → cond a (cond b s (latched s k)) (latched (cond b s (latched s k)) missing_readback)
        ≡ cond b (cond a s (latched s missing_readback)) (latched (cond a s (latched s missing_readback)) k)
    go true true = refl
    go true false = refl
    go false true = refl
    go false false = latched_swap s k missing_readback

-- some are missing of a or of b, and so of both
some_missing : (a b : ℕ) → 0 < a + b → eqb (missing_with a b) 0 ≡ false
some_missing a b h = ne_eqb (missing_with a b) 0 (λ e. omega arith)

short_both : (s : Status) (a b : ℕ) → shortfall_status (shortfall_status s a) b ≡ shortfall_status s (missing_with a b)
short_both s a b = go (eqb b 0) (eqb a 0) refl refl
  where
    go : (y x : Bool) → eqb b 0 ≡ y → eqb a 0 ≡ x
        → cond y (cond x s (latched s missing_readback)) (latched (cond x s (latched s missing_readback)) missing_readback)
        ≡ shortfall_status s (missing_with a b)
    go true true e d = let z : missing_with a b ≡ 0 = omega (arith, eqb-true b 0 e, eqb-true a 0 d) in rw z refl
    go true false e d = rw (some_missing a b (omega (arith, ne_some a d))) refl
    go false true e d = rw (some_missing a b (omega (arith, ne_some b e))) refl
    go false false e d = rw (some_missing a b (omega (arith, ne_some a d))) (latched_twice s missing_readback)

condition_both : (s : Status) (k j : ℕ) → (j ≡ 0) ⊎ (k ≡ 0) → condition_status (condition_status s k) j ≡ condition_status s (cond (eqb j 0) k j)
condition_both s k j (inl e) = rw e refl
condition_both s k j (inr e) = rw e (go (eqb j 0) refl)
  where
    go : (b : Bool) → eqb j 0 ≡ b → cond b s (latched s j) ≡ condition_status s (cond b 0 j)
    go true d = refl
    go false d = rw d refl

-- one tick more: as if all of it had latched at once
pub latched_next : (s : Status) (missing k : ℕ) (l : Option LastSend) (x : Transmission) → (condition_in x ≡ 0) ⊎ (k ≡ 0)
    → send_status (latched_by s missing k) l x ≡ latched_by s (missing_after x l missing) (condition_after x k)
latched_next s missing k l transmission.Nothing h = refl
latched_next s missing k l (transmission.Word word j) h =
    ap (λ (t : Status). condition_status t j) (short_swap (shortfall_status s missing) k (shortfall l) ∙ ap (λ (t : Status). condition_status t k) (short_both s missing (shortfall l)))
    ∙ condition_both (shortfall_status s (missing_with missing (shortfall l))) k j h

-- ---- What is counted

-- added to what was counted before
pub missing_next : (before missing : ℕ) (l : Option LastSend) (x : Transmission)
    → missing_after x l (missing_with before missing) ≡ missing_with before (missing_after x l missing)
missing_next before missing l transmission.Nothing = refl
missing_next before missing l (transmission.Word word k) = omega arith

-- a tick, the count being another
abbrev counting : Ticked → Option LastSend → ℕ → Ticked
counting t l x = record { sequencer = with_missing t.sequencer (missing_after t.transmission l x); transmission = t.transmission }

module _ (s : Sequencer) (x due n p id : ℕ) where
  sent_counting : sent_next (with_missing s x) due n p id ≡ counting (sent_next s due n p id) s.last x
  unfolding sent_next sent_as
  sent_counting = refl

  advancing_counting : advancing (with_missing s x) due n p id ≡ counting (advancing s due n p id) s.last x
  unfolding advancing
  advancing_counting = go (leb s.left 1)
    where
      go : (b : Bool)
          → cond b (sent_next (with_missing s x) due n p id) (quiet (with_left (with_missing s x) (s.left - 1)))
          ≡ counting (cond b (sent_next s due n p id) (quiet (with_left s (s.left - 1)))) s.last x
      go true = sent_counting
      go false = refl

  repeating_counting : (r : ℕ) → repeating (with_resume (with_missing s x) r) p id ≡ counting (repeating (with_resume s r) p id) s.last x
  unfolding repeating repeated
  repeating_counting r = go (leb s.left 1)
    where
      go : (b : Bool)
          → cond b (repeated (with_resume (with_missing s x) r) p id) (quiet (with_left (with_resume (with_missing s x) r) (s.left - 1)))
          ≡ counting (cond b (repeated (with_resume s r) p id) (quiet (with_left (with_resume s r) (s.left - 1)))) s.last x
      go true = refl
      go false = refl

  resuming_counting : resuming (with_missing s x) due n p id ≡ counting (resuming s due n p id) s.last x
  unfolding resuming
  resuming_counting = go (leb s.resume 1) (leb s.resume 10)
    where
      r : ℕ
      r = s.resume - 1

      go : (a b : Bool)
          → cond a (sent_next (with_missing s x) due n p id)
          (cond b (quiet (with_resume (with_missing s x) r)) (repeating (with_resume (with_missing s x) r) p id))
          ≡ counting (cond a (sent_next s due n p id) (cond b (quiet (with_resume s r)) (repeating (with_resume s r) p id))) s.last x
      go true b = sent_counting
      go false true = refl
      go false false = repeating_counting r

  pub ticked_counting : ticked (with_missing s x) due n p id ≡ counting (ticked s due n p id) s.last x
  unfolding ticked
  ticked_counting = go s.stage
    where
      go : (g : Stage) → ticked_at g (with_missing s x) due n p id ≡ counting (ticked_at g s due n p id) s.last x
      go stage.Idle = refl
      go stage.Starting = advancing_counting
      go stage.Running = advancing_counting
      go (stage.Paused k) = repeating_counting s.resume
      go stage.Resuming = resuming_counting
      go stage.Ended = repeating_counting s.resume

-- quiet ticks leave it
module _ (s : Sequencer) (x k : ℕ) where
  pub quiet_counting : after_quiet (with_missing s x) k ≡ with_missing (after_quiet s k) x
  unfolding after_quiet
  quiet_counting = go s.stage
    where
      resume : (b : Bool)
          → cond b (with_resume (with_missing s x) (s.resume - k)) (with_left (with_resume (with_missing s x) (s.resume - k)) (s.left - k))
          ≡ with_missing (cond b (with_resume s (s.resume - k)) (with_left (with_resume s (s.resume - k)) (s.left - k))) x
      resume true = refl
      resume false = refl

      go : (g : Stage) → after_quiet_at g (with_missing s x) k ≡ with_missing (after_quiet_at g s k) x
      go stage.Idle = refl
      go stage.Starting = refl
      go stage.Running = refl
      go (stage.Paused j) = refl
      go stage.Resuming = resume (leb s.resume 10)
      go stage.Ended = refl

  pub quiet_keeps : ((after_quiet s k).missing ≡ s.missing) × ((after_quiet s k).stage ≡ s.stage)
  unfolding after_quiet
  quiet_keeps = go s.stage
    where
      resume : (b : Bool)
          → ((cond b (with_resume s (s.resume - k)) (with_left (with_resume s (s.resume - k)) (s.left - k))).missing ≡ s.missing)
          × ((cond b (with_resume s (s.resume - k)) (with_left (with_resume s (s.resume - k)) (s.left - k))).stage ≡ s.stage)
      resume true = (refl, refl)
      resume false = (refl, refl)

      go : (g : Stage) → ((after_quiet_at g s k).missing ≡ s.missing) × ((after_quiet_at g s k).stage ≡ s.stage)
      go stage.Idle = (refl, refl)
      go stage.Starting = (refl, refl)
      go stage.Running = (refl, refl)
      go (stage.Paused j) = (refl, refl)
      go stage.Resuming = resume (leb s.resume 10)
      go stage.Ended = (refl, refl)

  pub quiet_same : quiet_ticks (with_missing s x) ≡ quiet_ticks s
  unfolding quiet_ticks
  quiet_same = go s.stage
    where
      go : (g : Stage) → quiet_at g (with_missing s x) ≡ quiet_at g s
      go stage.Idle = refl
      go stage.Starting = refl
      go stage.Running = refl
      go (stage.Paused j) = refl
      go stage.Resuming = refl
      go stage.Ended = refl
