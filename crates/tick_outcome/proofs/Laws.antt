-- What a tick did goes by four things of the sequencer before it: whether it is armed, its stage, and its two countdowns. Assumes nothing.
use mathlib.Core.Path.{◌≡◌, refl, ap, ◌∙◌}
use mathlib.Core.Bool.{Bool, cond}
use lib.Dec.{leb}
use Rattle.sequencer.specs.declared.Stage.{Stage}
use Rattle.sequencer.specs.declared.Stage.TheVariants as stage
use Rattle.sequencer.specs.declared.Sequencer.{Sequencer}
use Rattle.tick_outcome.specs.declared.TickOutcome.{TickOutcome}
use Rattle.tick_outcome.specs.declared.TickOutcome.TheVariants as tick
use Rattle.tick_outcome.specs.Outcomes.{silence_at, silence, outcome}
use Prim.Native.Nat.{ℕ}

module _ (s t : Sequencer) (left : t.left ≡ s.left) (resume : t.resume ≡ s.resume) where
  silence_by : (x : Stage) → silence_at x t ≡ silence_at x s
  silence_by stage.Idle = refl
  silence_by stage.Starting = ap (λ (k : ℕ). cond (leb k 10) tick.StartGap tick.StartDelay) left
  silence_by stage.Running = refl
  silence_by (stage.Paused k) = refl
  silence_by stage.Resuming = ap (λ (k : ℕ). cond (leb k 10) tick.ResumeGap tick.BetweenEdges) resume
  silence_by stage.Ended = refl

pub outcome_by : (sends : Bool) (s t : Sequencer) → t.armed ≡ s.armed → t.stage ≡ s.stage → t.left ≡ s.left → t.resume ≡ s.resume
    → outcome sends t ≡ outcome sends s
unfolding outcome silence
outcome_by sends s t armed at left resume =
    ap (λ (b : Bool). cond sends tick.Sent (cond b (silence_at t.stage t) tick.Disarmed)) armed
    ∙ ap (λ (x : TickOutcome). cond sends tick.Sent (cond s.armed x tick.Disarmed)) (silence_by s t left resume t.stage ∙ ap (λ (x : Stage). silence_at x s) at)
