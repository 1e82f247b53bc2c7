-- A tick goes by no tag: it transmits what it would without, and leaves the same but for the tag and the mark. Assumes nothing.
use Prim.Native.Nat.{ℕ, ◌-◌}
use mathlib.Core.Path.{◌≡◌, refl}
use mathlib.Core.Bool.{Bool, true, false, cond}
use lib.Dec.{leb}
use Rattle.std.specs.declared.option.Option.{Option}
use Rattle.std.specs.declared.option.Option.TheVariants.{Some, None}
use Rattle.sequencer.specs.Playing.{with_last, shortfall, sent_next, sent_as, repeated, quiet, with_left, with_resume, advancing, repeating, resuming, ticked_at, ticked}
use Rattle.sequencer.specs.Runs.{untagged}
use Rattle.sequencer.specs.declared.Stage.{Stage}
use Rattle.sequencer.specs.declared.Stage.TheVariants as stage
use Rattle.sequencer.specs.declared.LastSend.{LastSend}
use Rattle.sequencer.specs.declared.Sequencer.{Sequencer}
use Rattle.sequencer.specs.Transmissions.{Ticked}

-- two ticks transmit the same, and leave the same but for tags
pub record Alike (a b : Ticked) : Type 0 where
  pub transmission_same : a.transmission ≡ b.transmission
  pub rest_same : untagged a.sequencer ≡ untagged b.sequencer

alike_if : (e : Bool) (a b c d : Ticked) → Alike a b → Alike c d → Alike (cond e a c) (cond e b d)
alike_if true a b c d h k = h
alike_if false a b c d h k = k

-- on which nothing leaves
alike_quiet : (s : Sequencer) → Alike (quiet (untagged s)) (quiet s)
alike_quiet s = go s.last
  where
    go : (l : Option LastSend) → Alike (quiet (untagged (with_last s l))) (quiet (with_last s l))
    go None = record { transmission_same = refl; rest_same = refl }
    go (Some x) = record { transmission_same = refl; rest_same = refl }

module _ (due n p id : ℕ) where
  alike_next : (s : Sequencer) → Alike (sent_next (untagged s) due n p id) (sent_next s due n p id)
  unfolding sent_next sent_as shortfall
  alike_next s = go s.last
    where
      go : (l : Option LastSend) → Alike (sent_next (untagged (with_last s l)) due n p id) (sent_next (with_last s l) due n p id)
      go None = record { transmission_same = refl; rest_same = refl }
      go (Some x) = record { transmission_same = refl; rest_same = refl }

  alike_advancing : (s : Sequencer) → Alike (advancing (untagged s) due n p id) (advancing s due n p id)
  unfolding advancing
  alike_advancing s =
      alike_if (leb s.left 1) (sent_next (untagged s) due n p id) (sent_next s due n p id)
      (quiet (with_left (untagged s) (s.left - 1))) (quiet (with_left s (s.left - 1)))
      (alike_next s) (alike_quiet (with_left s (s.left - 1)))

  alike_repeating : (s : Sequencer) → Alike (repeating (untagged s) p id) (repeating s p id)
  unfolding repeating repeated shortfall
  alike_repeating s =
      alike_if (leb s.left 1) (repeated (untagged s) p id) (repeated s p id)
      (quiet (with_left (untagged s) (s.left - 1))) (quiet (with_left s (s.left - 1)))
      (go s.last) (alike_quiet (with_left s (s.left - 1)))
    where
      go : (l : Option LastSend) → Alike (repeated (untagged (with_last s l)) p id) (repeated (with_last s l) p id)
      go None = record { transmission_same = refl; rest_same = refl }
      go (Some x) = record { transmission_same = refl; rest_same = refl }

  alike_resuming : (s : Sequencer) → Alike (resuming (untagged s) due n p id) (resuming s due n p id)
  unfolding resuming
  alike_resuming s =
      let t = with_resume s (s.resume - 1) in
      alike_if (leb s.resume 1) (sent_next (untagged s) due n p id) (sent_next s due n p id)
      (cond (leb s.resume 10) (quiet (untagged t)) (repeating (untagged t) p id)) (cond (leb s.resume 10) (quiet t) (repeating t p id))
      (alike_next s)
      (alike_if (leb s.resume 10) (quiet (untagged t)) (quiet t) (repeating (untagged t) p id) (repeating t p id)
      (alike_quiet t) (alike_repeating t))

  pub tick_untagged : (s : Sequencer) → Alike (ticked (untagged s) due n p id) (ticked s due n p id)
  unfolding ticked
  tick_untagged s = go s.stage
    where
      go : (g : Stage) → Alike (ticked_at g (untagged s) due n p id) (ticked_at g s due n p id)
      go stage.Idle = alike_quiet s
      go stage.Starting = alike_advancing s
      go stage.Running = alike_advancing s
      go (stage.Paused k) = alike_repeating s
      go stage.Resuming = alike_resuming s
      go stage.Ended = alike_repeating s
