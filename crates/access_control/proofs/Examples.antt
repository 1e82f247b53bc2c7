-- There are two lists that the claim speaks of. Assumes nothing.
use Prim.Native.Nat.{ℕ}
use mathlib.Core.Path.{◌≡◌, refl, sym, ap, ◌∙◌}
use mathlib.Core.Logic.{inr}
use mathlib.Core.List.{List}
use Rattle.channel.proofs.Cases.{either}
use Rattle.board.specs.Worlds.{World}
use Rattle.isolation.specs.Calls.{words, refused, step, opening}
use Rattle.permissions.specs.declared.Role.TheVariants as role
use Rattle.permissions.specs.declared.BoardRights.{BoardRights}
use Rattle.access_control.specs.Guarding.{guarded_step, GuardedFits}
use Rattle.access_control.specs.Noninterference.{arming, tick_by, NotVacuous}
use Rattle.access_control.proofs.Granted.{denied_fits}
use Rattle.access_control.proofs.Laws.{step_denied, step_granted}

-- arming leaves the setpoints
arming_sets : (r : BoardRights) (w : World) → (guarded_step r w arming).setpoints ≡ w.setpoints
unfolding step
arming_sets r w =
    ap (λ (v : World). v.setpoints) (step_granted r w arming refl)
    ∙ either (λ (v : World). v.setpoints ≡ w.setpoints) (refused w.board arming.item.call arming.item.lent) refl refl

module _ (r : BoardRights) (w : World) (foreign : List ℕ) where
  watched : GuardedFits r w (tick_by role.Watcher foreign)
  watched = denied_fits r w (tick_by role.Watcher foreign) refl

  watched_sets : (guarded_step r w (tick_by role.Watcher foreign)).setpoints ≡ w.setpoints
  watched_sets = ap (λ (v : World). v.setpoints) (step_denied r w (tick_by role.Watcher foreign) refl)

pub not_vacuous : NotVacuous
not_vacuous r p e n m s t foreign =
    let w : World = opening n m s t in (
      (
        inr refl,
        (
          watched r (guarded_step r w arming) foreign,
          (inr (ap words (sym (watched_sets r (guarded_step r w arming) foreign ∙ arming_sets r w))), tt),
        ),
      ),
      (watched r w foreign, (inr (ap words (sym (watched_sets r w foreign))), tt)),
      rw e,
    )
