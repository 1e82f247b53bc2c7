-- A call that its role may make is a call that demand 3 allows; a good world stays good and keeps its depths. Assumes nothing.
use mathlib.Core.Path.{◌≡◌, refl, sym, ap, subst, ◌∙◌}
use mathlib.Core.Logic.{inl, inr}
use mathlib.Core.Bool.{Bool, true, false}
use native.Mathlib.Omega.{arith}
use lib.Dec.{eqb}
use Rattle.channel.specs.OneChannel.{OneChannel}
use Rattle.histories.proofs.Depths.{depths_kept}
use Rattle.board_state.specs.declared.Board.{Board}
use Rattle.board.specs.Answers.{refuses}
use Rattle.board.specs.Worlds.{World}
use Rattle.isolation.specs.Calls.{Call, Lent, Item, answer, refused, step, Fits}
use Rattle.isolation.specs.Feeding.{feeds, view}
use Rattle.isolation.proofs.Parts.{Number}
use Rattle.isolation.proofs.Refused.{refused_changes_nothing}
use Rattle.isolation.proofs.Worlds.{Good, step_refused}
use Rattle.isolation.proofs.Items.{item}
use Rattle.isolation.proofs.Isolation.{good_step}
use Rattle.permissions.specs.declared.Role.{Role}
use Rattle.permissions.specs.declared.BoardRights.{BoardRights}
use Rattle.access_control.specs.Guarding.{Request, denied, guard_refusal, guarded_answer, guarded_after, guarded_lent_after, guarded_step, GuardedFits}
use Rattle.access_control.specs.Isolation.{RefusedChangesNothing, RefusedStays}
use Rattle.access_control.proofs.Laws.{shown_refuses, passed_answer, passed_board, passed_lent, stopped_board, stopped_lent, answer_granted, step_denied, step_granted}

-- ---- A call without its role

-- granted, it is refused where the call is
granted_refused : (r : BoardRights) (p : Role) (b : Board) (x : Call) (l : Lent) → denied r p x ≡ false → refuses (guarded_answer r p b x l) ≡ true
    → refused b x l ≡ true
granted_refused r p b x l d h = sym (shown_refuses r p (answer b x l)) ∙ ap refuses (sym (answer_granted r p b x l d)) ∙ h

pub fits : (r : BoardRights) (w : World) (i : Request) → denied r i.role i.item.call ≡ false → GuardedFits r w i → Fits w i.item
fits r w i d (inl f) = inl (λ l e. granted_refused r i.role w.board i.item.call l d (f l e))
fits r w i d (inr e) = inr e

abbrev pub at : Call → Lent → Item
at x l = record { call = x; lent = l }

-- what holds of the world, and of the world after the call, holds after it with its role
pub after_guarded : (P : World → Type 0) (r : BoardRights) (w : World) (i : Request) → GuardedFits r w i → P w → (Fits w i.item → P (step w i.item)) → P (guarded_step r w i)
after_guarded P r w i f p q = go (denied r i.role i.item.call) refl
  where
    go : (t : Bool) → denied r i.role i.item.call ≡ t → P (guarded_step r w i)
    go true d = subst P (sym (step_denied r w i d)) p
    go false d = subst P (sym (step_granted r w i d)) (q (fits r w i d f))

pub refused_changes : RefusedChangesNothing
refused_changes r p b x l h = go (eqb (guard_refusal r p b x l) 0) refl
  where
    go : (t : Bool) → eqb (guard_refusal r p b x l) 0 ≡ t → (guarded_after r p b x l ≡ b) × (guarded_lent_after r p b x l ≡ l)
    go true e =
        let q = refused_changes_nothing b x l (sym (shown_refuses r p (answer b x l)) ∙ ap refuses (sym (passed_answer r p b x l e)) ∙ h) in
        (passed_board r p b x l e ∙ q.0, passed_lent r p b x l e ∙ q.1)
    go false e = (stopped_board r p b x l e, stopped_lent r p b x l e)

pub refused_stays : RefusedStays
refused_stays r w i h = go (denied r i.role i.item.call) refl
  where
    go : (t : Bool) → denied r i.role i.item.call ≡ t → guarded_step r w i ≡ w
    go true d = step_denied r w i d
    go false d =
        step_granted r w i d
        ∙ step_refused w i.item (granted_refused r i.role w.board i.item.call i.item.lent d h)

-- ---- Good worlds

pub good_guarded : (r : BoardRights) (w : World) (i : Request) → Good w → GuardedFits r w i → Good (guarded_step r w i)
good_guarded r w i g f = after_guarded Good r w i f g (λ b. good_step w g i.item b)

channel_1 : Number 1
channel_1 = record { low = omega arith; high = omega arith }

-- the depths stay: channel 1 by itself keeps them
pub record Deep (w v : World) : Type 0 where
  pub n : v.board.n ≡ w.board.n
  pub m : v.board.m ≡ w.board.m

deep_step : (w : World) → Good w → (i : Item) → Fits w i → Deep w (step w i)
deep_step w g i f =
    let e = (item w g 1 channel_1 i.lent i.call f).seen in
    let d = depths_kept (view 1 w) (feeds 1 i) in
    record { n = ap (λ (o : OneChannel). o.n) e ∙ d.0; m = ap (λ (o : OneChannel). o.m) e ∙ d.1 }

pub deep_guarded : (r : BoardRights) (w : World) (i : Request) → Good w → GuardedFits r w i → Deep w (guarded_step r w i)
deep_guarded r w i g f = after_guarded (Deep w) r w i f (record { n = refl; m = refl }) (λ b. deep_step w g i.item b)
