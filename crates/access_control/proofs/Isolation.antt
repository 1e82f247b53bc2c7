-- DEMAND 3 BY ROLE: the proof of the claim in specs/Isolation.antt. Assumes nothing.
use Prim.Native.Nat.{ℕ}
use mathlib.Core.Path.{◌≡◌, refl, sym, ap, ap₂, subst, ◌∙◌}
use mathlib.Core.Bool.{Bool, true, false}
use mathlib.Core.List.{List, [], ◌∷◌, ◌++◌}
use Rattle.channel_core.specs.Answers.{Answer}
use Rattle.channel_core.specs.Answers as ans
use Rattle.channel.specs.Calls.{then}
use Rattle.channel.specs.OneChannel.{OneChannel, ChannelCall, transitions}
use Rattle.board.specs.Worlds.{World}
use Rattle.isolation.specs.Calls.{opening}
use Rattle.isolation.specs.Feeding.{feeds, observe, view}
use Rattle.isolation.proofs.Parts.{Number}
use Rattle.isolation.proofs.Worlds.{Good}
use Rattle.isolation.proofs.Items.{item}
use Rattle.isolation.proofs.Isolation.{good_opening, view_opening}
use Rattle.permissions.specs.declared.ChannelRights.{ChannelRights}
use Rattle.permissions.specs.declared.BoardRights.{BoardRights}
use Rattle.permissions.specs.Rights.{rights_at}
use Rattle.access_control.specs.Guarding.{Request, denied, permission_denied, answer_in, guarded_step, GuardedFits, GuardedAllowed}
use Rattle.access_control.specs.OneChannel.{ChannelRequest, guarded_transition, guarded_response, guarded_transitions, guarded_responses}
use Rattle.access_control.specs.Isolation.{as_role, guarded_fed, MatchesGuardedChannel, GuardedIsolation}
use Rattle.access_control.proofs.Laws.{answer_denied, answer_granted, step_denied, step_granted, response_denied, response_granted, transition_denied, transition_granted}
use Rattle.access_control.proofs.Worlds.{fits, good_guarded}
use Rattle.access_control.proofs.Fed.{Fed, ours, theirs, fed_one}

-- ---- One call

record Holds (r : BoardRights) (c : ℕ) (w : World) (i : Request) : Type 0 where
  seen : view c (guarded_step r w i) ≡ guarded_transitions (rights_at r c) (view c w) (as_role i.role (feeds c i.item))
  observed : observe c i.item.call (answer_in r w i) ≡ guarded_responses (rights_at r c) (view c w) (as_role i.role (feeds c i.item))

module _ (r : BoardRights) (w : World) (g : Good w) (c : ℕ) (h : Number c) (i : Request) (f : GuardedFits r w i) where
  holds : Holds r c w i
  holds = go (fed_one r i.role w g c h i.item.lent i.item.call) (denied r i.role i.item.call) refl
    where
      go : Fed r i.role w g c h i.item.lent i.item.call → (t : Bool) → denied r i.role i.item.call ≡ t → Holds r c w i
      go (ours k e q n m s) true d =
          record {
            seen =
                ap (view c) (step_denied r w i d)
                ∙ sym (transition_denied (rights_at r c) i.role (view c w) k (sym q ∙ d))
                ∙ ap (λ (ks : List ChannelCall). guarded_transitions (rights_at r c) (view c w) (as_role i.role ks)) (sym e);
            observed =
                ap (observe c i.item.call) (answer_denied r i.role w.board i.item.call i.item.lent d)
                ∙ m _
                ∙ ap (λ (q : ℕ). ans.refused (then q permission_denied) ∷ []) n
                ∙ ap (λ (a : Answer). a ∷ []) (sym (response_denied (rights_at r c) i.role (view c w) k (sym q ∙ d)))
                ∙ ap (λ (ks : List ChannelCall). guarded_responses (rights_at r c) (view c w) (as_role i.role ks)) (sym e);
          }
      go (ours k e q n m s) false d =
          record {
            seen =
                ap (view c) (step_granted r w i d)
                ∙ (item w g c h i.item.lent i.item.call (fits r w i d f)).seen
                ∙ ap (transitions (view c w)) e
                ∙ sym (transition_granted (rights_at r c) i.role (view c w) k (sym q ∙ d))
                ∙ ap (λ (ks : List ChannelCall). guarded_transitions (rights_at r c) (view c w) (as_role i.role ks)) (sym e);
            observed =
                ap (observe c i.item.call) (answer_granted r i.role w.board i.item.call i.item.lent d)
                ∙ s (fits r w i d f)
                ∙ ap (λ (a : Answer). a ∷ []) (sym (response_granted (rights_at r c) i.role (view c w) k (sym q ∙ d)))
                ∙ ap (λ (ks : List ChannelCall). guarded_responses (rights_at r c) (view c w) (as_role i.role ks)) (sym e);
          }
      go (theirs e m) true d =
          record {
            seen =
                ap (view c) (step_denied r w i d)
                ∙ ap (λ (ks : List ChannelCall). guarded_transitions (rights_at r c) (view c w) (as_role i.role ks)) (sym e);
            observed = m _ ∙ ap (λ (ks : List ChannelCall). guarded_responses (rights_at r c) (view c w) (as_role i.role ks)) (sym e);
          }
      go (theirs e m) false d =
          record {
            seen =
                ap (view c) (step_granted r w i d)
                ∙ (item w g c h i.item.lent i.item.call (fits r w i d f)).seen
                ∙ ap (transitions (view c w)) e
                ∙ ap (λ (ks : List ChannelCall). guarded_transitions (rights_at r c) (view c w) (as_role i.role ks)) (sym e);
            observed = m _ ∙ ap (λ (ks : List ChannelCall). guarded_responses (rights_at r c) (view c w) (as_role i.role ks)) (sym e);
          }

-- ---- Along two lists

transitions_append : (r : ChannelRights) (o : OneChannel) (ks js : List ChannelRequest)
    → guarded_transitions r o (ks ++ js) ≡ guarded_transitions r (guarded_transitions r o ks) js
transitions_append r o [] js = refl
transitions_append r o (k ∷ ks) js = transitions_append r (guarded_transition r o k) ks js

responses_append : (r : ChannelRights) (o : OneChannel) (ks js : List ChannelRequest)
    → guarded_responses r o (ks ++ js) ≡ guarded_responses r o ks ++ guarded_responses r (guarded_transitions r o ks) js
responses_append r o [] js = refl
responses_append r o (k ∷ ks) js = ap (λ (l : List Answer). guarded_response r o k ∷ l) (responses_append r (guarded_transition r o k) ks js)

along : (r : BoardRights) (c : ℕ) → Number c → (xs : List Request) (w : World) → Good w → GuardedAllowed r w xs
    → MatchesGuardedChannel r c w xs (view c w)
along r c h [] w g a = record { observed = refl; ends = refl }
along r c h (i ∷ is) w g a =
    let s : Holds r c w i = holds r w g c h i a.0 in
    let z : MatchesGuardedChannel r c (guarded_step r w i) is (view c (guarded_step r w i)) =
    along r c h is (guarded_step r w i) (good_guarded r w i g a.0) a.1 in
    record {
      observed =
          ap₂ (λ (p q : List Answer). p ++ q) s.observed
          (z.observed ∙ ap (λ (o : OneChannel). guarded_responses (rights_at r c) o (guarded_fed c is)) s.seen)
          ∙ sym (responses_append (rights_at r c) (view c w) (as_role i.role (feeds c i.item)) (guarded_fed c is));
      ends =
          z.ends
          ∙ ap (λ (o : OneChannel). guarded_transitions (rights_at r c) o (guarded_fed c is)) s.seen
          ∙ sym (transitions_append (rights_at r c) (view c w) (as_role i.role (feeds c i.item)) (guarded_fed c is));
    }

pub guarded_isolation : GuardedIsolation
guarded_isolation r n m s t e c low high xs a =
    let h : Number c = record { low = low; high = high } in
    subst (MatchesGuardedChannel r c (opening n m s t) xs) (view_opening n m s t e c h)
    (along r c h xs (opening n m s t) (good_opening n m s t e) a)
