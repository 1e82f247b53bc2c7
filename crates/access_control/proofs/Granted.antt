-- A list of calls by role is the calls that are granted; the examiner's are all granted. Assumes nothing.
use Prim.Native.Nat.{ℕ}
use mathlib.Core.Path.{◌≡◌, refl, sym, ap, ap₂, subst, ◌∙◌}
use mathlib.Core.Logic.{inl, inr}
use mathlib.Core.Bool.{Bool, true, false, not}
use mathlib.Core.List.{List, [], ◌∷◌, ◌++◌}
use Rattle.channel_core.specs.Answers.{Answer}
use Rattle.channel.specs.OneChannel.{OneChannel, ChannelCall, transition, transitions}
use Rattle.board.specs.Worlds.{World}
use Rattle.board.specs.Answers.{BoardAnswer, refuses}
use Rattle.isolation.specs.Calls.{Item, step, Fits, Allowed, world_after}
use Rattle.isolation.specs.Calls as calls
use Rattle.isolation.specs.Feeding.{only, feeds, fed}
use Rattle.permissions.specs.declared.Role.TheVariants as role
use Rattle.permissions.specs.declared.BoardRights.{BoardRights}
use Rattle.access_control.specs.Guarding.{Request, denied, guarded_step, GuardedFits, GuardedAllowed, guarded_world_after}
use Rattle.access_control.specs.OneChannel.{ChannelRequest, denied_to, guarded_transition, guarded_responses}
use Rattle.access_control.specs.Laws.{by_examiner, guarded_answers, ExaminerLists}
use Rattle.access_control.specs.Isolation.{as_role, guarded_fed, ExaminerHistory, granted, granted_to, GrantedCalls, GrantedAllows, GrantedAppend, GrantedHistory}
use Rattle.access_control.proofs.Laws.{shown_refuses, answer_denied, answer_granted, step_denied, step_granted, transition_denied, transition_granted, examiner_granted, examiner_unguarded, examiner_alone}
use Rattle.access_control.proofs.Worlds.{fits}

record Plain (r : BoardRights) (w v : World) (xs : List Request) (is : List Item) : Type 0 where
  allowed : Allowed w is
  ends : guarded_world_after r v xs ≡ world_after w is

plain : (r : BoardRights) (w : World) (xs : List Request) → GuardedAllowed r w xs → Plain r w w xs (granted r xs)
plain r w [] a = record { allowed = tt; ends = refl }
plain r w (i ∷ xs) a = go (denied r i.role i.item.call) refl (plain r (guarded_step r w i) xs a.1)
  where
    go : (t : Bool) → denied r i.role i.item.call ≡ t → Plain r (guarded_step r w i) (guarded_step r w i) xs (granted r xs)
        → Plain r w w (i ∷ xs) (only (not t) i.item ++ granted r xs)
    go true d p =
        let q = subst (λ (v : World). Plain r v (guarded_step r w i) xs (granted r xs)) (step_denied r w i d) p in
        record { allowed = q.allowed; ends = q.ends }
    go false d p =
        let q = subst (λ (v : World). Plain r v (guarded_step r w i) xs (granted r xs)) (step_granted r w i d) p in
        record { allowed = (fits r w i d a.0, q.allowed); ends = q.ends }

pub granted_calls : GrantedCalls
granted_calls r w xs a = let p = plain r w xs a in (p.allowed, p.ends)

pub granted_history : GrantedHistory
granted_history r o [] = refl
granted_history r o (k ∷ ks) = granted_history r (guarded_transition r o k) ks ∙ go (denied_to r k.role k.call) refl
  where
    go : (t : Bool) → denied_to r k.role k.call ≡ t
        → transitions (guarded_transition r o k) (granted_to r ks) ≡ transitions o (only (not t) k.call ++ granted_to r ks)
    go true d = ap (λ (o : OneChannel). transitions o (granted_to r ks)) (transition_denied r k.role o k.call d)
    go false d = ap (λ (o : OneChannel). transitions o (granted_to r ks)) (transition_granted r k.role o k.call d)

-- ---- The other way round

-- a call that is denied may be lent anything
pub denied_fits : (r : BoardRights) (w : World) (i : Request) → denied r i.role i.item.call ≡ true → GuardedFits r w i
denied_fits r w i d = inl (λ l e. ap refuses (answer_denied r i.role w.board i.item.call l d))

granted_fits : (r : BoardRights) (w : World) (i : Request) → denied r i.role i.item.call ≡ false → Fits w i.item → GuardedFits r w i
granted_fits r w i d (inl f) =
    inl
    (λ l e. ap refuses (answer_granted r i.role w.board i.item.call l d)
    ∙ shown_refuses r i.role (calls.answer w.board i.item.call l)
    ∙ f l e)
granted_fits r w i d (inr e) = inr e

pub granted_allows : GrantedAllows
granted_allows r w [] a = tt
granted_allows r w (i ∷ xs) a = go (denied r i.role i.item.call) refl a (λ v b. granted_allows r v xs b)
  where
    go : (t : Bool) → denied r i.role i.item.call ≡ t → Allowed w (only (not t) i.item ++ granted r xs)
        → ((v : World) → Allowed v (granted r xs) → GuardedAllowed r v xs)
        → GuardedAllowed r w (i ∷ xs)
    go true d a f = (denied_fits r w i d, subst (λ (v : World). GuardedAllowed r v xs) (sym (step_denied r w i d)) (f w a))
    go false d a f =
        (granted_fits r w i d a.0, subst (λ (v : World). GuardedAllowed r v xs) (sym (step_granted r w i d)) (f (step w i.item) a.1))

pub granted_append : GrantedAppend
granted_append r [] ys = refl
granted_append r (i ∷ xs) ys = go (denied r i.role i.item.call) (granted_append r xs ys)
  where
    go : (t : Bool) → granted r (xs ++ ys) ≡ granted r xs ++ granted r ys
        → only (not t) i.item ++ granted r (xs ++ ys) ≡ (only (not t) i.item ++ granted r xs) ++ granted r ys
    go true e = e
    go false e = ap (λ (l : List Item). i.item ∷ l) e

-- ---- The examiner's lists

abbrev by_one : Item → Request
by_one i = record { role = role.Examiner; item = i }

examiner_step : (r : BoardRights) (w : World) (i : Item) → guarded_step r w (by_one i) ≡ step w i
examiner_step r w i = step_granted r w (by_one i) (examiner_granted r i.call)

pub examiner_lists : ExaminerLists
examiner_lists r w [] = record { allowed = λ a. tt; answers = refl; ends = refl }
examiner_lists r w (i ∷ xs) =
    let q = examiner_lists r (step w i) xs in
    let e = examiner_step r w i in
    record {
      allowed = λ a. (granted_fits r w (by_one i) (examiner_granted r i.call) a.0, subst (λ (v : World). GuardedAllowed r v (by_examiner xs)) (sym e) (q.allowed a.1));
      answers =
          ap₂ (λ (a : BoardAnswer) (l : List BoardAnswer). a ∷ l) (examiner_unguarded r w.board i.call i.lent).1
          (ap (λ (v : World). guarded_answers r v (by_examiner xs)) e ∙ q.answers);
      ends = ap (λ (v : World). guarded_world_after r v (by_examiner xs)) e ∙ q.ends;
    }

-- and what a channel is fed of them

as_role_append : (ks js : List ChannelCall) → as_role role.Examiner (ks ++ js) ≡ as_role role.Examiner ks ++ as_role role.Examiner js
as_role_append [] js = refl
as_role_append (k ∷ ks) js = ap (λ (l : List ChannelRequest). record { role = role.Examiner; call = k } ∷ l) (as_role_append ks js)

pub examiner_fed : (c : ℕ) (xs : List Item) → guarded_fed c (by_examiner xs) ≡ as_role role.Examiner (fed c xs)
examiner_fed c [] = refl
examiner_fed c (i ∷ is) =
    ap (λ (l : List ChannelRequest). as_role role.Examiner (feeds c i) ++ l) (examiner_fed c is) ∙ sym (as_role_append (feeds c i) (fed c is))

pub examiner_history : ExaminerHistory
examiner_history r o [] = refl
examiner_history r o (k ∷ ks) =
    let e = examiner_alone r o k in
    ap₂ (λ (a : Answer) (l : List Answer). a ∷ l) e.0
    (ap (λ (o : OneChannel). guarded_responses r o (as_role role.Examiner ks)) e.1 ∙ examiner_history r (transition o k) ks)
