-- TWO LISTS THAT ARE ALIKE TO A ROLE: the proof of the claim in specs/Noninterference.antt. Assumes nothing.
use Prim.Native.Nat.{ℕ}
use mathlib.Core.Path.{◌≡◌, refl, sym, ap, ap₂, subst, ◌∙◌}
use mathlib.Core.Bool.{Bool, true, false, not, ◌&&◌}
use mathlib.Core.List.{List, [], ◌∷◌, ◌++◌}
use native.Mathlib.Omega.{arith}
use Rattle.board.specs.Answers.{BoardAnswer}
use Rattle.board.specs.Worlds.{World}
use Rattle.isolation.specs.Calls.{Call, Lent, lengths, opening}
use Rattle.isolation.specs.Feeding.{only}
use Rattle.isolation.proofs.Isolation.{good_opening}
use Rattle.permissions.specs.declared.Role.{Role}
use Rattle.permissions.specs.declared.BoardRights.{BoardRights}
use Rattle.access_control.specs.Guarding.{Request, answer_in, guarded_step, GuardedFits, GuardedAllowed}
use Rattle.access_control.specs.Noninterference.{hidden, Outline, outline, purged, same_role, answers_to, SameToRole, Noninterference}
use Rattle.access_control.proofs.Hiding.{same_role_lem}
use Rattle.access_control.proofs.Same.{Same, turned, same_hidden, by, same_both}
use Rattle.access_control.proofs.Answers.{answer_same}

-- ---- Alike, step by step: a hidden call in one of them, or a call in both

data Alike (r : BoardRights) (p : Role) : List Request → List Request → Type 0 where
  none : Alike r p [] []
  here : {i : Request} {xs ys : List Request} → hidden r p i.item.call ≡ true → Alike r p xs ys → Alike r p (i ∷ xs) ys
  there : {j : Request} {xs ys : List Request} → hidden r p j.item.call ≡ true → Alike r p xs ys → Alike r p xs (j ∷ ys)
  both : {i j : Request} {xs ys : List Request} → outline i ≡ outline j → Alike r p xs ys → Alike r p (i ∷ xs) (j ∷ ys)

some_none : {A B : Type 0} {a : A} {l : List A} → a ∷ l ≡ [] → B
some_none e = let z : ◌≡◌ {A = ℕ} 0 1 = cc in absurd (omega arith)

module _ (r : BoardRights) (p : Role) where
  -- against no call
  alike_none : (ys : List Request) → [] ≡ purged r p ys → Alike r p [] ys
  alike_none [] e = none
  alike_none (j ∷ ys) e = go (hidden r p j.item.call) refl (λ q. alike_none ys q)
    where
      go : (t : Bool) → hidden r p j.item.call ≡ t → ([] ≡ purged r p ys → Alike r p [] ys) → Alike r p [] (j ∷ ys)
      go true t k = there t (k (rw t at e))
      go false t k = some_none (sym (rw t at e))

  -- against a call that is not hidden
  alike_some : (i : Request) (xs : List Request) → ((ys : List Request) → purged r p xs ≡ purged r p ys → Alike r p xs ys)
      → (ys : List Request) → outline i ∷ purged r p xs ≡ purged r p ys → Alike r p (i ∷ xs) ys
  alike_some i xs k [] e = some_none e
  alike_some i xs k (j ∷ ys) e = go (hidden r p j.item.call) refl (λ q. alike_some i xs k ys q)
    where
      go : (t : Bool) → hidden r p j.item.call ≡ t → (outline i ∷ purged r p xs ≡ purged r p ys → Alike r p (i ∷ xs) ys) → Alike r p (i ∷ xs) (j ∷ ys)
      go true t n = there t (n (rw t at e))
      go false t n =
          let q : outline i ∷ purged r p xs ≡ outline j ∷ purged r p ys = rw t at e in
          let a : outline i ≡ outline j = cc in
          let b : purged r p xs ≡ purged r p ys = cc in
          both a (k ys b)

  alike : (xs ys : List Request) → purged r p xs ≡ purged r p ys → Alike r p xs ys
  alike [] ys e = alike_none ys e
  alike (i ∷ xs) ys e = go (hidden r p i.item.call) refl (λ ys q. alike xs ys q)
    where
      go : (t : Bool) → hidden r p i.item.call ≡ t → ((ys : List Request) → purged r p xs ≡ purged r p ys → Alike r p xs ys)
          → Alike r p (i ∷ xs) ys
      go true t k = here t (k ys (rw t at e))
      go false t k = alike_some i xs k ys (rw t at e)

  -- ---- One call

  -- a hidden call is not among those compared
  unanswered : (w : World) (i : Request) (is : List Request) → hidden r p i.item.call ≡ true
      → answers_to r p w (i ∷ is) ≡ answers_to r p (guarded_step r w i) is
  unanswered w i is t = ap (λ (b : Bool). only b (answer_in r w i) ++ answers_to r p (guarded_step r w i) is) (go (same_role p i.role) t)
    where
      go : (b : Bool) → hidden r p i.item.call ≡ true → b && not (hidden r p i.item.call) ≡ false
      go true t = rw t
      go false t = refl

  -- a call that both have: what is the same before it is the same after it, and its answer
  record Kept (w v : World) (i j : Request) : Type 0 where
    stays : Same r p (guarded_step r w i) (guarded_step r v j)
    compared : only (same_role p i.role && not (hidden r p i.item.call)) (answer_in r w i)
        ≡ only (same_role p j.role && not (hidden r p j.item.call)) (answer_in r v j)

  module _ (w v : World) (s : Same r p w v) where
    kept_by : (q : Role) (x : Call) (l k : Lent) → lengths l ≡ lengths k → GuardedFits r w (by q x l) → GuardedFits r v (by q x k)
        → Kept w v (by q x l) (by q x k)
    kept_by q x l k e f g =
        record { stays = same_both r p w v s x l k e q f g; compared = go (same_role p q) refl (hidden r p x) refl }
      where
        go : (t : Bool) → same_role p q ≡ t → (u : Bool) → hidden r p x ≡ u
            → only (t && not u) (answer_in r w (by q x l)) ≡ only (t && not u) (answer_in r v (by q x k))
        go true t true u = refl
        go true t false u =
            ap (λ (a : BoardAnswer). a ∷ [])
            (subst (λ (q : Role). GuardedFits r w (by q x l) → GuardedFits r v (by q x k) → answer_in r w (by q x l) ≡ answer_in r v (by q x k))
            (same_role_lem p q t) (λ f g. answer_same r p w v s l k e x f g u) f g)
        go false t u e = refl

    kept : (i j : Request) → outline i ≡ outline j → GuardedFits r w i → GuardedFits r v j → Kept w v i j
    kept i j e f g =
        subst (λ (j : Request). GuardedFits r v j → Kept w v i j) (sym same)
        (λ g. kept_by i.role i.item.call i.item.lent j.item.lent (ap (λ (t : Outline). t.lent) e) f g) g
      where
        same : j ≡ by i.role i.item.call j.item.lent
        same = ap₂ (λ (q : Role) (x : Call). by q x j.item.lent) (ap (λ (t : Outline). t.role) (sym e)) (ap (λ (t : Outline). t.call) (sym e))

  -- ---- Along both

  along : {xs ys : List Request} → Alike r p xs ys → (w v : World) → Same r p w v → GuardedAllowed r w xs → GuardedAllowed r v ys
      → SameToRole r p w v xs ys
  along none w v s a b =
      record { answers = refl; ends = λ c low high t. s.seen c (record { low = low; high = high }) t; whole = s.whole }
  along (here {i = i} {xs = xs} t k) w v s a b =
      let z = along k (guarded_step r w i) v (same_hidden r p w i t a.0 v s) a.1 b in
      record { answers = unanswered w i xs t ∙ z.answers; ends = z.ends; whole = z.whole }
  along (there {j = j} {ys = ys} t k) w v s a b =
      let z = along k w (guarded_step r v j) (turned r p _ _ (same_hidden r p v j t b.0 w (turned r p w v s))) a b.1 in
      record { answers = z.answers ∙ sym (unanswered v j ys t); ends = z.ends; whole = z.whole }
  along (both {i = i} {j = j} e k) w v s a b =
      let q = kept w v s i j e a.0 b.0 in
      let z = along k (guarded_step r w i) (guarded_step r v j) q.stays a.1 b.1 in
      record { answers = ap₂ (λ (x y : List BoardAnswer). x ++ y) q.compared z.answers; ends = z.ends; whole = z.whole }

pub noninterference : Noninterference
noninterference r p n m s t e xs ys a b q =
    let g = good_opening n m s t e in
    along r p (alike r p xs ys q) (opening n m s t) (opening n m s t)
    (record { left = g; right = g; n = refl; m = refl; seen = λ c h u. refl; whole = λ u. refl }) a b
