-- Two worlds that are the same to a role: they stay so over a hidden call in one of them, and over a call that both have. Assumes nothing.
use Prim.Native.Nat.{ℕ}
use mathlib.Core.Path.{◌≡◌, refl, sym, ap, ap₂, subst, ◌∙◌}
use mathlib.Core.Logic.{inl, inr}
use mathlib.Core.Bool.{Bool, true, false}
use lib.ListN.{length}
use Rattle.channel.specs.OneChannel.{transitions}
use Rattle.board.specs.Worlds.{World}
use Rattle.isolation.specs.Calls.{Call, Lent, none, words, buffers, first, second, lengths, step, Fits}
use Rattle.isolation.specs.Feeding.{feed, feeds, view}
use Rattle.isolation.proofs.Parts.{Number}
use Rattle.isolation.proofs.Worlds.{Good, step_refused}
use Rattle.isolation.proofs.Others.{others_untouched}
use Rattle.isolation.proofs.Items.{item}
use Rattle.permissions.specs.declared.Role.{Role}
use Rattle.permissions.specs.declared.BoardRights.{BoardRights}
use Rattle.permissions.specs.Rights.{rights_at, may_read, is_examiner}
use Rattle.access_control.specs.Guarding.{Request, denied, guarded_step, GuardedFits}
use Rattle.access_control.specs.Noninterference.{hidden}
use Rattle.access_control.proofs.Laws.{step_denied, step_granted}
use Rattle.access_control.proofs.Worlds.{at, fits, after_guarded, good_guarded, Deep, deep_guarded}
use Rattle.access_control.proofs.Hiding.{Hides, hides, hidden_named, hidden_other, examiner_hidden}

-- all that the role may read, and the depths; to the examiner, all
pub record Same (r : BoardRights) (p : Role) (w v : World) : Type 0 where
  pub left : Good w
  pub right : Good v
  pub n : w.board.n ≡ v.board.n
  pub m : w.board.m ≡ v.board.m
  pub seen : (c : ℕ) → Number c → may_read (rights_at r c) p ≡ true → view c w ≡ view c v
  pub whole : is_examiner p ≡ true → w ≡ v

pub turned : (r : BoardRights) (p : Role) (w v : World) → Same r p w v → Same r p v w
turned r p w v s =
    record {
      left = s.right;
      right = s.left;
      n = sym s.n;
      m = sym s.m;
      seen = λ c h t. sym (s.seen c h t);
      whole = λ e. sym (s.whole e);
    }

-- ---- A hidden call

module _ (r : BoardRights) (p : Role) (w : World) (i : Request) (t : hidden r p i.item.call ≡ true) (f : GuardedFits r w i) where
  hidden_view : (c : ℕ) → Number c → may_read (rights_at r c) p ≡ true → view c (guarded_step r w i) ≡ view c w
  hidden_view c h e =
      let d : Hides r p i.item.call = hides r p i.item.call t in
      after_guarded (λ (v : World). view c v ≡ view c w) r w i f refl
      (λ b. others_untouched w i.item b c h.low h.high d.number (hidden_named r p i.item.call d)
      (hidden_other r p i.item.call d c h e))

  pub same_hidden : (v : World) → Same r p w v → Same r p (guarded_step r w i) v
  same_hidden v s =
      let k : Deep w (guarded_step r w i) = deep_guarded r w i s.left f in
      record {
        left = good_guarded r w i s.left f;
        right = s.right;
        n = k.n ∙ s.n;
        m = k.m ∙ s.m;
        seen = λ c h e. hidden_view c h e ∙ s.seen c h e;
        whole = λ e. examiner_hidden r p e w i t ∙ s.whole e;
      }

-- ---- A call that both have, lent as many words

pub lengths_same : (l k : Lent) → lengths l ≡ lengths k → (length (first l) ≡ length (first k)) × (length (second l) ≡ length (second k))
lengths_same none none e = (refl, refl)
lengths_same none (words s) e = (cc, refl)
lengths_same none (buffers s t) e = (cc, cc)
lengths_same (words s) none e = (cc, refl)
lengths_same (words s) (words s') e = (cc, refl)
lengths_same (words s) (buffers s' t') e = (cc, cc)
lengths_same (buffers s t) none e = (cc, cc)
lengths_same (buffers s t) (words s') e = (cc, cc)
lengths_same (buffers s t) (buffers s' t') e = (cc, cc)

abbrev pub by : Role → Call → Lent → Request
by q x l = record { role = q; item = at x l }

-- in one world: it is lent the same words, or refused
step_same : (w : World) (x : Call) (l k : Lent) → lengths l ≡ lengths k → Fits w (at x l) → Fits w (at x k) → step w (at x l) ≡ step w (at x k)
step_same w x l k e (inl f) g = step_refused w (at x l) (f l refl) ∙ sym (step_refused w (at x k) (f k (sym e)))
step_same w x l k e (inr a) (inl g) = step_refused w (at x l) (g l e) ∙ sym (step_refused w (at x k) (g k refl))
step_same w x l k e (inr a) (inr b) = ap (λ (l : Lent). step w (at x l)) (a ∙ sym b)

module _ (r : BoardRights) (p : Role) (w v : World) (s : Same r p w v) (x : Call) (l k : Lent) (e : lengths l ≡ lengths k) where
  -- what is the same of it: what a channel is fed
  pub fed_same : (c : ℕ) → feeds c (at x l) ≡ feeds c (at x k)
  fed_same c = ap₂ (feed c x) (lengths_same l k e).0 (lengths_same l k e).1

  view_same : Fits w (at x l) → Fits v (at x k) → (c : ℕ) → Number c → may_read (rights_at r c) p ≡ true
      → view c (step w (at x l)) ≡ view c (step v (at x k))
  view_same f g c h t =
      (item w s.left c h l x f).seen
      ∙ ap₂ transitions (s.seen c h t) (fed_same c)
      ∙ sym (item v s.right c h k x g).seen

  whole_same : Fits w (at x l) → Fits v (at x k) → is_examiner p ≡ true → step w (at x l) ≡ step v (at x k)
  whole_same f g t =
      step_same w x l k e f (subst (λ (u : World). Fits u (at x k)) (sym (s.whole t)) g)
      ∙ ap (λ (u : World). step u (at x k)) (s.whole t)

  pub same_both : (q : Role) → GuardedFits r w (by q x l) → GuardedFits r v (by q x k)
      → Same r p (guarded_step r w (by q x l)) (guarded_step r v (by q x k))
  same_both q f g =
      let a : Deep w (guarded_step r w (by q x l)) = deep_guarded r w (by q x l) s.left f in
      let b : Deep v (guarded_step r v (by q x k)) = deep_guarded r v (by q x k) s.right g in
      record {
        left = good_guarded r w (by q x l) s.left f;
        right = good_guarded r v (by q x k) s.right g;
        n = a.n ∙ s.n ∙ sym b.n;
        m = a.m ∙ s.m ∙ sym b.m;
        seen = λ c h t. stays (λ (w v : World). view c w ≡ view c v) (s.seen c h t) (λ f g. view_same f g c h t);
        whole = λ t. stays (λ (w v : World). w ≡ v) (s.whole t) (λ f g. whole_same f g t);
      }
    where
      -- denied in both, or made in both
      stays : (P : World → World → Type 0) → P w v → (Fits w (at x l) → Fits v (at x k) → P (step w (at x l)) (step v (at x k)))
          → P (guarded_step r w (by q x l)) (guarded_step r v (by q x k))
      stays P a b = go (denied r q x) refl
        where
          go : (t : Bool) → denied r q x ≡ t → P (guarded_step r w (by q x l)) (guarded_step r v (by q x k))
          go true d = rw (step_denied r w (by q x l) d, step_denied r v (by q x k) d) a
          go false d =
              rw (step_granted r w (by q x l) d, step_granted r v (by q x k) d)
              (b (fits r w (by q x l) d f) (fits r v (by q x k) d g))
