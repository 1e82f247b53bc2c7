-- One item of a list: the view of each channel after it, and what it observes, are the one-channel definition's on what it is fed. Assumes nothing.
use Prim.Native.Nat.{ℕ}
use mathlib.Core.Path.{◌≡◌, refl, sym, ap, subst, ◌∙◌}
use mathlib.Core.Logic.{◌⊎◌, inl, inr}
use mathlib.Core.Bool.{Bool, true, false}
use mathlib.Core.List.{[], ◌∷◌}
use lib.ListN.{length}
use lib.Dec.{eqb}
use borrow.Author.Tests.{eqb-true, eqb-false}
use Rattle.address_map.specs.Addresses.{Named, named, main, channel, nothing}
use Rattle.channel_core.specs.Answers.{Answer, is_refusal}
use Rattle.channel.specs.OneChannel.{Query, ChannelCall, refusal_of, effect, transition, response, transitions, responses}
use Rattle.channel.specs.OneChannel as to
use Rattle.board_channels.specs.Calls as channels
use Rattle.board_downloads.specs.Calls as downloads
use Rattle.board.specs.Answers.{BoardAnswer}
use Rattle.board.specs.Worlds.{World}
use Rattle.isolation.specs.Calls.{Call, write_register, read_register, write_setpoint, arm, disarm, open_download, reply, query, tick, event, change_user, interrupt_level, Lent, first, second, Item, answer, after, refused, given, step, Fits}
use Rattle.isolation.specs.Feeding.{only, feeds, answer_for, shared, shared_read, observe, view}
use Rattle.isolation.proofs.Parts.{Number}
use Rattle.isolation.proofs.One.{still}
use Rattle.isolation.proofs.Worlds.{Good, either, step_refused, step_given, plain, plain_query}
use Rattle.isolation.proofs.Views.{view_write, view_read, view_setpoint, view_changed, view_reply, view_query, view_tick, view_event, view_user, view_write_main, view_read_main}
use Rattle.isolation.proofs.Others.{other_write, other_read, other_setpoint, other_changed, other_reply, nothing_write, nothing_read}
use Rattle.isolation.proofs.Observing.{answer_refused, shared_refused, shared_read_refused_lem, observe_write, observe_read, observe_setpoint, arm_done, observe_opening, observe_reply, observe_event, observe_user, observe_write_main, observe_read_main, observe_query, observe_tick}

abbrev at : Call → Lent → Item
at x l = record { call = x; lent = l }

pub record Holds (c : ℕ) (w : World) (i : Item) : Type 0 where
  pub seen : view c (step w i) ≡ transitions (view c w) (feeds c i)
  pub observed : observe c i.call (answer w.board i.call i.lent) ≡ responses (view c w) (feeds c i)

module _ (w : World) (c : ℕ) (x : Call) (l : Lent) (f : Fits w (at x l)) where
  abbrev answered : Answer
  answered = answer_for c (answer w.board x l)

  -- fed one call: where it is refused, both stand still
  ours : (k : ChannelCall) (a : Answer) → feeds c (at x l) ≡ k ∷ [] → observe c x (answer w.board x l) ≡ a ∷ []
      → (is_refusal answered ≡ true → is_refusal a ≡ true)
      → a ≡ response (view c w) k
      → (l ≡ given w x → view c (plain w x) ≡ transition (view c w) k)
      → Holds c w (at x l)
  ours k a e p r s v =
      record {
        seen = go (either w (at x l) f) ∙ ap (transitions (view c w)) (sym e);
        observed = p ∙ ap (λ (b : Answer). b ∷ []) s ∙ ap (responses (view c w)) (sym e);
      }
    where
      go : ((refused w.board x l ≡ true) ⊎ (l ≡ given w x)) → view c (step w (at x l)) ≡ transition (view c w) k
      go (inl q) =
          ap (view c) (step_refused w (at x l) q)
          ∙ sym (still (view c w) k (ap is_refusal (sym s) ∙ r (answer_refused c (answer w.board x l) q)))
      go (inr q) = ap (view c) (step_given w (at x l) q) ∙ v q

  -- fed nothing
  theirs : feeds c (at x l) ≡ [] → observe c x (answer w.board x l) ≡ [] → view c (plain w x) ≡ view c w → Holds c w (at x l)
  theirs e p v =
      record { seen = go (either w (at x l) f) ∙ ap (transitions (view c w)) (sym e); observed = p ∙ ap (responses (view c w)) (sym e) }
    where
      go : ((refused w.board x l ≡ true) ⊎ (l ≡ given w x)) → view c (step w (at x l)) ≡ view c w
      go (inl q) = ap (view c) (step_refused w (at x l) q)
      go (inr q) = ap (view c) (step_given w (at x l) q) ∙ v

  -- a call that names channel d: this one, or another
  naming : (d : ℕ) (k : ChannelCall) → feeds c (at x l) ≡ only (eqb d c) k
      → observe c x (answer w.board x l) ≡ only (eqb d c) answered
      → (d ≡ c → answered ≡ response (view c w) k)
      → (d ≡ c → l ≡ given w x → view c (plain w x) ≡ transition (view c w) k)
      → ((c ≡ d → ⊥) → view c (plain w x) ≡ view c w)
      → Holds c w (at x l)
  naming d k e p s v other = go (eqb d c) refl
    where
      go : (t : Bool) → eqb d c ≡ t → Holds c w (at x l)
      go true t =
          ours k answered (e ∙ ap (λ (b : Bool). only b k) t) (p ∙ ap (λ (b : Bool). only b answered) t) (λ q. q)
          (s (eqb-true d c t)) (v (eqb-true d c t))
      go false t =
          theirs (e ∙ ap (λ (b : Bool). only b k) t) (p ∙ ap (λ (b : Bool). only b answered) t)
          (other (λ q. eqb-false d c t (sym q)))

-- a call by a channel's number
by_number : (w : World) (c : ℕ) (l : Lent) (x : ℕ → Call) (k : ChannelCall)
    → ((d : ℕ) → feeds c (at (x d) l) ≡ only (eqb d c) k)
    → ((d : ℕ) (s : BoardAnswer) → observe c (x d) s ≡ only (eqb d c) (answer_for c s))
    → (Fits w (at (x c) l) → answer_for c (answer w.board (x c) l) ≡ response (view c w) k)
    → (l ≡ given w (x c) → view c (plain w (x c)) ≡ transition (view c w) k)
    → ((d : ℕ) → (c ≡ d → ⊥) → view c (plain w (x d)) ≡ view c w)
    → (d : ℕ) → Fits w (at (x d) l) → Holds c w (at (x d) l)
by_number w c l x k e p s v other d f =
    naming w c (x d) l f d k (e d) (p d (answer w.board (x d) l))
    (λ q. subst (λ (d : ℕ). Fits w (at (x d) l) → answer_for c (answer w.board (x d) l) ≡ response (view c w) k) (sym q) s f)
    (λ q. subst (λ (d : ℕ). l ≡ given w (x d) → view c (plain w (x d)) ≡ transition (view c w) k) (sym q) v)
    (other d)

module _ (w : World) (g : Good w) (c : ℕ) (h : Number c) (l : Lent) where
  -- the machine's call with the length of what is lent, where that is the memory as left
  at_length : (k : ℕ → ChannelCall) {m : Lent} → l ≡ m → transition (view c w) (k (length (first m))) ≡ transition (view c w) (k (length (first l)))
  at_length k q = ap (λ (m : Lent). transition (view c w) (k (length (first m)))) (sym q)

  -- ---- Register calls, by what the address names

  item_write : (a v : ℕ) → Fits w (at (write_register a v) l) → Holds c w (at (write_register a v) l)
  item_write a v f = go (named a) refl
    where
      go : (n : Named) → named a ≡ n → Holds c w (at (write_register a v) l)
      go (main o) e =
          ours w c (write_register a v) l f (to.write_main (length (first l)) o v)
          (shared (answer_for c (answer w.board (write_register a v) l))) (rw e) (rw e)
          (shared_refused (answer_for c (answer w.board (write_register a v) l))) (observe_write_main w c h a o v l e)
          (λ q. view_write_main w g c h a o v e ∙ at_length (λ (k : ℕ). to.write_main k o v) q)
      go (channel d o) e =
          naming w c (write_register a v) l f d (to.write_register (length (first l)) o v) (rw e) (rw e)
          (λ q. observe_write w c h a o v l (e ∙ ap (λ (d : ℕ). channel d o) q))
          (λ q r. view_write w g c h a o v (e ∙ ap (λ (d : ℕ). channel d o) q) ∙ at_length (λ (k : ℕ). to.write_register k o v) r)
          (λ ne. other_write w c h d ne a o v e)
      go nothing e = theirs w c (write_register a v) l f (rw e) (rw e) (nothing_write w c a v e)

  item_read : (a : ℕ) → Fits w (at (read_register a) l) → Holds c w (at (read_register a) l)
  item_read a f = go (named a) refl
    where
      go : (n : Named) → named a ≡ n → Holds c w (at (read_register a) l)
      go (main o) e =
          ours w c (read_register a) l f (to.read_main o) (shared_read c o (answer_for c (answer w.board (read_register a) l))) (rw e) (rw e)
          (shared_read_refused_lem c o (answer_for c (answer w.board (read_register a) l))) (observe_read_main w c h a o l e)
          (λ q. view_read_main w g c h a o e)
      go (channel d o) e =
          naming w c (read_register a) l f d (to.read_register o) (rw e) (rw e)
          (λ q. observe_read w c h a o l (e ∙ ap (λ (d : ℕ). channel d o) q))
          (λ q r. view_read w g c h a o (e ∙ ap (λ (d : ℕ). channel d o) q))
          (λ ne. other_read w c h d ne a o e)
      go nothing e = theirs w c (read_register a) l f (rw e) (rw e) (nothing_read w c a e)

  -- ---- Calls by a channel's number

  item_setpoint : (d u b i y : ℕ) → Fits w (at (write_setpoint d u b i y) l) → Holds c w (at (write_setpoint d u b i y) l)
  item_setpoint d u b i y =
      by_number w c l (λ (d : ℕ). write_setpoint d u b i y) (to.write_setpoint (length (first l)) u b i y) (λ d. refl) (λ d s. refl)
      (λ f. observe_setpoint w c h u b i y l)
      (λ q. view_setpoint w g c h u b i y ∙ at_length (λ (k : ℕ). to.write_setpoint k u b i y) q)
      (λ d ne. other_setpoint w c h d ne u b i y) d

  item_arm : (d : ℕ) → Fits w (at (arm d) l) → Holds c w (at (arm d) l)
  unfolding answer after transition response refusal_of effect to.answer channels.set_armed
  item_arm =
      by_number w c l arm to.arm (λ d. refl) (λ d s. refl) (λ f. arm_done w c h) (λ q. view_changed w g c h _)
      (λ d ne. other_changed w c h d ne _)

  item_disarm : (d : ℕ) → Fits w (at (disarm d) l) → Holds c w (at (disarm d) l)
  unfolding answer after transition response refusal_of effect to.answer channels.set_armed
  item_disarm =
      by_number w c l disarm to.disarm (λ d. refl) (λ d s. refl) (λ f. arm_done w c h) (λ q. view_changed w g c h _)
      (λ d ne. other_changed w c h d ne _)

  item_opening : (d : ℕ) → Fits w (at (open_download d) l) → Holds c w (at (open_download d) l)
  unfolding after transition refusal_of effect downloads.opened_board
  item_opening =
      by_number w c l open_download to.open_download (λ d. refl) (λ d s. refl) (λ f. observe_opening w c h l) (λ q. view_changed w g c h _)
      (λ d ne. other_changed w c h d ne _)

  item_reply : (d y : ℕ) → Fits w (at (reply d y) l) → Holds c w (at (reply d y) l)
  item_reply d y =
      by_number w c l (λ (d : ℕ). reply d y) (to.reply (length (first l)) y) (λ d. refl) (λ d s. refl)
      (λ f. observe_reply w c h y l) (λ q. view_reply w g c h y ∙ at_length (λ (k : ℕ). to.reply k y) q)
      (λ d ne. other_reply w c h d ne y) d

  item_query : (d : ℕ) (q : Query) → Fits w (at (query d q) l) → Holds c w (at (query d q) l)
  item_query d q =
      by_number w c l (λ (d : ℕ). query d q) (to.query q (length (first l)) (length (second l))) (λ d. refl) (λ d s. refl)
      (λ f. observe_query w c h q l (either w (at (query c q) l) f))
      (λ r. view_query w g c h c q (length (first l)) (length (second l)))
      (λ d ne. ap (view c) (plain_query w d q)) d

  -- ---- Shared calls

  item_tick : Fits w (at tick l) → Holds c w (at tick l)
  item_tick f =
      ours w c tick l f (to.tick (length (first l))) (answer_for c (answer w.board tick l)) refl refl (λ q. q)
      (observe_tick w c h g l (either w (at tick l) f)) (λ q. view_tick w g c h ∙ at_length (λ (k : ℕ). to.tick k) q)

  item_event : (y : ℕ) → Fits w (at (event y) l) → Holds c w (at (event y) l)
  item_event y f =
      ours w c (event y) l f (to.event (length (first l)) y) (shared (answer_for c (answer w.board (event y) l))) refl refl
      (shared_refused (answer_for c (answer w.board (event y) l))) (observe_event w c h y l)
      (λ q. view_event w g c h y ∙ at_length (λ (k : ℕ). to.event k y) q)

  item_user : (u : ℕ) → Fits w (at (change_user u) l) → Holds c w (at (change_user u) l)
  item_user u f =
      ours w c (change_user u) l f (to.change_user u) (shared (answer_for c (answer w.board (change_user u) l))) refl refl
      (shared_refused (answer_for c (answer w.board (change_user u) l))) (observe_user w c h u l)
      (λ q. view_user w g c h u)

  item_level : Fits w (at interrupt_level l) → Holds c w (at interrupt_level l)
  unfolding after
  item_level f = theirs w c interrupt_level l f refl refl refl

  pub item : (x : Call) → Fits w (at x l) → Holds c w (at x l)
  item (write_register a v) f = item_write a v f
  item (read_register a) f = item_read a f
  item (write_setpoint d u b i y) f = item_setpoint d u b i y f
  item (arm d) f = item_arm d f
  item (disarm d) f = item_disarm d f
  item (open_download d) f = item_opening d f
  item (reply d y) f = item_reply d y f
  item (query d q) f = item_query d q f
  item tick f = item_tick f
  item (event y) f = item_event y f
  item (change_user u) f = item_user u f
  item interrupt_level f = item_level f
