-- What a channel is fed of a call by role has the same rights and the same refusals before 13, and is shown the same. Assumes nothing.
use Prim.Native.Nat.{ℕ, ◌*◌}
use mathlib.Core.Path.{◌≡◌, refl, sym, ap, ◌∙◌}
use mathlib.Core.Bool.{Bool, true, false, cond, not}
use mathlib.Core.List.{[], ◌∷◌}
use lib.ListN.{length}
use lib.Dec.{eqb}
use borrow.Author.Tests.{eqb-true}
use Rattle.address_map.specs.Addresses.{Named, named, main, channel, nothing}
use Rattle.channel_core.specs.Answers.{Answer, unless}
use Rattle.channel_core.specs.Answers as ans
use Rattle.channel.specs.Calls.{then}
use Rattle.channel.specs.OneChannel.{Query, ChannelCall, length_refusal, refusal_of, answer, response, responses}
use Rattle.channel.specs.OneChannel as to
use Rattle.board_state.specs.Checks.{setpoints_fit}
use Rattle.board.specs.Answers.{BoardAnswer, one}
use Rattle.board.specs.Worlds.{World}
use Rattle.isolation.specs.Calls.{Call, write_register, read_register, write_setpoint, arm, disarm, open_download, reply, query, tick, event, change_user, interrupt_level, Lent, first, second, query_lending, Fits}
use Rattle.isolation.specs.Calls as calls
use Rattle.isolation.specs.Feeding.{only, feeds, answer_for, observe, view}
use Rattle.isolation.proofs.Parts.{Number}
use Rattle.isolation.proofs.Cases.{in_range}
use Rattle.isolation.proofs.Worlds.{Good}
use Rattle.isolation.proofs.Items.{item}
use Rattle.permissions.specs.declared.Role.{Role}
use Rattle.permissions.specs.declared.BoardRights.{BoardRights}
use Rattle.permissions.specs.Rights.{rights_at, may_read, may_write, may_read_register}
use Rattle.access_control.specs.Guarding.{denied, lent_refusal, channel_refusal, earlier_on, shown_frame, shown}
use Rattle.access_control.specs.OneChannel.{denied_to, query_earlier, earlier_to, shown_to}
use Rattle.access_control.proofs.Laws.{then_granted, only_same, frame_shown, tick_answered, tick_refused}
use Rattle.access_control.proofs.Worlds.{at}

-- the channel passed
number_passed : (q c : ℕ) → Number c → then q (channel_refusal c) ≡ q
number_passed q c h = ap (λ (b : Bool). then q (cond b 2 0)) (in_range c h) ∙ then_granted q

in_range_passed : (c : ℕ) → Number c → channel_refusal c ≡ 0
in_range_passed c h = ap (λ (b : Bool). cond b 2 0) (in_range c h)

-- a query is lent what its case says, or nothing
query_lent : (n m d : ℕ) (q : Query) (k j : ℕ) → lent_refusal n m (query_lending d q) k j ≡ query_earlier m q k j
query_lent n m d to.retired k j = refl
query_lent n m d to.retired_length k j = refl
query_lent n m d to.readings k j = refl
query_lent n m d to.last_tick k j = refl
query_lent n m d (to.portion i z) k j = refl
query_lent n m d (to.portion_length i z) k j = refl

module _ (r : BoardRights) (p : Role) (w : World) (g : Good w) (c : ℕ) (h : Number c) (l : Lent) where
  -- fed one call, or none
  pub data Fed (x : Call) : Type 0 where
    ours : (k : ChannelCall) → feeds c (at x l) ≡ k ∷ []
        → denied r p x ≡ denied_to (rights_at r c) p k
        → earlier_on w.board x l ≡ earlier_to (view c w) k
        → ((q : ℕ) → observe c x (one (ans.refused q)) ≡ ans.refused q ∷ [])
        → (Fits w (at x l) → observe c x (shown r p (calls.answer w.board x l))
        ≡ unless (refusal_of (view c w) k) (shown_to (rights_at r c) p k (answer (view c w) k)) ∷ [])
        → Fed x
    theirs : feeds c (at x l) ≡ [] → ((s : BoardAnswer) → observe c x s ≡ []) → Fed x

  -- but for a tick the answer is shown whole
  shown_whole : (x : Call) (k : ChannelCall) → feeds c (at x l) ≡ k ∷ []
      → shown r p (calls.answer w.board x l) ≡ calls.answer w.board x l
      → shown_to (rights_at r c) p k (answer (view c w) k) ≡ answer (view c w) k
      → Fits w (at x l) → observe c x (shown r p (calls.answer w.board x l))
      ≡ unless (refusal_of (view c w) k) (shown_to (rights_at r c) p k (answer (view c w) k)) ∷ []
  unfolding response
  shown_whole x k e a b f =
      ap (observe c x) a
      ∙ (item w g c h l x f).observed
      ∙ ap (responses (view c w)) e
      ∙ ap (λ (a : Answer). unless (refusal_of (view c w) k) a ∷ []) (sym b)

  -- a call that names channel d
  naming : (x : Call) (d : ℕ) (k : ChannelCall) → feeds c (at x l) ≡ only (eqb d c) k
      → ((s : BoardAnswer) → observe c x s ≡ only (eqb d c) (answer_for c s))
      → (d ≡ c → denied r p x ≡ denied_to (rights_at r c) p k)
      → (d ≡ c → earlier_on w.board x l ≡ earlier_to (view c w) k)
      → shown r p (calls.answer w.board x l) ≡ calls.answer w.board x l
      → shown_to (rights_at r c) p k (answer (view c w) k) ≡ answer (view c w) k
      → Fed x
  naming x d k e o q n a b = go (eqb d c) refl
    where
      go : (t : Bool) → eqb d c ≡ t → Fed x
      go true t =
          let z : feeds c (at x l) ≡ k ∷ [] = e ∙ ap (λ (b : Bool). only b k) t in
          ours k z (q (eqb-true d c t)) (n (eqb-true d c t))
          (λ q. o (one (ans.refused q)) ∙ ap (λ (b : Bool). only b (ans.refused q)) t) (shown_whole x k z a b)
      go false t = theirs (e ∙ ap (λ (b : Bool). only b k) t) (λ s. o s ∙ ap (λ (b : Bool). only b (answer_for c s)) t)

  fed_write : (a v : ℕ) → Fed (write_register a v)
  unfolding calls.answer
  fed_write a v = go (named a) refl
    where
      go : (n : Named) → named a ≡ n → Fed (write_register a v)
      go (main o) e =
          ours (to.write_main (length (first l)) o v) (rw e) (rw e) (rw e) (λ q. rw e)
          (shown_whole (write_register a v) (to.write_main (length (first l)) o v) (rw e) refl refl)
      go (channel d o) e =
          naming (write_register a v) d (to.write_register (length (first l)) o v) (rw e) (λ s. rw e)
          (λ q. rw e (ap (λ (d : ℕ). not (may_write (rights_at r d) p)) q)) (λ q. rw e) refl refl
      go nothing e = theirs (rw e) (λ s. rw e)

  fed_read : (a : ℕ) → Fed (read_register a)
  unfolding calls.answer
  fed_read a = go (named a) refl
    where
      go : (n : Named) → named a ≡ n → Fed (read_register a)
      go (main o) e =
          ours (to.read_main o) (rw e) (rw e) (rw e) (λ q. rw e) (shown_whole (read_register a) (to.read_main o) (rw e) refl refl)
      go (channel d o) e =
          naming (read_register a) d (to.read_register o) (rw e) (λ s. rw e)
          (λ q. rw e (ap (λ (d : ℕ). not (may_read_register (rights_at r d) p o)) q)) (λ q. rw e) refl refl
      go nothing e = theirs (rw e) (λ s. rw e)

  writing : (d : ℕ) → d ≡ c → not (may_write (rights_at r d) p) ≡ not (may_write (rights_at r c) p)
  writing d q = ap (λ (d : ℕ). not (may_write (rights_at r d) p)) q

  reading : (d : ℕ) → d ≡ c → not (may_read (rights_at r d) p) ≡ not (may_read (rights_at r c) p)
  reading d q = ap (λ (d : ℕ). not (may_read (rights_at r d) p)) q

  -- refused by q before the channel's number, which is right
  ranged : (q d : ℕ) → d ≡ c → then q (channel_refusal d) ≡ q
  ranged q d e = ap (λ (d : ℕ). then q (channel_refusal d)) e ∙ number_passed q c h

  -- "a tick's answer shows a seat only channels it may read"
  tick_shown : Fits w (at tick l) → observe c tick (shown r p (calls.answer w.board tick l))
      ≡ unless (refusal_of (view c w) (to.tick (length (first l))))
      (shown_frame (rights_at r c) p (answer (view c w) (to.tick (length (first l))))) ∷ []
  unfolding response refusal_of
  tick_shown f = go (setpoints_fit w.board (length (first l))) refl
    where
      go : (t : Bool) → setpoints_fit w.board (length (first l)) ≡ t
          → observe c tick (shown r p (calls.answer w.board tick l))
          ≡ unless (refusal_of (view c w) (to.tick (length (first l))))
          (shown_frame (rights_at r c) p (answer (view c w) (to.tick (length (first l))))) ∷ []
      go true e =
          rw e
          (ap (λ (a : Answer). a ∷ [])
          (frame_shown r p w.board l c h (tick_answered w.board l e)
          ∙ ap (shown_frame (rights_at r c) p) (only_same true refl (rw e at (item w g c h l tick f).observed))))
      go false e = rw (tick_refused w.board l e, e)

  pub fed_one : (x : Call) → Fed x
  unfolding calls.answer
  fed_one (write_register a v) = fed_write a v
  fed_one (read_register a) = fed_read a
  fed_one (write_setpoint d u b i y) =
      naming (write_setpoint d u b i y) d (to.write_setpoint (length (first l)) u b i y) refl (λ s. refl) (writing d)
      (ranged (length_refusal (length (first l)) (w.board.n * 64)) d) refl refl
  fed_one (arm d) = naming (arm d) d to.arm refl (λ s. refl) (writing d) (λ q. ap channel_refusal q ∙ in_range_passed c h) refl refl
  fed_one (disarm d) = naming (disarm d) d to.disarm refl (λ s. refl) (writing d) (λ q. ap channel_refusal q ∙ in_range_passed c h) refl refl
  fed_one (open_download d) =
      naming (open_download d) d to.open_download refl (λ s. refl) (reading d) (λ q. ap channel_refusal q ∙ in_range_passed c h) refl refl
  fed_one (reply d y) =
      naming (reply d y) d (to.reply (length (first l)) y) refl (λ s. refl) (writing d)
      (ranged (length_refusal (length (first l)) (w.board.m * 8)) d) refl refl
  fed_one (query d q) =
      naming (query d q) d (to.query q (length (first l)) (length (second l))) refl (λ s. refl) (reading d)
      (λ e. ranged (lent_refusal w.board.n w.board.m (query_lending d q) (length (first l)) (length (second l))) d e
      ∙ query_lent w.board.n w.board.m d q (length (first l)) (length (second l)))
      refl refl
  fed_one tick = ours (to.tick (length (first l))) refl refl (then_granted (length_refusal (length (first l)) (w.board.n * 64))) (λ q. refl) tick_shown
  fed_one (event y) =
      ours (to.event (length (first l)) y) refl refl (then_granted (length_refusal (length (first l)) (w.board.m * 8))) (λ q. refl)
      (shown_whole (event y) (to.event (length (first l)) y) refl refl refl)
  fed_one (change_user u) =
      ours (to.change_user u) refl refl refl (λ q. refl) (shown_whole (change_user u) (to.change_user u) refl refl refl)
  fed_one interrupt_level = theirs refl (λ s. refl)
