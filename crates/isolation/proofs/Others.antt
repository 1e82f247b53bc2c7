-- A call that names another channel, or feeds a channel nothing, changes nothing that it can see, in any world. Assumes nothing.
use Prim.Native.Nat.{ℕ, ◌*◌}
use mathlib.Core.Path.{◌≡◌, refl, sym, ap, ap₂, ◌∙◌}
use mathlib.Core.Logic.{◌⊎◌, inl, inr}
use mathlib.Core.Bool.{Bool, true, false, cond}
use mathlib.Core.List.{List, [], ◌∷◌}
use native.Mathlib.Omega.{arith}
use lib.ListN.{length}
use lib.Dec.{eqb}
use borrow.Author.Tests.{eqb-true, eq-eqb, ne_eqb}
use Rattle.address_map.specs.Addresses.{Named, named, main, channel, nothing}
use Rattle.channel_core.specs.declared.Channel.{Channel}
use Rattle.channel_replies.specs.Replying as replies
use Rattle.channel_registers.specs.Calls as channel_registers
use Rattle.channel.specs.Calls as chn
use Rattle.channel.specs.OneChannel.{with_channel, with_setpoints}
use Rattle.channel.specs.OneChannel as to
use Rattle.channel.proofs.Cases.{clash, by_test}
use Rattle.histories.proofs.Lengths.{written_length, setpoint_length, reply_length}
use Rattle.board_state.specs.declared.Board.{Board}
use Rattle.board_state.specs.State.{channel_at, with_channel_at}
use Rattle.board_state.specs.Parts.{own}
use Rattle.board_state.specs.Checks.{no_channel, readbacks_fit}
use Rattle.board_registers.specs.Calls.{write_board_at, read_board_at}
use Rattle.board_channels.specs.Calls as channels
use Rattle.board_downloads.specs.Calls as downloads
use Rattle.board_registers.specs.Calls as registers
use Rattle.board.specs.Worlds.{World}
use Rattle.isolation.specs.Calls.{Call, write_register, read_register, write_setpoint, arm, disarm, open_download, reply, query, tick, event, change_user, interrupt_level, first, second, with_board, after, words_after, refused, given, step}
use Rattle.isolation.specs.Calls as wld
use Rattle.isolation.specs.Feeding.{only, write_scope, read_scope, names_in, names, feed_write, feed_read, feed, view}
use Rattle.isolation.specs.Isolation.{UnfedUntouched, OthersUntouched}
use Rattle.isolation.proofs.Parts.{Number}
use Rattle.isolation.proofs.Cases.{with_channel_at_other_lem, range_in, named_number}
use Rattle.isolation.proofs.One.{with_both}
use Rattle.isolation.proofs.Words.{over_theirs, setpoints_over, replies_over_lem, writes_over}
use Rattle.isolation.proofs.Worlds.{either, step_refused, step_given, plain, plain_query, parted_sets, parted_reads}

module _ (w : World) (c : ℕ) (h : Number c) (d : ℕ) (ne : c ≡ d → ⊥) where
  pub other_write : (a o v : ℕ) → named a ≡ channel d o → view c (plain w (write_register a v)) ≡ view c w
  unfolding after words_after registers.write_board
  other_write a o v e =
      ap (λ (n : Named). view c (wrote (cond (readbacks_fit w.board (length w.readbacks)) (write_board_at n w.board v) w.board))) e
      ∙ by_test (λ (b : Board). view c (wrote b) ≡ view c w) (readbacks_fit w.board (length w.readbacks))
      (λ t. ap₂ (with_both (view c w)) (with_channel_at_other_lem w.board d c _ (named_number a d o e) h ne) words)
      (λ t. ap (to.with_readbacks (view c w)) words)
    where
      wrote : Board → World
      wrote b = wld.with_readbacks (with_board w b) (registers.write_words w.board w.readbacks a v)

      words : own (registers.write_words w.board w.readbacks a v) (w.board.m * 2) c ≡ own w.readbacks (w.board.m * 2) c
      words =
          ap (λ (r : List ℕ). own r (w.board.m * 2) c) (writes_over w.board w.readbacks d a o v e (named_number a d o e))
          ∙ over_theirs w.readbacks (w.board.m * 8) (w.board.m * 2) d
          (λ (p : List ℕ). channel_registers.written_words (channel_at w.board d) p w.board.m o v) (parted_reads w.board)
          (λ p. written_length (channel_at w.board d) p w.board.m o v) c h ne

  pub other_read : (a o : ℕ) → named a ≡ channel d o → view c (plain w (read_register a)) ≡ view c w
  unfolding after registers.read_board
  other_read a o e =
      ap (λ (n : Named). view c (with_board w (read_board_at n w.board))) e
      ∙ ap (with_channel (view c w)) (with_channel_at_other_lem w.board d c _ (named_number a d o e) h ne)

  pub other_setpoint : (u f i x : ℕ) → view c (plain w (write_setpoint d u f i x)) ≡ view c w
  unfolding after words_after
  other_setpoint u f i x =
      ap (with_setpoints (view c w))
      (ap (λ (r : List ℕ). own r (w.board.n * 16) c) (setpoints_over w.board w.setpoints d u f i x)
      ∙ over_theirs w.setpoints (w.board.n * 64) (w.board.n * 16) d
      (λ (p : List ℕ). chn.setpoint_words (channel_at w.board d) p w.board.n u f i x) (parted_sets w.board)
      (λ p. setpoint_length (channel_at w.board d) p w.board.n u f i x) c h ne)

  pub other_changed : (changed : Channel) → view c (with_board w (cond (no_channel d) w.board (with_channel_at w.board d changed))) ≡ view c w
  other_changed changed =
      by_test (λ (b : Board). view c (with_board w b) ≡ view c w) (no_channel d) (λ t. refl)
      (λ t. ap (with_channel (view c w)) (with_channel_at_other_lem w.board d c changed (range_in d t) h ne))

  pub other_reply : (f : ℕ) → view c (plain w (reply d f)) ≡ view c w
  unfolding after words_after channels.reply_board
  other_reply f =
      by_test Stays (readbacks_fit w.board (length w.readbacks))
      (λ t. by_test Stays (no_channel d) (λ q. ap (to.with_readbacks (view c w)) words)
      (λ q. ap₂ (with_both (view c w)) (with_channel_at_other_lem w.board d c _ (range_in d q) h ne) words))
      (λ t. ap (to.with_readbacks (view c w)) words)
    where
      Stays : Board → Type 0
      Stays b = view c (wld.with_readbacks (with_board w b) (channels.reply_words w.board w.readbacks d f)) ≡ view c w

      words : own (channels.reply_words w.board w.readbacks d f) (w.board.m * 2) c ≡ own w.readbacks (w.board.m * 2) c
      words =
          ap (λ (r : List ℕ). own r (w.board.m * 2) c) (replies_over_lem w.board w.readbacks d f)
          ∙ over_theirs w.readbacks (w.board.m * 8) (w.board.m * 2) d
          (λ (p : List ℕ). replies.reply_words (channel_at w.board d) p w.board.m w.board.user f) (parted_reads w.board)
          (λ p. reply_length (channel_at w.board d) p w.board.m w.board.user f) c h ne

-- a register call that names nothing
module _ (w : World) (c : ℕ) where
  pub nothing_write : (a v : ℕ) → named a ≡ nothing → view c (plain w (write_register a v)) ≡ view c w
  unfolding after words_after registers.write_board registers.write_words
  nothing_write a v e = rw e (go (readbacks_fit w.board (length w.readbacks)))
    where
      go : (t : Bool)
          → view c (wld.with_readbacks (with_board w (cond t w.board w.board)) (cond t w.readbacks w.readbacks)) ≡ view c w
      go true = refl
      go false = refl

  pub nothing_read : (a : ℕ) → named a ≡ nothing → view c (plain w (read_register a)) ≡ view c w
  unfolding after registers.read_board
  nothing_read a e = rw e

-- ---- A call that names another channel feeds this one nothing

module _ (c d k j : ℕ) (ne : c ≡ d → ⊥) where
  away : {A : Type 0} (i : ℕ) (a : A) → eqb i d ≡ true → only (eqb i c) a ≡ []
  away i a t = rw (ne_eqb i c (λ e. ne (sym e ∙ eqb-true i d t)))

  naming_feeds : (x : Call) → names x d ≡ true → feed c x k j ≡ []
  naming_feeds (write_register a v) t = go (named a) t
    where
      go : (n : Named) → names_in (write_scope n) d ≡ true → feed_write c n k v ≡ []
      go (main o) t = clash t
      go (channel i o) t = away i (to.write_register k o v) t
      go nothing t = clash t
  naming_feeds (read_register a) t = go (named a) t
    where
      go : (n : Named) → names_in (read_scope n) d ≡ true → feed_read c n ≡ []
      go (main o) t = clash t
      go (channel i o) t = away i (to.read_register o) t
      go nothing t = clash t
  naming_feeds (write_setpoint i u f y x) t = away i (to.write_setpoint k u f y x) t
  naming_feeds (arm i) t = away i to.arm t
  naming_feeds (disarm i) t = away i to.disarm t
  naming_feeds (open_download i) t = away i to.open_download t
  naming_feeds (reply i f) t = away i (to.reply k f) t
  naming_feeds (query i q) t = away i (to.query q k j) t
  naming_feeds tick t = clash t
  naming_feeds (event x) t = clash t
  naming_feeds (change_user u) t = clash t
  naming_feeds interrupt_level t = clash t

-- ---- A call that feeds the channel nothing leaves its view

fed_some : {A B : Type 0} {a : A} {l : List A} → a ∷ l ≡ [] → B
fed_some e = let z : ◌≡◌ {A = ℕ} 0 1 = cc in absurd (omega arith)

fed_none : {A : Type 0} (d c : ℕ) (a : A) → only (eqb d c) a ≡ [] → c ≡ d → ⊥
fed_none d c a e p = fed_some {a = a} {l = []} (rw (eq-eqb d c (sym p)) at e)

module _ (w : World) (c : ℕ) (h : Number c) (k j : ℕ) where
  unfed : (x : Call) → feed c x k j ≡ [] → view c (plain w x) ≡ view c w
  unfolding after channels.set_armed downloads.opened_board
  unfed (write_register a v) t = go (named a) refl
    where
      go : (n : Named) → named a ≡ n → view c (plain w (write_register a v)) ≡ view c w
      go (main o) e = fed_some (rw e at t)
      go (channel d o) e = other_write w c h d (fed_none d c (to.write_register k o v) (rw e at t)) a o v e
      go nothing e = nothing_write w c a v e
  unfed (read_register a) t = go (named a) refl
    where
      go : (n : Named) → named a ≡ n → view c (plain w (read_register a)) ≡ view c w
      go (main o) e = fed_some (rw e at t)
      go (channel d o) e = other_read w c h d (fed_none d c (to.read_register o) (rw e at t)) a o e
      go nothing e = nothing_read w c a e
  unfed (write_setpoint d u f i x) t =
      other_setpoint w c h d (fed_none d c (to.write_setpoint k u f i x) t) u f i x
  unfed (arm d) t = other_changed w c h d (fed_none d c to.arm t) _
  unfed (disarm d) t = other_changed w c h d (fed_none d c to.disarm t) _
  unfed (open_download d) t = other_changed w c h d (fed_none d c to.open_download t) _
  unfed (reply d f) t = other_reply w c h d (fed_none d c (to.reply k f) t) f
  unfed (query d q) t = ap (view c) (plain_query w d q)
  unfed tick t = fed_some t
  unfed (event x) t = fed_some t
  unfed (change_user u) t = fed_some t
  unfed interrupt_level t = refl

pub unfed_untouched : UnfedUntouched
unfed_untouched w i f c low high e = go (either w i f)
  where
    go : ((refused w.board i.call i.lent ≡ true) ⊎ (i.lent ≡ given w i.call)) → view c (step w i) ≡ view c w
    go (inl r) = ap (view c) (step_refused w i r)
    go (inr q) =
        ap (view c) (step_given w i q)
        ∙ unfed w c (record { low = low; high = high }) (length (first i.lent)) (length (second i.lent)) i.call e

pub others_untouched : OthersUntouched
others_untouched w i f c low high d t ne =
    unfed_untouched w i f c low high
    (naming_feeds c d (length (first i.lent)) (length (second i.lent)) ne i.call t)
