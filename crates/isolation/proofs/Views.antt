-- A call on the memory as left does to the view of a channel that it concerns what it does to the one-channel definition. Assumes nothing.
use Prim.Native.Nat.{ℕ, ◌*◌}
use mathlib.Core.Path.{◌≡◌, refl, sym, ap, ap₂, ◌∙◌}
use mathlib.Core.Bool.{Bool, true, false, cond}
use mathlib.Core.List.{List}
use native.Mathlib.Omega.{arith}
use lib.ListN.{length}
use lib.Dec.{eqb}
use Rattle.address_map.specs.Addresses.{named, main, channel}
use Rattle.register_map.specs.AccessRule.{main_access}
use Rattle.register_map.specs.AccessRefusals.{read_refusal, write_refusal}
use Rattle.channel_core.specs.declared.Channel.{Channel}
use Rattle.channel_core.specs.State.{opened}
use Rattle.channel_core.specs.Behaviour as core
use Rattle.channel_replies.specs.Replying as replies
use Rattle.channel_registers.specs.Calls as channel_registers
use Rattle.channel.specs.Calls as chn
use Rattle.channel.specs.OneChannel.{Query, with_channel, with_setpoints, with_user, transition, refusal_of, effect, user_refusal}
use Rattle.channel.specs.OneChannel as to
use Rattle.channel.proofs.Cases.{either}
use Rattle.histories.proofs.Lengths.{written_length, setpoint_length, reply_length}
use Rattle.board_state.specs.declared.Board.{Board}
use Rattle.board_state.specs.State.{channel_at, with_channel_at}
use Rattle.board_state.specs.Checks.{no_channel}
use Rattle.board_state.specs.Main.{main_written, main_read, status_read, taken_at}
use Rattle.board_state.specs.Parts.{own}
use Rattle.board.specs.Calls.{tick_channel, changed_at}
use Rattle.board.specs.Calls as board
use Rattle.board_channels.specs.Calls as channels
use Rattle.board_registers.specs.Calls as registers
use Rattle.board.specs.Worlds.{World}
use Rattle.isolation.specs.Calls.{write_register, read_register, write_setpoint, reply, query, tick, event, change_user, with_board, after, words_after}
use Rattle.isolation.specs.Feeding.{view}
use Rattle.isolation.proofs.Parts.{Number}
use Rattle.isolation.proofs.Cases.{four_stored, with_channel_at_same_lem, in_range}
use Rattle.isolation.proofs.One.{with_both, transition_write, transition_reply, transition_event, transition_setpoint, transition_tick, transition_read, transition_main, transition_query}
use Rattle.isolation.proofs.Words.{over_mine, setpoints_over, replies_over_lem, writes_over}
use Rattle.isolation.proofs.Worlds.{Good, plain, plain_query, parted_sets, parted_reads, full_sets, full_reads}
use Rattle.isolation.proofs.Events.{past_it}
use Rattle.isolation.proofs.Mains.{status_taken}

module _ (w : World) (g : Good w) (c : ℕ) (h : Number c) where
  -- ---- Calls that name the channel

  pub view_write : (a o v : ℕ) → named a ≡ channel c o
      → view c (plain w (write_register a v)) ≡ transition (view c w) (to.write_register (length w.readbacks) o v)
  unfolding after words_after registers.write_board
  view_write a o v e =
      rw (full_reads w g, e)
      (ap₂ (with_both (view c w)) (with_channel_at_same_lem w.board c _ g.four h)
      (ap (λ (r : List ℕ). own r (w.board.m * 2) c) (writes_over w.board w.readbacks c a o v e h)
      ∙ over_mine w.readbacks (w.board.m * 8) (w.board.m * 2) c
      (λ (p : List ℕ). channel_registers.written_words (channel_at w.board c) p w.board.m o v) (parted_reads w.board)
      (λ p. written_length (channel_at w.board c) p w.board.m o v) g.reads h)
      ∙ sym (transition_write (view c w) (length w.readbacks) (full_reads w g) o v))

  pub view_read : (a o : ℕ) → named a ≡ channel c o → view c (plain w (read_register a)) ≡ transition (view c w) (to.read_register o)
  unfolding after registers.read_board
  view_read a o e =
      rw e (ap (with_channel (view c w)) (with_channel_at_same_lem w.board c _ g.four h) ∙ sym (transition_read (view c w) o))

  pub view_setpoint : (u f i x : ℕ)
      → view c (plain w (write_setpoint c u f i x)) ≡ transition (view c w) (to.write_setpoint (length w.setpoints) u f i x)
  unfolding after words_after
  view_setpoint u f i x =
      ap (with_setpoints (view c w))
      (ap (λ (r : List ℕ). own r (w.board.n * 16) c) (setpoints_over w.board w.setpoints c u f i x)
      ∙ over_mine w.setpoints (w.board.n * 64) (w.board.n * 16) c
      (λ (p : List ℕ). chn.setpoint_words (channel_at w.board c) p w.board.n u f i x) (parted_sets w.board)
      (λ p. setpoint_length (channel_at w.board c) p w.board.n u f i x) g.sets h)
      ∙ sym (transition_setpoint (view c w) (length w.setpoints) (full_sets w g) u f i x)

  -- arm, disarm and the opening of a download change the channel that they name to `changed`
  pub view_changed : (changed : Channel) → view c (with_board w (cond (no_channel c) w.board (with_channel_at w.board c changed))) ≡ with_channel (view c w) changed
  view_changed changed = rw (in_range c h) (ap (with_channel (view c w)) (with_channel_at_same_lem w.board c changed g.four h))

  pub view_reply : (f : ℕ) → view c (plain w (reply c f)) ≡ transition (view c w) (to.reply (length w.readbacks) f)
  unfolding after words_after channels.reply_board
  view_reply f =
      rw (full_reads w g, in_range c h)
      (ap₂ (with_both (view c w)) (with_channel_at_same_lem w.board c _ g.four h)
      (ap (λ (r : List ℕ). own r (w.board.m * 2) c) (replies_over_lem w.board w.readbacks c f)
      ∙ over_mine w.readbacks (w.board.m * 8) (w.board.m * 2) c
      (λ (p : List ℕ). replies.reply_words (channel_at w.board c) p w.board.m w.board.user f) (parted_reads w.board)
      (λ p. reply_length (channel_at w.board c) p w.board.m w.board.user f) g.reads h)
      ∙ sym (transition_reply (view c w) (length w.readbacks) (full_reads w g) f))

  pub view_query : (d : ℕ) (q : Query) (k j : ℕ) → view c (plain w (query d q)) ≡ transition (view c w) (to.query q k j)
  view_query d q k j = ap (view c) (plain_query w d q) ∙ sym (transition_query (view c w) q k j)

  -- ---- Shared calls

  pub view_tick : view c (plain w tick) ≡ transition (view c w) (to.tick (length w.setpoints))
  unfolding after words_after board.tick_board tick_channel
  view_tick =
      rw (full_sets w g)
      (ap (with_channel (view c w))
      (four_stored (λ (j : ℕ) (x : Channel). tick_channel w.board w.setpoints j) w.board.channels opened c g.four h)
      ∙ sym (transition_tick (view c w) (length w.setpoints) (full_sets w g)))

  pub view_event : (x : ℕ) → view c (plain w (event x)) ≡ transition (view c w) (to.event (length w.readbacks) x)
  unfolding after words_after board.event_board board.event_words
  view_event x =
      rw (full_reads w g) (past_it w g x c h 4 h.high (omega arith))
      ∙ sym (transition_event (view c w) (length w.readbacks) (full_reads w g) x)

  pub view_user : (u : ℕ) → view c (plain w (change_user u)) ≡ transition (view c w) (to.change_user u)
  unfolding after board.user_board changed_at transition refusal_of effect
  view_user u = go (eqb (user_refusal u) 0) refl (eqb u w.board.user) refl
    where
      go : (t : Bool) → eqb (user_refusal u) 0 ≡ t → (q : Bool) → eqb u w.board.user ≡ q
          → view c (plain w (change_user u)) ≡ transition (view c w) (to.change_user u)
      go true e true r = rw (e, r)
      go true e false r =
          rw (e, r)
          (ap (λ (x : Channel). with_user (with_channel (view c w) x) u)
          (four_stored (λ (j : ℕ) (x : Channel). core.user_changed x) w.board.channels opened c g.four h))
      go false e q r = rw e

  pub view_write_main : (a o v : ℕ) → named a ≡ main o
      → view c (plain w (write_register a v)) ≡ transition (view c w) (to.write_main (length w.readbacks) o v)
  unfolding after words_after registers.write_board registers.write_words main_written
  view_write_main a o v e =
      rw (full_reads w g, e)
      (either (λ (b : Board). view c (with_board w b) ≡ view c w) (eqb (write_refusal (main_access o)) 0) refl refl
      ∙ sym (transition_main (view c w) (length w.readbacks) o v))

  main_read_lem : (o : ℕ) → view c (with_board w (main_read w.board o)) ≡ with_channel (view c w) (to.main_read (channel_at w.board c) o)
  unfolding main_read status_read taken_at
  main_read_lem o = go (eqb o 0x28) (eqb o 0x2a)
    where
      go : (t q : Bool)
          → view c (with_board w (cond t (status_read w.board false) (cond q (status_read w.board true) w.board)))
          ≡ with_channel (view c w)
          (cond t (chn.main_taken (channel_at w.board c) false) (cond q (chn.main_taken (channel_at w.board c) true) (channel_at w.board c)))
      go true q = ap (with_channel (view c w)) (status_taken w.board false c h g.four)
      go false true = ap (with_channel (view c w)) (status_taken w.board true c h g.four)
      go false false = refl

  pub view_read_main : (a o : ℕ) → named a ≡ main o → view c (plain w (read_register a)) ≡ transition (view c w) (to.read_main o)
  unfolding after registers.read_board transition refusal_of effect
  view_read_main a o e = rw e (go (eqb (read_refusal (main_access o)) 0))
    where
      go : (t : Bool)
          → view c (with_board w (cond t (main_read w.board o) w.board))
          ≡ cond t (with_channel (view c w) (to.main_read (channel_at w.board c) o)) (view c w)
      go true = main_read_lem o
      go false = refl
