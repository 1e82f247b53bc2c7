-- Every call keeps the depths, the four channels and the lengths of both memories. Assumes nothing.
use Prim.Native.Nat.{ℕ, ◌*◌}
use mathlib.Core.Path.{◌≡◌, refl, sym, ap, subst, ◌∙◌}
use mathlib.Core.Bool.{cond}
use mathlib.Core.List.{List}
use native.Mathlib.Omega.{arith}
use lib.ListN.{length, length-set}
use lib.Dec.{eqb}
use Rattle.address_map.specs.Addresses.{Named, named, main, channel, nothing}
use Rattle.register_map.specs.AccessRule.{main_access}
use Rattle.register_map.specs.AccessRefusals.{read_refusal, write_refusal}
use Rattle.channel_core.specs.declared.Channel.{Channel}
use Rattle.channel_replies.specs.Replying as replies
use Rattle.channel_registers.specs.Calls as channel_registers
use Rattle.channel.specs.Calls as chn
use Rattle.channel.specs.OneChannel.{user_refusal}
use Rattle.channel.proofs.Cases.{either}
use Rattle.histories.proofs.Lengths.{SameLength, written_length, setpoint_length, reply_length}
use Rattle.board_state.specs.declared.Board.{Board}
use Rattle.board_state.specs.State.{channel_at, with_channel_at}
use Rattle.board_state.specs.Main.{main_written, main_read, status_read, taken_at}
use Rattle.board_state.specs.Checks.{no_channel, setpoints_fit, readbacks_fit}
use Rattle.board.specs.Calls.{event_boards, event_board_at, changed_at}
use Rattle.board_registers.specs.Calls.{write_board_at, read_board_at}
use Rattle.board.specs.Calls as board
use Rattle.board_channels.specs.Calls as channels
use Rattle.board_downloads.specs.Calls as downloads
use Rattle.board_registers.specs.Calls as registers
use Rattle.board.specs.Worlds.{World}
use Rattle.isolation.specs.Calls.{Call, write_register, read_register, write_setpoint, arm, disarm, open_download, reply, query, tick, event, change_user, interrupt_level, Lent, first, after, words_after}
use Rattle.isolation.proofs.Cases.{named_number}
use Rattle.isolation.proofs.Words.{over_length, setpoints_over, replies_over_lem, writes_over}
use Rattle.isolation.proofs.Worlds.{Good, plain, plain_query, parted_sets, parted_reads, full_reads}
use Rattle.isolation.proofs.Events.{good_first}

-- ---- The board

pub record Shape (b b' : Board) : Type 0 where
  pub n : b'.n ≡ b.n
  pub m : b'.m ≡ b.m
  pub channels : length b'.channels ≡ length b.channels

module _ (b : Board) where
  pub same : Shape b b
  same = record { n = refl; m = refl; channels = refl }

  write_at : (a : Named) (v : ℕ) → Shape b (write_board_at a b v)
  unfolding main_written
  write_at (main o) v = either (Shape b) (eqb (write_refusal (main_access o)) 0) (record { n = refl; m = refl; channels = refl }) same
  write_at (channel d o) v = record { n = refl; m = refl; channels = simp length-set }
  write_at nothing v = same

  read_at : (a : Named) → Shape b (read_board_at a b)
  unfolding main_read status_read taken_at
  read_at (main o) =
      either (Shape b) (eqb (read_refusal (main_access o)) 0)
      (either (Shape b) (eqb o 0x28) (record { n = refl; m = refl; channels = simp length-set })
      (either (Shape b) (eqb o 0x2a) (record { n = refl; m = refl; channels = simp length-set }) same))
      same
  read_at (channel d o) = record { n = refl; m = refl; channels = simp length-set }
  read_at nothing = same

  changed : (d : ℕ) (c : Channel) → Shape b (cond (no_channel d) b (with_channel_at b d c))
  changed d c = either (Shape b) (no_channel d) same (record { n = refl; m = refl; channels = simp length-set })

  pub shape : (x : Call) (l : Lent) → Shape b (after b x l)
  unfolding after registers.write_board registers.read_board channels.set_armed downloads.opened_board channels.reply_board board.tick_board board.event_board event_boards event_board_at board.user_board changed_at
  shape (write_register a v) l = either (Shape b) (readbacks_fit b (length (first l))) (write_at (named a) v) same
  shape (read_register a) l = read_at (named a)
  shape (write_setpoint d u f i x) l = same
  shape (arm d) l = changed d _
  shape (disarm d) l = changed d _
  shape (open_download d) l = changed d _
  shape (reply d f) l = either (Shape b) (readbacks_fit b (length (first l))) (changed d _) same
  shape (query d q) l = same
  shape tick l =
      either (Shape b) (setpoints_fit b (length (first l))) (record { n = refl; m = refl; channels = simp length-set }) same
  shape (event x) l =
      either (Shape b) (readbacks_fit b (length (first l))) (record { n = refl; m = refl; channels = simp length-set }) same
  shape (change_user u) l =
      either (Shape b) (eqb (user_refusal u) 0)
      (either (Shape b) (eqb u b.user) same (record { n = refl; m = refl; channels = simp length-set }))
      same
  shape interrupt_level l = same

-- ---- The memories

module _ (b : Board) (s : List ℕ) where
  write_length : (a v : ℕ) → SameLength s (registers.write_words b s a v)
  unfolding registers.write_words
  write_length a v = go (named a) refl
    where
      go : (n : Named) → named a ≡ n → SameLength s (registers.write_words b s a v)
      go (main o) e = rw e (either (SameLength s) (readbacks_fit b (length s)) refl refl)
      go (channel d o) e =
          ap length (writes_over b s d a o v e (named_number a d o e))
          ∙ over_length s (b.m * 8) (b.m * 2) d (λ (p : List ℕ). channel_registers.written_words (channel_at b d) p b.m o v) (parted_reads b)
          (λ p. written_length (channel_at b d) p b.m o v)
      go nothing e = rw e (either (SameLength s) (readbacks_fit b (length s)) refl refl)

  setpoints_length : (d u f i x : ℕ) → SameLength s (channels.setpoint_words b s d u f i x)
  setpoints_length d u f i x =
      ap length (setpoints_over b s d u f i x)
      ∙ over_length s (b.n * 64) (b.n * 16) d (λ (p : List ℕ). chn.setpoint_words (channel_at b d) p b.n u f i x) (parted_sets b)
      (λ p. setpoint_length (channel_at b d) p b.n u f i x)

  replies_length : (d f : ℕ) → SameLength s (channels.reply_words b s d f)
  replies_length d f =
      ap length (replies_over_lem b s d f)
      ∙ over_length s (b.m * 8) (b.m * 2) d (λ (p : List ℕ). replies.reply_words (channel_at b d) p b.m b.user f) (parted_reads b)
      (λ p. reply_length (channel_at b d) p b.m b.user f)

-- ---- So a good world stays good

module _ (w : World) (g : Good w) where
  good_by : (b : Board) (s r : List ℕ) → Shape w.board b → SameLength w.setpoints s → SameLength w.readbacks r
      → Good (record { board = b; setpoints = s; readbacks = r })
  good_by b s r k p q =
      record {
        four = k.channels ∙ g.four;
        sets = p ∙ g.sets ∙ ap (λ (n : ℕ). n * 64) (sym k.n);
        reads = q ∙ g.reads ∙ ap (λ (m : ℕ). m * 8) (sym k.m);
      }

  event_kept : (x : ℕ) → SameLength w.readbacks (board.event_words w.board w.readbacks x)
  unfolding board.event_words event_boards event_board_at
  event_kept x = rw (full_reads w g) ((good_first w g x 4 (omega arith)).reads ∙ sym g.reads)

  pub good_plain : (x : Call) → Good (plain w x)
  unfolding words_after
  good_plain (write_register a v) =
      good_by _ _ _ (shape w.board (write_register a v) _) refl (write_length w.board w.readbacks a v)
  good_plain (read_register a) = good_by _ _ _ (shape w.board (read_register a) _) refl refl
  good_plain (write_setpoint d u f i x) =
      good_by _ _ _ (shape w.board (write_setpoint d u f i x) _) (setpoints_length w.board w.setpoints d u f i x) refl
  good_plain (arm d) = good_by _ _ _ (shape w.board (arm d) _) refl refl
  good_plain (disarm d) = good_by _ _ _ (shape w.board (disarm d) _) refl refl
  good_plain (open_download d) = good_by _ _ _ (shape w.board (open_download d) _) refl refl
  good_plain (reply d f) =
      good_by _ _ _ (shape w.board (reply d f) _) refl (replies_length w.board w.readbacks d f)
  good_plain (query d q) = subst Good (sym (plain_query w d q)) g
  good_plain tick = good_by _ _ _ (shape w.board tick _) refl refl
  good_plain (event x) = good_by _ _ _ (shape w.board (event x) _) refl (event_kept x)
  good_plain (change_user u) = good_by _ _ _ (shape w.board (change_user u) _) refl refl
  good_plain interrupt_level = good_by _ _ _ (shape w.board interrupt_level _) refl refl
