-- A refused call changes no state and no lent word, on any board and lent anything. Assumes nothing.
use Prim.Native.Nat.{ℕ}
use mathlib.Core.Path.{◌≡◌, refl, sym, ap, ◌∙◌}
use mathlib.Core.Bool.{true, false, cond}
use mathlib.Core.List.{List}
use lib.ListN.{length}
use Rattle.frame.specs.Frames.{Reading, read}
use Rattle.frame.specs.Frames as frame
use Rattle.address_map.specs.Addresses.{Named, named, main, channel, nothing}
use Rattle.register_map.specs.AccessRule.{channel_access, main_access}
use Rattle.register_map.specs.AccessRefusals.{read_refusal, write_refusal}
use Rattle.channel_core.specs.declared.Channel.{Channel}
use Rattle.channel_core.specs.Answers.{Answer, is_refusal}
use Rattle.channel_core.specs.Answers as ans
use Rattle.channel_replies.specs.Replying.{reply_answer_as, reply_as, reply_words_as}
use Rattle.channel_replies.specs.Replying as replies
use Rattle.channel_registers.specs.Calls.{register_refusal}
use Rattle.channel_registers.specs.Calls as channel_registers
use Rattle.channel.specs.Calls.{setpoint_refusal}
use Rattle.channel.specs.Calls as chn
use Rattle.channel.specs.Downloads.{opening_answer}
use Rattle.channel.specs.OneChannel.{user_refusal}
use Rattle.channel.proofs.Cases.{clash, by_test}
use Rattle.histories.proofs.Accepted.{received_accepted}
use Rattle.board_state.specs.declared.Board.{Board}
use Rattle.board_state.specs.State.{channel_at, with_channel_at}
use Rattle.board_state.specs.Main.{main_value}
use Rattle.board_state.specs.Parts.{own, with_own}
use Rattle.board_state.specs.Checks.{out_of_range, readbacks_fit, setpoints_fit, no_channel, readback_size, setpoint_size}
use Rattle.board_registers.specs.Calls.{write_board_at, write_answer_at, write_words_at, read_board_at, read_answer_at}
use Rattle.board.specs.Calls as board
use Rattle.board_channels.specs.Calls as channels
use Rattle.board_downloads.specs.Calls as downloads
use Rattle.board_registers.specs.Calls as registers
use Rattle.isolation.specs.Calls.{Call, write_register, read_register, write_setpoint, arm, disarm, open_download, reply, query, tick, event, change_user, interrupt_level, Lent, none, words, buffers, first, answer, after, words_after, lent_after, refused}
use Rattle.isolation.specs.Isolation.{RefusedChangesNothing}
use Rattle.isolation.proofs.Parts.{own_same}
use Rattle.isolation.proofs.Cases.{unless_refused, with_channel_at_own_lem}

-- ---- One channel

module _ (c : Channel) where
  written_still : (o v : ℕ) → is_refusal (channel_registers.written_answer c o v) ≡ true → channel_registers.written_of c o v ≡ c
  unfolding channel_registers.written_answer channel_registers.written_of
  written_still o v h = rw (unless_refused (register_refusal c o v) ans.done refl h)

  written_words_lem : (s : List ℕ) (m o v : ℕ) → is_refusal (channel_registers.written_answer c o v) ≡ true → channel_registers.written_words c s m o v ≡ s
  unfolding channel_registers.written_answer channel_registers.written_words
  written_words_lem s m o v h = rw (unless_refused (register_refusal c o v) ans.done refl h)

  read_still : (o : ℕ) → is_refusal (channel_registers.read_answer c o) ≡ true → channel_registers.read_of c o ≡ c
  unfolding channel_registers.read_answer channel_registers.read_of
  read_still o h = rw (unless_refused (read_refusal (channel_access o)) (ans.value (channel_registers.read_value c o)) refl h)

  setpoint_words_lem : (s : List ℕ) (n u b i x : ℕ) → is_refusal (chn.setpoint_answer c n u b i) ≡ true → chn.setpoint_words c s n u b i x ≡ s
  unfolding chn.setpoint_answer chn.setpoint_words
  setpoint_words_lem s n u b i x h = rw (unless_refused (setpoint_refusal c n u b i) ans.done refl h)

  pub reply_still : (m f : ℕ) → is_refusal (replies.reply_answer c m f) ≡ true → replies.reply_of c m f ≡ c
  unfolding replies.reply_answer replies.reply_of
  reply_still m f h = go (read f) h
    where
      go : (r : Reading) → is_refusal (reply_answer_as r c m) ≡ true → reply_as r c m ≡ c
      go (frame.refused k) h = refl
      go (frame.fields id word aux crc) h = clash (sym (received_accepted c m) ∙ h)

  pub reply_words_lem : (s : List ℕ) (m u f : ℕ) → is_refusal (replies.reply_answer c m f) ≡ true → replies.reply_words c s m u f ≡ s
  unfolding replies.reply_answer replies.reply_words
  reply_words_lem s m u f h = go (read f) h
    where
      go : (r : Reading) → is_refusal (reply_answer_as r c m) ≡ true → reply_words_as r c s m u ≡ s
      go (frame.refused k) h = refl
      go (frame.fields id word aux crc) h = clash (sym (received_accepted c m) ∙ h)

-- ---- The board

abbrev Is : {A : Type 0} → A → A → Type 0
Is x y = y ≡ x

module _ (b : Board) where
  write_at : (a : Named) (v : ℕ) → is_refusal (write_answer_at a b v) ≡ true → write_board_at a b v ≡ b
  write_at (main o) v h = rw (unless_refused (write_refusal (main_access o)) ans.done refl h)
  write_at (channel d o) v h = ap (with_channel_at b d) (written_still (channel_at b d) o v h) ∙ with_channel_at_own_lem b d
  write_at nothing v h = refl

  write_words_at_lem : (a : Named) (s : List ℕ) (v : ℕ) → is_refusal (write_answer_at a b v) ≡ true → write_words_at a b s v ≡ s
  write_words_at_lem (main o) s v h = refl
  write_words_at_lem (channel d o) s v h =
      ap (with_own s (readback_size b) d) (written_words_lem (channel_at b d) (own s (readback_size b) d) b.m o v h)
      ∙ own_same s (readback_size b) d
  write_words_at_lem nothing s v h = refl

  read_at : (a : Named) → is_refusal (read_answer_at a b) ≡ true → read_board_at a b ≡ b
  read_at (main o) h = rw (unless_refused (read_refusal (main_access o)) (ans.value (main_value b o)) refl h)
  read_at (channel d o) h = ap (with_channel_at b d) (read_still (channel_at b d) o h) ∙ with_channel_at_own_lem b d
  read_at nothing h = refl

  -- ---- The board, and the words, after each call

  write_board_lem : (k a v : ℕ) → is_refusal (registers.write_answer b k a v) ≡ true → registers.write_board b k a v ≡ b
  unfolding registers.write_answer registers.write_board
  write_board_lem k a v h = by_test (Is b) (readbacks_fit b k) (λ t. write_at (named a) v (rw t at h)) (λ t. refl)

  write_words_lem : (s : List ℕ) (a v : ℕ) → is_refusal (registers.write_answer b (length s) a v) ≡ true → registers.write_words b s a v ≡ s
  unfolding registers.write_answer registers.write_words
  write_words_lem s a v h = by_test (Is s) (readbacks_fit b (length s)) (λ t. write_words_at_lem (named a) s v (rw t at h)) (λ t. refl)

  read_board_lem : (a : ℕ) → is_refusal (registers.read_answer b a) ≡ true → registers.read_board b a ≡ b
  unfolding registers.read_answer registers.read_board
  read_board_lem a h = read_at (named a) h

  setpoint_all : (s : List ℕ) (d u f i x : ℕ) → is_refusal (channels.setpoint_answer b (length s) d u f i) ≡ true
      → channels.setpoint_words b s d u f i x ≡ s
  unfolding channels.setpoint_answer channels.setpoint_words
  setpoint_all s d u f i x h =
      by_test (Is s) (setpoints_fit b (length s))
      (λ t. by_test (Is s) (no_channel d) (λ q. refl)
      (λ q. ap (with_own s (setpoint_size b) d)
      (setpoint_words_lem (channel_at b d) (own s (setpoint_size b) d) b.n u f i x (rw (t, q) at h))
      ∙ own_same s (setpoint_size b) d))
      (λ t. refl)

  -- arm, disarm, the opening of a download: of a channel in range they answer what is no refusal
  changed_board : (d : ℕ) (c : Channel) (a : Answer) → is_refusal a ≡ false → is_refusal (cond (no_channel d) out_of_range a) ≡ true
      → cond (no_channel d) b (with_channel_at b d c) ≡ b
  changed_board d c a plain h = by_test (Is b) (no_channel d) (λ t. refl) (λ t. clash (sym plain ∙ (rw t at h)))

  reply_board_lem : (k d f : ℕ) → is_refusal (channels.reply_answer b k d f) ≡ true → channels.reply_board b k d f ≡ b
  unfolding channels.reply_answer channels.reply_board
  reply_board_lem k d f h =
      by_test (Is b) (readbacks_fit b k)
      (λ t. by_test (Is b) (no_channel d) (λ q. refl)
      (λ q. ap (with_channel_at b d) (reply_still (channel_at b d) b.m f (rw (t, q) at h)) ∙ with_channel_at_own_lem b d))
      (λ t. refl)

  reply_all : (s : List ℕ) (d f : ℕ) → is_refusal (channels.reply_answer b (length s) d f) ≡ true → channels.reply_words b s d f ≡ s
  unfolding channels.reply_answer channels.reply_words
  reply_all s d f h =
      by_test (Is s) (readbacks_fit b (length s))
      (λ t. by_test (Is s) (no_channel d) (λ q. refl)
      (λ q. ap (with_own s (readback_size b) d)
      (reply_words_lem (channel_at b d) (own s (readback_size b) d) b.m b.user f (rw (t, q) at h))
      ∙ own_same s (readback_size b) d))
      (λ t. refl)

  tick_board_lem : (l : Lent) → refused b tick l ≡ true → board.tick_board b (first l) ≡ b
  unfolding answer board.tick_board_answer board.tick_board
  tick_board_lem l h = by_test (Is b) (setpoints_fit b (length (first l))) (λ t. clash (rw t at h)) (λ t. refl)

  event_board_lem : (k x : ℕ) → is_refusal (board.event_answer b k) ≡ true → board.event_board b k x ≡ b
  unfolding board.event_answer board.event_board
  event_board_lem k x h = by_test (Is b) (readbacks_fit b k) (λ t. clash (rw t at h)) (λ t. refl)

  event_words_lem : (s : List ℕ) (x : ℕ) → is_refusal (board.event_answer b (length s)) ≡ true → board.event_words b s x ≡ s
  unfolding board.event_answer board.event_words
  event_words_lem s x h = by_test (Is s) (readbacks_fit b (length s)) (λ t. clash (rw t at h)) (λ t. refl)

  user_board_lem : (u : ℕ) → is_refusal (board.user_answer u) ≡ true → board.user_board b u ≡ b
  unfolding board.user_answer board.user_board
  user_board_lem u h = rw (unless_refused (user_refusal u) ans.done refl h)

  -- ---- Every call

  refused_board : (x : Call) (l : Lent) → refused b x l ≡ true → after b x l ≡ b
  unfolding answer after channels.arm_answer channels.set_armed downloads.opening_answer downloads.opened_board
  refused_board (write_register a v) l h = write_board_lem (length (first l)) a v h
  refused_board (read_register a) l h = read_board_lem a h
  refused_board (write_setpoint d u f i x) l h = refl
  refused_board (arm d) l h = changed_board d _ ans.done refl h
  refused_board (disarm d) l h = changed_board d _ ans.done refl h
  refused_board (open_download d) l h = changed_board d _ (opening_answer (channel_at b d)) refl h
  refused_board (reply d f) l h = reply_board_lem (length (first l)) d f h
  refused_board (query d q) l h = refl
  refused_board tick l h = tick_board_lem l h
  refused_board (event x) l h = event_board_lem (length (first l)) x h
  refused_board (change_user u) l h = user_board_lem u h
  refused_board interrupt_level l h = refl

  refused_words : (x : Call) (s : List ℕ) → refused b x (words s) ≡ true → words_after b x s ≡ s
  unfolding answer words_after
  refused_words (write_register a v) s h = write_words_lem s a v h
  refused_words (read_register a) s h = refl
  refused_words (write_setpoint d u f i x) s h = setpoint_all s d u f i x h
  refused_words (arm d) s h = refl
  refused_words (disarm d) s h = refl
  refused_words (open_download d) s h = refl
  refused_words (reply d f) s h = reply_all s d f h
  refused_words (query d q) s h = refl
  refused_words tick s h = refl
  refused_words (event x) s h = event_words_lem s x h
  refused_words (change_user u) s h = refl
  refused_words interrupt_level s h = refl

  refused_lent : (x : Call) (l : Lent) → refused b x l ≡ true → lent_after b x l ≡ l
  refused_lent x none h = refl
  refused_lent x (words s) h = ap words (refused_words x s h)
  refused_lent x (buffers s t) h = refl

pub refused_changes_nothing : RefusedChangesNothing
refused_changes_nothing b x l h = (refused_board b x l h, refused_lent b x l h)
