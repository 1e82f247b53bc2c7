-- What a channel observes of a call's answer is what the one-channel definition answers. Assumes nothing.
use Prim.Native.Nat.{ℕ}
use mathlib.Core.Path.{◌≡◌, refl, sym, ap, subst, ◌∙◌}
use mathlib.Core.Logic.{◌⊎◌, inl, inr}
use mathlib.Core.Bool.{Bool, true, false, cond}
use mathlib.Core.List.{List}
use lib.ListN.{length}
use lib.Dec.{eqb}
use borrow.Author.Tests.{eqb-true}
use Rattle.address_map.specs.Addresses.{named, main, channel}
use Rattle.register_map.specs.AccessRule.{main_access}
use Rattle.register_map.specs.AccessRefusals.{read_refusal, write_refusal}
use Rattle.channel_core.specs.Answers.{Answer, is_refusal, unless}
use Rattle.channel_core.specs.Answers as ans
use Rattle.channel_registers.specs.Calls as channel_registers
use Rattle.channel.specs.Calls as chn
use Rattle.channel.specs.Downloads as download
use Rattle.channel.specs.OneChannel.{Query, response, refusal_of, answer, retired_of, portion_in, user_refusal, main_answer}
use Rattle.channel.specs.OneChannel as to
use Rattle.channel.proofs.Cases.{clash, either}
use Rattle.board_state.specs.State.{channel_at}
use Rattle.board_state.specs.Main.{main_value}
use Rattle.board.specs.Answers.{BoardAnswer, one, each, refuses}
use Rattle.board_state.specs.Checks.{size_mismatch, setpoints_fit, readbacks_fit}
use Rattle.board.specs.Calls.{tick_frame}
use Rattle.board.specs.Calls as board
use Rattle.board_channels.specs.Calls as channels
use Rattle.board_channels.proofs.RetiredPart.{same_refusal}
use Rattle.board_downloads.specs.Calls as downloads
use Rattle.board_downloads.proofs.Portions as portion
use Rattle.board_readings.specs.Calls as readings
use Rattle.board_registers.specs.Calls as registers
use Rattle.board.specs.Worlds.{World}
use Rattle.isolation.specs.Calls.{write_register, read_register, write_setpoint, open_download, reply, query, tick, event, change_user, Lent, first, second, refused, own_buffers, given}
use Rattle.isolation.specs.Calls as wld
use Rattle.isolation.specs.Feeding.{answer_for, shared, shared_read, view}
use Rattle.isolation.proofs.Parts.{Number}
use Rattle.isolation.proofs.Cases.{of_four_lem, in_range}
use Rattle.isolation.proofs.One.{response_write, response_setpoint, response_reply, response_main, response_event, response_tick}
use Rattle.isolation.proofs.Worlds.{Good, full_sets}
use Rattle.isolation.proofs.Mains.{status_bit}

-- ---- A refusal is observed as a refusal

pub answer_refused : (c : ℕ) (s : BoardAnswer) → refuses s ≡ true → is_refusal (answer_for c s) ≡ true
answer_refused c (one a) h = h
answer_refused c (each f g i k) h = clash h

pub shared_refused : (a : Answer) → is_refusal a ≡ true → is_refusal (shared a) ≡ true
shared_refused a h = rw h h

pub shared_read_refused_lem : (c o : ℕ) (a : Answer) → is_refusal a ≡ true → is_refusal (shared_read c o a) ≡ true
shared_read_refused_lem c o a h = rw h h

-- where there is nothing but a refusal's number to compare, all is observed
shared_done : (k : ℕ) → shared (unless k ans.done) ≡ unless k ans.done
shared_done k = either (λ (a : Answer). shared a ≡ a) (eqb k 0) refl refl

shared_fit : (t : Bool) (a : Answer) → shared a ≡ a → shared (cond t a size_mismatch) ≡ cond t a size_mismatch
shared_fit t a e = either (λ (x : Answer). shared x ≡ x) t e refl

module _ (w : World) (c : ℕ) (h : Number c) where
  -- ---- Calls that name the channel, whatever they are lent

  pub observe_write : (a o v : ℕ) (l : Lent) → named a ≡ channel c o
      → answer_for c (wld.answer w.board (write_register a v) l) ≡ response (view c w) (to.write_register (length (first l)) o v)
  unfolding wld.answer registers.write_answer
  observe_write a o v l e = rw e (sym (response_write (view c w) (length (first l)) o v))

  pub observe_read : (a o : ℕ) (l : Lent) → named a ≡ channel c o
      → answer_for c (wld.answer w.board (read_register a) l) ≡ response (view c w) (to.read_register o)
  unfolding wld.answer registers.read_answer channel_registers.read_answer response refusal_of answer
  observe_read a o l e = rw e

  pub observe_setpoint : (u f i x : ℕ) (l : Lent)
      → answer_for c (wld.answer w.board (write_setpoint c u f i x) l) ≡ response (view c w) (to.write_setpoint (length (first l)) u f i x)
  unfolding wld.answer channels.setpoint_answer
  observe_setpoint u f i x l = rw (in_range c h) (sym (response_setpoint (view c w) (length (first l)) u f i x))

  pub observe_opening : (l : Lent) → answer_for c (wld.answer w.board (open_download c) l) ≡ response (view c w) to.open_download
  unfolding wld.answer downloads.opening_answer response refusal_of answer
  observe_opening l = rw (in_range c h)

  -- arm and disarm
  pub arm_done : channels.arm_answer c ≡ ans.done
  unfolding channels.arm_answer
  arm_done = rw (in_range c h)

  pub observe_reply : (f : ℕ) (l : Lent) → answer_for c (wld.answer w.board (reply c f) l) ≡ response (view c w) (to.reply (length (first l)) f)
  unfolding wld.answer channels.reply_answer
  observe_reply f l = rw (in_range c h) (sym (response_reply (view c w) (length (first l)) f))

  -- ---- Shared calls, whatever they are lent

  pub observe_event : (x : ℕ) (l : Lent)
      → shared (answer_for c (wld.answer w.board (event x) l)) ≡ response (view c w) (to.event (length (first l)) x)
  unfolding wld.answer board.event_answer
  observe_event x l =
      shared_fit (readbacks_fit w.board (length (first l))) ans.done refl ∙ sym (response_event (view c w) (length (first l)) x)

  pub observe_user : (u : ℕ) (l : Lent) → shared (answer_for c (wld.answer w.board (change_user u) l)) ≡ response (view c w) (to.change_user u)
  unfolding wld.answer board.user_answer response refusal_of answer
  observe_user u l = shared_done (user_refusal u)

  pub observe_write_main : (a o v : ℕ) (l : Lent) → named a ≡ main o
      → shared (answer_for c (wld.answer w.board (write_register a v) l)) ≡ response (view c w) (to.write_main (length (first l)) o v)
  unfolding wld.answer registers.write_answer
  observe_write_main a o v l e =
      rw e
      (shared_fit (readbacks_fit w.board (length (first l))) (unless (write_refusal (main_access o)) ans.done)
      (shared_done (write_refusal (main_access o)))
      ∙ sym (response_main (view c w) (length (first l)) o v))

  -- "its bit when 28 or 2A is read"
  main_observed : (o : ℕ) → shared_read c o (ans.value (main_value w.board o)) ≡ main_answer (channel_at w.board c) o
  unfolding main_value
  main_observed o = go (eqb o 0x28) refl (eqb o 0x2a) refl
    where
      go : (t : Bool) → eqb o 0x28 ≡ t → (q : Bool) → eqb o 0x2a ≡ q
          → shared_read c o (ans.value (main_value w.board o)) ≡ main_answer (channel_at w.board c) o
      go true e q r = rw (eqb-true o 0x28 e) (ap ans.bit (status_bit w.board false c h))
      go false e true r = rw (eqb-true o 0x2a r) (ap ans.bit (status_bit w.board true c h))
      go false e false r = rw (e, r)

  pub observe_read_main : (a o : ℕ) (l : Lent) → named a ≡ main o
      → shared_read c o (answer_for c (wld.answer w.board (read_register a) l)) ≡ response (view c w) (to.read_main o)
  unfolding wld.answer registers.read_answer response refusal_of answer
  observe_read_main a o l e = rw e (go (eqb (read_refusal (main_access o)) 0))
    where
      go : (t : Bool)
          → shared_read c o (cond t (ans.value (main_value w.board o)) (ans.refused (read_refusal (main_access o))))
          ≡ cond t (main_answer (channel_at w.board c) o) (ans.refused (read_refusal (main_access o)))
      go true = main_observed o
      go false = refl

  -- ---- Calls whose answer goes by the words that they are lent: refused, or lent the memory as left

  -- a call of which the board and the one-channel definition tell a part, by `tell`, where neither refuses: the same part, where the channel's own buffers
  -- are lent
  part_same : (on_board by_itself : ℕ) → on_board ≡ by_itself → (there here : List ℕ) (l : Lent)
      → (eqb by_itself 0 ≡ true → l ≡ own_buffers w c → there ≡ here)
      → (tell : List ℕ → Answer) → ((s : List ℕ) → is_refusal (tell s) ≡ false)
      → ((is_refusal (unless on_board (tell there)) ≡ true) ⊎ (l ≡ own_buffers w c)) → unless on_board (tell there) ≡ unless by_itself (tell here)
  part_same on_board by_itself same there here l agree tell plain =
      subst
      (λ (r : ℕ). ((is_refusal (unless r (tell there)) ≡ true) ⊎ (l ≡ own_buffers w c)) → unless r (tell there) ≡ unless by_itself (tell here))
      (sym same) (go (eqb by_itself 0) refl)
    where
      go : (t : Bool) → eqb by_itself 0 ≡ t → ((is_refusal (unless by_itself (tell there)) ≡ true) ⊎ (l ≡ own_buffers w c))
          → unless by_itself (tell there) ≡ unless by_itself (tell here)
      go true e (inl r) = clash (sym (plain there) ∙ (rw e at r))
      go true e (inr q) = rw e (ap tell (agree e q))
      go false e f = rw e

  -- the retired call, and its twin
  retired_same : (l : Lent) (tell : List ℕ → Answer) → ((s : List ℕ) → is_refusal (tell s) ≡ false)
      → let k = length (first l) in
      let j = length (second l) in
      let answered = unless (channels.retired_refusal w.board c k j) (tell (channels.retired_words w.board c (first l) (second l))) in
      ((is_refusal answered ≡ true) ⊎ (l ≡ own_buffers w c)) → answered ≡ unless (chn.retired_refusal w.board.m k j) (tell (retired_of (view c w)))
  unfolding channels.retired_words chn.retired_words retired_of
  retired_same l =
      part_same _ _ (same_refusal w.board c (length (first l)) (length (second l)) (in_range c h)) _ (retired_of (view c w)) l
      (λ e q. rw (e, in_range c h, q))

  -- a portion of the download, and its twin
  portion_same : (i n : ℕ) (l : Lent) (tell : List ℕ → Answer) → ((s : List ℕ) → is_refusal (tell s) ≡ false)
      → let k = length (first l) in
      let j = length (second l) in
      let answered = unless (downloads.portion_refusal w.board c i n k j) (tell (downloads.portion_words w.board c i n (first l) (second l))) in
      ((is_refusal answered ≡ true) ⊎ (l ≡ own_buffers w c))
      → answered ≡ unless (download.portion_refusal (channel_at w.board c) w.board.m i n k j) (tell (portion_in (view c w) i n))
  unfolding downloads.portion_words download.portion_words portion_in
  portion_same i n l =
      part_same _ _ (portion.same_refusal w.board c i n (length (first l)) (length (second l)) (in_range c h)) _ (portion_in (view c w) i n) l
      (λ e q. rw (e, in_range c h, q))

  pub observe_query : (q : Query) (l : Lent) → ((refused w.board (query c q) l ≡ true) ⊎ (l ≡ given w (query c q)))
      → answer_for c (wld.answer w.board (query c q) l) ≡ response (view c w) (to.query q (length (first l)) (length (second l)))
  unfolding wld.answer channels.retired_answer channels.retired_length readings.readings_answer readings.last_tick_answer downloads.portion_answer downloads.portion_length response refusal_of answer
  observe_query to.retired l f = retired_same l ans.part (λ s. refl) f
  observe_query to.retired_length l f = retired_same l (λ s. ans.part_length (length s)) (λ s. refl) f
  observe_query to.readings l f = rw (in_range c h)
  observe_query to.last_tick l f = rw (in_range c h)
  observe_query (to.portion i n) l f = portion_same i n l ans.part (λ s. refl) f
  observe_query (to.portion_length i n) l f = portion_same i n l (λ s. ans.part_length (length s)) (λ s. refl) f

  pub observe_tick : Good w → (l : Lent) → ((refused w.board tick l ≡ true) ⊎ (l ≡ given w tick))
      → answer_for c (wld.answer w.board tick l) ≡ response (view c w) (to.tick (length (first l)))
  unfolding wld.answer board.tick_board_answer tick_frame
  observe_tick g l (inl r) = go (setpoints_fit w.board (length (first l))) refl
    where
      go : (t : Bool) → setpoints_fit w.board (length (first l)) ≡ t
          → answer_for c (wld.answer w.board tick l) ≡ response (view c w) (to.tick (length (first l)))
      go true e = clash (rw e at r)
      go false e = rw e (sym (response_tick (view c w) (length (first l)) ∙ rw e))
  observe_tick g l (inr q) =
      subst (λ (l : Lent). answer_for c (wld.answer w.board tick l) ≡ response (view c w) (to.tick (length (first l)))) (sym q)
      (rw (full_sets w g)
      (of_four_lem (λ (j : ℕ). tick_frame w.board w.setpoints j) c h
      ∙ sym (response_tick (view c w) (length w.setpoints) ∙ rw (full_sets w g))))
