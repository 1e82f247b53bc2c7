-- One call's step of the sequencer, whatever the call: its counts, its last send, its countdowns. Assumes nothing.
use Prim.Native.Nat.{ℕ, ◌+◌, ◌%◌, ◌≤◌, ◌<◌}
use mathlib.Core.Path.{◌≡◌, refl, sym, ◌∙◌, ap, subst}
use mathlib.Core.Bool.{Bool, true, false, cond, not, ◌||◌, ◌&&◌, or-not_self, or-false}
use native.Mathlib.Omega.{arith}
use lib.Dec.{ltb}
use borrow.Author.Tests.{ltb-true}
use Rattle.std.specs.declared.option.Option.{Option}
use Rattle.std.specs.declared.option.Option.TheVariants.{Some, None}
use Rattle.std.specs.Option.{is_some}
use Rattle.frame.specs.Frames.{Reading, read, crc_right}
use Rattle.frame.specs.Frames as frame
use Rattle.frame.proofs.Frames.{round_trip}
use Rattle.sequencer.specs.declared.LastSend.{LastSend}
use Rattle.sequencer.specs.declared.Stage.TheVariants as stage
use Rattle.sequencer.specs.declared.Sequencer.{Sequencer}
use Rattle.sequencer.specs.Transmissions.{Transmission}
use Rattle.sequencer.specs.Transmissions as transmission
use Rattle.sequencer.specs.Playing.{is_idle, nothing_sent, counted, shortfall, missing_with, with_missing, with_next_reply, answered, ticked, send_of}
use Rattle.sequencer.specs.Playing as seq
use Rattle.sequencer.specs.Runs.{count_after, missing_after}
use Rattle.sequencer.proofs.Moves.{moved}
use Rattle.readback.specs.declared.Disposition.{Disposition}
use Rattle.readback.specs.declared.Disposition.TheVariants as disposition
use Rattle.readback.specs.Storing.{disposition_of, capacity}
use Rattle.readback.specs.Storing as rb
use Rattle.command_frames.specs.declared.CommandFrames.{CommandFrames}
use Rattle.command_frames.specs.Commanding.{is_due, command_frame}
use Rattle.command_frames.specs.Commanding as cmd
use Rattle.channel_core.specs.declared.Channel.{Channel}
use Rattle.channel_core.specs.Answers.{Answer, is_frame, is_received}
use Rattle.channel_core.specs.Answers as ans
use Rattle.channel_core.specs.Behaviour.{ended_if, group_ended, is_setpoint, tick_line}
use Rattle.channel_replies.specs.Replying.{disposition_now, receipt_answer, received_channel, command_reply, reply_as, reply_answer_as, reply_of, reply_answer}
use Rattle.channel.proofs.Cases.{clash, either}
use Rattle.histories.specs.History.{id_in, sent_id}
use Rattle.histories.specs.Windows.{Window, closed}
use Rattle.histories.specs.Ranges.{Countdown, Quiet}
use Rattle.histories.proofs.Keeps.{Keeps, keeps_all}
use Rattle.histories.proofs.Ticks.{send_window, window_of, window_sent, plays_ticked}

-- what an answer adds to the window, where a command frame is due or not, and takes a reply or not
abbrev pub observed : Answer → (due takes : Bool) → Window → Window
observed a due takes w =
    cond (is_frame a && not due) (record { sent = true; id = sent_id a; replies = 0 })
    (cond (is_received a && not takes) (record { sent = w.sent; id = w.id; replies = w.replies + 1 }) w)

-- from s to t by a call with this answer, `id` being the Frame ID register, a command frame being due or not and taking a reply or not; it is a Group
-- End or not, a reset or not, idles otherwise or not, and reads the count of missing readbacks or not
pub record Steps (n id : ℕ) (s : Sequencer) (a : Answer) (due takes ends again stops reads : Bool) (t : Sequencer) : Type 0 where
  pub count_step : t.count ≡ cond (ends || again) 0 (cond (is_frame a && not due) (counted s.count) s.count)
  pub missing_step : t.missing ≡ cond (again || reads) 0 (cond (is_frame a && not due) (missing_with s.missing (shortfall s.last)) s.missing)
  pub quiet_step : Quiet s → Quiet t
  pub window_step : id < 256 → window_of t ≡ cond (ends || (again || stops)) closed (observed a due takes (window_of s))
  pub replies_step : (send_of s.last).replies ≤ 6 → (send_of t.last).replies ≤ 6
  pub received_step : (is_received a && not takes) ≡ true → is_some s.last ≡ true
  pub index_step : 1 ≤ n → s.index < n → t.index < n
  pub countdown_step : Countdown s → Countdown t

-- an answer to neither a tick nor a reply
abbrev pub Plain : Answer → Type 0
Plain a = (is_frame a ≡ false) × (is_received a ≡ false)

observed_plain : (a : Answer) (due takes : Bool) (w : Window) → Plain a → observed a due takes w ≡ w
observed_plain a due takes w h = rw (h.0, h.1)

unreceived : (a : Answer) (takes : Bool) → Plain a → (is_received a && not takes) ≡ false
unreceived a takes h = rw h.1

module _ {id : ℕ} {due takes : Bool} where
  -- kept, but for what a Group End before it did
  pub keeps_steps : (n : ℕ) (c : Channel) (a : Answer) (on : Bool) (t : Sequencer) → Plain a → Keeps (ended_if on c).sequencer t
      → Steps n id c.sequencer a due takes on false false false t
  unfolding ended_if group_ended seq.group_ended seq.idled
  keeps_steps n c a true t h k =
      record {
        count_step = k.count_kept;
        missing_step =
            k.missing_kept ∙ sym (ap (λ (b : Bool). cond (b && not due) (missing_with c.sequencer.missing (shortfall c.sequencer.last)) c.sequencer.missing) h.0);
        quiet_step = λ q e. k.last_kept;
        window_step = λ fits. ap send_window k.last_kept;
        replies_step = λ e. omega (arith, ap (λ (l : Option LastSend). (send_of l).replies) k.last_kept);
        received_step = λ e. clash (sym (unreceived a takes h) ∙ e);
        index_step = λ e i. k.index_kept n e e;
        countdown_step = λ p. k.countdown_kept tt;
      }
  keeps_steps n c a false t h k =
      record {
        count_step = k.count_kept ∙ sym (ap (λ (b : Bool). cond (b && not due) (counted c.sequencer.count) c.sequencer.count) h.0);
        missing_step =
            k.missing_kept ∙ sym (ap (λ (b : Bool). cond (b && not due) (missing_with c.sequencer.missing (shortfall c.sequencer.last)) c.sequencer.missing) h.0);
        quiet_step = λ q e. k.last_kept ∙ q (k.idle_kept e);
        window_step = λ fits. ap send_window k.last_kept ∙ sym (observed_plain a due takes (window_of c.sequencer) h);
        replies_step = λ e. omega (arith, ap (λ (l : Option LastSend). (send_of l).replies) k.last_kept);
        received_step = λ e. clash (sym (unreceived a takes h) ∙ e);
        index_step = k.index_kept n;
        countdown_step = k.countdown_kept;
      }

  pub kept_steps : (n : ℕ) (c : Channel) (a : Answer) (t : Sequencer) → Plain a → Keeps c.sequencer t → Steps n id c.sequencer a due takes false false false false t
  unfolding ended_if
  kept_steps n c a t h k = keeps_steps n c a false t h k

  -- a call that leaves the sequencer
  pub same_steps : (n : ℕ) (c : Channel) (a : Answer) (t : Sequencer) → Plain a → t ≡ c.sequencer → Steps n id c.sequencer a due takes false false false false t
  same_steps n c a t h e =
      subst (λ (x : Sequencer). Steps n id c.sequencer a due takes false false false false x) (sym e) (kept_steps n c a c.sequencer h (keeps_all c.sequencer))

  -- disarmed, the user changed, or reset: idle, with nothing sent
  pub idle_steps : (n : ℕ) (s : Sequencer) (armed again tag : Bool)
      → Steps n id s ans.done due takes false again (not again) false
      (record {
        armed = armed;
        stage = stage.Idle;
        left = 0;
        resume = 0;
        index = 0;
        word = 0;
        last = nothing_sent;
        count = cond again 0 s.count;
        missing = cond again 0 s.missing;
        tag = tag;
      })
  idle_steps n s armed again tag =
      record {
        count_step = refl;
        missing_step = sym (ap (λ (b : Bool). cond b 0 s.missing) (or-false again));
        quiet_step = λ q e. refl;
        window_step = λ fits. sym (ap (λ (b : Bool). cond b closed (window_of s)) (or-not_self again));
        replies_step = λ e. omega arith;
        received_step = λ e. clash e;
        index_step = λ e i. e;
        countdown_step = λ p. tt;
      }

  -- a read of the count of missing readbacks, or not
  pub read_steps : (n : ℕ) (c : Channel) (a : Answer) (reads : Bool) → Plain a
      → Steps n id c.sequencer a due takes false false false reads (cond reads (with_missing c.sequencer 0) c.sequencer)
  read_steps n c a true h =
      let same = same_steps n c a c.sequencer h refl in
      record {
        count_step = same.count_step;
        missing_step = refl;
        quiet_step = same.quiet_step;
        window_step = same.window_step;
        replies_step = same.replies_step;
        received_step = same.received_step;
        index_step = same.index_step;
        countdown_step = same.countdown_step;
      }
  read_steps n c a false h = same_steps n c a c.sequencer h refl

-- ---- A tick

-- a frame is a setpoint's exactly where no command frame is due
pub line_sends : (id : ℕ) (f : CommandFrames) (x : Transmission) → (is_due f.waiting ≡ true → x ≡ transmission.Nothing)
    → (is_frame (tick_line id f x) && not (is_due f.waiting)) ≡ is_setpoint x
line_sends id f transmission.Nothing h = go (is_due f.waiting)
  where
    go : (b : Bool) → (is_frame (cond b (ans.frame (command_frame f)) ans.none) && not b) ≡ false
    go true = refl
    go false = refl
line_sends id f (transmission.Word word k) h = go (is_due f.waiting) refl
  where
    go : (b : Bool) → is_due f.waiting ≡ b → not b ≡ true
    go true e = clash (sym (ap is_setpoint (h e)))
    go false e = refl

pub line_unreceived : (id : ℕ) (f : CommandFrames) (x : Transmission) → is_received (tick_line id f x) ≡ false
line_unreceived id f transmission.Nothing = either (λ (a : Answer). is_received a ≡ false) (is_due f.waiting) refl refl
line_unreceived id f (transmission.Word word k) = refl

count_sent : (x : Transmission) (c : ℕ) → count_after x c ≡ cond (is_setpoint x) (counted c) c
count_sent transmission.Nothing c = refl
count_sent (transmission.Word word k) c = refl

missing_sent : (x : Transmission) (l : Option LastSend) (k : ℕ) → missing_after x l k ≡ cond (is_setpoint x) (missing_with k (shortfall l)) k
missing_sent transmission.Nothing l k = refl
missing_sent (transmission.Word word c) l k = refl

-- the frame of a setpoint carries the Frame ID
window_frame : (id : ℕ) (f : CommandFrames) (x : Transmission) (w : Window) → id < 256
    → window_sent id x w ≡ cond (is_setpoint x) (record { sent = true; id = sent_id (tick_line id f x); replies = 0 }) w
window_frame id f transmission.Nothing w fits = refl
window_frame id f (transmission.Word word k) w fits =
    ap (λ (r : Reading). record { sent = true; id = id_in r; replies = 0 }) (sym (round_trip id (word % 65536) 0 fits (omega arith) (omega arith)))

window_few : (id : ℕ) (x : Transmission) (w : Window) → w.replies ≤ 6 → (window_sent id x w).replies ≤ 6
window_few id transmission.Nothing w h = h
window_few id (transmission.Word word k) w h = omega arith

pub tick_steps : (n : ℕ) (s : Sequencer) (f : CommandFrames) (takes : Bool) (id due p : ℕ) → 1 ≤ p
    → (is_due f.waiting ≡ true → (ticked s due n p id).transmission ≡ transmission.Nothing)
    → Steps n id s (tick_line id f (ticked s due n p id).transmission) (is_due f.waiting) takes false false false false (ticked s due n p id).sequencer
tick_steps n s f takes id due p some apart =
    let x = (ticked s due n p id).transmission in
    let a = plays_ticked s due n p id in
    let c = moved s due n p id in
    let sent = line_sends id f x apart in
    record {
      count_step = c.count ∙ count_sent x s.count ∙ sym (ap (λ (b : Bool). cond b (counted s.count) s.count) sent);
      missing_step =
          c.missing ∙ missing_sent x s.last s.missing ∙ sym (ap (λ (b : Bool). cond b (missing_with s.missing (shortfall s.last)) s.missing) sent);
      quiet_step = a.stays_quiet;
      window_step = λ fits. a.window ∙ window_frame id f x (window_of s) fits ∙ sym (rw (sent, line_unreceived id f x));
      replies_step = λ e. omega (arith, ap (λ (w : Window). w.replies) a.window, window_few id x (window_of s) e);
      received_step = λ e. clash (sym (ap (λ (b : Bool). b && not takes) (line_unreceived id f x)) ∙ e);
      index_step = λ e. a.index_due;
      countdown_step = a.countdown some;
    }

-- ---- A reply

-- a reply that is due finds the channel not idle, fewer than six before it, and a send since idle
pub due_facts : (idle : Bool) (l : Option LastSend) → rb.is_due idle l ≡ true → (idle ≡ false) × (ltb (send_of l).replies 6 ≡ true) × (is_some l ≡ true)
due_facts true l e = clash e
due_facts false l e = let f = go (is_some l) e in (refl, f.0, f.1)
  where
    go : (b : Bool) → (b && ltb (send_of l).replies 6) ≡ true → (ltb (send_of l).replies 6 ≡ true) × (b ≡ true)
    go true f = (f, refl)
    go false f = clash f

replied : (l : Option LastSend) → is_some l ≡ true → ltb (send_of l).replies 6 ≡ true
    → send_window (with_next_reply l) ≡ record { sent = is_some l; id = (send_of l).id; replies = (send_of l).replies + 1 }
replied None e few = clash e
replied (Some x) e few = rw few

answered_steps : {id : ℕ} (n : ℕ) (s : Sequencer) (a : Answer) (due takes : Bool) → is_frame a ≡ false → is_received a ≡ true → takes ≡ false
    → rb.is_due (is_idle s.stage) s.last ≡ true → Steps n id s a due takes false false false false (answered s)
unfolding answered
answered_steps n s a due takes plain received ours e =
    let d = due_facts (is_idle s.stage) s.last e in
    let after = replied s.last d.2 d.1 in
    record {
      count_step = sym (ap (λ (b : Bool). cond (b && not due) (counted s.count) s.count) plain);
      missing_step = sym (ap (λ (b : Bool). cond (b && not due) (missing_with s.missing (shortfall s.last)) s.missing) plain);
      quiet_step = λ q f. clash (sym d.0 ∙ f);
      window_step = λ fits. rw (plain, received, ours) after;
      replies_step = λ f. omega (arith, ap (λ (w : Window). w.replies) after, ltb-true (send_of s.last).replies 6 d.1);
      received_step = λ f. d.2;
      index_step = λ f i. i;
      countdown_step = λ p. p;
    }

disposition_steps : {id : ℕ} (n : ℕ) (c : Channel) (m : ℕ) (right : Bool) (word : ℕ) (due takes : Bool) → takes ≡ false
    → Steps n id c.sequencer (receipt_answer (disposition_now c m)) due takes false false false false (received_channel (disposition_now c m) c m right word).sequencer
unfolding disposition_now disposition_of
disposition_steps {id} n c m right word due takes ours =
    go (rb.is_due (is_idle c.sequencer.stage) c.sequencer.last) (ltb c.readbacks.stored (capacity m)) refl
  where
    go : (asked space : Bool) → rb.is_due (is_idle c.sequencer.stage) c.sequencer.last ≡ asked
        → let d : Disposition = cond asked (cond space disposition.Kept disposition.Lost) disposition.Unsolicited in
        Steps n id c.sequencer (receipt_answer d) due takes false false false false (received_channel d c m right word).sequencer
    go true true e = answered_steps n c.sequencer ans.kept due takes refl refl ours e
    go true false e = answered_steps n c.sequencer ans.lost due takes refl refl ours e
    go false space e = same_steps n c ans.unsolicited c.sequencer (refl, refl) refl

-- a reply to a command frame leaves the sequencer, and counts for no setpoint
command_steps : {id : ℕ} (n : ℕ) (c : Channel) (due takes : Bool) → takes ≡ true → Steps n id c.sequencer ans.kept due takes false false false false c.sequencer
command_steps n c due takes theirs =
    record {
      count_step = refl;
      missing_step = refl;
      quiet_step = λ q. q;
      window_step = λ fits. rw theirs;
      replies_step = λ e. e;
      received_step = λ e. clash (sym (ap not theirs) ∙ e);
      index_step = λ e i. i;
      countdown_step = λ p. p;
    }

pub reply_steps : {own : ℕ} (n : ℕ) (c : Channel) (m f : ℕ) (due : Bool)
    → Steps n own c.sequencer (reply_answer c m f) due (cmd.takes c.commands) false false false false (reply_of c m f).sequencer
unfolding reply_answer reply_of
reply_steps {own} n c m f due = go (read f)
  where
    fields : (id word aux crc : ℕ) (b : Bool) → cmd.takes c.commands ≡ b
        → Steps n own c.sequencer (cond b ans.kept (receipt_answer (disposition_now c m))) due (cmd.takes c.commands) false false false false
        (cond b (command_reply c (crc_right id word aux crc) id word) (received_channel (disposition_now c m) c m (crc_right id word aux crc) word)).sequencer
    fields id word aux crc true e = command_steps n c due (cmd.takes c.commands) e
    fields id word aux crc false e = disposition_steps n c m (crc_right id word aux crc) word due (cmd.takes c.commands) e

    go : (g : Reading) → Steps n own c.sequencer (reply_answer_as g c m) due (cmd.takes c.commands) false false false false (reply_as g c m).sequencer
    go (frame.refused k) = same_steps n c (ans.refused k) c.sequencer (refl, refl) refl
    go (frame.fields id word aux crc) = fields id word aux crc (cmd.takes c.commands) refl
