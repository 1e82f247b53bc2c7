-- D4 of either status through each call: a setpoint send that finds a shortfall sets it, reset and a read of that register clear it, and nothing else
-- touches it. Assumes nothing but that the copies have sixteen bits.
use Prim.Native.Nat.{ℕ, ◌≤◌}
use mathlib.Core.Path.{◌≡◌, refl, sym, ◌∙◌, ap}
use mathlib.Core.Logic.{◌⊎◌, inl, inr}
use mathlib.Core.Bool.{Bool, true, false, cond, not, ◌&&◌, ◌||◌, or-false, or-true}
use native.Mathlib.Omega.{arith}
use lib.ListN.{get_or}
use lib.Seq.{get_or-set_same, get_or-set_other}
use lib.Dec.{eqb, leb}
use Rattle.std.specs.declared.option.Option.{Option}
use Rattle.frame.specs.Frames.{Reading, read, crc_right}
use Rattle.frame.specs.Frames as frame
use Rattle.status.specs.Bits.{bit_at}
use Rattle.status.specs.declared.Latches.{Latches}
use Rattle.status.specs.declared.Status.{Status}
use Rattle.status.specs.Latching.{latched, missing_readback}
use Rattle.registers.specs.Map.{stored}
use Rattle.sequencer.specs.declared.LastSend.{LastSend}
use Rattle.sequencer.specs.declared.Sequencer.{Sequencer}
use Rattle.sequencer.specs.Transmissions.{Transmission}
use Rattle.sequencer.specs.Transmissions as transmission
use Rattle.sequencer.specs.Playing.{is_idle, unfinished, shortfall}
use Rattle.readback.specs.declared.Disposition.{Disposition}
use Rattle.readback.specs.declared.Disposition.TheVariants as disposition
use Rattle.command_frames.specs.Commanding.{is_due, takes}
use Rattle.command_frames.specs.Commanding as cmd
use Rattle.channel_core.specs.declared.Channel.{Channel}
use Rattle.channel_core.specs.Answers.{Answer, is_frame}
use Rattle.channel_core.specs.Answers as ans
use Rattle.channel_core.specs.State.{reset, with_registers, with_commands}
use Rattle.channel_core.specs.Behaviour.{started, started_if, ended_if, resumed_if, tagged_if, resumed_on, event_of, commanded, group_ended, early_ended, user_changed, condition_status, send_status, is_setpoint, played_of, tick_of, tick_answer}
use Rattle.channel_replies.specs.Replying.{crc_status, disposition_now, received_channel, reply_as, reply_of}
use Rattle.channel_registers.specs.Calls.{register_effect, read_effect}
use Rattle.channel.specs.Calls.{main_taken, armed_of, disarmed_of}
use Rattle.channel.specs.Downloads.{download_opened}
use Rattle.channel.specs.OneChannel.{ChannelCall, OneChannel, effect, answer, transition, response, main_read}
use Rattle.channel.specs.OneChannel as call
use Rattle.channel.proofs.Cases.{either}
use Rattle.histories.specs.History.{entry, asks, reads_nothing, resets, reads_at}
use Rattle.histories.specs.Missing.{shortfall_of}
use Rattle.histories.specs.Ranges.{StatusInRange}
use Rattle.histories.proofs.Accepted.{query_plain, reply_plain}
use Rattle.histories.proofs.Apart.{ApartIn, apart_nothing}
use Rattle.histories.proofs.Calls.{main_plain}
use Rattle.histories.proofs.Cases.{at_or_not, by_offset}
use Rattle.histories.proofs.Refusing.{by_refusal}
use Rattle.histories.proofs.Steps.{line_sends}
use Rattle.histories.proofs.Ticks.{Latching, send_window, plays_ticked}

-- Interrupt Status, or Polling Status, and where it is read
abbrev pub copy_of : (polling : Bool) → Status → Latches
copy_of true s = s.polling
copy_of false s = s.interrupt

abbrev pub offset_of : (polling : Bool) → ℕ
offset_of true = 0x04
offset_of false = 0x02

-- D4 of it
abbrev pub flag_in : (polling : Bool) → Status → Bool
flag_in polling s = get_or (copy_of polling s).bits missing_readback false

-- the last send is short of replies
abbrev pub short : Option LastSend → Bool
short l = not (eqb (shortfall_of (send_window l)) 0)

module _ (polling : Bool) where
  abbrev Same : Status → Status → Type 0
  Same s t = flag_in polling t ≡ flag_in polling s

  -- ---- What leaves it

  -- another condition
  same_latched : (s : Status) (bit : ℕ) → (missing_readback ≡ bit → ⊥) → Same s (latched s bit)
  unfolding latched
  same_latched s bit differs = go polling
    where
      go : (p : Bool) → flag_in p (latched s bit) ≡ flag_in p s
      go true = get_or-set_other s.polling.bits bit missing_readback true false differs
      go false = get_or-set_other s.interrupt.bits bit missing_readback true false differs

  same_early : (s : Status) (q : Sequencer) → Same s (early_ended s q)
  same_early s q = either (Same s) (unfinished q) (same_latched s 12 (λ e. omega arith)) refl

  same_crc : (s : Status) (right : Bool) → Same s (crc_status s right)
  same_crc s right = either (Same s) right refl (same_latched s 2 (λ e. omega arith))

  same_condition : (s : Status) (k : ℕ) → (k ≡ 0) ⊎ ((7 ≤ k) × (k ≤ 15)) → Same s (condition_status s k)
  same_condition s k (inl e) = rw e refl
  same_condition s k (inr l) = either (Same s) (eqb k 0) refl (same_latched s k (λ e. omega (arith, l.0)))

  abbrev Keeps : Channel → Channel → Type 0
  Keeps c d = Same c.status d.status

  keeps_ended : (on : Bool) (c : Channel) → Keeps c (ended_if on c)
  unfolding ended_if group_ended
  keeps_ended on c =
      either (Keeps c) on (same_latched (early_ended c.status c.sequencer) 13 (λ e. omega arith) ∙ same_early c.status c.sequencer) refl

  keeps_started : (on : Bool) (c : Channel) (delay : ℕ) → Keeps c (started_if on c delay)
  unfolding started_if started
  keeps_started on c delay =
      either (Keeps c) on
      (either (Keeps c) c.sequencer.armed (either (Keeps c) (is_idle c.sequencer.stage) (same_latched c.status 15 (λ e. omega arith)) refl) refl)
      refl

  keeps_resumed : (on : Bool) (c : Channel) (pause delay : ℕ) → Keeps c (resumed_if on c pause delay)
  unfolding resumed_if
  keeps_resumed on c pause delay = either (Keeps c) on refl refl

  keeps_tagged : (on : Bool) (c : Channel) → Keeps c (tagged_if on c)
  unfolding tagged_if
  keeps_tagged on c = either (Keeps c) on refl refl

  keeps_event : (c : Channel) (user code : ℕ) → Keeps c (event_of c user code)
  unfolding event_of resumed_on
  keeps_event c user code =
      keeps_tagged _ _ ∙ keeps_resumed _ _ _ _ ∙ keeps_resumed _ _ _ _ ∙ keeps_resumed _ _ _ _ ∙ keeps_resumed _ _ _ _ ∙ keeps_started _ _ _ ∙ keeps_ended _ c

  keeps_command : (c : Channel) (value : ℕ) → Keeps c (commanded c value)
  unfolding commanded
  keeps_command c value = keeps_tagged _ _ ∙ keeps_resumed _ _ _ _ ∙ keeps_started _ _ _ ∙ keeps_ended _ c

  keeps_main : (c : Channel) (offset : ℕ) → Keeps c (main_read c offset)
  unfolding main_taken
  keeps_main c offset =
      either (Keeps c) (eqb offset 0x28) (go polling false) (either (Keeps c) (eqb offset 0x2a) (go polling true) refl)
    where
      go : (p q : Bool) → flag_in p (main_taken c q).status ≡ flag_in p c.status
      go true true = refl
      go true false = refl
      go false true = refl
      go false false = refl

  keeps_disposition : (d : Disposition) (c : Channel) (m : ℕ) (right : Bool) (word : ℕ) → Keeps c (received_channel d c m right word)
  keeps_disposition disposition.Unsolicited c m right word = refl
  keeps_disposition disposition.Lost c m right word = same_crc c.status right
  keeps_disposition disposition.Kept c m right word = same_crc c.status right

  keeps_reply : (c : Channel) (m f : ℕ) → Keeps c (reply_of c m f)
  unfolding reply_of
  keeps_reply c m f = go (read f)
    where
      go : (g : Reading) → Keeps c (reply_as g c m)
      go (frame.refused k) = refl
      go (frame.fields id word aux crc) =
          either (Keeps c) (takes c.commands) (same_crc c.status (crc_right id word aux crc))
          (keeps_disposition (disposition_now c m) c m (crc_right id word aux crc) word)

  -- ---- Each call: to a status by a call with this answer, a reset or not, which reads these registers

  pub record Steps (c : Channel) (a : Answer) (again : Bool) (reads : ℕ → Bool) (t : Status) : Type 0 where
    pub flag : flag_in polling t
        ≡ cond (again || reads (offset_of polling)) false
        (flag_in polling c.status || ((is_frame a && not (is_due c.commands.waiting)) && short c.sequencer.last))

  -- an answer that is no frame
  plain_steps : (c : Channel) (a : Answer) (t : Status) → is_frame a ≡ false → Same c.status t → Steps c a false reads_nothing t
  plain_steps c a t plain e = record { flag = e ∙ sym (rw plain (or-false (flag_in polling c.status))) }

  reset_steps : (c : Channel) (on : Bool) → Steps c ans.done on reads_nothing (cond on (reset c) c).status
  unfolding reset
  reset_steps c true = record { flag = go polling }
    where
      go : (p : Bool) → flag_in p (reset c).status ≡ false
      go true = refl
      go false = refl
  reset_steps c false = plain_steps c ans.done c.status refl refl

  register_steps : (c : Channel) (offset value : ℕ)
      → Steps c ans.done (eqb offset 0x06 && bit_at value 0) reads_nothing (register_effect c offset value).status
  unfolding register_effect
  register_steps c offset value =
      by_offset (λ (x : ℕ). Steps c ans.done (eqb x 0x06 && bit_at value 0) reads_nothing (register_effect c x value).status) offset
      (plain_steps c ans.done _ refl (enabled polling))
      (reset_steps c (bit_at value 0))
      (plain_steps c ans.done _ refl (keeps_command c value))
      (λ d e f. rw (d, e, f) (plain_steps c ans.done _ refl kept))
    where
      enabled : (p : Bool) → flag_in p (register_effect c 0x00 value).status ≡ flag_in p c.status
      enabled true = refl
      enabled false = refl

      kept : Keeps c (cond (leb 0xe0 offset) (with_commands c (cmd.stored c.commands offset value)) (with_registers c (stored c.registers offset value)))
      kept = either (Keeps c) (leb 0xe0 offset) refl refl

  -- a read of this copy clears it; one of the other copy, of 0C or of another register does not
  read_steps : (c : Channel) (offset v : ℕ) → Steps c (ans.value v) false (eqb offset) (read_effect c offset).status
  unfolding read_effect
  read_steps c offset v =
      record {
        flag =
            at_or_not (P polling) 0x02 offset (interrupt polling)
            (λ d. at_or_not (P polling) 0x04 offset (other polling) (λ e. rest polling d e));
      }
    where
      P : Bool → ℕ → Type 0
      P p x = flag_in p (read_effect c x).status ≡ cond (eqb x (offset_of p)) false (flag_in p c.status || false)

      interrupt : (p : Bool) → P p 0x02
      interrupt true = sym (or-false (flag_in true c.status))
      interrupt false = refl

      other : (p : Bool) → P p 0x04
      other true = refl
      other false = sym (or-false (flag_in false c.status))

      left : (p : Bool) → eqb offset 0x02 ≡ false → eqb offset 0x04 ≡ false → flag_in p (read_effect c offset).status ≡ flag_in p c.status
      left p d e = rw (d, e) (either (λ (x : Channel). flag_in p x.status ≡ flag_in p c.status) (eqb offset 0x0c) refl refl)

      rest : (p : Bool) → eqb offset 0x02 ≡ false → eqb offset 0x04 ≡ false → P p offset
      rest true d e = left true d e ∙ sym (rw (e, or-false (flag_in true c.status)))
      rest false d e = left false d e ∙ sym (rw (d, or-false (flag_in false c.status)))

  -- a setpoint send sets it where the send before is short
  send_steps : (s : Status) (l : Option LastSend) (x : Transmission) → StatusInRange s → Latching x
      → flag_in polling (send_status s l x) ≡ (flag_in polling s || (is_setpoint x && short l))
  unfolding shortfall latched
  send_steps s l transmission.Nothing r k = sym (or-false (flag_in polling s))
  send_steps s l (transmission.Word word k) r latches = same_condition _ k latches ∙ go (eqb (shortfall_of (send_window l)) 0)
    where
      set : (p : Bool) → flag_in p (latched s missing_readback) ≡ true
      set true = get_or-set_same s.polling.bits missing_readback true false (omega (arith, r.polling.long))
      set false = get_or-set_same s.interrupt.bits missing_readback true false (omega (arith, r.interrupt.long))

      go : (b : Bool) → flag_in polling (cond b s (latched s missing_readback)) ≡ (flag_in polling s || not b)
      go true = sym (or-false (flag_in polling s))
      go false = set polling ∙ sym (or-true (flag_in polling s))

  tick_steps : (o : OneChannel) → ApartIn o.channel → StatusInRange o.channel.status
      → Steps o.channel (tick_answer o.channel o.setpoints o.n o.user) false reads_nothing
      (tick_of o.channel o.setpoints o.n o.user).status
  unfolding tick_of tick_answer
  tick_steps o p r =
      let c = o.channel in
      let x = (played_of c o.setpoints o.n o.user).transmission in
      record {
        flag =
            send_steps c.status c.sequencer.last x r (plays_ticked c.sequencer _ o.n _ c.registers.id).latches
            ∙ ap (λ (b : Bool). flag_in polling c.status || (b && short c.sequencer.last))
            (sym (line_sends c.registers.id c.commands x (apart_nothing c o.setpoints o.n o.user p)));
      }

  effect_steps : (o : OneChannel) (k : ChannelCall) → ApartIn o.channel → StatusInRange o.channel.status
      → Steps o.channel (answer o k) (asks o k).reset (asks o k).reads (effect o k).channel.status
  unfolding effect answer armed_of disarmed_of download_opened user_changed
  effect_steps o (call.write_register lent offset value) p r = register_steps o.channel offset value
  effect_steps o (call.read_register offset) p r = read_steps o.channel offset _
  effect_steps o (call.write_setpoint lent user buffer index word) p r = plain_steps o.channel _ _ refl refl
  effect_steps o call.arm p r = plain_steps o.channel _ _ refl refl
  effect_steps o call.disarm p r = plain_steps o.channel _ _ refl refl
  effect_steps o call.open_download p r = plain_steps o.channel _ _ refl refl
  effect_steps o (call.reply lent f) p r =
      plain_steps o.channel _ _ (reply_plain o.channel o.m f) (keeps_reply o.channel o.m f)
  effect_steps o (call.query which one two) p r = plain_steps o.channel _ _ (query_plain o which).1 refl
  effect_steps o (call.tick lent) p r = tick_steps o p r
  effect_steps o (call.event lent code) p r = plain_steps o.channel _ _ refl (keeps_event o.channel o.user code)
  effect_steps o (call.change_user user) p r =
      plain_steps o.channel _ _ refl
      (either (λ (x : OneChannel). Keeps o.channel x.channel) (eqb user o.user) refl (same_early o.channel.status o.channel.sequencer))
  effect_steps o (call.write_main lent offset value) p r = plain_steps o.channel _ _ refl refl
  effect_steps o (call.read_main offset) p r =
      plain_steps o.channel _ _ (main_plain o.channel offset).0 (keeps_main o.channel offset)

  -- any call
  pub flag_step : (o : OneChannel) (k : ChannelCall) → ApartIn o.channel → StatusInRange o.channel.status
      → Steps o.channel (response o k) (resets (entry o k)) (λ offset. reads_at offset (entry o k)) (transition o k).channel.status
  flag_step o k p r =
      by_refusal (λ (x : OneChannel) (a : Answer) (b c d : Bool) (reads : ℕ → Bool). Steps o.channel a c reads x.channel.status) o k
      (λ e. effect_steps o k p r)
      (plain_steps o.channel _ _ refl refl)
