-- After any list of calls a channel holds what calls and answers tell of command frames; none leaves with a setpoint. Assumes nothing.
use Prim.Native.Nat.{ℕ, ◌*◌, ◌≤◌, ◌<◌}
use mathlib.Core.Path.{◌≡◌, refl, sym, ◌∙◌, ap}
use mathlib.Core.Bool.{Bool, true, false, cond, not}
use mathlib.Core.List.{List, [], ◌∷◌}
use native.Mathlib.Omega.{arith}
use lib.Dec.{eqb, leb}
use borrow.Author.Tests.{eq-eqb, ne_eqb, le-leb, leb-false}
use Rattle.frame.specs.Frames.{Reading, read, crc_right}
use Rattle.frame.specs.Frames as frame
use Rattle.status.specs.Bits.{bit_at}
use Rattle.registers.specs.Map.{triggers_of, group_end_event, stored}
use Rattle.sequencer.specs.Transmissions.{Transmission}
use Rattle.sequencer.specs.Transmissions as transmission
use Rattle.readback.specs.declared.Disposition.{Disposition}
use Rattle.readback.specs.declared.Disposition.TheVariants as disposition
use Rattle.command_frames.specs.declared.CommandFrames.{CommandFrames}
use Rattle.command_frames.specs.Commanding.{is_due, sent, takes, received, command_frame}
use Rattle.command_frames.specs.Commanding as cmd
use Rattle.channel_core.specs.declared.Channel.{Channel}
use Rattle.channel_core.specs.Answers.{is_frame, is_refusal, refused}
use Rattle.channel_core.specs.Answers as ans
use Rattle.channel_core.specs.State as state
use Rattle.channel_core.specs.State.{reset, with_registers, with_commands}
use Rattle.channel_core.specs.Behaviour.{group_ended, ended_if, user_changed, is_setpoint, tick_line, played_of, tick_of, tick_answer}
use Rattle.channel_core.proofs.Laws.{line_none, line_command}
use Rattle.channel_replies.specs.Replying.{disposition_now, receipt_answer, received_channel, command_reply, reply_answer_as, reply_as, reply_answer, reply_of}
use Rattle.channel_registers.specs.Calls.{register_effect, read_value}
use Rattle.channel.specs.Calls.{armed_of, disarmed_of}
use Rattle.channel.specs.Downloads.{download_opened}
use Rattle.channel.specs.OneChannel.{ChannelCall, OneChannel, one_channel, refusal_of, effect, answer, transition, response, transitions, read_register, tick}
use Rattle.channel.specs.OneChannel as call
use Rattle.channel.proofs.Cases.{clash, either}
use Rattle.histories.specs.History.{is_kept, entry, history, asks, replied_to, ticked_by, written_by, commands_after, commands_since, Told, told}
use Rattle.histories.specs.Commands.{commands_over, CommandsTold, CommandsRead, NeverTogether, CommandTicks}
use Rattle.histories.proofs.Buffered.{told_at}
use Rattle.histories.proofs.Cases.{by_offset}
use Rattle.histories.proofs.Accepted.{tick_accepted, accepted_answer}
use Rattle.histories.proofs.Refusing.{accepted_response}
use Rattle.histories.proofs.Depths.{depths_kept}
use Rattle.histories.proofs.Leaves.{leaves_event, leaves_command, leaves_read, leaves_main}
use Rattle.histories.proofs.Apart.{ApartIn, apart_nothing}
use Rattle.histories.proofs.Ranges.{Ordered, ordered_opened, ordered_step, ordered_from}

-- ---- Each call

ended_commands : (on : Bool) (c : Channel) → (ended_if on c).commands ≡ cond on (cmd.group_ended c.commands) c.commands
unfolding ended_if group_ended
ended_commands true c = refl
ended_commands false c = refl

-- a tick that answers a frame sends the command frame that is due, or a setpoint
tick_commands : (id : ℕ) (f : CommandFrames) (x : Transmission) → (is_due f.waiting ≡ true → x ≡ transmission.Nothing)
    → cmd.ticked f (is_setpoint x) ≡ ticked_by (tick_line id f x) f
unfolding cmd.ticked
tick_commands id f transmission.Nothing h = go (is_due f.waiting) refl
  where
    go : (b : Bool) → is_due f.waiting ≡ b
        → cond b (sent f) f ≡ cond (is_frame (cond b (ans.frame (command_frame f)) ans.none)) (cmd.ticked f (not b)) f
    go true e = sym (rw e)
    go false e = refl
tick_commands id f (transmission.Word word k) h = go (is_due f.waiting) refl
  where
    go : (b : Bool) → is_due f.waiting ≡ b → cmd.setpoint_sent f ≡ cmd.ticked f (not b)
    go true e = clash (sym (ap is_setpoint (h e)))
    go false e = refl

pub disposition_commands : (d : Disposition) (c : Channel) (m : ℕ) (right : Bool) (word : ℕ) → (received_channel d c m right word).commands ≡ c.commands
disposition_commands disposition.Unsolicited c m right word = refl
disposition_commands disposition.Lost c m right word = refl
disposition_commands disposition.Kept c m right word = refl

pub not_taken : (f : CommandFrames) (wrong : Bool) (id word : ℕ) → takes f ≡ false → received f wrong id word ≡ f
unfolding received
not_taken f wrong id word e = rw e

reply_commands : (c : Channel) (m f : ℕ) → (reply_of c m f).commands ≡ replied_to (read f) (reply_answer c m f) c.commands
unfolding reply_of reply_answer
reply_commands c m f = go (read f)
  where
    fields : (id word aux crc : ℕ) (b : Bool) → takes c.commands ≡ b
        → (cond b (command_reply c (crc_right id word aux crc) id word) (received_channel (disposition_now c m) c m (crc_right id word aux crc) word)).commands
        ≡ replied_to (frame.fields id word aux crc) (cond b ans.kept (receipt_answer (disposition_now c m))) c.commands
    fields id word aux crc true e = refl
    fields id word aux crc false e =
        disposition_commands (disposition_now c m) c m (crc_right id word aux crc) word
        ∙ sym
        (either (λ (g : CommandFrames). g ≡ c.commands) (is_kept (receipt_answer (disposition_now c m)))
        (not_taken c.commands (not (crc_right id word aux crc)) id word e) refl)

    go : (g : Reading) → (reply_as g c m).commands ≡ replied_to g (reply_answer_as g c m) c.commands
    go (frame.refused k) = refl
    go (frame.fields id word aux crc) = fields id word aux crc (takes c.commands) refl

-- below E0 a write leaves them
stored_below : (f : CommandFrames) (offset value : ℕ) → offset < 0xe0 → cmd.stored f offset value ≡ f
unfolding cmd.stored
stored_below f offset value h =
    rw (ne_eqb offset 0xe0 (λ e. omega arith), ne_eqb offset 0xe2 (λ e. omega arith), ne_eqb offset 0xfc (λ e. omega arith))

kept_commands : (c : Channel) (offset value : ℕ)
    → (cond (leb 0xe0 offset) (with_commands c (cmd.stored c.commands offset value)) (with_registers c (stored c.registers offset value))).commands
    ≡ cmd.stored c.commands offset value
kept_commands c offset value = go (leb 0xe0 offset) refl
  where
    go : (b : Bool) → leb 0xe0 offset ≡ b
        → (cond b (with_commands c (cmd.stored c.commands offset value)) (with_registers c (stored c.registers offset value))).commands
        ≡ cmd.stored c.commands offset value
    go true e = refl
    go false e = sym (stored_below c.commands offset value (leb-false 0xe0 offset e))

register_commands : (c : Channel) (offset value : ℕ) → (register_effect c offset value).commands ≡ written_by offset value ans.done c.commands
unfolding register_effect reset cmd.stored
register_commands c offset value =
    by_offset (λ (x : ℕ). (register_effect c x value).commands ≡ written_by x value ans.done c.commands) offset refl
    (reset_commands (bit_at value 0)) ((leaves_command c value).commands ∙ ended_commands (bit_at value 2) c)
    (λ d e f. rw (d, e, f) (kept_commands c offset value))
  where
    reset_commands : (b : Bool) → (cond b (reset c) c).commands ≡ cond b cmd.opened c.commands
    reset_commands true = refl
    reset_commands false = refl

effect_commands : (o : OneChannel) (k : ChannelCall) → ApartIn o.channel
    → (effect o k).channel.commands ≡ (asks o k).commands (answer o k) o.channel.commands
unfolding effect answer armed_of disarmed_of download_opened tick_of tick_answer user_changed
effect_commands o (call.write_register lent offset value) p = register_commands o.channel offset value
effect_commands o (call.read_register offset) p = (leaves_read o.channel offset).commands
effect_commands o (call.write_setpoint lent user buffer index word) p = refl
effect_commands o call.arm p = refl
effect_commands o call.disarm p = refl
effect_commands o call.open_download p = refl
effect_commands o (call.reply lent f) p = reply_commands o.channel o.m f
effect_commands o (call.query which one two) p = refl
effect_commands o (call.tick lent) p =
    tick_commands o.channel.registers.id o.channel.commands (played_of o.channel o.setpoints o.n o.user).transmission
    (apart_nothing o.channel o.setpoints o.n o.user p)
effect_commands o (call.event lent code) p =
    (leaves_event o.channel o.user code).commands ∙ ended_commands (triggers_of o.channel.registers group_end_event code) o.channel
effect_commands o (call.change_user user) p =
    either (λ (x : OneChannel). x.channel.commands ≡ o.channel.commands) (eqb user o.user) refl refl
effect_commands o (call.write_main lent offset value) p = refl
effect_commands o (call.read_main offset) p = (leaves_main o.channel offset).commands

pub commands_step : (o : OneChannel) (k : ChannelCall) → ApartIn o.channel
    → (transition o k).channel.commands ≡ commands_after o.channel.commands (entry o k)
unfolding transition response commands_after
commands_step o k p = go (eqb (refusal_of o k) 0) refl
  where
    go : (b : Bool) → eqb (refusal_of o k) 0 ≡ b
        → let a = cond b (answer o k) (refused (refusal_of o k)) in
        (cond b (effect o k) o).channel.commands ≡ cond (is_refusal a) o.channel.commands ((asks o k).commands a o.channel.commands)
    go true e = rw (accepted_answer o k e) (effect_commands o k p)
    go false e = refl

-- ---- Lists of calls

commands_from : (o : OneChannel) (ks : List ChannelCall) (f : CommandFrames) → Ordered o.channel → o.channel.commands ≡ f
    → (transitions o ks).channel.commands ≡ commands_since f (history o ks)
unfolding commands_since
commands_from o [] f h e = e
commands_from o (k ∷ ks) f h e =
    commands_from (transition o k) ks (commands_after f (entry o k)) (ordered_step o k h)
    (commands_step o k h.apart ∙ ap (λ (x : CommandFrames). commands_after x (entry o k)) e)

-- what is told along a list, from any state
abbrev pub told_from : OneChannel → List ChannelCall → List Told
told_from o ks = told o.channel.commands (history o ks)

pub told_next : (o : OneChannel) (k : ChannelCall) (ks : List ChannelCall) → ApartIn o.channel
    → told_from o (k ∷ ks) ≡ told_at o k ∷ told_from (transition o k) ks
unfolding told
told_next o k ks p =
    let t = told_at o k in
    ap (λ (f : CommandFrames). t ∷ told f (history (transition o k) ks)) (sym (commands_step o k p))

-- ---- From an opening

module _ (n m : ℕ) (setpoints readbacks : List ℕ) (ks : List ChannelCall) where
  abbrev o : OneChannel
  o = transitions (one_channel n m setpoints readbacks) ks

  ordered : Ordered o.channel
  ordered = ordered_from (one_channel n m setpoints readbacks) ks ordered_opened

  held : o.channel.commands ≡ commands_over n m setpoints readbacks ks
  unfolding state.opened
  held = commands_from (one_channel n m setpoints readbacks) ks cmd.opened ordered_opened refl

  together : is_due (commands_over n m setpoints readbacks ks).waiting ≡ true
      → (played_of o.channel o.setpoints o.n o.user).transmission ≡ transmission.Nothing
  together e =
      apart_nothing o.channel o.setpoints o.n o.user ordered.apart (ap (λ (f : CommandFrames). is_due f.waiting) held ∙ e)

  tick_answers_lem : response o (tick (n * 64))
      ≡ tick_line o.channel.registers.id (commands_over n m setpoints readbacks ks)
      (played_of o.channel o.setpoints o.n o.user).transmission
  unfolding refusal_of answer tick_answer
  tick_answers_lem =
      accepted_response o (tick (n * 64))
      (tick_accepted o n (depths_kept (one_channel n m setpoints readbacks) ks).0)
      ∙ ap
      (λ (f : CommandFrames).
      tick_line o.channel.registers.id f (played_of o.channel o.setpoints o.n o.user).transmission) held

pub commands_told : CommandsTold
commands_told n m setpoints readbacks ks = held n m setpoints readbacks ks

pub never_together : NeverTogether
never_together n m setpoints readbacks ks = together n m setpoints readbacks ks

pub command_ticks : CommandTicks
command_ticks n m setpoints readbacks ks =
    let a = tick_answers_lem n m setpoints readbacks ks in
    let u = o n m setpoints readbacks ks in
    let id = u.channel.registers.id in
    let f = commands_over n m setpoints readbacks ks in
    record {
      command = λ e. a ∙ ap (tick_line id f) (together n m setpoints readbacks ks e) ∙ line_command id f e;
      setpoint = λ e. a ∙ line_none id f e (played_of u.channel u.setpoints u.n u.user).transmission;
    }

pub reads_commands : (c : OneChannel) (offset : ℕ) → 0xe0 ≤ offset → read_value c.channel offset ≡ cmd.loaded c.channel.commands offset
unfolding read_value
reads_commands c offset h =
    rw (
      ne_eqb offset 0x00 (λ e. omega arith),
      ne_eqb offset 0x02 (λ e. omega arith),
      ne_eqb offset 0x04 (λ e. omega arith),
      ne_eqb offset 0x0c (λ e. omega arith),
      le-leb 0xe0 offset h,
    )

pub commands_read : CommandsRead
unfolding refusal_of answer
commands_read n m setpoints readbacks ks offset h e =
    accepted_response (o n m setpoints readbacks ks) (read_register offset) (eq-eqb _ 0 e)
    ∙ ap ans.value (reads_commands (o n m setpoints readbacks ks) offset h)
    ∙ ap (λ (f : CommandFrames). ans.value (cmd.loaded f offset)) (held n m setpoints readbacks ks)
