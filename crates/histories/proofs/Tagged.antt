-- What each call makes of tags, by what it answers and from any state: a channel goes on to hold what is told. Assumes nothing.
use Prim.Native.Nat.{ℕ, ◌-◌, ◌/◌, ◌%◌}
use mathlib.Core.Path.{◌≡◌, refl, sym, ◌∙◌, ap, subst}
use mathlib.Core.Bool.{Bool, true, false, cond, not, ◌&&◌, ◌||◌, and-false}
use mathlib.Core.List.{List}
use native.Mathlib.Omega.{arith}
use lib.Dec.{eqb, leb, ltb}
use lib.ListN.{get_or, set}
use borrow.Author.Tests.{leb-true, le-ltb}
use Rattle.std.specs.Option.{is_some}
use Rattle.frame.specs.Frames.{Reading, read, crc_right}
use Rattle.frame.specs.Frames as frame
use Rattle.status.specs.Bits.{bit_at}
use Rattle.registers.specs.Map.{period_of, matches, start_event, tag_event, group_end_event, triggers_of, delay_of, stored}
use Rattle.registers.specs.Map as reg
use Rattle.sequencer.specs.declared.Sequencer.{Sequencer}
use Rattle.sequencer.specs.Transmissions.{Transmission}
use Rattle.sequencer.specs.Transmissions as transmission
use Rattle.sequencer.specs.Playing.{is_idle, with_tag, send_of}
use Rattle.sequencer.specs.Playing as seq
use Rattle.sequencer.specs.Runs.{tag_after, tagged_after}
use Rattle.sequencer.proofs.Moves.{moved, resumed_either}
use Rattle.readback.specs.declared.Disposition.{Disposition}
use Rattle.readback.specs.declared.Disposition.TheVariants as disposition
use Rattle.command_frames.specs.Commanding.{is_due, takes}
use Rattle.command_frames.specs.Commanding as cmd
use Rattle.channel_core.specs.declared.Channel.{Channel}
use Rattle.channel_core.specs.Answers.{Answer, is_frame, is_refusal, refused}
use Rattle.channel_core.specs.State.{reset, with_registers, with_sequencer, with_commands}
use Rattle.channel_core.specs.Behaviour.{started, started_if, group_ended, ended_if, resumed_if, resumed_on, event_of, commanded, user_changed, is_setpoint, due_of, played_of, tick_of, tick_answer}
use Rattle.channel_core.specs.Behaviour as core
use Rattle.channel_replies.specs.Replying.{disposition_now, received_channel, reply_as, reply_of}
use Rattle.channel_registers.specs.Calls.{register_effect, read_effect}
use Rattle.channel.specs.Calls.{armed_of, disarmed_of, main_taken}
use Rattle.channel.specs.Downloads.{download_opened}
use Rattle.channel.specs.OneChannel.{ChannelCall, OneChannel, refusal_of, effect, answer, transition, response, main_read, user_change}
use Rattle.channel.specs.OneChannel as call
use Rattle.channel.proofs.Cases.{clash, either, by_test}
use Rattle.histories.specs.TagChanges.{Tags, TagChange, opened_tags, leaves_tags, dropped_if, tagged_if, event_tags, command_tags, event_written, written_tags, sent_tags}
use Rattle.histories.specs.Windows.{Window}
use Rattle.histories.specs.History.{asks}
use Rattle.histories.specs.Tags.{tags_after}
use Rattle.histories.proofs.Accepted.{query_plain, reply_plain, accepted_answer}
use Rattle.histories.proofs.Apart.{ApartIn, apart_nothing}
use Rattle.histories.proofs.Buffered.{told_at}
use Rattle.histories.proofs.Calls.{main_plain}
use Rattle.histories.proofs.Cases.{by_offset}
use Rattle.histories.proofs.EventRegisters.{stored_events}
use Rattle.histories.proofs.Steps.{line_sends}
use Rattle.histories.proofs.Ticks.{window_of, window_sent, reply_leaves, plays_ticked}

-- what of a channel concerns tags
pub record View : Type 0 where
  pub armed : Bool
  pub events : List ℕ
  pub tag : Bool
  pub sent : Bool
  pub tagged : Bool

abbrev pub view : Channel → View
view c =
    record {
      armed = c.sequencer.armed;
      events = c.registers.events;
      tag = c.sequencer.tag;
      sent = is_some c.sequencer.last;
      tagged = (send_of c.sequencer.last).tagged;
    }

-- it is as told, the mark of the last send where there is one since idle; and a tag waits on an armed channel only
pub record AsTold (v : View) (g : Tags) : Type 0 where
  pub armed : v.armed ≡ g.armed
  pub events : v.events ≡ g.events
  pub tag : v.tag ≡ g.tag
  pub tagged : v.sent ≡ true → v.tagged ≡ g.tagged
  pub only_armed : v.tag ≡ true → v.armed ≡ true

abbrev pub Held : Channel → Tags → Type 0
Held c g = AsTold (view c) g

abbrev Same : Channel → Channel → Type 0
Same c d = view d ≡ view c

same_held : (c d : Channel) (g : Tags) → Same c d → Held c g → Held d g
same_held c d g e h = subst (λ (v : View). AsTold v g) (sym e) h

-- ---- An event or command

held_ended : (on : Bool) (c : Channel) (g : Tags) → Held c g → Held (ended_if on c) (dropped_if on g)
unfolding ended_if group_ended seq.group_ended seq.idled reg.group_ended
held_ended true c g h = record { armed = h.armed; events = h.events; tag = refl; tagged = λ e. clash e; only_armed = λ e. clash e }
held_ended false c g h = record { armed = h.armed; events = h.events; tag = h.tag; tagged = h.tagged; only_armed = h.only_armed }

same_started : (on : Bool) (c : Channel) (delay : ℕ) → Same c (started_if on c delay)
unfolding started_if started seq.started
same_started true c delay =
    either (Same c) c.sequencer.armed
    (either (λ (d : Channel). Same c (with_sequencer d (seq.started c.sequencer delay))) (is_idle c.sequencer.stage) refl refl) refl
same_started false c delay = refl

same_resumed : (on : Bool) (c : Channel) (pause delay : ℕ) → Same c (resumed_if on c pause delay)
unfolding resumed_if
same_resumed true c pause delay = resumed_either (λ (s : Sequencer). Same c (with_sequencer c s)) c.sequencer pause delay (λ e. refl) refl
same_resumed false c pause delay = refl

held_tagged : (on : Bool) (c : Channel) (g : Tags) → Held c g → Held (core.tagged_if on c) (tagged_if on g)
unfolding core.tagged_if seq.tagged
held_tagged true c g h = go c.sequencer.armed refl
  where
    go : (b : Bool) → c.sequencer.armed ≡ b → Held (with_sequencer c (cond b (with_tag c.sequencer true) c.sequencer)) (tagged_if true g)
    go true e =
        record {
          armed = h.armed;
          events = h.events;
          tag = sym (ap (λ (x : Bool). x || g.tag) (sym h.armed ∙ e));
          tagged = h.tagged;
          only_armed = λ f. e;
        }
    go false e =
        record {
          armed = h.armed;
          events = h.events;
          tag = h.tag ∙ sym (ap (λ (x : Bool). x || g.tag) (sym h.armed ∙ e));
          tagged = h.tagged;
          only_armed = h.only_armed;
        }
held_tagged false c g h = record { armed = h.armed; events = h.events; tag = h.tag; tagged = h.tagged; only_armed = h.only_armed }

held_event : (c : Channel) (user code : ℕ) (g : Tags) → Held c g → Held (event_of c user code) (event_tags code g)
unfolding event_of resumed_on
held_event c user code g h =
    let r = c.registers in
    let ends = triggers_of r group_end_event code in
    let e = ended_if ends c in
    let d = resumed_on r (started_if (triggers_of r start_event code) e (delay_of r 0 user)) user code in
    subst (Held (event_of c user code))
    (ap (λ (l : List ℕ). tagged_if (matches (get_or l tag_event 0) code) (dropped_if (matches (get_or l group_end_event 0) code) g)) h.events)
    (held_tagged (triggers_of r tag_event code) d (dropped_if ends g)
    (same_held e d (dropped_if ends g)
    (same_resumed _ _ _ _ ∙ same_resumed _ _ _ _ ∙ same_resumed _ _ _ _ ∙ same_resumed _ _ _ _ ∙ same_started _ _ _)
    (held_ended ends c g h)))

held_command : (c : Channel) (value : ℕ) (g : Tags) → Held c g → Held (commanded c value) (command_tags value g)
unfolding commanded
held_command c value g h =
    let e = ended_if (bit_at value 2) c in
    let d = resumed_if (bit_at value 1) (started_if (bit_at value 0) e 0) 0 0 in
    let ended = dropped_if (bit_at value 2) g in
    held_tagged (bit_at value 3) d ended
    (same_held e d ended (same_resumed _ _ _ _ ∙ same_started _ _ _) (held_ended (bit_at value 2) c g h))

-- ---- A register write or read

held_register : (c : Channel) (offset value : ℕ) (g : Tags) → Held c g → Held (register_effect c offset value) (written_tags offset value g)
unfolding register_effect reset
held_register c offset value g h =
    by_offset (λ (x : ℕ). Held (register_effect c x value) (written_tags x value g)) offset h (again (bit_at value 0)) (held_command c value g h)
    (λ d e f. rw (d, e, f) (kept (leb 0x20 offset && ltb offset 0x2e) refl))
  where
    again : (b : Bool) → Held (cond b (reset c) c) (cond b opened_tags g)
    again true = record { armed = refl; events = refl; tag = refl; tagged = λ e. clash e; only_armed = λ e. clash e }
    again false = h

    kept : (b : Bool) → (leb 0x20 offset && ltb offset 0x2e) ≡ b
        → Held (cond (leb 0xe0 offset) (with_commands c (cmd.stored c.commands offset value)) (with_registers c (stored c.registers offset value)))
        (cond b (event_written offset value g) g)
    kept b e =
        by_test (λ (x : Channel). Held x (cond b (event_written offset value g) g)) (leb 0xe0 offset)
        (λ far. commands b e (below far))
        (λ near. registers b (stored_events c.registers offset value ∙ ap (λ (x : Bool). cond x (written c.registers.events) c.registers.events) e))
      where
        written : List ℕ → List ℕ
        written l = set l ((offset - 0x20) / 2) (value % 512)

        below : leb 0xe0 offset ≡ true → ltb offset 0x2e ≡ false
        below far = le-ltb offset 0x2e (omega (arith, leb-true 0xe0 offset far))

        commands : (b : Bool) → (leb 0x20 offset && ltb offset 0x2e) ≡ b → ltb offset 0x2e ≡ false
            → Held (with_commands c (cmd.stored c.commands offset value)) (cond b (event_written offset value g) g)
        commands true e far = clash (sym (and-false (leb 0x20 offset)) ∙ ap (λ (x : Bool). leb 0x20 offset && x) (sym far) ∙ e)
        commands false e far = record { armed = h.armed; events = h.events; tag = h.tag; tagged = h.tagged; only_armed = h.only_armed }

        registers : (b : Bool) → (stored c.registers offset value).events ≡ cond b (written c.registers.events) c.registers.events
            → Held (with_registers c (stored c.registers offset value)) (cond b (event_written offset value g) g)
        registers true e =
            record { armed = h.armed; events = e ∙ ap written h.events; tag = h.tag; tagged = h.tagged; only_armed = h.only_armed }
        registers false e = record { armed = h.armed; events = e ∙ h.events; tag = h.tag; tagged = h.tagged; only_armed = h.only_armed }

same_read : (c : Channel) (offset : ℕ) → Same c (read_effect c offset)
unfolding read_effect
same_read c offset =
    either (Same c) (eqb offset 0x02) refl (either (Same c) (eqb offset 0x04) refl (either (Same c) (eqb offset 0x0c) refl refl))

same_main : (c : Channel) (offset : ℕ) → Same c (main_read c offset)
unfolding main_taken
same_main c offset = either (Same c) (eqb offset 0x28) refl (either (Same c) (eqb offset 0x2a) refl refl)

-- ---- A reply, a tick, a user change

same_reply : (c : Channel) (m f : ℕ) → Same c (reply_of c m f)
unfolding reply_of seq.answered
same_reply c m f = go (read f)
  where
    disposed : (d : Disposition) (right : Bool) (word : ℕ) → Same c (received_channel d c m right word)
    disposed disposition.Unsolicited right word = refl
    disposed disposition.Lost right word = let a = reply_leaves c.sequencer.last in rw (a.0, a.1)
    disposed disposition.Kept right word = let a = reply_leaves c.sequencer.last in rw (a.0, a.1)

    go : (g : Reading) → Same c (reply_as g c m)
    go (frame.refused k) = refl
    go (frame.fields id word aux crc) = either (Same c) (takes c.commands) refl (disposed (disposition_now c m) (crc_right id word aux crc) word)

-- a setpoint send uses the tag, and a tick that sends none leaves all
held_played : (o : OneChannel) (g : Tags) → Held o.channel g
    → (x : Transmission) → (played_of o.channel o.setpoints o.n o.user).transmission ≡ x
    → Held (tick_of o.channel o.setpoints o.n o.user) (cond (is_setpoint x) (sent_tags g) g)
unfolding tick_of
held_played o g h transmission.Nothing e =
    let c = o.channel in
    let s = c.sequencer in
    let due = due_of c o.setpoints o.n o.user in
    let a = moved s due o.n (period_of c.registers.clock) c.registers.id in
    let window = (plays_ticked s due o.n (period_of c.registers.clock) c.registers.id).window in
    record {
      armed = a.armed ∙ h.armed;
      events = h.events;
      tag = a.tag ∙ ap (λ (x : Transmission). tag_after x s.tag) e ∙ h.tag;
      tagged =
          λ sent.
          a.last_tagged
          ∙ ap (λ (x : Transmission). tagged_after x s.tag (send_of s.last).tagged) e
          ∙ h.tagged (sym (ap (λ (w : Window). w.sent) (window ∙ ap (λ (x : Transmission). window_sent c.registers.id x (window_of s)) e)) ∙ sent);
      only_armed = λ f. a.armed ∙ h.only_armed (sym (a.tag ∙ ap (λ (x : Transmission). tag_after x s.tag) e) ∙ f);
    }
held_played o g h (transmission.Word word k) e =
    let c = o.channel in
    let s = c.sequencer in
    let a = moved s (due_of c o.setpoints o.n o.user) o.n (period_of c.registers.clock) c.registers.id in
    record {
      armed = a.armed ∙ h.armed;
      events = h.events;
      tag = a.tag ∙ ap (λ (x : Transmission). tag_after x s.tag) e;
      tagged = λ sent. a.last_tagged ∙ ap (λ (x : Transmission). tagged_after x s.tag (send_of s.last).tagged) e ∙ h.tag;
      only_armed = λ f. clash (sym (a.tag ∙ ap (λ (x : Transmission). tag_after x s.tag) e) ∙ f);
    }

held_tick : (o : OneChannel) (g : Tags) → ApartIn o.channel → Held o.channel g
    → let c = o.channel in
    Held (tick_of c o.setpoints o.n o.user)
    (cond (is_frame (tick_answer c o.setpoints o.n o.user) && not (is_due c.commands.waiting)) (sent_tags g) g)
unfolding tick_answer
held_tick o g p h =
    let c = o.channel in
    let x = (played_of c o.setpoints o.n o.user).transmission in
    subst (λ (b : Bool). Held (tick_of c o.setpoints o.n o.user) (cond b (sent_tags g) g))
    (sym (line_sends c.registers.id c.commands x (apart_nothing c o.setpoints o.n o.user p)))
    (held_played o g h x refl)

held_user : (o : OneChannel) (user : ℕ) (g : Tags) → Held o.channel g → Held (user_change o user).channel g
unfolding user_changed seq.idled
held_user o user g h =
    either (λ (x : OneChannel). Held x.channel g) (eqb user o.user) h
    (record { armed = h.armed; events = h.events; tag = h.tag; tagged = λ e. clash e; only_armed = h.only_armed })

-- ---- Each call

-- by an answer: a setpoint's frame, or what the call makes of tags
abbrev by : Channel → Answer → TagChange → Tags → Tags
by c a change g = cond (is_frame a && not (is_due c.commands.waiting)) (sent_tags g) (change g)

plain : (c d : Channel) (a : Answer) (g : Tags) → is_frame a ≡ false → Same c d → Held c g → Held d (by c a leaves_tags g)
plain c d a g none e h = rw none (same_held c d g e h)

effect_held : (o : OneChannel) (k : ChannelCall) (g : Tags) → ApartIn o.channel → Held o.channel g
    → Held (effect o k).channel (by o.channel (answer o k) (asks o k).tags g)
unfolding effect answer armed_of seq.armed disarmed_of seq.disarmed seq.idled download_opened
effect_held o (call.write_register lent offset value) g p h = held_register o.channel offset value g h
effect_held o (call.read_register offset) g p h = same_held o.channel (read_effect o.channel offset) g (same_read o.channel offset) h
effect_held o (call.write_setpoint lent user buffer index word) g p h = h
effect_held o call.arm g p h = record { armed = refl; events = h.events; tag = h.tag; tagged = h.tagged; only_armed = λ e. refl }
effect_held o call.disarm g p h = record { armed = refl; events = h.events; tag = refl; tagged = λ e. clash e; only_armed = λ e. clash e }
effect_held o call.open_download g p h = h
effect_held o (call.reply lent f) g p h =
    plain o.channel (reply_of o.channel o.m f) (answer o (call.reply lent f)) g (reply_plain o.channel o.m f)
    (same_reply o.channel o.m f) h
effect_held o (call.query which one two) g p h =
    plain o.channel o.channel (answer o (call.query which one two)) g (query_plain o which).1 refl h
effect_held o (call.tick lent) g p h = held_tick o g p h
effect_held o (call.event lent code) g p h = held_event o.channel o.user code g h
effect_held o (call.change_user user) g p h = held_user o user g h
effect_held o (call.write_main lent offset value) g p h = h
effect_held o (call.read_main offset) g p h =
    plain o.channel (main_read o.channel offset) (answer o (call.read_main offset)) g (main_plain o.channel offset).0
    (same_main o.channel offset) h

pub held_step : (o : OneChannel) (k : ChannelCall) (g : Tags) → ApartIn o.channel → Held o.channel g
    → Held (transition o k).channel (tags_after g (told_at o k))
unfolding transition response
held_step o k g p h = go (eqb (refusal_of o k) 0) refl
  where
    go : (b : Bool) → eqb (refusal_of o k) 0 ≡ b
        → let a = cond b (answer o k) (refused (refusal_of o k)) in
        Held (cond b (effect o k) o).channel (cond (is_refusal a) g (by o.channel a (asks o k).tags g))
    go true e = rw (accepted_answer o k e) (effect_held o k g p h)
    go false e = h
