-- Every call keeps the channel's state in range, and so does any list of calls from an opening. Assumes nothing.
use Prim.Native.Nat.{ℕ, ◌*◌, ◌≤◌}
use mathlib.Core.Path.{◌≡◌, refl, sym, ◌∙◌, ap, subst, subst₂}
use mathlib.Core.Bool.{Bool, true, false, cond, not, ◌&&◌, ◌||◌}
use mathlib.Core.List.{List, [], ◌∷◌}
use native.Mathlib.Omega.{arith}
use lib.ListN.{length}
use lib.Dec.{eqb, leb, ltb}
use borrow.Author.Tests.{eqb-true, ltb-false}
use Rattle.register_map.specs.AccessRule.{channel_access}
use Rattle.register_map.specs.AccessRefusals.{write_refusal}
use Rattle.status.specs.Bits.{bit_at}
use Rattle.status.proofs.Laws.{enable_drops}
use Rattle.sequencer.specs.declared.Sequencer.{Sequencer}
use Rattle.sequencer.specs.Playing.{shortfall, missing_with}
use Rattle.command_frames.specs.declared.CommandFrames.{CommandFrames}
use Rattle.command_frames.specs.Commanding.{is_due}
use Rattle.channel_core.specs.declared.Channel.{Channel}
use Rattle.channel_core.specs.State as state
use Rattle.channel_core.specs.Answers.{Answer, is_frame}
use Rattle.channel_core.specs.Behaviour.{user_changed}
use Rattle.channel_registers.specs.Calls.{cannot_send, register_refusal, register_effect, read_effect}
use Rattle.channel.specs.Calls.{outside, armed_of, main_taken}
use Rattle.channel.specs.Downloads.{download_opened}
use Rattle.channel.specs.OneChannel.{ChannelCall, OneChannel, one_channel, length_refusal, refusal_of, effect, transition, response, transitions, main_read, with_user, with_channel, with_readbacks, user_refusal}
use Rattle.channel.specs.OneChannel as call
use Rattle.channel.proofs.Cases.{passed, either, then_passed}
use Rattle.channel.proofs.Ranges.{inside}
use Rattle.histories.specs.History.{entry, resets, reads_at}
use Rattle.histories.specs.Ranges.{Quiet, SequencerInRange, ChannelInRange, Apart, InRange, CallKeepsRange, StaysInRange}
use Rattle.histories.proofs.Calls.{steps, read_sequencer, main_sequencer}
use Rattle.histories.proofs.Leaves.{leaves_read, leaves_main}
use Rattle.histories.proofs.Apart.{ApartIn, apart_opened, apart_event, apart_user, apart_arm, apart_disarm, apart_tick, apart_reply, apart_register}
use Rattle.histories.proofs.Depths.{depths_step}
use Rattle.histories.proofs.Lengths.{SameLength, event_length, register_length, setpoint_length, reply_length}
use Rattle.histories.proofs.Parts.{none_range, stored_range, with_status_lem, with_registers_lem, with_sequencer_lem, opened_range, reset_range, event_range, command_range, user_range, tick_range, disarm_range, download_range, commands_range, reply_range}
use Rattle.histories.proofs.Refusing.{by_refusal}

-- what a call leaves in range but for the sequencer, from any state, and the lengths that it leaves
pub record Stays (o x : OneChannel) : Type 0 where
  pub user : (1 ≤ o.user) × (o.user ≤ 8) → (1 ≤ x.user) × (x.user ≤ 8)
  pub channel : ChannelInRange o.m o.channel → ChannelInRange o.m x.channel
  pub setpoint_words_lem : length x.setpoints ≡ length o.setpoints
  pub readback_words : length x.readbacks ≡ length o.readbacks

-- ---- Refusals that were passed

-- a write that is not refused: FC with D0 found the channel armed and idle, and a clock code is 3 at most
register_passed : (c : Channel) (offset value : ℕ) → register_refusal c offset value ≡ 0
    → (cannot_send c offset value ≡ false) × (eqb offset 0x0a ≡ true → value ≤ 3)
unfolding register_refusal
register_passed c offset value e =
    let clock : ℕ = cond (eqb offset 0x0a) (cond (ltb 3 value) 5 0) 0 in
    let a = (then_passed (write_refusal (channel_access offset)) (cond (cannot_send c offset value) 10 clock) e).1 in
    let b = passed (cannot_send c offset value) 10 clock refl a in
    (b.0, λ at. ltb-false 3 value (passed (ltb 3 value) 5 0 refl (ap (λ (x : Bool). cond x (cond (ltb 3 value) 5 0) 0) (sym at) ∙ b.1)).0)

-- ---- The channel

register_range : (m : ℕ) (c : Channel) (offset value : ℕ) → register_refusal c offset value ≡ 0 → ChannelInRange m c
    → ChannelInRange m (register_effect c offset value)
unfolding register_effect
register_range m c offset value e h =
    let P = ChannelInRange m in
    either P (eqb offset 0x00)
    (with_status_lem m c _ (record { enable = enable_drops value; interrupt = h.status.interrupt; polling = h.status.polling }) h)
    (either P (eqb offset 0x06) (either P (bit_at value 0) (reset_range m c) h)
    (either P (eqb offset 0x08) (command_range m c value h)
    (either P (leb 0xe0 offset) (commands_range m c offset value h)
    (with_registers_lem m c _ (stored_range c.registers offset value (register_passed c offset value e).1 h.registers) h))))

read_range : (m : ℕ) (c : Channel) (offset : ℕ) → ChannelInRange m c → ChannelInRange m (read_effect c offset)
unfolding read_effect
read_range m c offset h =
    let P = ChannelInRange m in
    either P (eqb offset 0x02) (with_status_lem m c _ (record { enable = h.status.enable; interrupt = none_range; polling = h.status.polling }) h)
    (either P (eqb offset 0x04) (with_status_lem m c _ (record { enable = h.status.enable; interrupt = h.status.interrupt; polling = none_range }) h)
    (either P (eqb offset 0x0c) (with_sequencer_lem m c _ h) h))

taken_range : (m : ℕ) (c : Channel) (polling : Bool) → ChannelInRange m c → ChannelInRange m (main_taken c polling)
unfolding main_taken
taken_range m c true h = with_status_lem m c _ (record { enable = h.status.enable; interrupt = h.status.interrupt; polling = h.status.polling }) h
taken_range m c false h = with_status_lem m c _ (record { enable = h.status.enable; interrupt = h.status.interrupt; polling = h.status.polling }) h

-- what leaves the sequencer and the command frames
same_apart : (c d : Channel) → d.sequencer ≡ c.sequencer → d.commands ≡ c.commands → ApartIn c → ApartIn d
same_apart c d a b p = subst₂ (λ (f : CommandFrames) (q : Sequencer). Apart f q) (sym b) (sym a) p

read_apart : (c : Channel) (offset : ℕ) → ApartIn c → ApartIn (read_effect c offset)
read_apart c offset p =
    subst₂ (λ (f : CommandFrames) (q : Sequencer). Apart f q) (sym (leaves_read c offset).commands) (sym (read_sequencer c offset))
    (either (Apart c.commands) (eqb offset 0x0c) (record { due = p.due; due_unsent = p.due_unsent; receiving_unsent = p.receiving_unsent }) p)

main_apart : (c : Channel) (offset : ℕ) → ApartIn c → ApartIn (main_read c offset)
main_apart c offset = same_apart c (main_read c offset) (main_sequencer c offset) (leaves_main c offset).commands

main_range : (m : ℕ) (c : Channel) (offset : ℕ) → ChannelInRange m c → ChannelInRange m (main_read c offset)
main_range m c offset h =
    let P = ChannelInRange m in
    either P (eqb offset 0x28) (taken_range m c false h) (either P (eqb offset 0x2a) (taken_range m c true h) h)

-- ---- Each call

all_stays : (o : OneChannel) → Stays o o
all_stays o = record { user = λ u. u; channel = λ h. h; setpoint_words_lem = refl; readback_words = refl }

channel_stays : (o : OneChannel) (c : Channel) → (ChannelInRange o.m o.channel → ChannelInRange o.m c) → Stays o (with_channel o c)
channel_stays o c f = record { user = λ u. u; channel = f; setpoint_words_lem = refl; readback_words = refl }

readbacks_stay : (o : OneChannel) (c : Channel) (s : List ℕ) → (ChannelInRange o.m o.channel → ChannelInRange o.m c)
    → SameLength o.readbacks s → Stays o (with_readbacks (with_channel o c) s)
readbacks_stay o c s f l = record { user = λ u. u; channel = f; setpoint_words_lem = refl; readback_words = l }

user_stays : (o : OneChannel) (user : ℕ) → user_refusal user ≡ 0 → Stays o (call.user_change o user)
user_stays o user e = go (eqb user o.user)
  where
    go : (b : Bool) → Stays o (cond b o (with_user (with_channel o (user_changed o.channel)) user))
    go true = all_stays o
    go false =
        record {
          user = λ u. inside 1 8 user (passed (outside 1 8 user) 2 0 refl e).0;
          channel = user_range o.m o.channel;
          setpoint_words_lem = refl;
          readback_words = refl;
        }

effect_stays : (o : OneChannel) (k : ChannelCall) → refusal_of o k ≡ 0 → Stays o (effect o k)
unfolding refusal_of effect armed_of
effect_stays o (call.write_register lent offset value) e =
    let f = (then_passed (length_refusal lent (o.m * 8)) (register_refusal o.channel offset value) e).1 in
    readbacks_stay o _ _ (register_range o.m o.channel offset value f) (register_length o.channel o.readbacks o.m offset value)
effect_stays o (call.read_register offset) e = channel_stays o _ (read_range o.m o.channel offset)
effect_stays o (call.write_setpoint lent user buffer index word) e =
    record {
      user = λ u. u;
      channel = λ h. h;
      setpoint_words_lem = setpoint_length o.channel o.setpoints o.n user buffer index word;
      readback_words = refl;
    }
effect_stays o call.arm e = channel_stays o _ (with_sequencer_lem o.m o.channel _)
effect_stays o call.disarm e = channel_stays o _ (disarm_range o.m o.channel)
effect_stays o call.open_download e = channel_stays o _ (download_range o.m o.channel)
effect_stays o (call.reply lent f) e =
    readbacks_stay o _ _ (reply_range o.m o.channel f) (reply_length o.channel o.readbacks o.m o.user f)
effect_stays o (call.query which one two) e = all_stays o
effect_stays o (call.tick lent) e = channel_stays o _ (tick_range o.m o.channel o.setpoints o.n o.user)
effect_stays o (call.event lent code) e =
    readbacks_stay o _ _ (event_range o.m o.channel o.user code) (event_length o.channel o.readbacks o.m code)
effect_stays o (call.change_user user) e = user_stays o user e
effect_stays o (call.write_main lent offset value) e = all_stays o
effect_stays o (call.read_main offset) e = channel_stays o _ (main_range o.m o.channel offset)

pub stays : (o : OneChannel) (k : ChannelCall) → Stays o (transition o k)
stays o k =
    by_refusal (λ (x : OneChannel) (a : Answer) (b c d : Bool) (r : ℕ → Bool). Stays o x) o k (λ e. effect_stays o k (eqb-true (refusal_of o k) 0 e)) (all_stays o)

-- ---- Command frames and setpoints

effect_apart : (o : OneChannel) (k : ChannelCall) → refusal_of o k ≡ 0 → Quiet o.channel.sequencer → ApartIn o.channel → ApartIn (effect o k).channel
unfolding refusal_of effect download_opened
effect_apart o (call.write_register lent offset value) e q p =
    let f = (then_passed (length_refusal lent (o.m * 8)) (register_refusal o.channel offset value) e).1 in
    apart_register o.channel p q offset value (register_passed o.channel offset value f).0
effect_apart o (call.read_register offset) e q p = read_apart o.channel offset p
effect_apart o (call.write_setpoint lent user buffer index word) e q p = p
effect_apart o call.arm e q p = apart_arm o.channel p
effect_apart o call.disarm e q p = apart_disarm o.channel p
effect_apart o call.open_download e q p = p
effect_apart o (call.reply lent f) e q p = apart_reply o.channel p o.m f
effect_apart o (call.query which one two) e q p = p
effect_apart o (call.tick lent) e q p = apart_tick o.channel p o.setpoints o.n o.user
effect_apart o (call.event lent code) e q p = apart_event o.channel p o.user code
effect_apart o (call.change_user user) e q p =
    either (λ (x : OneChannel). ApartIn x.channel) (eqb user o.user) p (apart_user o.channel p)
effect_apart o (call.write_main lent offset value) e q p = p
effect_apart o (call.read_main offset) e q p = main_apart o.channel offset p

apart_step : (o : OneChannel) (k : ChannelCall) → Quiet o.channel.sequencer → ApartIn o.channel → ApartIn (transition o k).channel
apart_step o k q p =
    by_refusal (λ (x : OneChannel) (a : Answer) (b c d : Bool) (r : ℕ → Bool). ApartIn x.channel) o k (λ e. effect_apart o k (eqb-true (refusal_of o k) 0 e) q p) p

-- what holds of a channel after any list of calls, whatever the depths and lengths: idle, nothing is sent; setpoints and command frames keep apart
pub record Ordered (c : Channel) : Type 0 where
  pub quiet : Quiet c.sequencer
  pub apart : ApartIn c

pub ordered_opened : Ordered state.opened
unfolding state.opened
ordered_opened = record { quiet = λ e. refl; apart = apart_opened }

pub ordered_step : (o : OneChannel) (k : ChannelCall) → Ordered o.channel → Ordered (transition o k).channel
ordered_step o k h = record { quiet = (steps o k h.apart).quiet_step h.quiet; apart = apart_step o k h.quiet h.apart }

pub ordered_from : (o : OneChannel) (ks : List ChannelCall) → Ordered o.channel → Ordered (transitions o ks).channel
ordered_from o [] h = h
ordered_from o (k ∷ ks) h = ordered_from (transition o k) ks (ordered_step o k h)

-- ---- Lists of calls

-- what holds of a channel but for its sequencer, whatever the depths and lengths
pub channel_step : (o : OneChannel) (k : ChannelCall) → ChannelInRange o.m o.channel
    → ChannelInRange (transition o k).m (transition o k).channel
channel_step o k r = subst (λ (m : ℕ). ChannelInRange m (transition o k).channel) (sym (depths_step o k).1) ((stays o k).channel r)

pub channel_from : (o : OneChannel) (ks : List ChannelCall) → ChannelInRange o.m o.channel
    → ChannelInRange (transitions o ks).m (transitions o ks).channel
channel_from o [] r = r
channel_from o (k ∷ ks) r = channel_from (transition o k) ks (channel_step o k r)

-- the count of missing readbacks, cleared or not, after a send or none
missing_few : (clears sends : Bool) (k more : ℕ) → k ≤ 255 → cond clears 0 (cond sends (missing_with k more) k) ≤ 255
missing_few true sends k more h = omega arith
missing_few false true k more h = omega arith
missing_few false false k more h = h

-- one call keeps all in range
pub range_step : CallKeepsRange
range_step o k h =
    let d = depths_step o k in
    let f = stays o k in
    let u = f.user (h.user_from, h.user_to) in
    let t = steps o k h.apart in
    let q : SequencerInRange o.n (transition o k).channel.sequencer =
    record {
      index_due = t.index_step h.depth h.sequencer.index_due;
      countdown = t.countdown_step h.sequencer.countdown;
      replies = t.replies_step h.sequencer.replies;
      missing =
          subst (λ (j : ℕ). j ≤ 255) (sym t.missing_step)
          (missing_few (resets (entry o k) || reads_at 0x0c (entry o k)) (is_frame (response o k) && not (is_due o.channel.commands.waiting))
          o.channel.sequencer.missing (shortfall o.channel.sequencer.last) h.sequencer.missing);
      quiet = t.quiet_step h.sequencer.quiet;
    }
    in
    record {
      depth = rw d.0 h.depth;
      readback_depth = rw d.1 h.readback_depth;
      user_from = u.0;
      user_to = u.1;
      channel = channel_step o k h.channel;
      sequencer = subst (λ (x : ℕ). SequencerInRange x (transition o k).channel.sequencer) (sym d.0) q;
      apart = apart_step o k h.sequencer.quiet h.apart;
      setpoint_words_lem = f.setpoint_words_lem ∙ h.setpoint_words_lem ∙ ap (λ (x : ℕ). x * 16) (sym d.0);
      readback_words = f.readback_words ∙ h.readback_words ∙ ap (λ (x : ℕ). x * 2) (sym d.1);
    }

pub range_from : (o : OneChannel) (ks : List ChannelCall) → InRange o → InRange (transitions o ks)
range_from o [] h = h
range_from o (k ∷ ks) h = range_from (transition o k) ks (range_step o k h)

pub stays_in_range : StaysInRange
unfolding state.opened
stays_in_range n m setpoints readbacks some more s r ks =
    range_from (one_channel n m setpoints readbacks) ks
    (record {
      depth = some;
      readback_depth = more;
      user_from = omega arith;
      user_to = omega arith;
      channel = opened_range m;
      sequencer =
          record { index_due = some; countdown = tt; replies = omega arith; missing = omega arith; quiet = λ e. refl };
      apart = apart_opened;
      setpoint_words_lem = s;
      readback_words = r;
    })
