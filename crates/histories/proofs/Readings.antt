-- After any list of calls the readings are those of the third to sixth replies to the last setpoint send since idle, each says what its reply was, and
-- with no such send all are lost. Assumes nothing.
use Prim.Native.Nat.{ℕ, zero, suc, ◌+◌, ◌≤◌}
use mathlib.Core.Path.{◌≡◌, refl, sym, ◌∙◌, ap, ap₂, subst}
use mathlib.Core.Bool.{Bool, true, false, cond, not, ◌&&◌, ◌||◌}
use mathlib.Core.List.{List, [], ◌∷◌, ◌++◌}
use native.Mathlib.Omega.{arith}
use lib.Dec.{eqb, leb, ltb}
use lib.ListN.{length, get_or, length-append}
use Rattle.std.specs.Option.{is_some}
use Rattle.frame.specs.Frames.{Reading, read, crc_right}
use Rattle.frame.specs.Frames as frame
use Rattle.status.specs.Bits.{bit_at}
use Rattle.codes.specs.Voltage.{voltage_of}
use Rattle.codes.proofs.Exact.{voltage_exact}
use Rattle.registers.specs.Map.{triggers_of, group_end_event}
use Rattle.std.specs.declared.option.Option.{Option}
use Rattle.std.specs.declared.option.Option.TheVariants.{Some, None}
use Rattle.adc_words.specs.declared.AdcWord.{AdcWord}
use Rattle.adc_words.specs.declared.AdcWords.{AdcWords}
use Rattle.adc_words.specs.Positions.{adc_word, no_reply, none_arrived, with_reply, arrived, words_of}
use Rattle.adc_words.proofs.Laws.{one_more, arrived_more, arrived_none}
use Rattle.sequencer.specs.declared.LastSend.{LastSend}
use Rattle.sequencer.specs.Playing.{send_of, replies_of}
use Rattle.readback.specs.declared.Disposition.{Disposition}
use Rattle.readback.specs.declared.Disposition.TheVariants as disposition
use Rattle.command_frames.specs.Commanding.{takes}
use Rattle.channel_core.specs.declared.Channel.{Channel}
use Rattle.channel_core.specs.Answers.{Answer, is_received}
use Rattle.channel_core.specs.Answers as ans
use Rattle.channel_core.specs.Results.{volts, lost, damaged}
use Rattle.channel_core.specs.State.{reset}
use Rattle.channel_core.specs.State as state
use Rattle.channel_core.specs.Behaviour.{group_ended, ended_if, user_changed, played_of, tick_of, tick_answer}
use Rattle.channel_replies.specs.Replying.{disposition_now, receipt_answer, received_channel, command_reply, reply_answer_as, reply_as, reply_answer, reply_of}
use Rattle.channel_readings.specs.Measuring.{measured, measurement, readings_answer}
use Rattle.channel_registers.specs.Calls.{register_effect}
use Rattle.channel.specs.Calls.{armed_of, disarmed_of}
use Rattle.channel.specs.Downloads.{download_opened}
use Rattle.channel.specs.OneChannel.{ChannelCall, OneChannel, one_channel, refusal_of, effect, answer, transition, response, transitions, query_answer, main_answer, main_read}
use Rattle.channel.specs.OneChannel as call
use Rattle.channel.proofs.Cases.{clash, either}
use Rattle.histories.specs.History.{is_kept, adc_in, no_adc, Entry, entry, Told, told, asks, ends_group, resets, sent_id, sends_setpoint, receives}
use Rattle.histories.specs.Windows.{Window, closed, idles}
use Rattle.histories.specs.Ranges.{AdcInRange, AdcWordsInRange, ChannelInRange}
use Rattle.histories.specs.Readings.{becomes, replies_after, replies_since, replies_over, readings_by, Says, ReadingsTold, ReadingsSay, NoneLost}
use Rattle.histories.proofs.Accepted.{query_plain}
use Rattle.histories.proofs.Buffered.{told_at}
use Rattle.histories.proofs.Calls.{steps, main_plain}
use Rattle.histories.proofs.Cases.{by_offset}
use Rattle.histories.proofs.Commands.{told_from, told_next}
use Rattle.histories.proofs.Leaves.{leaves_event, leaves_command, leaves_read, leaves_main}
use Rattle.histories.proofs.Parts.{selected_range, opened_range}
use Rattle.histories.proofs.Ranges.{channel_step, channel_from, Ordered, ordered_opened, ordered_step}
use Rattle.histories.proofs.Refusing.{by_refusal}
use Rattle.histories.proofs.Steps.{line_unreceived}
use Rattle.histories.proofs.Ticks.{window_of}
use Rattle.histories.proofs.Windows.{window_held}

-- ---- One call: it idles, sends, has one more reply `a` received, or none of these

module _ (w : Window) (id : ℕ) (l : List AdcWord) (a : AdcWord) where
  abbrev window : (idle sends more : Bool) → Window
  window idle sends more =
      cond idle closed
      (cond sends (record { sent = true; id = id; replies = 0 }) (cond more (record { sent = w.sent; id = w.id; replies = w.replies + 1 }) w))

  abbrev replies : (idle sends more : Bool) → List AdcWord
  replies idle sends more = cond idle [] (cond sends [] (cond more (l ++ (a ∷ [])) l))

  count_after_lem : (idle sends more : Bool) → w.replies ≡ length l → (window idle sends more).replies ≡ length (replies idle sends more)
  count_after_lem true sends more e = refl
  count_after_lem false true more e = refl
  count_after_lem false false true e = ap (λ (k : ℕ). k + 1) e ∙ sym (length-append l (a ∷ []))
  count_after_lem false false false e = e

  -- `held` are the ADC words before it; a reset clears them, one reply more is put into its place
  words_after_lem : (held : AdcWords) (again idle sends more : Bool) → (again ≡ true → idle ≡ true) → w.replies ≡ length l → arrived held w.replies ≡ words_of l
      → arrived (cond again none_arrived (cond more (with_reply held w.replies a) held)) (window idle sends more).replies ≡ words_of (replies idle sends more)
  words_after_lem held again true sends more r e h = arrived_none _
  words_after_lem held true false sends more r e h = clash (r refl)
  words_after_lem held false false true more r e h = arrived_none _
  words_after_lem held false false false true r e h =
      arrived_more held w.replies a ∙ ap₂ (λ (x : AdcWords) (k : ℕ). with_reply x k a) h e ∙ one_more l a
  words_after_lem held false false false false r e h = h

  none_after : (idle sends more : Bool) → (more ≡ true → w.sent ≡ true) → (w.sent ≡ false → l ≡ [])
      → (window idle sends more).sent ≡ false → replies idle sends more ≡ []
  none_after true sends more r h e = refl
  none_after false true more r h e = refl
  none_after false false true r h e = clash (sym e ∙ r refl)
  none_after false false false r h e = h e

-- ---- What each call makes of the ADC words

-- a channel with them, after a call with this answer, a reset or not; `reply` is what it brings, stored or not
abbrev AdcStep : Channel → Answer → (again : Bool) → (reply : Bool → AdcWord) → Channel → Type 0
AdcStep c a again reply d =
    d.adc
    ≡ cond again none_arrived
    (cond (is_received a && not (takes c.commands)) (with_reply c.adc (send_of c.sequencer.last).replies (reply (is_kept a))) c.adc)

plain_adc : (c : Channel) (a : Answer) (reply : Bool → AdcWord) (d : Channel) → is_received a ≡ false → d.adc ≡ c.adc → AdcStep c a false reply d
plain_adc c a reply d plain e = e ∙ sym (rw plain)

ended_adc : (on : Bool) (c : Channel) → (ended_if on c).adc ≡ c.adc
unfolding ended_if group_ended
ended_adc true c = refl
ended_adc false c = refl

reset_adc : (c : Channel) (on : Bool) → AdcStep c ans.done on no_adc (cond on (reset c) c)
unfolding reset
reset_adc c true = refl
reset_adc c false = refl

register_adc : (c : Channel) (offset value : ℕ) → AdcStep c ans.done (eqb offset 0x06 && bit_at value 0) no_adc (register_effect c offset value)
unfolding register_effect
register_adc c offset value =
    by_offset (λ (x : ℕ). AdcStep c ans.done (eqb x 0x06 && bit_at value 0) no_adc (register_effect c x value)) offset
    refl (reset_adc c (bit_at value 0)) ((leaves_command c value).adc ∙ ended_adc (bit_at value 2) c)
    (λ d e f. rw (d, e, f) (either (λ (x : Channel). x.adc ≡ c.adc) (leb 0xe0 offset) refl refl))

reply_adc : (c : Channel) (m f : ℕ) → AdcStep c (reply_answer c m f) false (adc_in (read f)) (reply_of c m f)
unfolding reply_answer reply_of
reply_adc c m f = go (read f)
  where
    disposed : (d : Disposition) (right : Bool) (word : ℕ)
        → (received_channel d c m right word).adc
        ≡ cond (is_received (receipt_answer d) && true)
        (with_reply c.adc (send_of c.sequencer.last).replies (adc_word (is_kept (receipt_answer d)) right word)) c.adc
    disposed disposition.Unsolicited right word = refl
    disposed disposition.Lost right word = refl
    disposed disposition.Kept right word = refl

    fields : (id word aux crc : ℕ) (b : Bool) → takes c.commands ≡ b
        → AdcStep c (cond b ans.kept (receipt_answer (disposition_now c m))) false (λ (stored : Bool). adc_word stored (crc_right id word aux crc) word)
        (cond b (command_reply c (crc_right id word aux crc) id word) (received_channel (disposition_now c m) c m (crc_right id word aux crc) word))
    fields id word aux crc true e = rw e
    fields id word aux crc false e = rw e (disposed (disposition_now c m) (crc_right id word aux crc) word)

    go : (g : Reading) → AdcStep c (reply_answer_as g c m) false (adc_in g) (reply_as g c m)
    go (frame.refused k) = refl
    go (frame.fields id word aux crc) = fields id word aux crc (takes c.commands) refl

effect_adc : (o : OneChannel) (k : ChannelCall) → AdcStep o.channel (answer o k) (asks o k).reset (asks o k).adc (effect o k).channel
unfolding effect answer armed_of disarmed_of download_opened tick_of tick_answer user_changed
effect_adc o (call.write_register lent offset value) = register_adc o.channel offset value
effect_adc o (call.read_register offset) = (leaves_read o.channel offset).adc
effect_adc o (call.write_setpoint lent user buffer index word) = refl
effect_adc o call.arm = refl
effect_adc o call.disarm = refl
effect_adc o call.open_download = refl
effect_adc o (call.reply lent f) = reply_adc o.channel o.m f
effect_adc o (call.query which one two) = plain_adc o.channel (query_answer o which) no_adc o.channel (query_plain o which).2 refl
effect_adc o (call.tick lent) =
    plain_adc o.channel (tick_answer o.channel o.setpoints o.n o.user) no_adc (tick_of o.channel o.setpoints o.n o.user)
    (line_unreceived o.channel.registers.id o.channel.commands (played_of o.channel o.setpoints o.n o.user).transmission) refl
effect_adc o (call.event lent code) =
    (leaves_event o.channel o.user code).adc ∙ ended_adc (triggers_of o.channel.registers group_end_event code) o.channel
effect_adc o (call.change_user user) = either (λ (x : OneChannel). x.channel.adc ≡ o.channel.adc) (eqb user o.user) refl refl
effect_adc o (call.write_main lent offset value) = refl
effect_adc o (call.read_main offset) =
    plain_adc o.channel (main_answer o.channel offset) no_adc (main_read o.channel offset) (main_plain o.channel offset).1
    (leaves_main o.channel offset).adc

adc_step : (o : OneChannel) (k : ChannelCall) → AdcStep o.channel (response o k) (resets (entry o k)) (asks o k).adc (transition o k).channel
adc_step o k =
    by_refusal (λ (x : OneChannel) (a : Answer) (b c d : Bool) (r : ℕ → Bool). AdcStep o.channel a c (asks o k).adc x.channel) o k
    (λ e. effect_adc o k) refl

-- ---- Along a list

-- a channel holds these replies; none, where there is no send
pub record Holds (o : OneChannel) (l : List AdcWord) : Type 0 where
  pub count : (send_of o.channel.sequencer.last).replies ≡ length l
  pub words : arrived o.channel.adc (send_of o.channel.sequencer.last).replies ≡ words_of l
  pub none : is_some o.channel.sequencer.last ≡ false → l ≡ []

-- a reset idles
reset_idles : (e : Entry) → resets e ≡ true → idles e ≡ true
reset_idles e r = rw r (go (ends_group e))
  where
    go : (b : Bool) → (b || true) ≡ true
    go true = refl
    go false = refl

holds_step : (o : OneChannel) (k : ChannelCall) (l : List AdcWord) → Ordered o.channel → ChannelInRange o.m o.channel → Holds o l
    → Holds (transition o k) (replies_after l (told_at o k))
holds_step o k l g r h =
    let t = told_at o k in
    let s = steps o k g.apart in
    let idle = idles t.entry in
    let w = window_of o.channel.sequencer in
    let id = sent_id t.entry.answer in
    let after = s.window_step r.registers.id in
    record {
      count = ap (λ (x : Window). x.replies) after ∙ count_after_lem w id l (becomes t) idle (sends_setpoint t) (receives t) h.count;
      words =
          ap₂ arrived (adc_step o k) (ap (λ (x : Window). x.replies) after)
          ∙ words_after_lem w id l (becomes t) o.channel.adc (resets t.entry) idle (sends_setpoint t) (receives t) (reset_idles t.entry) h.count h.words;
      none =
          λ e.
          none_after w id l (becomes t) idle (sends_setpoint t) (receives t) s.received_step h.none
          (sym (ap (λ (x : Window). x.sent) after) ∙ e);
    }

holds_from : (o : OneChannel) (ks : List ChannelCall) (l : List AdcWord) → Ordered o.channel → ChannelInRange o.m o.channel → Holds o l
    → Holds (transitions o ks) (replies_since l (told_from o ks))
unfolding replies_since told
holds_from o [] l g r h = h
holds_from o (k ∷ ks) l g r h =
    subst (λ (ts : List Told). Holds (transitions (transition o k) ks) (replies_since l ts)) (sym (told_next o k ks g.apart))
    (holds_from (transition o k) ks (replies_after l (told_at o k)) (ordered_step o k g) (channel_step o k r) (holds_step o k l g r h))

holds : (n m : ℕ) (setpoints readbacks : List ℕ) (ks : List ChannelCall)
    → Holds (transitions (one_channel n m setpoints readbacks) ks) (replies_over n m setpoints readbacks ks)
unfolding state.opened
holds n m setpoints readbacks ks =
    holds_from (one_channel n m setpoints readbacks) ks [] ordered_opened (opened_range m) (record { count = refl; words = arrived_none _; none = λ e. refl })

-- ---- The readings

-- as many as the last send holds, where there is one
replies_held : (l : Option LastSend) → replies_of l ≡ (send_of l).replies
replies_held None = refl
replies_held (Some l) = refl

pub readings_told : ReadingsTold
unfolding response refusal_of answer readings_answer
readings_told n m setpoints readbacks ks one two =
    let c = (transitions (one_channel n m setpoints readbacks) ks).channel in
    ap (λ (k : ℕ). measurement (arrived c.adc k)) (replies_held c.sequencer.last) ∙ rw (holds n m setpoints readbacks ks).words

measured_says : (a : AdcWord) → AdcInRange a → Says a.stored a.right a.«data» (measured a)
unfolding measured
measured_says a i = go a.stored a.right
  where
    go : (stored right : Bool) → Says stored right a.«data» (cond stored (cond right (volts (voltage_of a.«data»)) damaged) lost)
    go true true = (voltage_of a.«data», refl, voltage_exact a.«data» i)
    go true false = refl
    go false right = refl

in_place : (l : List AdcWord) → AdcWordsInRange (words_of l) → (k : ℕ) → 2 ≤ k → k ≤ 5 → AdcInRange (get_or l k no_reply)
in_place l h zero low high = absurd (omega arith)
in_place l h (suc zero) low high = absurd (omega arith)
in_place l h (suc (suc zero)) low high = h.third
in_place l h (suc (suc (suc zero))) low high = h.fourth
in_place l h (suc (suc (suc (suc zero)))) low high = h.fifth
in_place l h (suc (suc (suc (suc (suc zero))))) low high = h.sixth
in_place l h (suc (suc (suc (suc (suc (suc k)))))) low high = absurd (omega arith)

in_range : (n m : ℕ) (setpoints readbacks : List ℕ) (ks : List ChannelCall)
    → AdcWordsInRange (transitions (one_channel n m setpoints readbacks) ks).channel.adc
in_range n m setpoints readbacks ks = (channel_from (one_channel n m setpoints readbacks) ks (opened_range m)).adc

arrived_range : (w : AdcWords) (k : ℕ) → AdcWordsInRange w → AdcWordsInRange (arrived w k)
unfolding arrived
arrived_range w k h =
    let none : AdcInRange no_reply = omega arith in
    record {
      third = selected_range (ltb 2 k) w.third no_reply h.third none;
      fourth = selected_range (ltb 3 k) w.fourth no_reply h.fourth none;
      fifth = selected_range (ltb 4 k) w.fifth no_reply h.fifth none;
      sixth = selected_range (ltb 5 k) w.sixth no_reply h.sixth none;
    }

pub readings_say : ReadingsSay
readings_say n m setpoints readbacks ks k low high =
    let l = replies_over n m setpoints readbacks ks in
    measured_says (get_or l k no_reply)
    (in_place l (subst AdcWordsInRange (holds n m setpoints readbacks ks).words (arrived_range _ _ (in_range n m setpoints readbacks ks))) k low high)

pub none_lost : NoneLost
unfolding measured
none_lost n m setpoints readbacks ks one two e =
    readings_told n m setpoints readbacks ks one two
    ∙ ap readings_by ((holds n m setpoints readbacks ks).none ((window_held n m setpoints readbacks ks).sent ∙ e))
