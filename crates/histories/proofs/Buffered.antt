-- What each call makes of the readback buffers, by what it answers and from any state: which is active, both stored counts, and every word. A call writes
-- one word at most, at the place after the stored ones of the active buffer. Assumes nothing.
use Prim.Native.Nat.{ℕ, ◌+◌, ◌≤◌}
use mathlib.Core.Path.{◌≡◌, refl, ◌∙◌, ap}
use mathlib.Core.Bool.{Bool, true, false, cond, not, ◌&&◌}
use mathlib.Core.List.{List, [], ◌∷◌}
use native.Mathlib.Omega.{arith}
use lib.ListN.{length, get_or}
use lib.Dec.{eqb, leb, ltb}
use Rattle.frame.specs.Frames.{Reading, read, crc_right}
use Rattle.frame.specs.Frames as frame
use Rattle.status.specs.Bits.{bit_at}
use Rattle.registers.specs.declared.Registers.{Registers}
use Rattle.registers.specs.Map.{second_active, readback_place, triggers_of, group_end_event, stored}
use Rattle.registers.proofs.Laws.{readbacks_switch}
use Rattle.sequencer.specs.Playing.{is_idle, send_of}
use Rattle.readback.specs.declared.Readbacks.{Readbacks}
use Rattle.readback.specs.declared.Disposition.{Disposition}
use Rattle.readback.specs.declared.Disposition.TheVariants as disposition
use Rattle.readback.specs.Storing.{is_due, disposition_of, capacity, place_of, stored_word}
use Rattle.readback.specs.Storing as rb
use Rattle.command_frames.specs.Commanding.{takes}
use Rattle.channel_core.specs.declared.Channel.{Channel}
use Rattle.channel_core.specs.State.{reset}
use Rattle.channel_core.specs.Answers.{Answer}
use Rattle.channel_core.specs.Answers as ans
use Rattle.channel_core.specs.Behaviour.{user_changed, group_ended, group_words, ended_if, ended_words, event_of, event_words, command_words, tick_of}
use Rattle.channel_replies.specs.Replying.{disposition_now, receipt_answer, received_channel, received_words, command_reply, reply_answer_as, reply_as, reply_words_as, reply_answer, reply_of, reply_words}
use Rattle.channel_registers.specs.Calls.{register_effect, register_words}
use Rattle.channel.specs.Calls.{armed_of, disarmed_of}
use Rattle.channel.specs.Downloads.{download_opened}
use Rattle.channel.specs.OneChannel.{ChannelCall, OneChannel, with_channel, with_readbacks, query_answer, main_answer, effect, answer, transition}
use Rattle.channel.specs.OneChannel as call
use Rattle.channel.proofs.Cases.{clash, either}
use Rattle.histories.specs.History.{is_kept, entry, Told, reply_word, asks, ends_group, resets}
use Rattle.histories.specs.Keeping.{stored_by}
use Rattle.histories.specs.Ranges.{RegistersInRange}
use Rattle.histories.specs.EndWords.{with_written}
use Rattle.histories.proofs.Cases.{by_offset}
use Rattle.histories.proofs.Leaves.{Leaves, leaves_event, leaves_command, leaves_read, leaves_main}
use Rattle.histories.proofs.Refusing.{by_refusal}

-- a call at a state, with what the state holds of command frames, which is what is told of them
abbrev pub told_at : OneChannel → ChannelCall → Told
told_at o k = record { entry = entry o k; commands = o.channel.commands }

-- buffer 2 is active
abbrev pub active_in : Channel → Bool
active_in c = second_active c.registers readback_place

-- where the next word goes
abbrev pub next_place : Channel → ℕ → ℕ
next_place c m = place_of (active_in c) m c.readbacks.stored

-- the counts with these words stored, of which there is one at most
abbrev pub grown : Readbacks → List ℕ → Readbacks
grown r [] = r
grown r (word ∷ words) = record { stored = r.stored + 1; retired = r.retired }

-- from o to x: a Group End or not, a reset or not, and the words that are stored otherwise
pub record Buffered (o x : OneChannel) (ends again : Bool) (words : List ℕ) : Type 0 where
  pub active : RegistersInRange o.channel.registers
      → active_in x.channel ≡ cond again false (cond ends (not (active_in o.channel)) (active_in o.channel))
  pub counts : x.channel.readbacks
      ≡ cond again rb.opened (cond ends (rb.group_ended o.channel.readbacks) (grown o.channel.readbacks words))
  pub written : x.readbacks ≡ with_written o.readbacks (next_place o.channel o.m) (cond ends (0x2000000 ∷ []) words)
  pub few : length words ≤ 1
  -- a Group End is no reset
  pub once : ends ≡ true → again ≡ false

-- ---- Calls that write no word

-- whatever the call answers, a reset or not
unwritten : (o x : OneChannel) (again b : Bool) → active_in x.channel ≡ cond again false (active_in o.channel)
    → x.channel.readbacks ≡ cond again rb.opened o.channel.readbacks → x.readbacks ≡ o.readbacks → Buffered o x false again (cond b [] [])
unwritten o x again b a c w = either (Buffered o x false again) b none none
  where
    none : Buffered o x false again []
    none = record { active = λ r. a; counts = c; written = w; few = omega arith; once = λ e. clash e }

same : (o : OneChannel) (b : Bool) → Buffered o o false false (cond b [] [])
same o b = unwritten o o false b refl refl refl

leaving : (o : OneChannel) (c : Channel) (b : Bool) → Leaves o.channel c → Buffered o (with_channel o c) false false (cond b [] [])
leaving o c b l = unwritten o _ false b (ap (λ (r : Registers). second_active r readback_place) l.registers) l.readbacks refl

-- ---- A Group End, by event or command; what Start, Resume and Tag do after it leaves that

ended : (o : OneChannel) (on : Bool) (c : Channel) → Leaves (ended_if on o.channel) c
    → Buffered o (with_readbacks (with_channel o c) (ended_words on o.channel o.readbacks o.m)) on false []
unfolding ended_if ended_words group_ended group_words
ended o true c l =
    record {
      active =
          λ r. ap (λ (s : Registers). second_active s readback_place) l.registers
          ∙ readbacks_switch o.channel.registers o.channel.sequencer.count r.active r.switches;
      counts = l.readbacks;
      written = refl;
      few = omega arith;
      once = λ e. refl;
    }
ended o false c l = leaving o c true l

pub event_buffered : (o : OneChannel) (code : ℕ)
    → Buffered o (with_readbacks (with_channel o (event_of o.channel o.user code)) (event_words o.channel o.readbacks o.m code))
    (triggers_of o.channel.registers group_end_event code) false []
unfolding event_words
event_buffered o code = ended o (triggers_of o.channel.registers group_end_event code) _ (leaves_event o.channel o.user code)

-- ---- A register write

stored_active : (r : Registers) (offset value : ℕ) → (stored r offset value).active ≡ r.active
unfolding stored
stored_active r offset value =
    let P : Registers → Type 0 = λ x. x.active ≡ r.active in
    either P (eqb offset 0x0a) refl
    (either P (eqb offset 0x14) refl
    (either P (ltb offset 0x20) refl
    (either P (ltb offset 0x2e) refl
    (either P (ltb offset 0x30) refl
    (either P (ltb offset 0x40) refl (either P (ltb offset 0xe0) refl refl))))))

pub register_buffered : (o : OneChannel) (offset value : ℕ)
    → Buffered o (with_readbacks (with_channel o (register_effect o.channel offset value)) (register_words o.channel o.readbacks o.m offset value))
    (eqb offset 0x08 && bit_at value 2) (eqb offset 0x06 && bit_at value 0) []
unfolding register_effect register_words command_words reset
register_buffered o offset value =
    by_offset
    (λ (x : ℕ).
    Buffered o (with_readbacks (with_channel o (register_effect o.channel x value)) (register_words o.channel o.readbacks o.m x value))
    (eqb x 0x08 && bit_at value 2) (eqb x 0x06 && bit_at value 0) [])
    offset
    (unwritten o _ false true refl refl refl)
    (reset_written (bit_at value 0))
    (ended o (bit_at value 2) _ (leaves_command o.channel value))
    (λ d e f.
    rw (d, e, f)
    (either (λ (c : Channel). Buffered o (with_channel o c) false false []) (leb 0xe0 offset) (unwritten o _ false true refl refl refl)
    (unwritten o _ false true (ap (λ (a : List Bool). get_or a readback_place false) (stored_active o.channel.registers offset value)) refl refl)))
  where
    reset_written : (on : Bool) → Buffered o (with_channel o (cond on (reset o.channel) o.channel)) false on []
    reset_written true = unwritten o _ true true refl refl refl
    reset_written false = same o true

-- ---- A reply

-- the words that a reply with this answer stores, a command frame taking it or not
abbrev kept : Answer → Bool → List ℕ → List ℕ
kept a taken words = cond (is_kept a && not taken) words []

received : (o : OneChannel) (word : ℕ) (right : Bool) (bits : ℕ)
    → Buffered o
    (with_readbacks (with_channel o (received_channel (disposition_now o.channel o.m) o.channel o.m right bits))
    (received_words (disposition_now o.channel o.m) o.channel o.readbacks o.m word))
    false false (kept (receipt_answer (disposition_now o.channel o.m)) false (word ∷ []))
unfolding disposition_now disposition_of
received o word right bits =
    go (is_due (is_idle o.channel.sequencer.stage) o.channel.sequencer.last) (ltb o.channel.readbacks.stored (capacity o.m)) refl
  where
    go : (due space : Bool) → ltb o.channel.readbacks.stored (capacity o.m) ≡ space
        → let d : Disposition = cond due (cond space disposition.Kept disposition.Lost) disposition.Unsolicited in
        Buffered o
        (with_readbacks (with_channel o (received_channel d o.channel o.m right bits)) (received_words d o.channel o.readbacks o.m word))
        false false (kept (receipt_answer d) false (word ∷ []))
    go true true e = record { active = λ r. refl; counts = rw e; written = rw e; few = omega arith; once = λ e. refl }
    go true false e = unwritten o _ false true refl refl refl
    go false space e = same o true

pub reply_buffered : (o : OneChannel) (f : ℕ)
    → Buffered o (with_readbacks (with_channel o (reply_of o.channel o.m f)) (reply_words o.channel o.readbacks o.m o.user f)) false false
    (kept (reply_answer o.channel o.m f) (takes o.channel.commands) (reply_word o (read f)))
unfolding reply_of reply_words reply_answer
reply_buffered o f = go (read f)
  where
    taken : (id word aux crc : ℕ) (b : Bool)
        → let d = disposition_now o.channel o.m in
        let x = stored_word (send_of o.channel.sequencer.last) o.user (not (crc_right id word aux crc)) id word in
        Buffered o
        (with_readbacks
        (with_channel o
        (cond b (command_reply o.channel (crc_right id word aux crc) id word) (received_channel d o.channel o.m (crc_right id word aux crc) word)))
        (cond b o.readbacks (received_words d o.channel o.readbacks o.m x)))
        false false (kept (cond b ans.kept (receipt_answer d)) b (x ∷ []))
    taken id word aux crc true = unwritten o _ false true refl refl refl
    taken id word aux crc false = received o _ (crc_right id word aux crc) word

    go : (q : Reading)
        → Buffered o (with_readbacks (with_channel o (reply_as q o.channel o.m)) (reply_words_as q o.channel o.readbacks o.m o.user)) false false
        (kept (reply_answer_as q o.channel o.m) (takes o.channel.commands) (reply_word o q))
    go (frame.refused k) = same o true
    go (frame.fields id word aux crc) = taken id word aux crc (takes o.channel.commands)

-- ---- Each call

effect_buffered : (o : OneChannel) (k : ChannelCall)
    → Buffered o (effect o k) (asks o k).group_end (asks o k).reset (kept (answer o k) (takes o.channel.commands) (asks o k).word)
unfolding effect answer armed_of disarmed_of download_opened tick_of user_changed
effect_buffered o (call.write_register lent offset value) = register_buffered o offset value
effect_buffered o (call.read_register offset) = leaving o _ true (leaves_read o.channel offset)
effect_buffered o (call.write_setpoint lent user buffer index word) = unwritten o _ false true refl refl refl
effect_buffered o call.arm = unwritten o _ false true refl refl refl
effect_buffered o call.disarm = unwritten o _ false true refl refl refl
effect_buffered o call.open_download = unwritten o _ false true refl refl refl
effect_buffered o (call.reply lent f) = reply_buffered o f
effect_buffered o (call.query which one two) = same o (is_kept (query_answer o which) && not (takes o.channel.commands))
effect_buffered o (call.tick lent) = unwritten o _ false (is_kept (answer o (call.tick lent)) && not (takes o.channel.commands)) refl refl refl
effect_buffered o (call.event lent code) = event_buffered o code
effect_buffered o (call.change_user user) =
    either (λ (x : OneChannel). Buffered o x false false []) (eqb user o.user) (same o true) (unwritten o _ false true refl refl refl)
effect_buffered o (call.write_main lent offset value) = same o true
effect_buffered o (call.read_main offset) =
    leaving o _ (is_kept (main_answer o.channel offset) && not (takes o.channel.commands)) (leaves_main o.channel offset)

pub buffered_step : (o : OneChannel) (k : ChannelCall)
    → Buffered o (transition o k) (ends_group (entry o k)) (resets (entry o k)) (stored_by (told_at o k))
buffered_step o k =
    by_refusal
    (λ (x : OneChannel) (a : Answer) (ends again stops : Bool) (reads : ℕ → Bool).
    Buffered o x ends again (kept a (takes o.channel.commands) (asks o k).word))
    o k (λ e. effect_buffered o k) (same o true)
