-- The laws of command frames, as stated. Assumes nothing.
use Prim.Native.Nat.{ℕ, zero, suc, ◌+◌, ◌-◌, ◌*◌, ◌/◌, ◌<◌}
use mathlib.Core.Path.{◌≡◌, refl, sym, ap, subst, ◌∙◌}
use mathlib.Core.Bool.{Bool, true, false, cond, not, ◌&&◌, and-eq-true_iff}
use mathlib.Core.List.{List}
use native.Mathlib.Omega.{arith}
use lib.ListN.{length, get_or, set, length-set}
use lib.Seq.{get_or-set_same, get_or-set_other}
use lib.Dec.{eqb, ltb}
use borrow.Author.Tests.{eq-eqb, ne_eqb, eqb-true, le-ltb, lt-ltb}
use Rattle.std.specs.Option.{is_some}
use Rattle.std.specs.declared.option.Option.TheVariants.{Some, None}
use Rattle.frame.specs.Frames.{read, fields, crc_right}
use Rattle.register_map.specs.AccessRule.{channel_access}
use Rattle.register_map.specs.AccessRefusals.{read_refusal}
use Rattle.status.specs.Bits.{bit_at}
use Rattle.sequencer.specs.Transmissions.{Transmission}
use Rattle.sequencer.specs.Transmissions as transmission
use Rattle.sequencer.specs.Playing.{is_idle, send_of}
use Rattle.sequencer.specs.Runs.{ticks, sends}
use Rattle.readback.specs.Storing.{disposition_of}
use Rattle.readback.specs.Storing as rb
use Rattle.command_frames.specs.declared.CommandFrames.{CommandFrames}
use Rattle.command_frames.specs.declared.Trigger.TheVariants as trigger
use Rattle.command_frames.specs.Commanding.{is_due, requested, reached, takes, received, with_header, with_word, with_waiting, id_word, with_pair, command_frame}
use Rattle.command_frames.specs.Commanding as cmd
use Rattle.command_frames.proofs.Laws.{ticked_idle}
use Rattle.channel_core.specs.Answers as ans
use Rattle.channel_core.specs.State.{reset, with_commands}
use Rattle.channel_core.specs.Behaviour.{group_ended, is_setpoint}
use Rattle.channel_replies.specs.Replying.{disposition_now, reply_answer, reply_of, reply_words}
use Rattle.channel_registers.specs.Calls.{register_refusal, register_effect, register_words, read_value}
use Rattle.channel.specs.Calls.{disarmed_of}
use Rattle.channel.specs.OneChannel.{OneChannel, ChannelCall, read_register, disarm, reply, refusal_of, effect, answer, transition, response, with_channel}
use Rattle.channel.proofs.Cases.{clash}
use Rattle.histories.specs.Ranges.{ApartAt}
use Rattle.histories.proofs.Refusing.{accepted_transition, accepted_response}
use Rattle.histories.proofs.Apart.{ticked_nothing, idle_apart}
use Rattle.timing.specs.Ticking.{after, on_tick, between, answer_on, word_at, period, plays}
use Rattle.timing.specs.Commands.{written, prepared, carried, PairKept}
use Rattle.timing.specs.Commands as the
use Rattle.histories.specs.History.{entry, ends_group}
use Rattle.histories.proofs.Accepted.{framed_accepted}
use Rattle.histories.proofs.Commands.{reads_commands}
use Rattle.histories.proofs.Ended.{ended_step}
use Rattle.timing.proofs.Bridge.{on_tick_lem, after_commands, between_none}

-- the channel with other command frames
abbrev with : OneChannel → CommandFrames → OneChannel
with o f = with_channel o (with_commands o.channel f)

-- ---- Writes to E0, E2 and FC

header_written : (o : OneChannel) (value : ℕ) → written o 0xe0 value ≡ with o (with_header o.channel.commands value)
unfolding transition refusal_of effect register_refusal register_effect register_words channel_access cmd.stored
header_written o value = rw (eq-eqb (o.m * 8) (o.m * 8) refl)

word_written : (o : OneChannel) (value : ℕ) → written o 0xe2 value ≡ with o (with_word o.channel.commands value)
unfolding transition refusal_of effect register_refusal register_effect register_words channel_access cmd.stored
word_written o value = rw (eq-eqb (o.m * 8) (o.m * 8) refl)

prepared_is : (o : OneChannel) (header word : ℕ) → prepared o header word ≡ with o (with_word (with_header o.channel.commands header) word)
prepared_is o header word =
    ap (λ (p : OneChannel). written p 0xe2 word) (header_written o header) ∙ word_written (with o (with_header o.channel.commands header)) word

-- whether FC is refused 10
abbrev refuses : OneChannel → ℕ → Bool
refuses o value = bit_at value 0 && not (o.channel.sequencer.armed && is_idle o.channel.sequencer.stage)

send_written : (o : OneChannel) (value : ℕ) → refuses o value ≡ false
    → written o 0xfc value ≡ with o (with_waiting o.channel.commands (requested o.channel.commands.waiting value))
unfolding transition refusal_of effect register_refusal register_effect register_words channel_access cmd.stored
send_written o value h = rw (eq-eqb (o.m * 8) (o.m * 8) refl, h)

pub send_refused : the.SendRefused
unfolding response refusal_of answer register_refusal channel_access
send_refused o value = rw (eq-eqb (o.m * 8) (o.m * 8) refl) (go (refuses o value))
  where
    go : (b : Bool) → ans.unless (cond b 10 0) ans.done ≡ cond b (ans.refused 10) ans.done
    go true = refl
    go false = refl

-- D1 without D0
group_written : (o : OneChannel) (value : ℕ) → bit_at value 0 ≡ false → bit_at value 1 ≡ true
    → written o 0xfc value ≡ with o (with_waiting o.channel.commands (Some trigger.GroupEnd))
group_written o value h g =
    send_written o value (ap (λ (b : Bool). b && not (o.channel.sequencer.armed && is_idle o.channel.sequencer.stage)) h)
    ∙ rw (h, g)

pub neither_bit : the.NeitherBit
neither_bit o value h g =
    send_written o value (ap (λ (b : Bool). b && not (o.channel.sequencer.armed && is_idle o.channel.sequencer.stage)) h)
    ∙ rw (h, g)

-- ---- A frame that is due leaves

reads_count : (o : OneChannel) → response o (read_register 0xfe) ≡ ans.value o.channel.commands.count
unfolding channel_access response refusal_of answer read_value cmd.loaded
reads_count o = refl

module _ (p : OneChannel) (due : is_due p.channel.commands.waiting ≡ true)
    (apart : ApartAt p.channel.sequencer.stage p.channel.sequencer.left)
  where
    nothing : plays p 1 ≡ transmission.Nothing
    unfolding sends ticks
    nothing = ticked_nothing p.channel.sequencer (word_at p p.channel.sequencer.index) p.n (period p) p.channel.registers.id apart

    leaves : on_tick p 1 ≡ ans.frame (command_frame p.channel.commands)
    leaves = on_tick_lem p 1 (omega arith) ∙ ap (answer_on p 1) nothing ∙ rw due

    cleared : response (after p 1) (read_register 0xfe) ≡ ans.value 0
    unfolding after cmd.ticked
    cleared =
        reads_count (after p 1)
        ∙ ap (λ (f : CommandFrames). ans.value f.count) (after_commands p 0)
        ∙ ap (λ (x : Transmission). ans.value (cmd.ticked p.channel.commands (is_setpoint x)).count) nothing
        ∙ rw due

-- with E0 and E2 written meanwhile
sends_prepared : (o : OneChannel) (header word : ℕ) → is_due o.channel.commands.waiting ≡ true
    → ApartAt o.channel.sequencer.stage o.channel.sequencer.left
    → (on_tick (prepared o header word) 1 ≡ carried header word) × (response (after (prepared o header word) 1) (read_register 0xfe) ≡ ans.value 0)
unfolding command_frame
sends_prepared o header word due apart =
    subst (λ (p : OneChannel). (on_tick p 1 ≡ carried header word) × (response (after p 1) (read_register 0xfe) ≡ ans.value 0))
    (sym (prepared_is o header word)) (
      leaves (with o (with_word (with_header o.channel.commands header) word)) due apart,
      cleared (with o (with_word (with_header o.channel.commands header) word)) due apart,
    )

pub sends_now : the.SendsNow
sends_now o value header word armed idle on =
    let f = with_waiting o.channel.commands (Some trigger.NextTick) in
    let e : written o 0xfc value ≡ with o f = send_written o value (rw (armed, idle, on)) ∙ rw on in
    subst
    (λ (q : OneChannel).
    (on_tick (prepared q header word) 1 ≡ carried header word) × (response (after (prepared q header word) 1) (read_register 0xfe) ≡ ans.value 0))
    (sym e) (sends_prepared (with o f) header word refl (idle_apart o.channel.sequencer.stage o.channel.sequencer.left idle))

-- ---- Waiting for Group End

waits_on : (o : OneChannel) (k : ℕ) → o.channel.commands.waiting ≡ Some trigger.GroupEnd → (after o k).channel.commands.waiting ≡ Some trigger.GroupEnd
unfolding after
waits_on o zero h = h
waits_on o (suc k) h =
    let w = waits_on o k h in
    ap (λ (f : CommandFrames). f.waiting) (after_commands o k ∙ ticked_idle (after o k).channel.commands (is_setpoint (plays o (suc k))) (ap is_due w)) ∙ w

-- after a Group End
ended_waiting : (o : OneChannel) (g : ChannelCall) → ends_group (entry o g) ≡ true
    → (transition o g).channel.commands.waiting ≡ reached o.channel.commands.waiting
unfolding group_ended cmd.group_ended
ended_waiting o g ends = ap (λ (f : CommandFrames). f.waiting) (ended_step o g ends).leaves.commands

pub sends_after_group_end : the.SendsAfterGroupEnd
sends_after_group_end o value k g header word off on ends =
    let q = with o (with_waiting o.channel.commands (Some trigger.GroupEnd)) in
    let w = after (written o 0xfc value) k in
    let at : w.channel.commands.waiting ≡ Some trigger.GroupEnd =
    subst (λ (p : OneChannel). (after p k).channel.commands.waiting ≡ Some trigger.GroupEnd) (sym (group_written o value off on)) (waits_on q k refl) in
    let due = ap is_due (ended_waiting w g ends ∙ ap reached at) in
    sends_prepared (transition w g) header word due ((ended_step w g ends).apart.due due)

pub waits_for_group_end : the.WaitsForGroupEnd
waits_for_group_end o value j off on =
    between_none (written o 0xfc value) j (ap (λ (p : OneChannel). is_due p.channel.commands.waiting) (group_written o value off on))

-- ---- Dropped

-- with nothing waiting none leaves, not even after a Group End
never : (o : OneChannel) (j : ℕ) → o.channel.commands.waiting ≡ None
    → (between o j ≡ ans.none) × ((g : ChannelCall) → ends_group (entry o g) ≡ true → between (transition o g) j ≡ ans.none)
never o j h = (
  between_none o j (ap is_due h),
  λ g ends. between_none (transition o g) j (ap is_due (ended_waiting o g ends ∙ ap reached h)),
)

disarm_waiting : (o : OneChannel) → (transition o disarm).channel.commands.waiting ≡ None
unfolding transition refusal_of effect disarmed_of cmd.dropped
disarm_waiting o = refl

reset_waiting : (o : OneChannel) → (written o 0x06 1).channel.commands.waiting ≡ None
unfolding transition refusal_of effect register_refusal register_effect channel_access reset
reset_waiting o = rw (eq-eqb (o.m * 8) (o.m * 8) refl)

pub dropped : the.Dropped
dropped o j =
    let d = never (transition o disarm) j (disarm_waiting o) in
    let r = never (written o 0x06 1) j (reset_waiting o) in
    (d.0, d.1, r.0, r.1)

-- ---- Replies

-- E4–FA can be read, each of the twelve
readable : ℕ → Bool
readable zero = true
readable (suc i) = readable i && eqb (read_refusal (channel_access (0xe4 + 2 * i))) 0

all_readable : readable 12 ≡ true
unfolding readable channel_access
all_readable = refl

-- i is n, or less
readable_at : (i n : ℕ) → i < n → readable n ≡ true → eqb (read_refusal (channel_access (0xe4 + 2 * i))) 0 ≡ true
unfolding readable
readable_at i zero h e = absurd (omega arith)
readable_at i (suc n) h e =
    let both = (and-eq-true_iff (readable n) _).0 e in
    go (eqb i n) refl both.1 (λ less. readable_at i n less both.0)
  where
    go : (b : Bool) → eqb i n ≡ b → eqb (read_refusal (channel_access (0xe4 + 2 * n))) 0 ≡ true
        → (i < n → eqb (read_refusal (channel_access (0xe4 + 2 * i))) 0 ≡ true)
        → eqb (read_refusal (channel_access (0xe4 + 2 * i))) 0 ≡ true
    go true d last below = subst (λ (x : ℕ). eqb (read_refusal (channel_access (0xe4 + 2 * x))) 0 ≡ true) (sym (eqb-true i n d)) last
    go false d last below = let differ : i ≡ n → ⊥ = λ x. clash (sym d ∙ eq-eqb i n x) in below (omega arith)

loaded_pair : (f : CommandFrames) (i offset : ℕ) → i < 12 → offset ≡ 0xe4 + 2 * i → cmd.loaded f offset ≡ get_or f.replies i 0
unfolding cmd.loaded
loaded_pair f i offset h e =
    let at : (offset - 0xe4) / 2 ≡ i = omega arith in
    rw
    (ne_eqb offset 0xe0 (λ x. omega arith), ne_eqb offset 0xe2 (λ x. omega arith), le-ltb offset 0xe4 (omega arith), lt-ltb offset 0xfc (omega arith), at)

reads_pair : (o : OneChannel) (i offset : ℕ) → i < 12 → offset ≡ 0xe4 + 2 * i
    → response o (read_register offset) ≡ ans.value (get_or o.channel.commands.replies i 0)
unfolding refusal_of answer
reads_pair o i offset h e =
    accepted_response o (read_register offset) (ap (λ (x : ℕ). eqb (read_refusal (channel_access x)) 0) e ∙ readable_at i 12 h all_readable)
    ∙ ap ans.value (reads_commands o offset (omega arith) ∙ loaded_pair o.channel.commands i offset h e)

-- the pair at its place
pair_first : (l : List ℕ) (k a b : ℕ) → length l ≡ 12 → k < 6 → get_or (with_pair l k a b) (2 * k) 0 ≡ a
pair_first l k a b long few =
    get_or-set_other (set l (2 * k) a) (2 * k + 1) (2 * k) b 0 (λ e. omega arith) ∙ get_or-set_same l (2 * k) a 0 (omega arith)

pair_second : (l : List ℕ) (k a b : ℕ) → length l ≡ 12 → k < 6 → get_or (with_pair l k a b) (2 * k + 1) 0 ≡ b
pair_second l k a b long few = get_or-set_same (set l (2 * k) a) (2 * k + 1) b 0 (omega (arith, length-set l (2 * k) a))

module _ (o : OneChannel) (number id word aux crc k : ℕ) (framed : read number ≡ fields id word aux crc)
    (long : length o.channel.commands.replies ≡ 12) (on : o.channel.commands.receiving ≡ true)
    (counted : o.channel.commands.count ≡ k) (few : k < 6)
  where
    taken : takes o.channel.commands ≡ true
    unfolding takes
    taken = rw (on, lt-ltb o.channel.commands.count 6 (omega (arith, counted)))

    kept : response o (reply (o.m * 8) number) ≡ ans.kept
    unfolding answer reply_answer
    kept = accepted_response o (reply (o.m * 8) number) (framed_accepted o number framed) ∙ rw (framed, taken)

    frames : (transition o (reply (o.m * 8) number)).channel.commands ≡ received o.channel.commands (not (crc_right id word aux crc)) id word
    unfolding effect reply_of
    frames = ap (λ (p : OneChannel). p.channel.commands) (accepted_transition o (reply (o.m * 8) number) (framed_accepted o number framed)) ∙ rw (framed, taken)

    pairs : (transition o (reply (o.m * 8) number)).channel.commands.replies
        ≡ with_pair o.channel.commands.replies k (id_word id (not (crc_right id word aux crc))) word
    unfolding received
    pairs =
        ap (λ (g : CommandFrames). g.replies) frames
        ∙ rw taken (ap (λ (n : ℕ). with_pair o.channel.commands.replies n (id_word id (not (crc_right id word aux crc))) word) counted)

    number_kept : (transition o (reply (o.m * 8) number)).channel.commands.count ≡ k + 1
    unfolding received
    number_kept = ap (λ (g : CommandFrames). g.count) frames ∙ rw taken (ap (λ (n : ℕ). n + 1) counted)

    same_words : (transition o (reply (o.m * 8) number)).readbacks ≡ o.readbacks
    unfolding effect reply_words
    same_words = ap (λ (p : OneChannel). p.readbacks) (accepted_transition o (reply (o.m * 8) number) (framed_accepted o number framed)) ∙ rw (framed, taken)

    pair_kept : PairKept o number id word k (crc_right id word aux crc)
    pair_kept =
        record {
          answers = kept;
          readback_id_lem =
              reads_pair (transition o (reply (o.m * 8) number)) (2 * k) (0xe4 + 4 * k) (omega arith) (omega arith)
              ∙ ap (λ (l : List ℕ). ans.value (get_or l (2 * k) 0)) pairs
              ∙ ap ans.value (pair_first o.channel.commands.replies k (id_word id (not (crc_right id word aux crc))) word long few);
          readback =
              reads_pair (transition o (reply (o.m * 8) number)) (2 * k + 1) (0xe6 + 4 * k) (omega arith) (omega arith)
              ∙ ap (λ (l : List ℕ). ans.value (get_or l (2 * k + 1) 0)) pairs
              ∙ ap ans.value (pair_second o.channel.commands.replies k (id_word id (not (crc_right id word aux crc))) word long few);
          count = reads_count (transition o (reply (o.m * 8) number)) ∙ ap ans.value number_kept;
          words = same_words;
        }

pub replies_to_commands : the.RepliesToCommands
replies_to_commands o number id word aux crc k framed long on counted few = pair_kept o number id word aux crc k framed long on counted few

-- ---- Group End ends it

-- nothing was sent since idle, and no reply goes to E4–FA
module _ (o : OneChannel) (number id word aux crc : ℕ) (framed : read number ≡ fields id word aux crc)
    (off : o.channel.commands.receiving ≡ false) (unsent : is_some o.channel.sequencer.last ≡ false)
  where
    not_taken : takes o.channel.commands ≡ false
    unfolding takes
    not_taken = ap (λ (b : Bool). b && ltb o.channel.commands.count 6) off

    not_due : (idle : Bool) → rb.is_due idle o.channel.sequencer.last ≡ false
    not_due true = refl
    not_due false = ap (λ (b : Bool). b && ltb (send_of o.channel.sequencer.last).replies 6) unsent

    unasked : response o (reply (o.m * 8) number) ≡ ans.unsolicited
    unfolding answer reply_answer disposition_now disposition_of
    unasked =
        accepted_response o (reply (o.m * 8) number) (framed_accepted o number framed)
        ∙ rw (framed, not_taken, not_due (is_idle o.channel.sequencer.stage))

ended_receiving : (o : OneChannel) (g : ChannelCall) → ends_group (entry o g) ≡ true → (transition o g).channel.commands.receiving ≡ false
unfolding group_ended cmd.group_ended
ended_receiving o g ends = ap (λ (f : CommandFrames). f.receiving) (ended_step o g ends).leaves.commands

pub group_end_closes : the.GroupEndCloses
group_end_closes o g number id word aux crc ends framed =
    unasked (transition o g) number id word aux crc framed (ended_receiving o g ends) (ended_step o g ends).unsent

-- ---- All of it

pub command_laws : the.CommandLaws
command_laws =
    record {
      send_refused = send_refused;
      sends_now = sends_now;
      sends_after_group_end = sends_after_group_end;
      waits_for_group_end = waits_for_group_end;
      neither_bit = neither_bit;
      dropped = dropped;
      replies_to_commands = replies_to_commands;
      group_end_closes = group_end_closes;
    }
