-- The count of missing readbacks is the sum of the shortfalls since opening, reset or its last read, at most 255, and D4 of either status is set exactly
-- where there was one since then, over any list of calls. Assumes nothing.
use Prim.Native.Nat.{ℕ, ◌+◌, ◌*◌, min}
use mathlib.Core.Path.{◌≡◌, refl, sym, ◌∙◌, ap, subst}
use mathlib.Core.Bool.{Bool, true, false, cond, not, ◌&&◌, ◌||◌}
use mathlib.Core.List.{List, [], ◌∷◌, ◌++◌}
use native.Mathlib.Omega.{arith}
use lib.Dec.{eqb}
use borrow.Author.Tests.{eqb-true}
use Rattle.std.specs.declared.option.Option.{Option}
use Rattle.status.specs.Bits.{bit_at, word_of_bits}
use Rattle.status.specs.declared.Status.{Status}
use Rattle.status.specs.Latching.{latched_in, latched, missing_readback}
use Rattle.status.proofs.Laws.{word_bit}
use Rattle.register_map.specs.AccessRule.{channel_access, main_access}
use Rattle.sequencer.specs.declared.LastSend.{LastSend}
use Rattle.sequencer.specs.Transmissions.{Transmission}
use Rattle.sequencer.specs.Transmissions as transmission
use Rattle.sequencer.specs.Playing.{shortfall}
use Rattle.command_frames.specs.declared.CommandFrames.{CommandFrames}
use Rattle.command_frames.specs.Commanding.{is_due}
use Rattle.channel_core.specs.Answers.{Answer, value, bit, is_frame}
use Rattle.channel_core.specs.Behaviour.{condition_status, send_status, condition_in, is_setpoint, played_of, tick_of, tick_answer}
use Rattle.channel_core.specs.State as state
use Rattle.channel_registers.specs.Calls.{read_value}
use Rattle.channel.specs.OneChannel.{ChannelCall, OneChannel, one_channel, refusal_of, effect, answer, transition, response, transitions, read_register, tick}
use Rattle.histories.specs.History.{told, sends_setpoint}
use Rattle.histories.specs.Windows.{Window}
use Rattle.histories.specs.Ranges.{ChannelInRange}
use Rattle.histories.specs.Statuses.{ReadsBit}
use Rattle.histories.specs.Missing.{shortfall_of, shortfall_by, clears, shortfalls_since, shortfalls_over, is_empty, missing_count, CountsMissing, LatchesShortfalls, tick_told, tick_finds, tick_condition, TickLatches, MainBits, RaisesMain}
use Rattle.histories.proofs.Ticks.{send_window, window_of}
use Rattle.histories.proofs.Buffered.{told_at}
use Rattle.histories.proofs.Calls.{steps}
use Rattle.histories.proofs.Accepted.{tick_accepted}
use Rattle.histories.proofs.Apart.{apart_nothing}
use Rattle.histories.proofs.Depths.{depths_kept}
use Rattle.histories.proofs.Refusing.{accepted_transition, accepted_response}
use Rattle.histories.proofs.Parts.{opened_range}
use Rattle.histories.proofs.Ranges.{channel_step, Ordered, ordered_opened, ordered_step, ordered_from}
use Rattle.histories.proofs.Commands.{told_from, told_next, commands_told}
use Rattle.histories.proofs.Windows.{window_is}
use Rattle.histories.proofs.Steps.{line_sends}
use Rattle.histories.proofs.Flags.{copy_of, offset_of, flag_in, flag_step}

-- ---- Along a list of calls

module _ (offset : ℕ) where
  -- the shortfalls since the register was cleared, one call later
  abbrev next : OneChannel → ChannelCall → List ℕ → List ℕ
  next o k l = cond (clears offset (told_at o k)) [] (shortfall_by (window_of o.channel.sequencer) (told_at o k) ++ l)

  abbrev over : OneChannel → List ChannelCall → List ℕ → List ℕ
  over o ks l = shortfalls_since offset (window_of o.channel.sequencer) l (told_from o ks)

  over_next : (o : OneChannel) (k : ChannelCall) (ks : List ChannelCall) (l : List ℕ) → Ordered o.channel → ChannelInRange o.m o.channel
      → over (transition o k) ks (next o k l) ≡ over o (k ∷ ks) l
  unfolding shortfalls_since
  over_next o k ks l g r =
      ap (λ (w : Window). shortfalls_since offset w (next o k l) (told_from (transition o k) ks)) ((steps o k g.apart).window_step r.registers.id)
      ∙ ap (shortfalls_since offset (window_of o.channel.sequencer) l) (sym (told_next o k ks g.apart))

  -- what each call keeps of a state and these shortfalls holds after any list
  module _ (P : OneChannel → List ℕ → Type 0)
      (step : (o : OneChannel) (k : ChannelCall) (l : List ℕ) → Ordered o.channel → ChannelInRange o.m o.channel
      → P o l → P (transition o k) (next o k l))
    where
      along : (o : OneChannel) (ks : List ChannelCall) (l : List ℕ) → Ordered o.channel → ChannelInRange o.m o.channel
          → P o l → P (transitions o ks) (over o ks l)
      unfolding shortfalls_since told
      along o [] l g r h = h
      along o (k ∷ ks) l g r h =
          subst (P (transitions (transition o k) ks)) (over_next o k ks l g r)
          (along (transition o k) ks (next o k l) (ordered_step o k g) (channel_step o k r) (step o k l g r h))

      pub over_all : (n m : ℕ) (setpoints readbacks : List ℕ) (ks : List ChannelCall) → P (one_channel n m setpoints readbacks) []
          → P (transitions (one_channel n m setpoints readbacks) ks) (shortfalls_over n m setpoints readbacks ks offset)
      unfolding state.opened
      over_all n m setpoints readbacks ks h = along (one_channel n m setpoints readbacks) ks [] ordered_opened (opened_range m) h

-- ---- The count

shortfall_is : (l : Option LastSend) → shortfall l ≡ shortfall_of (send_window l)
unfolding shortfall
shortfall_is l = refl

-- one call more: cleared or not, a send or not, whose look back finds s
counted_more : (cleared sends : Bool) (count s : ℕ) (l : List ℕ) → count ≡ missing_count l
    → cond cleared 0 (cond sends (min (count + s) 255) count)
    ≡ missing_count (cond cleared [] (cond (sends && not (eqb s 0)) (s ∷ []) [] ++ l))
counted_more true sends count s l h = refl
counted_more false false count s l h = h
counted_more false true count s l h = go (eqb s 0) refl
  where
    go : (b : Bool) → eqb s 0 ≡ b → min (count + s) 255 ≡ missing_count (cond (not b) (s ∷ []) [] ++ l)
    go true e = omega (arith, eqb-true s 0 e)
    go false e = omega arith

abbrev Counts : OneChannel → List ℕ → Type 0
Counts o l = o.channel.sequencer.missing ≡ missing_count l

counts_step : (o : OneChannel) (k : ChannelCall) (l : List ℕ) → Ordered o.channel → ChannelInRange o.m o.channel
    → Counts o l → Counts (transition o k) (next 0x0c o k l)
counts_step o k l g r h =
    let s = o.channel.sequencer in
    let cleared = clears 0x0c (told_at o k) in
    let sends = sends_setpoint (told_at o k) in
    (steps o k g.apart).missing_step
    ∙ ap (λ (x : ℕ). cond cleared 0 (cond sends (min (s.missing + x) 255) s.missing)) (shortfall_is s.last)
    ∙ counted_more cleared sends s.missing (shortfall_of (window_of s)) l h

reads_missing : (o : OneChannel) → response o (read_register 0x0c) ≡ value o.channel.sequencer.missing
unfolding channel_access response refusal_of answer read_value
reads_missing o = refl

pub counts_missing : CountsMissing
unfolding state.opened
counts_missing n m setpoints readbacks ks =
    let e = over_all 0x0c Counts counts_step n m setpoints readbacks ks refl in
    record { held = e; shown = reads_missing _ ∙ ap value e }

-- ---- D4 of either status

flagged_more : (cleared sends short flag : Bool) (s : ℕ) (l : List ℕ) → flag ≡ not (is_empty l)
    → cond cleared false (flag || (sends && short)) ≡ not (is_empty (cond cleared [] (cond (sends && short) (s ∷ []) [] ++ l)))
flagged_more true sends short flag s l h = refl
flagged_more false sends short flag s l h = go (sends && short) flag h
  where
    go : (finds set : Bool) → set ≡ not (is_empty l) → (set || finds) ≡ not (is_empty (cond finds (s ∷ []) [] ++ l))
    go true true e = refl
    go true false e = refl
    go false true e = e
    go false false e = e

module _ (polling : Bool) where
  abbrev Flagged : OneChannel → List ℕ → Type 0
  Flagged o l = flag_in polling o.channel.status ≡ not (is_empty l)

  flagged_step : (o : OneChannel) (k : ChannelCall) (l : List ℕ) → Ordered o.channel → ChannelInRange o.m o.channel
      → Flagged o l → Flagged (transition o k) (next (offset_of polling) o k l)
  flagged_step o k l g r h =
      let w = window_of o.channel.sequencer in
      (flag_step polling o k g.apart r.status).flag
      ∙ flagged_more (clears (offset_of polling) (told_at o k)) (sends_setpoint (told_at o k)) (not (eqb (shortfall_of w) 0))
      (flag_in polling o.channel.status) (shortfall_of w) l h

  reads_copy : (o : OneChannel) → response o (read_register (offset_of polling)) ≡ value (word_of_bits (copy_of polling o.channel.status).bits)
  unfolding channel_access response refusal_of answer read_value
  reads_copy o = go polling
    where
      go : (p : Bool) → response o (read_register (offset_of p)) ≡ value (word_of_bits (copy_of p o.channel.status).bits)
      go true = refl
      go false = refl

  flag_read : (n m : ℕ) (setpoints readbacks : List ℕ) (ks : List ChannelCall)
      → ReadsBit missing_readback (transitions (one_channel n m setpoints readbacks) ks) (offset_of polling)
      (not (is_empty (shortfalls_over n m setpoints readbacks ks (offset_of polling))))
  unfolding state.opened
  flag_read n m setpoints readbacks ks =
      let o = transitions (one_channel n m setpoints readbacks) ks in
      record {
        word = word_of_bits (copy_of polling o.channel.status).bits;
        answers = reads_copy o;
        bit_is =
            word_bit (copy_of polling o.channel.status).bits missing_readback
            ∙ over_all (offset_of polling) Flagged flagged_step n m setpoints readbacks ks (unset polling);
      }
    where
      unset : (p : Bool) → flag_in p (state.opened).status ≡ false
      unset true = refl
      unset false = refl

pub latches_shortfalls : LatchesShortfalls
latches_shortfalls n m setpoints readbacks ks = (flag_read false n m setpoints readbacks ks, flag_read true n m setpoints readbacks ks)

-- ---- A tick

-- what a send latches, by whether the send before is short
send_latches : (s : Status) (l : Option LastSend) (x : Transmission)
    → send_status s l x ≡ condition_status (cond (is_setpoint x && not (eqb (shortfall_of (send_window l)) 0)) (latched s missing_readback) s) (condition_in x)
unfolding shortfall
send_latches s l transmission.Nothing = refl
send_latches s l (transmission.Word word k) = go (eqb (shortfall_of (send_window l)) 0)
  where
    go : (b : Bool) → condition_status (cond b s (latched s missing_readback)) k ≡ condition_status (cond (not b) (latched s missing_readback) s) k
    go true = refl
    go false = refl

module _ (n m : ℕ) (setpoints readbacks : List ℕ) (ks : List ChannelCall) where
  abbrev o : OneChannel
  o = transitions (one_channel n m setpoints readbacks) ks

  abbrev sent : Transmission
  sent = (played_of o.channel o.setpoints o.n o.user).transmission

  accepted : eqb (refusal_of o (tick (n * 64))) 0 ≡ true
  accepted = tick_accepted o n (depths_kept (one_channel n m setpoints readbacks) ks).0

  -- it answers a setpoint's frame exactly where the sequencer sends
  sends : sends_setpoint (tick_told n m setpoints readbacks ks) ≡ is_setpoint sent
  unfolding answer tick_answer
  sends =
      ap (λ (f : CommandFrames). is_frame (response o (tick (n * 64))) && not (is_due f.waiting)) (sym (commands_told n m setpoints readbacks ks))
      ∙ ap (λ (a : Answer). is_frame a && not (is_due o.channel.commands.waiting)) (accepted_response o (tick (n * 64)) accepted)
      ∙ line_sends o.channel.registers.id o.channel.commands sent
      (apart_nothing o.channel o.setpoints o.n o.user (ordered_from (one_channel n m setpoints readbacks) ks ordered_opened).apart)

  latches : (transition o (tick (n * 64))).channel.status
      ≡ condition_status (cond (tick_finds n m setpoints readbacks ks) (latched o.channel.status missing_readback) o.channel.status) (tick_condition o)
  unfolding effect tick_of
  latches =
      ap (λ (x : OneChannel). x.channel.status) (accepted_transition o (tick (n * 64)) accepted)
      ∙ send_latches o.channel.status o.channel.sequencer.last sent
      ∙ ap (λ (b : Bool). by b (window_of o.channel.sequencer)) (sym sends)
      ∙ ap (by (sends_setpoint (tick_told n m setpoints readbacks ks))) (window_is n m setpoints readbacks ks)
    where
      by : Bool → Window → Status
      by b w = condition_status (cond (b && not (eqb (shortfall_of w) 0)) (latched o.channel.status missing_readback) o.channel.status) (condition_in sent)

pub tick_latches : TickLatches
tick_latches n m setpoints readbacks ks = latches n m setpoints readbacks ks

-- ---- Main

main_bits : (o : OneChannel) → MainBits o (bit o.channel.status.interrupt.main) (bit o.channel.status.polling.main)
unfolding main_access response refusal_of answer
main_bits o = record { main_28 = refl; main_2a = refl }

reads_enable : (o : OneChannel) (b : Bool) → ReadsBit missing_readback o 0x00 b → bit_at o.channel.status.enable missing_readback ≡ b
unfolding channel_access response refusal_of answer read_value
reads_enable o b r = ap (λ (x : ℕ). bit_at x missing_readback) (value_is o.channel.status.enable r.word r.answers) ∙ r.bit_is
  where
    value_is : (v w : ℕ) → value v ≡ value w → v ≡ w
    value_is v w e = cc

-- a condition leaves a Main bit that is set
condition_raised : (s : Status) (k : ℕ) → s.interrupt.main ≡ true → s.polling.main ≡ true
    → ((condition_status s k).interrupt.main ≡ true) × ((condition_status s k).polling.main ≡ true)
unfolding latched
condition_raised s k i p = go (eqb k 0) (bit_at s.enable k)
  where
    go : (a b : Bool)
        → ((cond a s (record { enable = s.enable; interrupt = latched_in s.interrupt k b; polling = latched_in s.polling k b })).interrupt.main ≡ true)
        × ((cond a s (record { enable = s.enable; interrupt = latched_in s.interrupt k b; polling = latched_in s.polling k b })).polling.main ≡ true)
    go true b = (i, p)
    go false true = (refl, refl)
    go false false = (i, p)

main_is : (o : OneChannel) (a b : Bool) → o.channel.status.interrupt.main ≡ a → o.channel.status.polling.main ≡ b → MainBits o (bit a) (bit b)
main_is o a b i p = record { main_28 = (main_bits o).main_28 ∙ ap bit i; main_2a = (main_bits o).main_2a ∙ ap bit p }

pub raises_main : RaisesMain
unfolding latched
raises_main n m setpoints readbacks ks finds =
    let u = o n m setpoints readbacks ks in
    let s = u.channel.status in
    let e : (transition u (tick (n * 64))).channel.status ≡ condition_status (latched s missing_readback) (tick_condition u)
    = latches n m setpoints readbacks ks ∙ ap (λ (b : Bool). condition_status (cond b (latched s missing_readback) s) (tick_condition u)) finds in (
      λ on.
          let enabled = reads_enable u true on in
          let r = condition_raised (latched s missing_readback) (tick_condition u) (rw enabled refl) (rw enabled refl) in
          main_is (transition u (tick (n * 64))) true true (ap (λ (x : Status). x.interrupt.main) e ∙ r.0) (ap (λ (x : Status). x.polling.main) e ∙ r.1),
      λ off none.
          let disabled = reads_enable u false off in
          let f = e ∙ ap (condition_status (latched s missing_readback)) none in
          record {
            main_28 = (main_bits _).main_28 ∙ ap bit (ap (λ (x : Status). x.interrupt.main) f ∙ rw disabled refl) ∙ sym (main_bits u).main_28;
            main_2a = (main_bits _).main_2a ∙ ap bit (ap (λ (x : Status). x.polling.main) f ∙ rw disabled refl) ∙ sym (main_bits u).main_2a;
          },
    )
