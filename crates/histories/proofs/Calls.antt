-- The sequencer's step at each call, from any state: not refused, then refused or not. Assumes nothing.
use Prim.Native.Nat.{ℕ, ◌≤◌}
use mathlib.Core.Path.{◌≡◌, refl, sym, ◌∙◌, subst}
use mathlib.Core.Bool.{Bool, true, false, cond, not, ◌&&◌}
use native.Mathlib.Omega.{arith}
use lib.Dec.{eqb, leb}
use borrow.Author.Tests.{eqb-true, ne_eqb}
use Rattle.status.specs.Bits.{bit_at}
use Rattle.registers.specs.Map.{period_of, triggers_of, group_end_event, stored}
use Rattle.sequencer.specs.declared.Sequencer.{Sequencer}
use Rattle.sequencer.specs.Playing.{idled, disarmed, with_missing}
use Rattle.channel_core.specs.declared.Channel.{Channel}
use Rattle.command_frames.specs.Commanding.{is_due, takes}
use Rattle.command_frames.specs.Commanding as cmd
use Rattle.channel_core.specs.State.{reset, with_registers, with_sequencer, with_commands}
use Rattle.channel_core.specs.Answers.{Answer}
use Rattle.channel_core.specs.Answers as ans
use Rattle.channel_core.specs.Behaviour.{due_of, tick_of, tick_answer, user_changed}
use Rattle.channel_registers.specs.Calls.{register_effect, read_effect, read_value}
use Rattle.channel.specs.Calls.{main_taken, armed_of, disarmed_of}
use Rattle.channel.specs.Downloads.{download_opened}
use Rattle.channel.specs.OneChannel.{ChannelCall, OneChannel, effect, answer, transition, response, main_read, main_answer, user_change}
use Rattle.channel.specs.OneChannel as call
use Rattle.histories.specs.History.{entry, asks, ends_group, resets, stops, reads_at}
use Rattle.channel.proofs.Cases.{either, by_test}
use Rattle.histories.proofs.Accepted.{query_plain}
use Rattle.histories.proofs.Apart.{ApartIn, apart_nothing}
use Rattle.histories.proofs.Keeps.{keeps_armed, keeps_event, keeps_command}
use Rattle.histories.proofs.Cases.{by_offset}
use Rattle.histories.proofs.Refusing.{by_refusal}
use Rattle.histories.proofs.Steps.{Plain, Steps, keeps_steps, kept_steps, same_steps, idle_steps, read_steps, tick_steps, reply_steps}

-- a channel with this sequencer
abbrev Has : Sequencer → Channel → Type 0
Has s c = c.sequencer ≡ s

-- of a channel: its command frames say whether one is due and takes a reply
abbrev StepsOf : ℕ → Channel → Answer → (ends again stops reads : Bool) → Sequencer → Type 0
StepsOf n c a ends again stops reads t =
    Steps n c.registers.id c.sequencer a (is_due c.commands.waiting) (takes c.commands) ends again stops reads t

reset_if : (n : ℕ) (c : Channel) (on : Bool) → StepsOf n c ans.done false on false false (cond on (reset c) c).sequencer
unfolding reset
reset_if n c true = idle_steps n c.sequencer false true false
reset_if n c false = same_steps n c ans.done c.sequencer (refl, refl) refl

-- E0–FE and the registers that hold what is written leave the sequencer
kept_register : (c : Channel) (offset value : ℕ)
    → (cond (leb 0xe0 offset) (with_commands c (cmd.stored c.commands offset value)) (with_registers c (stored c.registers offset value))).sequencer
    ≡ c.sequencer
kept_register c offset value = either (Has c.sequencer) (leb 0xe0 offset) refl refl

register_steps : (n : ℕ) (c : Channel) (offset value : ℕ)
    → StepsOf n c ans.done (eqb offset 0x08 && bit_at value 2) (eqb offset 0x06 && bit_at value 0) false false
    (register_effect c offset value).sequencer
unfolding register_effect
register_steps n c offset value =
    by_offset
    (λ (x : ℕ).
    StepsOf n c ans.done (eqb x 0x08 && bit_at value 2) (eqb x 0x06 && bit_at value 0) false false (register_effect c x value).sequencer)
    offset
    (same_steps n c ans.done c.sequencer (refl, refl) refl)
    (reset_if n c (bit_at value 0))
    (keeps_steps n c ans.done (bit_at value 2) _ (refl, refl) (keeps_command c value))
    (λ d e f. rw (d, e, f) (same_steps n c ans.done _ (refl, refl) (kept_register c offset value)))

taken_sequencer : (c : Channel) (polling : Bool) → (main_taken c polling).sequencer ≡ c.sequencer
unfolding main_taken
taken_sequencer c true = refl
taken_sequencer c false = refl

-- a read of 0C clears its count, and any other leaves the sequencer
pub read_sequencer : (c : Channel) (offset : ℕ)
    → (read_effect c offset).sequencer ≡ cond (eqb offset 0x0c) (with_missing c.sequencer 0) c.sequencer
unfolding read_effect
read_sequencer c offset =
    by_test P (eqb offset 0x02) (λ e. other 0x02 e (λ f. omega arith))
    (λ e. by_test P (eqb offset 0x04) (λ f. other 0x04 f (λ g. omega arith)) (λ f. cleared (eqb offset 0x0c)))
  where
    P : Channel → Type 0
    P x = x.sequencer ≡ cond (eqb offset 0x0c) (with_missing c.sequencer 0) c.sequencer

    other : (k : ℕ) → eqb offset k ≡ true → (k ≡ 0x0c → ⊥) → c.sequencer ≡ cond (eqb offset 0x0c) (with_missing c.sequencer 0) c.sequencer
    other k e differs =
        rw (ne_eqb offset 0x0c (λ f. differs (sym (eqb-true offset k e) ∙ f)))

    cleared : (b : Bool)
        → (cond b (with_sequencer c (with_missing c.sequencer 0)) c).sequencer ≡ cond b (with_missing c.sequencer 0) c.sequencer
    cleared true = refl
    cleared false = refl

pub main_sequencer : (c : Channel) (offset : ℕ) → (main_read c offset).sequencer ≡ c.sequencer
main_sequencer c offset =
    either (Has c.sequencer) (eqb offset 0x28) (taken_sequencer c false)
    (either (Has c.sequencer) (eqb offset 0x2a) (taken_sequencer c true) refl)

pub main_plain : (c : Channel) (offset : ℕ) → Plain (main_answer c offset)
main_plain c offset = go (eqb offset 0x28) (eqb offset 0x2a)
  where
    go : (a b : Bool) → Plain (cond a (ans.bit c.status.interrupt.main) (cond b (ans.bit c.status.polling.main) ans.done))
    go true b = (refl, refl)
    go false true = (refl, refl)
    go false false = (refl, refl)

user_steps : (o : OneChannel) (user : ℕ) → StepsOf o.n o.channel ans.done false false (not (eqb user o.user)) false (user_change o user).channel.sequencer
unfolding user_changed idled
user_steps o user = go (eqb user o.user)
  where
    go : (b : Bool)
        → StepsOf o.n o.channel ans.done false false (not b) false
        (cond b o (call.with_user (call.with_channel o (user_changed o.channel)) user)).channel.sequencer
    go true = same_steps o.n o.channel ans.done o.channel.sequencer (refl, refl) refl
    go false = idle_steps o.n o.channel.sequencer o.channel.sequencer.armed false o.channel.sequencer.tag

pub period_some : (clock : ℕ) → 1 ≤ period_of clock
period_some clock = go (eqb clock 0) (eqb clock 1) (eqb clock 2)
  where
    go : (a b c : Bool) → 1 ≤ cond a 10000 (cond b 1000 (cond c 100 10))
    go true b c = omega arith
    go false true c = omega arith
    go false false true = omega arith
    go false false false = omega arith

-- what a call does that is not refused
effect_steps : (o : OneChannel) (k : ChannelCall) → ApartIn o.channel
    → StepsOf o.n o.channel (answer o k) (asks o k).group_end (asks o k).reset (asks o k).idle ((asks o k).reads 0x0c) (effect o k).channel.sequencer
unfolding effect answer armed_of disarmed_of download_opened disarmed idled tick_of tick_answer
effect_steps o (call.write_register lent offset value) p = register_steps o.n o.channel offset value
effect_steps o (call.read_register offset) p =
    subst (λ (t : Sequencer). StepsOf o.n o.channel (ans.value (read_value o.channel offset)) false false false (eqb offset 0x0c) t)
    (sym (read_sequencer o.channel offset)) (read_steps o.n o.channel _ (eqb offset 0x0c) (refl, refl))
effect_steps o (call.write_setpoint lent user buffer index word) p = same_steps o.n o.channel _ _ (refl, refl) refl
effect_steps o call.arm p = kept_steps o.n o.channel _ _ (refl, refl) (keeps_armed o.channel.sequencer)
effect_steps o call.disarm p = idle_steps o.n o.channel.sequencer false false false
effect_steps o call.open_download p = same_steps o.n o.channel _ _ (refl, refl) refl
effect_steps o (call.reply lent f) p = reply_steps o.n o.channel o.m f _
effect_steps o (call.query which one two) p = same_steps o.n o.channel _ _ ((query_plain o which).1, (query_plain o which).2) refl
effect_steps o (call.tick lent) p =
    tick_steps o.n o.channel.sequencer o.channel.commands _ o.channel.registers.id (due_of o.channel o.setpoints o.n o.user)
    (period_of o.channel.registers.clock) (period_some o.channel.registers.clock) (apart_nothing o.channel o.setpoints o.n o.user p)
effect_steps o (call.event lent code) p =
    keeps_steps o.n o.channel _ (triggers_of o.channel.registers group_end_event code) _ (refl, refl)
    (keeps_event o.channel o.user code)
effect_steps o (call.change_user user) p = user_steps o user
effect_steps o (call.write_main lent offset value) p = same_steps o.n o.channel _ _ (refl, refl) refl
effect_steps o (call.read_main offset) p =
    same_steps o.n o.channel _ _ (main_plain o.channel offset) (main_sequencer o.channel offset)

-- any call
pub steps : (o : OneChannel) (k : ChannelCall) → ApartIn o.channel
    → StepsOf o.n o.channel (response o k) (ends_group (entry o k)) (resets (entry o k)) (stops (entry o k)) (reads_at 0x0c (entry o k)) (transition o k).channel.sequencer
steps o k p =
    by_refusal (λ (x : OneChannel) (a : Answer) (b c d : Bool) (r : ℕ → Bool). StepsOf o.n o.channel a b c d (r 0x0c) x.channel.sequencer) o k
    (λ e. effect_steps o k p)
    (same_steps o.n o.channel _ _ (refl, refl) refl)
