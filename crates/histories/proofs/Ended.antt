-- What a Group End leaves, whatever call it came by, and from any state: registers and command frames as it made them, nothing sent, and command frames
-- apart from setpoints. Assumes nothing.
use Prim.Native.Nat.{ℕ}
use mathlib.Core.Path.{◌≡◌, ap}
use mathlib.Core.Bool.{Bool, true, false, ◌&&◌}
use lib.Dec.{eqb}
use Rattle.std.specs.declared.option.Option.{Option}
use Rattle.std.specs.Option.{is_some}
use Rattle.status.specs.Bits.{bit_at}
use Rattle.registers.specs.Map.{triggers_of, group_end_event}
use Rattle.sequencer.specs.declared.LastSend.{LastSend}
use Rattle.sequencer.specs.Playing as seq
use Rattle.channel_core.specs.declared.Channel.{Channel}
use Rattle.channel_core.specs.Answers.{Answer}
use Rattle.channel_core.specs.Behaviour.{ended_if, group_ended, event_of, commanded}
use Rattle.channel_registers.specs.Calls.{register_effect}
use Rattle.channel.specs.OneChannel.{ChannelCall, OneChannel, effect, transition}
use Rattle.channel.specs.OneChannel as call
use Rattle.channel.proofs.Cases.{clash}
use Rattle.histories.specs.History.{entry, asks, ends_group}
use Rattle.histories.proofs.Cases.{by_offset}
use Rattle.histories.proofs.Keeps.{keeps_event, keeps_command}
use Rattle.histories.proofs.Leaves.{Leaves, leaves_event, leaves_command}
use Rattle.histories.proofs.Apart.{ApartIn, apart_ended, apart_ended_event}
use Rattle.histories.proofs.Refusing.{by_refusal}

pub record Ended (c d : Channel) : Type 0 where
  pub leaves : Leaves (group_ended c) d
  pub unsent : is_some d.sequencer.last ≡ false
  pub apart : ApartIn d

-- Start, Resume and Tag after it leave what it left
ended_by : (c d : Channel) (on : Bool) → on ≡ true → Leaves (ended_if on c) d → d.sequencer.last ≡ (ended_if on c).sequencer.last → ApartIn d → Ended c d
unfolding ended_if group_ended seq.group_ended seq.idled
ended_by c d true e l s a = record { leaves = l; unsent = ap (λ (x : Option LastSend). is_some x) s; apart = a }
ended_by c d false e l s a = clash e

ended_event : (c : Channel) (user code : ℕ) → triggers_of c.registers group_end_event code ≡ true → Ended c (event_of c user code)
ended_event c user code on =
    ended_by c (event_of c user code) (triggers_of c.registers group_end_event code) on (leaves_event c user code) (keeps_event c user code).last_kept
    (apart_ended_event c user code on)

ended_command : (c : Channel) (value : ℕ) → bit_at value 2 ≡ true → Ended c (commanded c value)
ended_command c value on =
    ended_by c (commanded c value) (bit_at value 2) on (leaves_command c value) (keeps_command c value).last_kept (apart_ended c value on)

ended_register : (c : Channel) (offset value : ℕ) → (eqb offset 0x08 && bit_at value 2) ≡ true → Ended c (register_effect c offset value)
unfolding register_effect
ended_register c offset value =
    by_offset (λ (x : ℕ). (eqb x 0x08 && bit_at value 2) ≡ true → Ended c (register_effect c x value)) offset (λ e. clash e) (λ e. clash e)
    (ended_command c value) (λ d e f g. clash (rw f at g))

ended_effect : (o : OneChannel) (k : ChannelCall) → (asks o k).group_end ≡ true → Ended o.channel (effect o k).channel
unfolding effect
ended_effect o (call.write_register lent offset value) e = ended_register o.channel offset value e
ended_effect o (call.read_register offset) e = clash e
ended_effect o (call.write_setpoint lent user buffer index word) e = clash e
ended_effect o call.arm e = clash e
ended_effect o call.disarm e = clash e
ended_effect o call.open_download e = clash e
ended_effect o (call.reply lent f) e = clash e
ended_effect o (call.query which one two) e = clash e
ended_effect o (call.tick lent) e = clash e
ended_effect o (call.event lent code) e = ended_event o.channel o.user code e
ended_effect o (call.change_user user) e = clash e
ended_effect o (call.write_main lent offset value) e = clash e
ended_effect o (call.read_main offset) e = clash e

pub ended_step : (o : OneChannel) (k : ChannelCall) → ends_group (entry o k) ≡ true → Ended o.channel (transition o k).channel
ended_step o k =
    by_refusal (λ (x : OneChannel) (a : Answer) (b c d : Bool) (r : ℕ → Bool). b ≡ true → Ended o.channel x.channel) o k (λ e. ended_effect o k) (λ e. clash e)
