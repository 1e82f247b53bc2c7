-- A Group End shows the setpoints sent before it in registers 10 and 12. Assumes nothing.
use Prim.Native.Nat.{ℕ, ◌/◌, ◌%◌, min}
use mathlib.Core.Path.{◌≡◌, refl, ◌∙◌, ap}
use mathlib.Core.Bool.{true}
use native.Mathlib.Omega.{arith}
use Rattle.register_map.specs.AccessRule.{channel_access}
use Rattle.registers.specs.declared.Registers.{Registers}
use Rattle.registers.specs.Map.{loaded}
use Rattle.registers.specs.Map as reg
use Rattle.channel_core.specs.Answers.{value}
use Rattle.channel_core.specs.Behaviour.{group_ended}
use Rattle.channel_registers.specs.Calls.{read_value}
use Rattle.channel.specs.OneChannel.{ChannelCall, OneChannel, one_channel, refusal_of, answer, transition, response, transitions, read_register}
use Rattle.histories.specs.History.{entry, told_of, ends_group, sends_since}
use Rattle.histories.specs.Counting.{most_counted, ShowsSends}
use Rattle.histories.proofs.Counting.{counts_sends}
use Rattle.histories.proofs.Ended.{ended_step}

-- a Group End, from any state
shown_step : (o : OneChannel) (k : ChannelCall) → ends_group (entry o k) ≡ true
    → (transition o k).channel.registers.shown ≡ o.channel.sequencer.count
unfolding group_ended reg.group_ended
shown_step o k e = ap (λ (r : Registers). r.shown) (ended_step o k e).leaves.registers

reads_high : (o : OneChannel) → response o (read_register 0x10) ≡ value (o.channel.registers.shown / 65536 % 256)
unfolding channel_access response refusal_of answer read_value loaded
reads_high o = refl

reads_low : (o : OneChannel) → response o (read_register 0x12) ≡ value (o.channel.registers.shown % 65536)
unfolding channel_access response refusal_of answer read_value loaded
reads_low o = refl

-- at most FFFFFFh, so the high byte is whole
high_byte : (j : ℕ) → min j most_counted / 65536 % 256 ≡ min j most_counted / 65536
high_byte j = omega arith

pub shows_sends : ShowsSends
shows_sends n m setpoints readbacks ks k e =
    let o = transitions (one_channel n m setpoints readbacks) ks in
    let c = shown_step o k e ∙ counts_sends n m setpoints readbacks ks in (
      reads_high (transition o k)
          ∙ ap (λ (x : ℕ). value (x / 65536 % 256)) c
          ∙ ap value (high_byte (sends_since 0 (told_of (one_channel n m setpoints readbacks) ks))),
      reads_low (transition o k) ∙ ap (λ (x : ℕ). value (x % 65536)) c,
    )
