-- Bits of a channel's statuses that are no condition, and D3 of Interrupt Enable, read 0 after any list of calls. Assumes nothing.
use Prim.Native.Nat.{ℕ}
use mathlib.Core.Path.{◌≡◌, refl, ◌∙◌, ap}
use mathlib.Core.Bool.{Bool}
use mathlib.Core.List.{List}
use lib.Dec.{eqb}
use borrow.Author.Tests.{eqb-true, not-false}
use Rattle.status.specs.Bits.{bit_at, word_of_bits}
use Rattle.status.proofs.Laws.{word_bit}
use Rattle.register_map.specs.AccessRule.{channel_access}
use Rattle.channel_core.specs.Answers.{value}
use Rattle.channel_core.specs.State as state
use Rattle.channel_registers.specs.Calls.{read_value}
use Rattle.channel.specs.OneChannel.{OneChannel, one_channel, refusal_of, answer, response, transitions, read_register}
use Rattle.histories.specs.Statuses.{is_condition, is_enable, ReadsOnly, RestReadsZero}
use Rattle.histories.specs.Ranges.{BitsInRange, StatusInRange}
use Rattle.histories.proofs.Parts.{opened_range}
use Rattle.histories.proofs.Ranges.{channel_from}

module _ (o : OneChannel) where
  -- 02 and 04 show a copy of the status
  copy_only : (offset : ℕ) (bits : List Bool) → response o (read_register offset) ≡ value (word_of_bits bits) → BitsInRange bits
      → ReadsOnly is_condition o offset
  copy_only offset bits e h = record { word = word_of_bits bits; answers = e; rest = λ k f. word_bit bits k ∙ h.rest k f }

  rest_zero : StatusInRange o.channel.status → ReadsOnly is_condition o 0x02 × ReadsOnly is_condition o 0x04 × ReadsOnly is_enable o 0x00
  unfolding channel_access response refusal_of answer read_value
  rest_zero h = (
    copy_only 0x02 o.channel.status.interrupt.bits refl h.interrupt,
    copy_only 0x04 o.channel.status.polling.bits refl h.polling,
    record {
      word = o.channel.status.enable;
      answers = refl;
      rest = λ k e. ap (λ (x : ℕ). bit_at o.channel.status.enable x) (eqb-true k 3 (not-false (eqb k 3) e)) ∙ h.enable;
    },
  )

pub rest_reads_zero : RestReadsZero
unfolding state.opened
rest_reads_zero n m setpoints readbacks ks =
    let o = one_channel n m setpoints readbacks in
    rest_zero (transitions o ks) (channel_from o ks (opened_range m)).status
