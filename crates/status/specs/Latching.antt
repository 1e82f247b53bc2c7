-- Document 01, 'Register map' and 'A channel's life': the channel's status in two copies, 02 Interrupt Status and 04 Polling Status.
use Rattle.std.specs.Prelude.{ℕ, ◌+◌, ◌*◌, ◌/◌, ◌%◌, Bool, true, false, ◌||◌, set, replicate}
use Rattle.status.specs.Bits.{bit_at}
use Rattle.status.specs.declared.Condition.{Condition}
use Rattle.status.specs.declared.Condition.TheVariants as condition
use Rattle.status.specs.declared.Latches.{Latches}
use Rattle.status.specs.declared.Status.{Status}

-- "Channel status: D15 RUN, D14 EOF, D13 GE, D12 EE, D11–D8 pauses 4–1, D7 VME pause, D2 CRC."
abbrev pub run : ℕ
run = 15

abbrev pub end_of_function : ℕ
end_of_function = 14

abbrev pub group_end : ℕ
group_end = 13

abbrev pub early_end : ℕ
early_end = 12

-- the bit of pause k; the VME pause is pause 0 here
abbrev pub pause_bit : ℕ → ℕ
pause_bit k = 7 + k

-- document 02, card 2: "Each shortfall latches D4 of both channel statuses."
abbrev pub missing_readback : ℕ
missing_readback = 4

abbrev pub crc_error : ℕ
crc_error = 2

-- the bit of a condition
abbrev pub condition_bit : Condition → ℕ
condition_bit condition.Run = run
condition_bit condition.EndOfFunction = end_of_function
condition_bit condition.GroupEnd = group_end
condition_bit condition.EarlyEnd = early_end
condition_bit (condition.Pause k) = pause_bit k
condition_bit condition.MissingReadback = missing_readback
condition_bit condition.CrcError = crc_error

-- one copy: nothing latched
abbrev pub none : Latches
none = record { bits = replicate 16 false; main = false }

-- one copy: "a condition enabled in 00 as it happens sets the channel's Main bit"
abbrev pub latched_in : Latches → ℕ → Bool → Latches
latched_in l bit on = record { bits = set l.bits bit true; main = on || l.main }

-- one copy: "Reading a status clears the latched bits (all of a channel's ..) of that register only."
abbrev pub cleared_in : Latches → Latches
cleared_in l = record { bits = replicate 16 false; main = l.main }

-- one copy: reading Main's status clears the channel's bit there
abbrev pub taken_in : Latches → Latches
taken_in l = record { bits = l.bits; main = false }

-- "all registers 0", both Main bits clear
abbrev pub opened : Status
opened = record { enable = 0; interrupt = none; polling = none }

-- a condition happens: it latches in both copies; enabled, it sets the channel's Main bit "in both"
unfoldable pub latched : Status → ℕ → Status
latched s bit =
    record {
      enable = s.enable;
      interrupt = latched_in s.interrupt bit (bit_at s.enable bit);
      polling = latched_in s.polling bit (bit_at s.enable bit);
    }

-- "00 Interrupt Enable (bits FFF7h kept)": D3 is dropped
abbrev pub kept_enable : ℕ → ℕ
kept_enable value = value / 16 * 16 + value % 8

-- a write to 00
abbrev pub enabled : Status → ℕ → Status
enabled s value = record { enable = kept_enable value; interrupt = s.interrupt; polling = s.polling }

-- the opening, with the Main bits carried over
abbrev pub reset : Status → Status
reset s =
    record {
      enable = opened.enable;
      interrupt = record { bits = opened.interrupt.bits; main = s.interrupt.main };
      polling = record { bits = opened.polling.bits; main = s.polling.main };
    }
