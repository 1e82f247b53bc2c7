-- Document 01, 'A channel's life': "Channel status: D15 RUN, D14 EOF, D13 GE, D12 EE, D11–D8 pauses 4–1, D7 VME pause, D2 CRC."; document 02,
-- card 2: "Each shortfall latches D4 of both channel statuses."; and no other bit.
-- 'Register map': "00 Interrupt Enable (bits FFF7h kept)"; "Other bits written are dropped and read 0."
use Rattle.std.specs.Prelude.{ℕ, ◌≡◌, Bool, false, not, ◌&&◌, ◌||◌, List, eqb, leb}
use Rattle.status.specs.Bits.{bit_at}
use Rattle.status.specs.Latching.{run, pause_bit, missing_readback, crc_error}
use Rattle.channel_core.specs.Answers.{value}
use Rattle.channel.specs.OneChannel.{ChannelCall, OneChannel, one_channel, response, transitions, read_register}

-- D15–D7, D4 and D2; the VME pause is pause 0
abbrev pub is_condition : ℕ → Bool
is_condition bit = eqb bit crc_error || (eqb bit missing_readback || (leb (pause_bit 0) bit && leb bit run))

-- all but D3
abbrev pub is_enable : ℕ → Bool
is_enable bit = not (eqb bit 3)

-- a read at this offset answers a word with this bit set or not
pub record ReadsBit (bit : ℕ) (o : OneChannel) (offset : ℕ) (set : Bool) : Type 0 where
  pub word : ℕ
  pub answers : response o (read_register offset) ≡ value word
  pub bit_is : bit_at word bit ≡ set

-- a read at this offset answers a word, and no bit of it is set but those that the register has
pub record ReadsOnly (has : ℕ → Bool) (o : OneChannel) (offset : ℕ) : Type 0 where
  pub word : ℕ
  pub answers : response o (read_register offset) ≡ value word
  pub rest : (bit : ℕ) → has bit ≡ false → bit_at word bit ≡ false

-- from an opening, after any list of calls: 02 Interrupt Status, 04 Polling Status, 00 Interrupt Enable
abbrev pub RestReadsZero : Type 0
RestReadsZero =
    (n m : ℕ) (setpoints readbacks : List ℕ) (ks : List ChannelCall)
    → ReadsOnly is_condition (transitions (one_channel n m setpoints readbacks) ks) 0x02
    × ReadsOnly is_condition (transitions (one_channel n m setpoints readbacks) ks) 0x04
    × ReadsOnly is_enable (transitions (one_channel n m setpoints readbacks) ks) 0x00
