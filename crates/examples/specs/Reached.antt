-- Document 01, 'Marked * and unmarked examples': the channels that the rows of Starred.antt speak of exist. Opened with zeroed words, N 2 and M 1
-- (rows of cards have other M, `led_at`), and led there by calls.
use Rattle.std.specs.Prelude.{ℕ, ◌*◌, ◌≡◌, true, List, [], ◌∷◌, replicate}
use Rattle.registers.specs.Map.{start_event}
use Rattle.channel.specs.OneChannel.{OneChannel, ChannelCall, write_register, write_setpoint, arm, one_channel, transitions}
use Rattle.timing.specs.Timing.{triggered_by, delay}
use Rattle.examples.specs.Starred.{PauseOne}

-- opened with depths 2 and M, and led by these calls
abbrev pub led_at : (m : ℕ) → List ChannelCall → OneChannel
led_at m calls = transitions (one_channel 2 m (replicate 32 0) (replicate (m * 2) 0)) calls

abbrev pub led : List ChannelCall → OneChannel
led calls = led_at 1 calls

-- Start event 0, and this start delay of user 1
abbrev pub starting : (high low : ℕ) → OneChannel
starting high low =
    led (write_register 8 0x20 0x100 ∷ write_register 8 0x40 high ∷ write_register 8 0x42 low ∷ arm ∷ [])

-- a word with D16 at index 0, clock code 3, Resume 1 event 1, and this delay of Resume 1 of user 1
abbrev pub pausing : (low : ℕ) → OneChannel
pausing low =
    led
    (write_setpoint 128 1 1 0 0x10000 ∷ write_register 8 0x0a 3 ∷ write_register 8 0x22 0x101 ∷ write_register 8 0x62 low ∷
    arm ∷ [])

-- armed, its Start event has code 0, and this is its start delay
abbrev pub Starts : OneChannel → ℕ → Type 0
Starts o d = (o.channel.sequencer.armed ≡ true) × (triggered_by o start_event 0 ≡ true) × (delay o 0 ≡ d)

pub record Reached : Type 0 where
  pub start_0 : Starts (starting 0 0) 0
  pub start_most : Starts (starting 0xff 0xffff) 0xffffff
  pub resume_25 : PauseOne (pausing 25) 1 × (delay (pausing 25) 1 ≡ 25)
  pub resume_0 : PauseOne (pausing 0) 1 × (delay (pausing 0) 1 ≡ 0)
