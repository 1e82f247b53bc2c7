-- Document 01, 'Register map': Main's registers.
use Rattle.std.specs.Prelude.{ℕ, ◌+◌, ◌-◌, ◌*◌, ◌%◌, Bool, true, false, cond, ◌&&◌, ◌||◌, eqb}
use Rattle.status.specs.Bits.{bit_at, bit_of}
use Rattle.status.specs.Latching.{kept_enable}
use Rattle.channel_core.specs.declared.Channel.{Channel}
use Rattle.channel.specs.Calls.{main_bit, main_taken}
use Rattle.board_state.specs.declared.Main.{Main}
use Rattle.board_state.specs.declared.Board.{Board}
use Rattle.board_state.specs.State.{channel_at, with_channel_at, with_main}

-- "Both statuses: D11 is 1, D10–D8 user less 1, D7–D4 channels 4–1, D3 an event came, rest 0."
unfoldable pub main_word : ℕ → Bool → Bool → Bool → Bool → Bool → ℕ
main_word user one two three four event =
    2048 + (user - 1) % 8 * 256 + (bit_of four * 128 + bit_of three * 64 + bit_of two * 32 + bit_of one * 16) + bit_of event * 8

-- whether an event came, in 2A (`polling`) or in 28
abbrev pub event_bit : Main → Bool → Bool
event_bit x polling = cond polling x.polling x.interrupt

-- 28, or 2A
unfoldable pub main_status : Board → Bool → ℕ
main_status b polling =
    main_word b.user (main_bit (channel_at b 1) polling) (main_bit (channel_at b 2) polling) (main_bit (channel_at b 3) polling)
    (main_bit (channel_at b 4) polling) (event_bit b.main polling)

abbrev pub without_event : Main → Bool → Main
without_event x polling =
    cond polling
    (record { level = x.level; vector = x.vector; enable = x.enable; interrupt = x.interrupt; polling = false })
    (record { level = x.level; vector = x.vector; enable = x.enable; interrupt = false; polling = x.polling })

-- "Reading a status clears the latched bits (.. D7–D3 of Main) of that register only."
unfoldable pub taken_at : Board → ℕ → Bool → Board
taken_at b number polling = with_channel_at b number (main_taken (channel_at b number) polling)

unfoldable pub status_read : Board → Bool → Board
status_read b polling =
    with_main (taken_at (taken_at (taken_at (taken_at b 1 polling) 2 polling) 3 polling) 4 polling) (without_event b.main polling)

-- "22 Level (3 bits), 24 Vector, 26 Enable (bits F7h kept)"
unfoldable pub main_stored : Main → ℕ → ℕ → Main
main_stored x offset value =
    cond (eqb offset 0x22)
    (record { level = value % 8; vector = x.vector; enable = x.enable; interrupt = x.interrupt; polling = x.polling })
    (cond (eqb offset 0x24)
    (record { level = x.level; vector = value; enable = x.enable; interrupt = x.interrupt; polling = x.polling })
    (cond (eqb offset 0x26)
    (record {
      level = x.level;
      vector = x.vector;
      enable = kept_enable (value % 256);
      interrupt = x.interrupt;
      polling = x.polling;
    })
    x))

unfoldable pub main_written : Board → ℕ → ℕ → Board
main_written b offset value = with_main b (main_stored b.main offset value)

-- what a read of Main shows, and the board after it
unfoldable pub main_value : Board → ℕ → ℕ
main_value b offset =
    cond (eqb offset 0x22) b.main.level
    (cond (eqb offset 0x24) b.main.vector
    (cond (eqb offset 0x26) b.main.enable (main_status b (eqb offset 0x2a))))

unfoldable pub main_read : Board → ℕ → Board
main_read b offset = cond (eqb offset 0x28) (status_read b false) (cond (eqb offset 0x2a) (status_read b true) b)

-- channel `number`'s bit set in both 28 and 26: D7–D4 are channels 4–1
abbrev pub enabled_bit : Channel → ℕ → ℕ → Bool
enabled_bit c enable bit = main_bit c false && bit_at enable bit

-- "The interrupt level is Level if some D7–D4 is set in both 28 and 26, else 0."
unfoldable pub level_of : Board → ℕ
level_of b =
    cond
    (enabled_bit (channel_at b 1) b.main.enable 4
    || (enabled_bit (channel_at b 2) b.main.enable 5
    || (enabled_bit (channel_at b 3) b.main.enable 6 || enabled_bit (channel_at b 4) b.main.enable 7)))
    b.main.level 0
