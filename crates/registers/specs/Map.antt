-- Document 01, 'Register map': what a channel's registers keep, and what they show. Document 02, card 6: 2C.
use Rattle.std.specs.Prelude.{ℕ, ◌+◌, ◌-◌, ◌*◌, ◌/◌, ◌%◌, Bool, false, cond, not, ◌&&◌, List, [], ◌∷◌, get_or, set, replicate, eqb, ltb}
use Rattle.status.specs.Bits.{bit_at, word_of_bits}
use Rattle.registers.specs.Fields.{with_clock, with_id, with_events, with_switches, with_delays}
use Rattle.registers.specs.declared.Registers.{Registers}
use Rattle.registers.specs.declared.Event.{Event}
use Rattle.registers.specs.declared.Event.TheVariants as event

-- "all registers 0, .. buffers 1 active"
abbrev pub opened : Registers
opened =
    record {
      clock = 0;
      active = replicate 16 false;
      shown = 0;
      id = 0;
      events = replicate 7 0;
      switches = replicate 8 false;
      delays = replicate 40 0;
    }

-- "Clock codes (bench): 0, 1, 2, 3 give a period of 10,000, 1,000, 100, 10 µs." A code above 3 is refused 5 and never held.
abbrev pub period_of : ℕ → ℕ
period_of clock = cond (eqb clock 0) 10000 (cond (eqb clock 1) 1000 (cond (eqb clock 2) 100 10))

-- "Event registers keep 9 bits: D8 active, D7–D0 code."
abbrev pub matches : ℕ → ℕ → Bool
matches register code = bit_at register 8 && eqb (register % 256) code

-- "20 Start Event, 22–28 Resume 1–4 Events, 2A Group End Event": 0, 1 to 4, and 5; the Tag event of card 6: "Register 2C joins the map with D8 active,
-- D7–D0 code.": 6
abbrev pub start_event : ℕ
start_event = 0

abbrev pub group_end_event : ℕ
group_end_event = 5

abbrev pub tag_event : ℕ
tag_event = 6

-- the place of an event's register from 20h
abbrev pub place_of : Event → ℕ
place_of event.Start = start_event
place_of (event.Resume k) = k
place_of event.GroupEnd = group_end_event
place_of event.Tag = tag_event

abbrev pub triggers_of : Registers → ℕ → ℕ → Bool
triggers_of r event code = matches (get_or r.events event 0) code

-- the start delay of a user (bank 0), or that of resume 1 to 4
abbrev pub delay_of : Registers → ℕ → ℕ → ℕ
delay_of r bank user = get_or r.delays (bank * 8 + (user - 1)) 0

-- whether buffer 2 is active; `place` is a user less 1, or 8 for the readback buffers: a bit of "Active Buffers"
abbrev pub second_active : Registers → ℕ → Bool
second_active r place = get_or r.active place false

abbrev pub readback_place : ℕ
readback_place = 8

-- "(per user: high byte, then low word; 24 bits)"
abbrev pub delay_written : ℕ → ℕ → ℕ → ℕ
delay_written offset old value =
    cond (eqb (offset % 4) 0) (value % 256 * 65536 + old % 65536) (old / 65536 % 256 * 65536 + value)

abbrev pub delay_shown : ℕ → ℕ → ℕ
delay_shown offset delay = cond (eqb (offset % 4) 0) (delay / 65536 % 256) (delay % 65536)

-- what a write at an offset keeps: "0A Clock", "14 Frame ID (8 bits)", "20 Start Event, 22–28 Resume 1–4 Events, 2A Group End Event", 2C (9 bits),
-- "30–3E Switch for users 1–8 (D0; writing 0 withdraws it)", "40–5E start delays, 60–7E, 80–9E, A0–BE, C0–DE resume 1–4 delays".
-- "Other bits written are dropped."
unfoldable pub stored : Registers → ℕ → ℕ → Registers
stored r offset value =
    cond (eqb offset 0x0a) (with_clock r value)
    (cond (eqb offset 0x14) (with_id r (value % 256))
    (cond (ltb offset 0x20) r
    (cond (ltb offset 0x2e) (with_events r (set r.events ((offset - 0x20) / 2) (value % 512)))
    (cond (ltb offset 0x30) r
    (cond (ltb offset 0x40) (with_switches r (set r.switches ((offset - 0x30) / 2) (bit_at value 0)))
    (cond (ltb offset 0xe0)
    (with_delays r
    (set r.delays ((offset - 0x40) / 4) (delay_written offset (get_or r.delays ((offset - 0x40) / 4) 0) value)))
    r))))))

-- what a read at an offset shows: those that are kept, "0E Active Buffers", "10 and 12 Setpoint Count high byte and low word". What 00, 02, 04, 0C and
-- E0–FE show is kept elsewhere (`read_value`, channel_registers)
unfoldable pub loaded : Registers → ℕ → ℕ
loaded r offset =
    cond (eqb offset 0x0a) r.clock
    (cond (eqb offset 0x0e) (word_of_bits r.active)
    (cond (eqb offset 0x10) (r.shown / 65536 % 256)
    (cond (eqb offset 0x12) (r.shown % 65536)
    (cond (eqb offset 0x14) r.id
    (cond (ltb offset 0x20) 0
    (cond (ltb offset 0x2e) (get_or r.events ((offset - 0x20) / 2) 0)
    (cond (ltb offset 0x40) 0
    (cond (ltb offset 0xe0) (delay_shown offset (get_or r.delays ((offset - 0x40) / 4) 0)) 0))))))))

-- each of the first list's bits switched where the second's is set
unfoldable pub flips : List Bool → List Bool → List Bool
flips [] switches = []
flips (a ∷ rest) [] = a ∷ rest
flips (a ∷ rest) (s ∷ switches) = cond s (not a) a ∷ flips rest switches

-- Group End: "readback buffers switch ..; users with Switch D0 set switch and the bits clear; the setpoint count is shown"
unfoldable pub group_ended : Registers → ℕ → Registers
group_ended r count =
    record {
      clock = r.clock;
      active = flips (set r.active readback_place (not (second_active r readback_place))) r.switches;
      shown = count;
      id = r.id;
      events = r.events;
      switches = replicate 8 false;
      delays = r.delays;
    }
