-- The offsets of events and of delays: what a write keeps there, and what a read shows. Assumes nothing.
use Prim.Native.Nat.{ℕ, ◌-◌, ◌/◌, ◌%◌, ◌<◌, ◌≤◌}
use mathlib.Core.Path.{◌≡◌}
use native.Mathlib.Omega.{arith}
use borrow.Author.Tests.{lt-ltb, le-ltb, ne_eqb}
use lib.ListN.{get_or, set}
use Rattle.registers.specs.Fields.{with_events, with_delays}
use Rattle.registers.specs.Map.{stored, loaded, delay_written, delay_shown}
use Rattle.registers.specs.declared.Registers.{Registers}

-- an event register's offset
module _ (r : Registers) (o : ℕ) (low : 0x20 ≤ o) (high : o < 0x2e) where
  pub event_stored : (v : ℕ) → stored r o v ≡ with_events r (set r.events ((o - 0x20) / 2) (v % 512))
  unfolding stored
  event_stored v = simp (ne_eqb o 0x0a (omega arith), ne_eqb o 0x14 (omega arith), le-ltb o 0x20 low, lt-ltb o 0x2e high)

  pub event_loaded : loaded r o ≡ get_or r.events ((o - 0x20) / 2) 0
  unfolding loaded
  event_loaded =
      simp (
        ne_eqb o 0x0a (omega arith),
        ne_eqb o 0x0e (omega arith),
        ne_eqb o 0x10 (omega arith),
        ne_eqb o 0x12 (omega arith),
        ne_eqb o 0x14 (omega arith),
        le-ltb o 0x20 low,
        lt-ltb o 0x2e high,
      )

-- a delay's offset
module _ (r : Registers) (o : ℕ) (low : 0x40 ≤ o) (high : o < 0xe0) where
  pub delay_stored : (v : ℕ)
      → stored r o v ≡ with_delays r (set r.delays ((o - 0x40) / 4) (delay_written o (get_or r.delays ((o - 0x40) / 4) 0) v))
  unfolding stored
  delay_stored v =
      simp (
        ne_eqb o 0x0a (omega arith),
        ne_eqb o 0x14 (omega arith),
        le-ltb o 0x20 (omega arith),
        le-ltb o 0x2e (omega arith),
        le-ltb o 0x30 (omega arith),
        le-ltb o 0x40 low,
        lt-ltb o 0xe0 high,
      )

  pub delay_loaded : loaded r o ≡ delay_shown o (get_or r.delays ((o - 0x40) / 4) 0)
  unfolding loaded
  delay_loaded =
      simp (
        ne_eqb o 0x0a (omega arith),
        ne_eqb o 0x0e (omega arith),
        ne_eqb o 0x10 (omega arith),
        ne_eqb o 0x12 (omega arith),
        ne_eqb o 0x14 (omega arith),
        le-ltb o 0x20 (omega arith),
        le-ltb o 0x2e (omega arith),
        le-ltb o 0x40 low,
        lt-ltb o 0xe0 high,
      )
