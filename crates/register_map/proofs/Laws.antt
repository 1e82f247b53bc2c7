-- Laws of the map for callers: what is in the map is even and within its bounds. Assumes nothing.
use mathlib.Core.Path.{◌≡◌, refl}
use mathlib.Core.List.{[]}
use Prim.Native.Nat.{ℕ, ◌%◌, ◌≤◌, ◌<◌}
use native.Mathlib.Omega.{arith}
use Rattle.register_map.specs.AccessRule.{channel_map, channel_read_only, channel_write_only, channel_access, main_map, main_read_only, main_access}
use Rattle.std.specs.Prelude.{None}
use Rattle.register_map.proofs.Spans.{before, past, odd, uncovered}

module _ (offset : ℕ) where
  pub channel_odd : offset % 2 ≡ 1 → channel_access offset ≡ None
  unfolding channel_access
  channel_odd = odd channel_map channel_read_only channel_write_only offset

  pub channel_past : 0xFE < offset → channel_access offset ≡ None
  unfolding channel_access
  channel_past h =
      uncovered channel_map channel_read_only channel_write_only offset (past 0x00 0xFE channel_map offset refl h)

  -- a channel's offset in the map is even and at most FE
  pub channel_mapped : (channel_access offset ≡ None → ⊥) → (offset % 2 ≡ 0) × (offset ≤ 0xFE)
  channel_mapped h =
      let even : offset % 2 ≡ 1 → ⊥ = λ n. h (channel_odd n) in
      let end : 0xFE < offset → ⊥ = λ n. h (channel_past n) in
      (omega arith, omega arith)

  pub main_odd : offset % 2 ≡ 1 → main_access offset ≡ None
  unfolding main_access
  main_odd = odd main_map main_read_only [] offset

  pub main_before : offset < 0x22 → main_access offset ≡ None
  unfolding main_access
  main_before h = uncovered main_map main_read_only [] offset (before 0x22 0x2A main_map offset refl h)

  pub main_past : 0x2A < offset → main_access offset ≡ None
  unfolding main_access
  main_past h = uncovered main_map main_read_only [] offset (past 0x22 0x2A main_map offset refl h)

  -- one of Main is even, at least 22 and at most 2A
  pub main_mapped : (main_access offset ≡ None → ⊥) → (offset % 2 ≡ 0) × (0x22 ≤ offset) × (offset ≤ 0x2A)
  main_mapped h =
      let even : offset % 2 ≡ 1 → ⊥ = λ n. h (main_odd n) in
      let start : offset < 0x22 → ⊥ = λ n. h (main_before n) in
      let end : 0x2A < offset → ⊥ = λ n. h (main_past n) in
      (omega arith, omega arith, omega arith)
