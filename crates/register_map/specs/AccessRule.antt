-- Document 01, 'Register map': the access of each offset. What is in the map, what of it is read-only, what write-only. Document 02, card 1: E0–FE;
-- card 2: 0C; card 6: 2C.
use Rattle.std.specs.Prelude.{ℕ, ◌+◌, ◌-◌, ◌*◌, ◌%◌, Bool, false, cond, ◌&&◌, ◌||◌, List, [], ◌∷◌, leb, ltb, eqb, Option, Some, None}
use Rattle.register_map.specs.declared.Access.{Access}
use Rattle.register_map.specs.declared.Access.TheVariants as access

-- the offsets from first to last
pub record Span : Type 0 where
  pub first : ℕ
  pub last : ℕ

infix 90 ◌to◌
abbrev pub ◌to◌ : ℕ → ℕ → Span
first to last = record { first = first; last = last }

abbrev pub only : ℕ → Span
only offset = offset to offset

-- one of the spans has the offset
abbrev pub covers : List Span → ℕ → Bool
covers [] offset = false
covers (s ∷ ss) offset = (leb s.first offset && leb offset s.last) || covers ss offset

-- "Offsets from there are even": an odd one is not in the map. "The rest read and write."
abbrev pub access_by : (map read_only write_only : List Span) → ℕ → Option Access
access_by map read_only write_only offset =
    cond (eqb (offset % 2) 0 && covers map offset)
    (Some (cond (covers read_only offset) access.ReadOnly (cond (covers write_only offset) access.WriteOnly access.ReadWrite)))
    None

-- "00 Interrupt Enable, .." to "resume 1–4 delays", in the order of the paper; "Registers E0–FE of each channel join the map";
-- "Read-only register 0C"; "Register 2C joins the map"
abbrev pub channel_map : List Span
channel_map =
    only 0x00 ∷ only 0x02 ∷ only 0x04 ∷ only 0x06 ∷ only 0x08 ∷ only 0x0A ∷ only 0x0C ∷ only 0x0E ∷ only 0x10 ∷ only 0x12 ∷
    only 0x14 ∷ only 0x20 ∷ 0x22 to 0x28 ∷ only 0x2A ∷ only 0x2C ∷ 0x30 to 0x3E ∷ 0x40 to 0x5E ∷
    0x60 to 0x7E ∷ 0x80 to 0x9E ∷ 0xA0 to 0xBE ∷ 0xC0 to 0xDE ∷ 0xE0 to 0xFE ∷ []

-- "Read-only: 02, 04, 0E, 10, 12."; "E4–FA and FE are read-only."; "Read-only register 0C"
abbrev pub channel_read_only : List Span
channel_read_only = only 0x02 ∷ only 0x04 ∷ only 0x0C ∷ only 0x0E ∷ only 0x10 ∷ only 0x12 ∷ 0xE4 to 0xFA ∷ only 0xFE ∷ []

-- "Write-only: 06, 08, 30–3E."; "FC is write-only here."
abbrev pub channel_write_only : List Span
channel_write_only = only 0x06 ∷ only 0x08 ∷ 0x30 to 0x3E ∷ only 0xFC ∷ []

unfoldable pub channel_access : ℕ → Option Access
channel_access = access_by channel_map channel_read_only channel_write_only

-- "Main: 22 Level, 24 Vector, 26 Enable, 28 Main Interrupt Status and 2A Main Polling Status"
abbrev pub main_map : List Span
main_map = only 0x22 ∷ only 0x24 ∷ only 0x26 ∷ only 0x28 ∷ only 0x2A ∷ []

-- 28 and 2A: "both read-only; the other three read and write"
abbrev pub main_read_only : List Span
main_read_only = only 0x28 ∷ only 0x2A ∷ []

unfoldable pub main_access : ℕ → Option Access
main_access = access_by main_map main_read_only []

-- the code's table: a channel's even offsets from 00 to FE, then Main's from 22 to 2A
unfoldable pub entry_access : ℕ → Option Access
entry_access i = cond (ltb i 128) (channel_access (2 * i)) (main_access (0x22 + 2 * (i - 128)))
