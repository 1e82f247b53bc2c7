-- A script's bytes (tests/CALLS.md: its head, Header, Records). "All numbers are unsigned and little-endian."
use Rattle.std.specs.Prelude.{ℕ, ◌+◌, ◌-◌, ◌*◌, ◌/◌, ◌%◌, Option, Some, None, cond, List, ◌==◌, nat_lt, slice_index}
use Rattle.little_endian.specs.Numbers.{number32}
use Rattle.call_script.specs.declared.script.Header.{Header}
use Rattle.call_script.specs.declared.script.Record.{Record}
use Rattle.call_script.specs.Kinds.{kind_of}
use Rattle.call_script.specs.Roles.{role_of}

-- "at most 65,536 bytes: a header of 16 bytes, then records of 16 bytes"; else the script is bad
unfoldable pub records_of : ℕ → Option ℕ
records_of size = cond (nat_lt size 16) None (cond (nat_lt 65536 size) None (cond (size % 16 == 0) (Some (size / 16 - 1)) None))

-- Header: N, M, seed, mask
unfoldable pub header_of : List ℕ → Header
header_of s = record { n = number32 s 0; m = number32 s 4; seed = number32 s 8; mask = number32 s 12 }

-- Records, K from 1: kind, c, lent code and role, b, x, y, z
unfoldable pub record_at : List ℕ → ℕ → Record
record_at s k =
    record {
      kind = kind_of (slice_index s (k * 16));
      channel = slice_index s (k * 16 + 1);
      lent = slice_index s (k * 16 + 2) % 16;
      role = role_of (slice_index s (k * 16 + 2) / 16 % 4);
      buffer = slice_index s (k * 16 + 3);
      x = number32 s (k * 16 + 4);
      y = number32 s (k * 16 + 8);
      z = number32 s (k * 16 + 12);
    }
