-- Who makes a record's call, and the rights that an opening gives (tests/CALLS.md, Seats).
use Rattle.std.specs.Prelude.{ℕ, ◌+◌, ◌/◌, ◌%◌, ◌^◌, Bool, cond, List, [], ◌∷◌, ◌==◌}
use Rattle.permissions.specs.declared.Role.{Role}
use Rattle.permissions.specs.declared.Role.TheVariants as role
use Rattle.permissions.specs.declared.Rights.{Rights}
use Rattle.permissions.specs.declared.ChannelRights.{ChannelRights}
use Rattle.permissions.specs.declared.BoardRights.{BoardRights}

-- "0 and 3 the examiner, 1 the candidate, 2 the watcher"
abbrev pub role_of : (code : ℕ) → Role
role_of code = cond (code == 1) role.Candidate (cond (code == 2) role.Watcher role.Examiner)

abbrev pub bit_at : (byte place : ℕ) → Bool
bit_at byte place = byte / 2 ^ place % 2 == 1

-- "D3–D0 the read right of channels 4–1, D7–D4 the write right": of a channel, counted from 0
abbrev pub rights_in : (byte channel : ℕ) → Rights
rights_in byte channel = record { read = bit_at byte channel; write = bit_at byte (channel + 4) }

abbrev pub channel_rights : (candidate watcher channel : ℕ) → ChannelRights
channel_rights candidate watcher channel = record { candidate = rights_in candidate channel; watcher = rights_in watcher channel }

abbrev pub board_rights : (candidate watcher : ℕ) → BoardRights
board_rights candidate watcher =
    record {
      channels =
          channel_rights candidate watcher 0 ∷ channel_rights candidate watcher 1 ∷ channel_rights candidate watcher 2 ∷ channel_rights candidate watcher 3 ∷ [];
    }
