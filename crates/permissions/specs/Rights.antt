-- Document 02, card 9: "Three seats: examiner, candidate, watcher." A role is what the card calls a seat; its rights at each channel.
use Rattle.std.specs.Prelude.{ℕ, ◌-◌, Bool, true, false, cond, not, ◌&&◌, ◌||◌, eqb, leb, get_or, replicate}
use Rattle.permissions.specs.declared.Role.{Role}
use Rattle.permissions.specs.declared.Role.TheVariants as role
use Rattle.permissions.specs.declared.Rights.{Rights}
use Rattle.permissions.specs.declared.ChannelRights.{ChannelRights}
use Rattle.permissions.specs.declared.BoardRights.{BoardRights}

-- a read right and a write right, or not
abbrev pub rights : (read write : Bool) → Rights
rights read write = record { read = read; write = write }

abbrev pub no_rights : ChannelRights
no_rights = record { candidate = rights false false; watcher = rights false false }

abbrev pub no_board_rights : BoardRights
no_board_rights = record { channels = replicate 4 no_rights }

-- "The opening gives candidate and watcher a read right and a write right for each channel.": those at channel 1 to 4, and at any other number none
-- for either
abbrev pub rights_at : BoardRights → (number : ℕ) → ChannelRights
rights_at r number = cond (leb 1 number && leb number 4) (get_or r.channels (number - 1) no_rights) no_rights

-- "The examiner has all."
abbrev pub rights_of : ChannelRights → Role → Rights
rights_of r role.Examiner = rights true true
rights_of r role.Candidate = r.candidate
rights_of r role.Watcher = r.watcher

abbrev pub may_read : ChannelRights → Role → Bool
may_read r p = (rights_of r p).read

abbrev pub may_write : ChannelRights → Role → Bool
may_write r p = (rights_of r p).write

-- the registers that a read clears: Interrupt Status, Polling Status, Missing Readback Count
abbrev pub clears : (offset : ℕ) → Bool
clears offset = eqb offset 0x02 || (eqb offset 0x04 || eqb offset 0x0c)

-- "Register reads .. need the read right; reading 02, 04 or 0C needs both, as it clears."
abbrev pub reads_register : Rights → (offset : ℕ) → Bool
reads_register r offset = r.read && (r.write || not (clears offset))

abbrev pub may_read_register : ChannelRights → Role → (offset : ℕ) → Bool
may_read_register r p offset = reads_register (rights_of r p) offset

-- "Main registers, user changes and the interrupt level are the examiner's."
abbrev pub is_examiner : Role → Bool
is_examiner role.Examiner = true
is_examiner role.Candidate = false
is_examiner role.Watcher = false

-- "Ticks and events are the examiner's and the candidate's"
abbrev pub may_tick : Role → Bool
may_tick role.Examiner = true
may_tick role.Candidate = true
may_tick role.Watcher = false
