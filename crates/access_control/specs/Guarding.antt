-- Document 02, card 9: "Every call on the board names its seat". The board's calls by role, which is the card's seat: a layer over the calls themselves.
use Rattle.std.specs.Prelude.{ℕ, ◌*◌, ◌≡◌, ◌⊎◌, Bool, true, false, cond, not, List, [], ◌∷◌, length, eqb, Option, Some, None}
use Rattle.refusal.specs.Refusals.{number_of}
use Rattle.refusal.specs.declared.Refusal.TheVariants as refusal
use Rattle.address_map.specs.Addresses.{Named, named, main, channel, nothing}
use Rattle.register_map.specs.declared.Access.{Access}
use Rattle.register_map.specs.declared.Access.TheVariants as access
use Rattle.register_map.specs.AccessRule.{channel_access, main_access}
use Rattle.channel_core.specs.Answers.{Answer, part_of}
use Rattle.channel_core.specs.Answers as ans
use Rattle.channel.specs.Calls.{then, retired_refusal}
use Rattle.channel.specs.OneChannel.{length_refusal}
use Rattle.permissions.specs.declared.Role.{Role}
use Rattle.permissions.specs.declared.ChannelRights.{ChannelRights}
use Rattle.permissions.specs.declared.BoardRights.{BoardRights}
use Rattle.permissions.specs.Rights.{rights_at, may_read, may_write, may_read_register, is_examiner, may_tick}
use Rattle.board_state.specs.declared.Board.{Board}
use Rattle.board_state.specs.Checks.{no_channel}
use Rattle.board.specs.Answers.{BoardAnswer, one, each, refuses}
use Rattle.board.specs.Worlds.{World}
use Rattle.isolation.specs.Calls.{Call, write_register, read_register, write_setpoint, arm, disarm, open_download, reply, query, tick, event, change_user, interrupt_level, Lending, lends_nothing, lends_setpoints, lends_readbacks, lends_buffers, lending, Lent, none, words, buffers, first, second, lengths, Item, answer, after, words_after, given, with_board, back}
use Rattle.access_control.specs.declared.GuardedBoard.{GuardedBoard}

-- a call with what it is lent, and who makes it
pub record Request : Type 0 where
  pub role : Role
  pub item : Item

-- ---- "right missing": by the role, the rights and the call's arguments alone

abbrev pub denied_write : BoardRights → Role → Named → Bool
denied_write r p (main offset) = not (is_examiner p)
denied_write r p (channel number offset) = not (may_write (rights_at r number) p)
denied_write r p nothing = false

abbrev pub denied_read : BoardRights → Role → Named → Bool
denied_read r p (main offset) = not (is_examiner p)
denied_read r p (channel number offset) = not (may_read_register (rights_at r number) p offset)
denied_read r p nothing = false

-- "Setpoint writes, register writes, arming, disarming and replies need the write right. Register reads, voltages, retired parts and downloads need the
-- read right", and what the last tick did (card 10: "The call needs the read right."); "Main registers, user changes and the interrupt level are the
-- examiner's. Ticks and events are the examiner's and the candidate's"
abbrev pub denied : BoardRights → Role → Call → Bool
denied r p (write_register address value) = denied_write r p (named address)
denied r p (read_register address) = denied_read r p (named address)
denied r p (write_setpoint number user buffer index word) = not (may_write (rights_at r number) p)
denied r p (arm number) = not (may_write (rights_at r number) p)
denied r p (disarm number) = not (may_write (rights_at r number) p)
denied r p (open_download number) = not (may_read (rights_at r number) p)
denied r p (reply number frame) = not (may_write (rights_at r number) p)
denied r p (query number which) = not (may_read (rights_at r number) p)
denied r p tick = not (may_tick p)
denied r p (event code) = not (may_tick p)
denied r p (change_user user) = not (is_examiner p)
denied r p interrupt_level = not (is_examiner p)

-- ---- 13 is "checked once 1, 3 and the channel have passed, before all else": these, by the depths and the lengths lent (0: passed)

-- 1. `k` and `j` are the lengths of what the call is lent
abbrev pub lent_refusal : (n m : ℕ) → Lending → (k j : ℕ) → ℕ
lent_refusal n m lends_nothing k j = 0
lent_refusal n m lends_setpoints k j = length_refusal k (n * 64)
lent_refusal n m lends_readbacks k j = length_refusal k (m * 8)
lent_refusal n m (lends_buffers number) k j = retired_refusal m k j

-- 3; whether the register can be read or written, 4, comes after 13
abbrev pub unmapped_refusal : Option Access → ℕ
unmapped_refusal None = number_of refusal.UnmappedRegister
unmapped_refusal (Some access.ReadOnly) = 0
unmapped_refusal (Some access.WriteOnly) = 0
unmapped_refusal (Some access.ReadWrite) = 0

abbrev pub address_refusal : Named → ℕ
address_refusal (main offset) = unmapped_refusal (main_access offset)
address_refusal (channel number offset) = unmapped_refusal (channel_access offset)
address_refusal nothing = number_of refusal.UnmappedRegister

-- 2, for the channel
abbrev pub channel_refusal : (number : ℕ) → ℕ
channel_refusal number = cond (no_channel number) (number_of refusal.OutOfRange) 0

-- 3 or 2: what the call names
abbrev pub target_refusal : Call → ℕ
target_refusal (write_register address value) = address_refusal (named address)
target_refusal (read_register address) = address_refusal (named address)
target_refusal (write_setpoint number user buffer index word) = channel_refusal number
target_refusal (arm number) = channel_refusal number
target_refusal (disarm number) = channel_refusal number
target_refusal (open_download number) = channel_refusal number
target_refusal (reply number frame) = channel_refusal number
target_refusal (query number which) = channel_refusal number
target_refusal tick = 0
target_refusal (event code) = 0
target_refusal (change_user user) = 0
target_refusal interrupt_level = 0

abbrev pub earlier : (n m : ℕ) → Call → (k j : ℕ) → ℕ
earlier n m x k j = then (lent_refusal n m (lending x) k j) (target_refusal x)

abbrev pub earlier_on : Board → Call → Lent → ℕ
earlier_on b x l = earlier b.n b.m x (length (first l)) (length (second l))

-- 13, "not your seat"
abbrev pub permission_denied : ℕ
permission_denied = number_of refusal.PermissionDenied

-- all that is checked before the call is made: 1, 3, the channel, then 13
unfoldable pub guard_refusal : BoardRights → Role → Board → Call → Lent → ℕ
guard_refusal r p b x l = then (earlier_on b x l) (cond (denied r p x) permission_denied 0)

-- ---- One call: where none of these refuses it, it is the board's own

-- "a tick's answer shows a seat only channels it may read": another's frame is none
abbrev pub shown_frame : ChannelRights → Role → Answer → Answer
shown_frame r p a = cond (may_read r p) a ans.none

abbrev pub shown : BoardRights → Role → BoardAnswer → BoardAnswer
shown r p (one a) = one a
shown r p (each f g h k) =
    each (shown_frame (rights_at r 1) p f) (shown_frame (rights_at r 2) p g) (shown_frame (rights_at r 3) p h) (shown_frame (rights_at r 4) p k)

abbrev pub refused_by : ℕ → BoardAnswer
refused_by k = one (ans.refused k)

unfoldable pub guarded_answer : BoardRights → Role → Board → Call → Lent → BoardAnswer
guarded_answer r p b x l =
    cond (eqb (guard_refusal r p b x l) 0) (shown r p (answer b x l)) (refused_by (guard_refusal r p b x l))

-- the board after it, a memory that it was lent, and what it was lent: "a frame that a tick doesn't show still counts as sent"
unfoldable pub guarded_after : BoardRights → Role → Board → Call → Lent → Board
guarded_after r p b x l = cond (eqb (guard_refusal r p b x l) 0) (after b x l) b

unfoldable pub guarded_words : BoardRights → Role → Board → Call → List ℕ → List ℕ
guarded_words r p b x s = cond (eqb (guard_refusal r p b x (words s)) 0) (words_after b x s) s

abbrev pub guarded_lent_after : BoardRights → Role → Board → Call → Lent → Lent
guarded_lent_after r p b x none = none
guarded_lent_after r p b x (words s) = words (guarded_words r p b x s)
guarded_lent_after r p b x (buffers s t) = buffers s t

-- ---- In the code: the rights stand beside the board, and no call changes them

abbrev pub guarded : Board → BoardRights → GuardedBoard
guarded b r = record { board = b; rights = r }

-- the answer to a call, the board after it with its rights, and a memory that it was lent
abbrev pub answer_to : GuardedBoard → Role → Call → Lent → BoardAnswer
answer_to g p x l = guarded_answer g.rights p g.board x l

abbrev pub board_after : GuardedBoard → Role → Call → Lent → GuardedBoard
board_after g p x l = guarded (guarded_after g.rights p g.board x l) g.rights

abbrev pub memory_after : GuardedBoard → Role → Call → List ℕ → List ℕ
memory_after g p x s = guarded_words g.rights p g.board x s

-- the part in an answer; "the empty part when refused"
abbrev pub part_in : BoardAnswer → List ℕ
part_in (one a) = part_of a
part_in (each f g h k) = []

-- ---- In a world, and over a list

abbrev pub answer_in : BoardRights → World → Request → BoardAnswer
answer_in r w i = guarded_answer r i.role w.board i.item.call i.item.lent

abbrev pub board_in : BoardRights → World → Request → Board
board_in r w i = guarded_after r i.role w.board i.item.call i.item.lent

-- as without roles: the board by the contract always; the memory by the contract, or where the call is refused as it was
unfoldable pub guarded_step : BoardRights → World → Request → World
guarded_step r w i =
    cond (refuses (answer_in r w i)) (with_board w (board_in r w i))
    (back (with_board w (board_in r w i)) i.item.call (guarded_lent_after r i.role w.board i.item.call i.item.lent))

-- "A call that is refused whatever words stand in what it is lent .. may be lent anything", by 13 too; any other is lent the memory
abbrev pub GuardedFits : BoardRights → World → Request → Type 0
GuardedFits r w i =
    ((l : Lent) → lengths l ≡ lengths i.item.lent → refuses (guarded_answer r i.role w.board i.item.call l) ≡ true)
    ⊎ (i.item.lent ≡ given w i.item.call)

abbrev pub GuardedAllowed : BoardRights → World → List Request → Type 0
GuardedAllowed r w [] = Unit {0}
GuardedAllowed r w (i ∷ is) = GuardedFits r w i × GuardedAllowed r (guarded_step r w i) is

abbrev pub guarded_world_after : BoardRights → World → List Request → World
guarded_world_after r w [] = w
guarded_world_after r w (i ∷ is) = guarded_world_after r (guarded_step r w i) is
