-- Document 02, card 3: "Group End always writes the end word." Told, as in specs/History, by calls and what they answered: which readback buffer is
-- active, what each call writes to the buffers; and so the end word behind the readbacks that a Group End retires.
use Rattle.std.specs.Prelude.{ℕ, ◌*◌, ◌≤◌, ◌<◌, ◌≡◌, Bool, true, false, cond, not, List, [], ◌∷◌, length, get_or, set}
use Rattle.registers.specs.Map.{second_active, readback_place}
use Rattle.readback.specs.Storing.{place_of}
use Rattle.channel_core.specs.Answers.{part_length}
use Rattle.channel.specs.OneChannel.{ChannelCall, OneChannel, one_channel, refusal_of, transition, response, transitions, write_register, event, query, retired_length}
use Rattle.histories.specs.History.{Entry, entry, history, Told, ends_group, resets}
use Rattle.histories.specs.Commands.{commands_over}
use Rattle.histories.specs.Keeping.{stored_by, kept_over}
use Rattle.histories.specs.Statuses.{ReadsBit}
use Rattle.histories.specs.Ranges.{InRange}

-- ---- Which readback buffer is active

-- whether buffer 2 is, after a call: at a reset, as at the opening, "buffers 1 active"; at a Group End "readback buffers switch"; nothing else moves it
abbrev pub second_active_after : Bool → Entry → Bool
second_active_after second e = cond (resets e) false (cond (ends_group e) (not second) second)

unfoldable pub second_active_since : Bool → List Entry → Bool
second_active_since second [] = second
second_active_since second (e ∷ es) = second_active_since (second_active_after second e) es

-- after an opening and a list of calls
abbrev pub second_active_over : ℕ → ℕ → List ℕ → List ℕ → List ChannelCall → Bool
second_active_over n m setpoints readbacks ks = second_active_since false (history (one_channel n m setpoints readbacks) ks)

-- so D8 of 0E reads
abbrev pub ActiveTold : Type 0
ActiveTold =
    (n m : ℕ) (setpoints readbacks : List ℕ) (ks : List ChannelCall)
    → ReadsBit 8 (transitions (one_channel n m setpoints readbacks) ks) 0x0e (second_active_over n m setpoints readbacks ks)

-- ---- What a call writes to the readback buffers

-- the word, if there is one: a Group End writes its end word, a reply that is kept for a setpoint its own; no other call writes
abbrev pub word_written_by : Told → List ℕ
word_written_by t = cond (ends_group t.entry) (0x2000000 ∷ []) (stored_by t)

-- the words `s` with that word written at this place
abbrev pub with_written : List ℕ → (place : ℕ) → List ℕ → List ℕ
with_written s place [] = s
with_written s place (word ∷ words) = set s place word

-- from an opening, after any list of calls, one call more: every word of both buffers. What it writes goes after the replies kept since the last Group
-- End, reset or opening, in the active buffer.
abbrev pub WordsTold : Type 0
WordsTold =
    (n m : ℕ) (setpoints readbacks : List ℕ) (ks : List ChannelCall) (k : ChannelCall)
    → let o = transitions (one_channel n m setpoints readbacks) ks in
    (transition o k).readbacks
    ≡ with_written o.readbacks (place_of (second_active_over n m setpoints readbacks ks) m (length (kept_over n m setpoints readbacks ks).current))
    (word_written_by (record { entry = entry o k; commands = commands_over n m setpoints readbacks ks }))

-- one call, refused or not, from any state in range: no word of the buffer that is not active changes, not at a Group End or a reset either
abbrev pub InactiveUnchanged : Type 0
InactiveUnchanged =
    (o : OneChannel) (k : ChannelCall) (index : ℕ) → InRange o → index < o.m
    → let place = place_of (not (second_active o.channel.registers readback_place)) o.m index in
    get_or (transition o k).readbacks place 0 ≡ get_or o.readbacks place 0

-- ---- The end word

-- "Group End (event, or Commands D2), armed or not": lent what fits, neither is refused, in any state and whatever its buffer holds
abbrev pub GroupEndAccepted : Type 0
GroupEndAccepted =
    (o : OneChannel) (code value : ℕ) → (refusal_of o (event (o.m * 8) code) ≡ 0) × (refusal_of o (write_register (o.m * 8) 0x08 value) ≡ 0)

-- at the state `ended` 0E reads which buffer is active, the other one is retired, and the twin of retired readbacks answers `count`, which is below M; at
-- the state `now` the word at that index of that buffer is 02000000h
pub record EndWord (ended now : OneChannel) (m : ℕ) : Type 0 where
  pub second : Bool
  pub active : ReadsBit 8 ended 0x0e (not second)
  pub count : ℕ
  pub counted : response ended (query retired_length m m) ≡ part_length count
  pub within : count < m
  pub word : get_or now.readbacks (place_of second m count) 0 ≡ 0x2000000

-- after none of these calls is this buffer active again (`second`: buffer 2): the other one stays active
abbrev pub StaysRetired : (second : Bool) → List Entry → Type 0
StaysRetired second [] = Unit {0}
StaysRetired second (e ∷ es) = (second_active_after (not second) e ≡ not second) × StaysRetired second es

-- from an opening of a fitting length, with any M from 1 on: any calls; then a Group End, which takes place; then any calls after which the buffer that it
-- retired is not active again. (A reset sets the retired count to 0. Where buffer 2 was the retired one, it stays inactive, and its end word where it was.)
abbrev pub EndWordStays : Type 0
EndWordStays =
    (n m : ℕ) (setpoints readbacks : List ℕ) → 1 ≤ m → length readbacks ≡ m * 2
    → (before : List ChannelCall) (group_end : ChannelCall) (later : List ChannelCall)
    → let o = transitions (one_channel n m setpoints readbacks) before in
    ends_group (entry o group_end) ≡ true
    → StaysRetired (second_active_over n m setpoints readbacks before) (history (transition o group_end) later)
    → EndWord (transition o group_end) (transitions (transition o group_end) later) m

-- a group has retired: of the Group Ends and resets so far the last was a Group End
abbrev pub group_retired_after : Bool → Entry → Bool
group_retired_after retired e = cond (resets e) false (cond (ends_group e) true retired)

unfoldable pub group_retired_since : Bool → List Entry → Bool
group_retired_since retired [] = retired
group_retired_since retired (e ∷ es) = group_retired_since (group_retired_after retired e) es

abbrev pub group_retired_over : ℕ → ℕ → List ℕ → List ℕ → List ChannelCall → Bool
group_retired_over n m setpoints readbacks ks = group_retired_since false (history (one_channel n m setpoints readbacks) ks)

-- and all at one state: after any list of calls, where a group has retired
abbrev pub EndWordStands : Type 0
EndWordStands =
    (n m : ℕ) (setpoints readbacks : List ℕ) → 1 ≤ m → length readbacks ≡ m * 2
    → (ks : List ChannelCall) → group_retired_over n m setpoints readbacks ks ≡ true
    → EndWord (transitions (one_channel n m setpoints readbacks) ks) (transitions (one_channel n m setpoints readbacks) ks) m
