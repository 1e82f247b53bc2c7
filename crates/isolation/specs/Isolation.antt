-- Document 01, 'What holds it to this': demand 3, "each channel behaves as it would alone". The claim, and what stands beside it.
-- Proofs: Isolation and FedTheSame in proofs/Isolation.antt, IsolationShown, MissingCounted and NotVacuous in Shown, DefaultsUnused and
-- OneFrameATick in Defaults, EndWordStays, EndWordStands and GroupEndAccepted in EndWords, MarksRetired in Marks, ReadingsTold in Readings,
-- PortionsTold, DownloadStays and DownloadAccepted in Downloads, LastTickNamed and LastTickSeen in LastTicks, the others in Refused and Others.
use Rattle.std.specs.Prelude.{ℕ, ◌+◌, ◌-◌, ◌*◌, ◌<◌, ◌≤◌, ◌≡◌, Bool, true, false, not, List, [], ◌∷◌, ◌++◌, length, get_or}
use Rattle.status.specs.Bits.{bit_at, bit_of}
use Rattle.sequencer.specs.Playing.{send_of}
use Rattle.sequencer.specs.Transmissions as transmission
use Rattle.command_frames.specs.Commanding.{is_due}
use Rattle.channel_core.specs.Results.{TickReason}
use Rattle.channel_core.specs.Answers as ans
use Rattle.channel_core.specs.Behaviour.{played_of}
use Rattle.channel.specs.Calls.{main_bit}
use Rattle.channel.specs.OneChannel.{OneChannel, ChannelCall, one_channel, response, transitions, responses, buffer_one, buffer_two}
use Rattle.channel.specs.OneChannel as to
use Rattle.histories.specs.History.{Entry, entry, history, ends_group, opens_download}
use Rattle.histories.specs.Ranges.{InRange}
use Rattle.histories.specs.Missing.{shortfalls_over, missing_count}
use Rattle.histories.specs.EndWords.{second_active_over, group_retired_over, StaysRetired}
use Rattle.histories.specs.Tags.{marks_in, marks_over}
use Rattle.histories.specs.Keeping.{kept_over}
use Rattle.histories.specs.Readings.{replies_over, readings_by}
use Rattle.histories.specs.Downloads.{open_over, portion_by, length_by, NoneEnds}
use Rattle.histories.specs.LastTicks.{LastTick, made_tick, last_tick_over, FirstHeld, NoTickNorReset}
use Rattle.board_state.specs.declared.Board.{Board}
use Rattle.board_state.specs.State.{channel_at}
use Rattle.board_state.specs.Main.{main_status}
use Rattle.board_state.specs.Parts.{own}
use Rattle.board.specs.Answers.{one}
use Rattle.board.specs.Calls.{open_answer}
use Rattle.board_readings.specs.Calls.{readings_answer, last_tick_answer}
use Rattle.board_registers.specs.Calls.{read_answer}
use Rattle.board.specs.Worlds.{World}
use Rattle.isolation.specs.Calls.{Call, write_register, write_setpoint, open_download, query, tick, Lent, none, words, buffers, Item, answer, after, lent_after, refused, own_buffers, step, Fits, Allowed, world_after, opening}
use Rattle.isolation.specs.Feeding.{names, feeds, fed, answer_for, observes, view}

-- one channel by itself, opened with the same depths and its own part of the words
abbrev pub one_channel_at : ℕ → ℕ → ℕ → List ℕ → List ℕ → OneChannel
one_channel_at c n m setpoints readbacks = one_channel n m (own setpoints (n * 16) c) (own readbacks (m * 2) c)

-- along a list: what channel c observes is what the one-channel definition answers, fed what c is fed; and it ends as that does
pub record MatchesOneChannel (c : ℕ) (w : World) (xs : List Item) (o : OneChannel) : Type 0 where
  pub observed : observes c w xs ≡ responses o (fed c xs)
  pub ends : view c (world_after w xs) ≡ transitions o (fed c xs)

-- THE CLAIM. "It is one claim about the whole list of calls, not one for each call." "It starts at an opening that wasn't refused."
abbrev pub Isolation : Type 0
Isolation =
    (n m : ℕ) (s r : List ℕ)
    → open_answer n m (length s) (length r) ≡ ans.done
    → (c : ℕ) → 1 ≤ c → c ≤ 4
    → (xs : List Item) → Allowed (opening n m s r) xs
    → MatchesOneChannel c (opening n m s r) xs (one_channel_at c n m s r)

-- ---- The same of the end, in document 01's words: "after the list, what its registers hold, both statuses too, both Main bits, its setpoint
-- words and both readback buffers in full"

pub record Shows (n m c : ℕ) (w : World) (o : OneChannel) : Type 0 where
  -- every register, and every other offset, as a read on the board would answer
  pub registers : (offset : ℕ) → offset < 0x800 → read_answer w.board (0x800 * c + offset) ≡ response o (to.read_register offset)
  -- the switch bits, which no read shows
  pub switches : (channel_at w.board c).registers.switches ≡ o.channel.registers.switches
  -- the command frame that waits, and whether replies go to E4–FA, which no read shows
  pub waiting : (channel_at w.board c).commands.waiting ≡ o.channel.commands.waiting
  pub receiving : (channel_at w.board c).commands.receiving ≡ o.channel.commands.receiving
  -- the tag not yet used, and whether the last send used one, which no read shows
  pub tag : (channel_at w.board c).sequencer.tag ≡ o.channel.sequencer.tag
  pub tagged : (send_of (channel_at w.board c).sequencer.last).tagged ≡ (send_of o.channel.sequencer.last).tagged
  -- the download and its count, which no read shows
  pub download : (channel_at w.board c).download ≡ o.channel.download
  -- the readings of the last send
  pub readings : readings_answer w.board c ≡ response o (to.query to.readings 0 0)
  -- what the last tick did
  pub last_tick : last_tick_answer w.board c ≡ response o (to.query to.last_tick 0 0)
  -- both statuses
  pub interrupt_status : (channel_at w.board c).status.interrupt.bits ≡ o.channel.status.interrupt.bits
  pub polling_status : (channel_at w.board c).status.polling.bits ≡ o.channel.status.polling.bits
  -- its bit in 28 and in 2A: "D7–D4 channels 4–1"
  pub main_interrupt : bit_at (main_status w.board false) (3 + c) ≡ main_bit o.channel false
  pub main_polling : bit_at (main_status w.board true) (3 + c) ≡ main_bit o.channel true
  -- its words
  pub setpoints : own w.setpoints (n * 16) c ≡ o.setpoints
  pub readbacks : own w.readbacks (m * 2) c ≡ o.readbacks
  pub both_buffers : own_buffers w c ≡ buffers (buffer_one o) (buffer_two o)

abbrev pub IsolationShown : Type 0
IsolationShown =
    (n m : ℕ) (s r : List ℕ)
    → open_answer n m (length s) (length r) ≡ ans.done
    → (c : ℕ) → 1 ≤ c → c ≤ 4
    → (xs : List Item) → Allowed (opening n m s r) xs
    → Shows n m c (world_after (opening n m s r) xs) (transitions (one_channel_at c n m s r) (fed c xs))

-- ---- Beside it

-- a refused call changes no state and no lent word: on any board, lent anything
abbrev pub RefusedChangesNothing : Type 0
RefusedChangesNothing =
    (b : Board) (x : Call) (l : Lent) → refused b x l ≡ true → (after b x l ≡ b) × (lent_after b x l ≡ l)

-- a call naming d changes nothing that another channel can see: in any world
abbrev pub OthersUntouched : Type 0
OthersUntouched =
    (w : World) (i : Item) → Fits w i
    → (c : ℕ) → 1 ≤ c → c ≤ 4
    → (d : ℕ) → names i.call d ≡ true → (c ≡ d → ⊥)
    → view c (step w i) ≡ view c w

-- nor does a call that feeds c nothing: one with an address from 2800h up, or the interrupt level
abbrev pub UnfedUntouched : Type 0
UnfedUntouched =
    (w : World) (i : Item) → Fits w i → (c : ℕ) → 1 ≤ c → c ≤ 4 → feeds c i ≡ [] → view c (step w i) ≡ view c w

-- two allowed lists that feed c the same give it the same answers and the same end, on two boards of the same depths on which c's words are the same
abbrev pub FedTheSame : Type 0
FedTheSame =
    (n m : ℕ) (s r s' r' : List ℕ)
    → open_answer n m (length s) (length r) ≡ ans.done → open_answer n m (length s') (length r') ≡ ans.done
    → (c : ℕ) → 1 ≤ c → c ≤ 4
    → own s (n * 16) c ≡ own s' (n * 16) c → own r (m * 2) c ≡ own r' (m * 2) c
    → (xs ys : List Item) → Allowed (opening n m s r) xs → Allowed (opening n m s' r') ys
    → fed c xs ≡ fed c ys
    → (observes c (opening n m s r) xs ≡ observes c (opening n m s' r') ys)
    × (view c (world_after (opening n m s r) xs) ≡ view c (world_after (opening n m s' r') ys))

-- the defaults of the total definitions are never used: from an opening, over any allowed list, each channel's indices, counts, countdowns and
-- arrays are in their ranges (`InRange`: index due below N, stored counts at most M − 1, user 1 to 8, a running countdown at least 1, ..)
abbrev pub DefaultsUnused : Type 0
DefaultsUnused =
    (n m : ℕ) (s r : List ℕ)
    → open_answer n m (length s) (length r) ≡ ans.done
    → (c : ℕ) → 1 ≤ c → c ≤ 4
    → (xs : List Item) → Allowed (opening n m s r) xs
    → InRange (view c (world_after (opening n m s r) xs))

-- document 02, card 1: no channel's tick has two frames, so that "frame or none" loses nothing. From an opening, over any allowed list: where a command
-- frame is due on the next tick, no setpoint is sent on it
abbrev pub OneFrameATick : Type 0
OneFrameATick =
    (n m : ℕ) (s r : List ℕ)
    → open_answer n m (length s) (length r) ≡ ans.done
    → (c : ℕ) → 1 ≤ c → c ≤ 4
    → (xs : List Item) → Allowed (opening n m s r) xs
    → let o = view c (world_after (opening n m s r) xs) in
    is_due o.channel.commands.waiting ≡ true
    → (played_of o.channel o.setpoints o.n o.user).transmission ≡ transmission.Nothing

-- document 02, card 2: "After every call the count is the sum of the shortfalls since opening, reset or its last read, at most 255.": so on the board.
-- From an opening, over any allowed list, a read of channel c's 0C answers what the answers to the calls fed to c tell.
abbrev pub MissingCounted : Type 0
MissingCounted =
    (n m : ℕ) (s r : List ℕ)
    → open_answer n m (length s) (length r) ≡ ans.done
    → (c : ℕ) → 1 ≤ c → c ≤ 4
    → (xs : List Item) → Allowed (opening n m s r) xs
    → read_answer (world_after (opening n m s r) xs).board (0x800 * c + 0x0c)
    ≡ ans.value (missing_count (shortfalls_over n m (own s (n * 16) c) (own r (m * 2) c) (fed c xs) 0x0c))

-- document 02, card 3: the end word in the board's memory, which is "by channel, buffer, index". In the world `ended` 0E of channel c reads which buffer
-- is active, the other one is retired, and the twin of retired readbacks, lent the channel's buffers, answers `count`, which is below M; in the world
-- `now` the word at that index of that buffer is 02000000h
pub record EndWord (c m : ℕ) (ended now : World) : Type 0 where
  pub register : ℕ
  pub active : read_answer ended.board (0x800 * c + 0x0e) ≡ ans.value register
  pub count : ℕ
  pub counted : answer ended.board (query c to.retired_length) (own_buffers ended c) ≡ one (ans.part_length count)
  pub within : count < m
  pub word : get_or now.readbacks (((c - 1) * 2 + bit_of (not (bit_at register 8))) * m + count) 0 ≡ 0x2000000

-- "Group End always writes the end word.": from an opening, with any M that it allows, over any allowed list: any calls; then a call that feeds channel c
-- a Group End, which takes place; then any calls after which the buffer that it retired is not active again
abbrev pub EndWordStays : Type 0
EndWordStays =
    (n m : ℕ) (s r : List ℕ)
    → open_answer n m (length s) (length r) ≡ ans.done
    → (c : ℕ) → 1 ≤ c → c ≤ 4
    → (before : List Item) (group_end : Item) (later : List Item) → Allowed (opening n m s r) (before ++ (group_end ∷ later))
    → let w = world_after (opening n m s r) before in
    (k : ChannelCall) → feeds c group_end ≡ k ∷ [] → ends_group (entry (view c w) k) ≡ true
    → StaysRetired (second_active_over n m (own s (n * 16) c) (own r (m * 2) c) (fed c before)) (history (view c (step w group_end)) (fed c later))
    → EndWord c m (step w group_end) (world_after (opening n m s r) (before ++ (group_end ∷ later)))

-- and all in one world: over any allowed list, where the calls fed to c tell that a group of c has retired
abbrev pub EndWordStands : Type 0
EndWordStands =
    (n m : ℕ) (s r : List ℕ)
    → open_answer n m (length s) (length r) ≡ ans.done
    → (c : ℕ) → 1 ≤ c → c ≤ 4
    → (xs : List Item) → Allowed (opening n m s r) xs
    → group_retired_over n m (own s (n * 16) c) (own r (m * 2) c) (fed c xs) ≡ true
    → EndWord c m (world_after (opening n m s r) xs) (world_after (opening n m s r) xs)

-- document 02, card 6: D25 in the words that the board answers. In the world `w` retired readbacks, lent the channel's buffers, answers `words`, of which
-- D25 is set as `marks` say, and its twin how many they are
pub record MarkedPart (c : ℕ) (w : World) (marks : List Bool) : Type 0 where
  pub words : List ℕ
  pub answers : answer w.board (query c to.retired) (own_buffers w c) ≡ one (ans.part words)
  pub marked : marks_in words ≡ marks
  pub counted : answer w.board (query c to.retired_length) (own_buffers w c) ≡ one (ans.part_length (length marks))

-- from an opening, over any allowed list: the marks are what the answers to the calls fed to c tell
abbrev pub MarksRetired : Type 0
MarksRetired =
    (n m : ℕ) (s r : List ℕ)
    → open_answer n m (length s) (length r) ≡ ans.done
    → (c : ℕ) → 1 ≤ c → c ≤ 4
    → (xs : List Item) → Allowed (opening n m s r) xs
    → MarkedPart c (world_after (opening n m s r) xs) (marks_over n m (own s (n * 16) c) (own r (m * 2) c) (fed c xs)).retired

-- document 02, card 7: from an opening, over any allowed list, the readings that the board answers of channel c are those of the replies that the answers
-- to the calls fed to c tell; what each says of its reply: `ReadingsSay` (histories), of any such list
abbrev pub ReadingsTold : Type 0
ReadingsTold =
    (n m : ℕ) (s r : List ℕ)
    → open_answer n m (length s) (length r) ≡ ans.done
    → (c : ℕ) → 1 ≤ c → c ≤ 4
    → (xs : List Item) → Allowed (opening n m s r) xs
    → answer (world_after (opening n m s r) xs).board (query c to.readings) none
    ≡ one (readings_by (replies_over n m (own s (n * 16) c) (own r (m * 2) c) (fed c xs)))

-- document 02, card 8: what any portion of channel c is answered in the world `w`, and the call beside it, lent the channel's buffers; a download is open or
-- not, and `words` is the retired part that it fetches
pub record Serves (c : ℕ) (w : World) (is_open : Bool) (words : List ℕ) : Type 0 where
  pub portion : (index size : ℕ) → answer w.board (query c (to.portion index size)) (own_buffers w c) ≡ one (portion_by is_open words index size)
  pub lengths : (index size : ℕ) → answer w.board (query c (to.portion_length index size)) (own_buffers w c) ≡ one (length_by is_open words index size)

-- from an opening, over any allowed list: by what the answers to the calls fed to c tell, so "Other channels' Group Ends don't matter."
abbrev pub PortionsTold : Type 0
PortionsTold =
    (n m : ℕ) (s r : List ℕ)
    → open_answer n m (length s) (length r) ≡ ans.done
    → (c : ℕ) → 1 ≤ c → c ≤ 4
    → (xs : List Item) → Allowed (opening n m s r) xs
    → Serves c (world_after (opening n m s r) xs) (open_over n m (own s (n * 16) c) (own r (m * 2) c) (fed c xs))
    (kept_over n m (own s (n * 16) c) (own r (m * 2) c) (fed c xs)).retired

-- a download of channel c was opened in the world `start`: in the world `now` its portions are of the words that retired readbacks would have answered in
-- `start`
pub record ServedSince (c : ℕ) (start now : World) : Type 0 where
  pub words : List ℕ
  pub retired_then : answer start.board (query c to.retired) (own_buffers start c) ≡ one (ans.part words)
  pub answered : answer start.board (open_download c) none ≡ one (ans.part_length (length words))
  pub serves : Serves c now true words

-- the opening of a download of channel c, which is lent nothing
abbrev pub download_opening : ℕ → Item
download_opening c = record { call = open_download c; lent = none }

-- from an opening, over any allowed list: any calls; then a download of c is opened; then any calls of which none feeds c a Group End or a reset that takes
-- place
abbrev pub DownloadStays : Type 0
DownloadStays =
    (n m : ℕ) (s r : List ℕ)
    → open_answer n m (length s) (length r) ≡ ans.done
    → (c : ℕ) → 1 ≤ c → c ≤ 4
    → (before later : List Item) → Allowed (opening n m s r) (before ++ (download_opening c ∷ later))
    → let w = world_after (opening n m s r) before in
    NoneEnds (history (view c (step w (download_opening c))) (fed c later))
    → ServedSince c w (world_after (opening n m s r) (before ++ (download_opening c ∷ later)))

-- after any allowed list that opening is allowed, and takes place
abbrev pub DownloadAccepted : Type 0
DownloadAccepted =
    (n m : ℕ) (s r : List ℕ) (c : ℕ) → 1 ≤ c → c ≤ 4
    → (before : List Item) → Allowed (opening n m s r) before
    → let w = world_after (opening n m s r) before in
    Allowed (opening n m s r) (before ++ (download_opening c ∷ []))
    × (feeds c (download_opening c) ≡ to.open_download ∷ [])
    × (opens_download (entry (view c w) to.open_download) ≡ true)

-- document 02, card 10: in the world `w` the board names what the last tick of channel c did; `t` is that tick, or none
pub record Reports (c : ℕ) (w : World) (t : LastTick) : Type 0 where
  pub named : TickReason
  pub answers : answer w.board (query c to.last_tick) none ≡ one (ans.last_tick named)
  pub first_held : FirstHeld named t

-- "Show, for any calls that demand 3 allows, that the named reason held and that the ones before it in this list didn't.": from an opening, over any allowed
-- list; the last tick is told by what the calls fed to c were answered
abbrev pub LastTickNamed : Type 0
LastTickNamed =
    (n m : ℕ) (s r : List ℕ)
    → open_answer n m (length s) (length r) ≡ ans.done
    → (c : ℕ) → 1 ≤ c → c ≤ 4
    → (xs : List Item) → Allowed (opening n m s r) xs
    → Reports c (world_after (opening n m s r) xs) (last_tick_over n m (own s (n * 16) c) (own r (m * 2) c) (fed c xs))

-- a tick in this world, lent its memory, as one that is not refused is; and what channel c has to do with it: its state just before, and its frame or none
abbrev pub tick_in : World → Item
tick_in w = record { call = tick; lent = words w.setpoints }

abbrev pub seen_by : ℕ → World → Entry
seen_by c w = record { before = view c w; call = to.tick (length w.setpoints); answer = answer_for c (answer w.board tick (words w.setpoints)) }

-- the same by the board's own states and answers: any calls; a tick; then any calls, of which none feeds c a tick or a reset that takes place: the name is that
-- of the first condition that held of c in the world just before that tick
abbrev pub LastTickSeen : Type 0
LastTickSeen =
    (n m : ℕ) (s r : List ℕ)
    → open_answer n m (length s) (length r) ≡ ans.done
    → (c : ℕ) → 1 ≤ c → c ≤ 4
    → (before later : List Item)
    → let w = world_after (opening n m s r) before in
    Allowed (opening n m s r) (before ++ (tick_in w ∷ later))
    → NoTickNorReset (history (view c (step w (tick_in w))) (fed c later))
    → Reports c (world_after (opening n m s r) (before ++ (tick_in w ∷ later))) (made_tick (seen_by c w))

-- Commands with D2 for channel c, lent the memory of this world; and what c is fed of it
abbrev pub group_end_of : ℕ → World → Item
group_end_of c w = record { call = write_register (0x800 * c + 0x08) 4; lent = words w.readbacks }

abbrev pub group_end_to : World → ChannelCall
group_end_to w = to.write_register (length w.readbacks) 0x08 4

-- after any allowed list, whatever the buffers hold, it is allowed, and is such a Group End
abbrev pub GroupEndAccepted : Type 0
GroupEndAccepted =
    (n m : ℕ) (s r : List ℕ)
    → open_answer n m (length s) (length r) ≡ ans.done
    → (c : ℕ) → 1 ≤ c → c ≤ 4
    → (before : List Item) → Allowed (opening n m s r) before
    → let w = world_after (opening n m s r) before in
    Allowed (opening n m s r) (before ++ (group_end_of c w ∷ []))
    × (feeds c (group_end_of c w) ≡ group_end_to w ∷ [])
    × (ends_group (entry (view c w) (group_end_to w)) ≡ true)

-- there are allowed lists: a setpoint write to channel 5, which is lent any words at all and refused, then a tick, which is not
abbrev pub astray : List ℕ → Item
astray foreign = record { call = write_setpoint 5 1 1 0 0; lent = words foreign }

abbrev pub NotVacuous : Type 0
NotVacuous =
    (n m : ℕ) (s r foreign : List ℕ)
    → open_answer n m (length s) (length r) ≡ ans.done
    → Allowed (opening n m s r) (astray foreign ∷ (record { call = tick; lent = words s } ∷ []))
    × (refused (opening n m s r).board tick (words s) ≡ false)
