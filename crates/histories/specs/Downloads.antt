-- Document 02, card 8: what portions answer, over any history. Told, as in specs/History, by calls and what they answered: openings, Group Ends and resets
-- that took place say whether a download is open; its words are those of the replies that were answered kept before the last Group End (specs/Keeping),
-- which is what retired readbacks answers.
use Rattle.std.specs.Prelude.{ℕ, ◌+◌, ◌*◌, ◌≡◌, Bool, true, false, cond, ◌||◌, List, [], ◌∷◌, length, take, drop, leb}
use Rattle.channel_core.specs.Answers.{Answer, refused, part, part_length}
use Rattle.channel.specs.OneChannel.{ChannelCall, OneChannel, one_channel, transition, response, transitions, query, retired, open_download}
use Rattle.channel.specs.OneChannel as call
use Rattle.histories.specs.History.{Entry, history, ends_group, resets, opens_download}
use Rattle.histories.specs.Keeping.{kept_over}

-- ---- Whether a download is open

-- after a call: "Group End or reset on that channel ends the download."; no other call does
abbrev pub open_after : Bool → Entry → Bool
open_after is_open e = cond (ends_group e) false (cond (resets e) false (opens_download e || is_open))

unfoldable pub open_since : Bool → List Entry → Bool
open_since is_open [] = is_open
open_since is_open (e ∷ es) = open_since (open_after is_open e) es

-- after an opening of the board and a list of calls
abbrev pub open_over : ℕ → ℕ → List ℕ → List ℕ → List ChannelCall → Bool
open_over n m setpoints readbacks ks = open_since false (history (one_channel n m setpoints readbacks) ks)

-- ---- What a portion answers

-- none is open: 12; "A portion whose end is past the count is refused 2."; else `result`. `words` is the retired part that the download fetches
abbrev pub served_from : (is_open : Bool) (words : List ℕ) (index size : ℕ) → (result : Answer) → Answer
served_from is_open words index size result = cond is_open (cond (leb (index + size) (length words)) result (refused 2)) (refused 12)

-- "Portions give a first index and a length and return those words"; and the twin
abbrev pub portion_by : (is_open : Bool) (words : List ℕ) (index size : ℕ) → Answer
portion_by is_open words index size = served_from is_open words index size (part (take size (drop index words)))

abbrev pub length_by : (is_open : Bool) (words : List ℕ) (index size : ℕ) → Answer
length_by is_open words index size = served_from is_open words index size (part_length size)

-- what any portion is answered, and the call beside it, lent two buffers of M words
pub record Serves (o : OneChannel) (m : ℕ) (is_open : Bool) (words : List ℕ) : Type 0 where
  pub portion : (index size : ℕ) → response o (query (call.portion index size) m m) ≡ portion_by is_open words index size
  pub lengths : (index size : ℕ) → response o (query (call.portion_length index size) m m) ≡ length_by is_open words index size

-- from an opening of a fitting length, after any list of calls
abbrev pub PortionsTold : Type 0
PortionsTold =
    (n m : ℕ) (setpoints readbacks : List ℕ) → length readbacks ≡ m * 2 → (ks : List ChannelCall)
    → Serves (transitions (one_channel n m setpoints readbacks) ks) m (open_over n m setpoints readbacks ks) (kept_over n m setpoints readbacks ks).retired

-- ---- A download while calls go on

-- none of these calls is a Group End or a reset that took place
abbrev pub NoneEnds : List Entry → Type 0
NoneEnds [] = Unit {0}
NoneEnds (e ∷ es) = (ends_group e ≡ false) × (resets e ≡ false) × NoneEnds es

-- a download was opened at the state `start`: at the state `now` its portions are of the words that retired readbacks would have answered at `start`
pub record ServedSince (start now : OneChannel) (m : ℕ) : Type 0 where
  pub words : List ℕ
  pub retired_then : response start (query retired m m) ≡ part words
  -- "Opening a download of a channel remembers the retired count and answers it."
  pub answered : response start open_download ≡ part_length (length words)
  pub serves : Serves now m true words

-- from an opening of a fitting length: any calls; then a download is opened; then any calls, "while ticks, sends and replies go on", but no Group End and no
-- reset
abbrev pub DownloadStays : Type 0
DownloadStays =
    (n m : ℕ) (setpoints readbacks : List ℕ) → length readbacks ≡ m * 2
    → (before later : List ChannelCall)
    → let o = transitions (one_channel n m setpoints readbacks) before in
    NoneEnds (history (transition o open_download) later)
    → ServedSince o (transitions (transition o open_download) later) m
