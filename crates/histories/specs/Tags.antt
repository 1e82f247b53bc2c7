-- Document 02, card 6: which stored words have D25 set, over any history. What is told of tags goes by calls and what they answered (specs/TagChanges): a
-- setpoint send is a tick that answered a frame, and not a command frame, so that a command frame neither uses nor ends a tag. Which frames are command
-- frames, and how words are grouped, is told as in specs/History, by the code of the Group End event: `TagsTold` has it that this is what was written.
use Rattle.std.specs.Prelude.{ℕ, ◌+◌, ◌*◌, ◌<◌, ◌≡◌, Bool, true, cond, List, [], ◌∷◌, map, length, get_or, IsSome}
use Rattle.status.specs.Bits.{bit_at}
use Rattle.sequencer.specs.Playing.{send_of}
use Rattle.channel_core.specs.Answers.{value, part, part_length}
use Rattle.channel.specs.OneChannel.{ChannelCall, OneChannel, one_channel, response, transitions, read_register, query, retired, retired_length}
use Rattle.histories.specs.TagChanges.{Tags, opened_tags, sent_tags}
use Rattle.histories.specs.History.{Told, told_of, asks, is_refused, sends_setpoint}
use Rattle.histories.specs.Keeping.{Groups, nothing_kept, groups_after, stored_by, kept_over}

-- ---- What is told of tags

-- after an entry; a refused call tells nothing
abbrev pub tags_after : Tags → Told → Tags
tags_after g t =
    cond (is_refused t.entry) g (cond (sends_setpoint t) (sent_tags g) ((asks t.entry.before t.entry.call).tags g))

unfoldable pub tags_since : Tags → List Told → Tags
tags_since g [] = g
tags_since g (t ∷ ts) = tags_since (tags_after g t) ts

-- of an opening and a list of calls
abbrev pub tags_over : ℕ → ℕ → List ℕ → List ℕ → List ChannelCall → Tags
tags_over n m setpoints readbacks ks = tags_since opened_tags (told_of (one_channel n m setpoints readbacks) ks)

-- a channel holds what is told, of its last send where there is one since idle; 20–2C read so; and there is no tag on a disarmed channel
pub record HoldsTags (o : OneChannel) (g : Tags) : Type 0 where
  pub armed : o.channel.sequencer.armed ≡ g.armed
  pub registers : (i : ℕ) → i < 7 → response o (read_register (0x20 + i * 2)) ≡ value (get_or g.events i 0)
  pub tag : o.channel.sequencer.tag ≡ g.tag
  pub tagged : IsSome o.channel.sequencer.last → (send_of o.channel.sequencer.last).tagged ≡ g.tagged
  pub only_armed : g.tag ≡ true → g.armed ≡ true

-- from an opening, after any list of calls
abbrev pub TagsTold : Type 0
TagsTold =
    (n m : ℕ) (setpoints readbacks : List ℕ) (ks : List ChannelCall)
    → HoldsTags (transitions (one_channel n m setpoints readbacks) ks) (tags_over n m setpoints readbacks ks)

-- ---- The words

-- of each reply kept for a setpoint send, whether that send used a tag; by groups, as the words are (specs/Keeping)
unfoldable pub marks_since : Tags → Groups Bool → List Told → Groups Bool
marks_since g marks [] = marks
marks_since g marks (t ∷ ts) =
    marks_since (tags_after g t) (groups_after marks (map (λ (word : ℕ). g.tagged) (stored_by t)) t.entry) ts

-- of an opening and a list of calls
abbrev pub marks_over : ℕ → ℕ → List ℕ → List ℕ → List ChannelCall → Groups Bool
marks_over n m setpoints readbacks ks = marks_since opened_tags nothing_kept (told_of (one_channel n m setpoints readbacks) ks)

-- D25 of each word
abbrev pub marks_in : List ℕ → List Bool
marks_in = map (λ (word : ℕ). bit_at word 25)

-- "Replies kept for that send have D25 set; the send after it ends the mark.": from an opening, after any list of calls, D25 is set exactly in the words of
-- the replies kept for a send that used a tag, of the current group and of the retired one
abbrev pub MarksKept : Type 0
MarksKept =
    (n m : ℕ) (setpoints readbacks : List ℕ) (ks : List ChannelCall)
    → (marks_in (kept_over n m setpoints readbacks ks).current ≡ (marks_over n m setpoints readbacks ks).current)
    × (marks_in (kept_over n m setpoints readbacks ks).retired ≡ (marks_over n m setpoints readbacks ks).retired)

-- so in what retired readbacks answers, which has a word for each of them: "the count alone says where a retired part ends"
pub record MarkedPart (o : OneChannel) (m : ℕ) (marks : List Bool) : Type 0 where
  pub words : List ℕ
  pub answers : response o (query retired m m) ≡ part words
  pub marked : marks_in words ≡ marks
  pub counted : response o (query retired_length m m) ≡ part_length (length marks)

-- from an opening of a fitting length, after any list of calls, lent what fits
abbrev pub MarksRetired : Type 0
MarksRetired =
    (n m : ℕ) (setpoints readbacks : List ℕ) → length readbacks ≡ m * 2 → (ks : List ChannelCall)
    → MarkedPart (transitions (one_channel n m setpoints readbacks) ks) m (marks_over n m setpoints readbacks ks).retired
