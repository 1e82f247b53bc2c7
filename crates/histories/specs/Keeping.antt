-- Document 01, 'A channel's life': "Retired readbacks: .. the answer is the stored part of the inactive one itself, by count, without the end word."
-- Stated over what replies were answered: what is stored are the words of those answered kept, in the order they came, but for those to E4–FA.
use Rattle.std.specs.Prelude.{ℕ, ◌*◌, ◌≡◌, cond, not, ◌&&◌, List, [], ◌∷◌, ◌++◌, length}
use Rattle.command_frames.specs.Commanding.{takes}
use Rattle.channel_core.specs.Answers.{part, part_length}
use Rattle.channel.specs.OneChannel.{ChannelCall, one_channel, response, transitions}
use Rattle.channel.specs.OneChannel as call
use Rattle.histories.specs.History.{is_kept, Entry, Told, told_of, asks, ends_group, resets}

-- what a call stores: the word of a reply that was answered kept; one lost or unsolicited stores nothing, nor does one that goes to E4–FA
abbrev pub stored_by : Told → List ℕ
stored_by t = cond (is_kept t.entry.answer && not (takes t.commands)) (asks t.entry.before t.entry.call).word []

-- something of each reply kept since the last Group End, reset or opening; and of those kept before that Group End, from the one before it,
-- from a reset or from the opening on. With no Group End since a reset or the opening there are none of the latter.
pub record Groups (A : Type 0) : Type 0 where
  pub current : List A
  pub retired : List A

-- of each such reply, its word
abbrev pub Kept : Type 0
Kept = Groups ℕ

module _ {A : Type 0} where
  -- "no readbacks"
  abbrev pub nothing_kept : Groups A
  nothing_kept = record { current = []; retired = [] }

  -- "readback buffers switch, the new one empty"
  abbrev pub switched : Groups A → Groups A
  switched g = record { current = []; retired = g.current }

  abbrev pub kept_with : Groups A → List A → Groups A
  kept_with g more = record { current = g.current ++ more; retired = g.retired }

  -- a Group End, though its event or command may then start the channel again; "Reset D0 returns that channel to its opening state"; what comes of a
  -- kept reply goes after what was there before it
  abbrev pub groups_after : Groups A → List A → Entry → Groups A
  groups_after g more e = cond (resets e) nothing_kept (cond (ends_group e) (switched g) (kept_with g more))

-- nothing but a kept reply stores a word: the end word is none of them
abbrev pub kept_after : Kept → Told → Kept
kept_after g t = groups_after g (stored_by t) t.entry

unfoldable pub kept_since : Kept → List Told → Kept
kept_since g [] = g
kept_since g (t ∷ ts) = kept_since (kept_after g t) ts

-- of an opening and a list of calls
abbrev pub kept_over : ℕ → ℕ → List ℕ → List ℕ → List ChannelCall → Kept
kept_over n m setpoints readbacks ks = kept_since nothing_kept (told_of (one_channel n m setpoints readbacks) ks)

-- from an opening, after any list of calls, "both stored readback counts" are the numbers of replies that were answered kept, but for those to E4–FA
abbrev pub CountsKept : Type 0
CountsKept =
    (n m : ℕ) (setpoints readbacks : List ℕ) (ks : List ChannelCall)
    → ((transitions (one_channel n m setpoints readbacks) ks).channel.readbacks.stored ≡ length (kept_over n m setpoints readbacks ks).current)
    × ((transitions (one_channel n m setpoints readbacks) ks).channel.readbacks.retired ≡ length (kept_over n m setpoints readbacks ks).retired)

-- from an opening of a fitting length, after any list of calls, retired readbacks, lent what fits, answers the words of the replies that were
-- answered kept before the last Group End, and its twin how many they are
abbrev pub RetiresKept : Type 0
RetiresKept =
    (n m : ℕ) (setpoints readbacks : List ℕ) → length readbacks ≡ m * 2 → (ks : List ChannelCall)
    → (response (transitions (one_channel n m setpoints readbacks) ks) (call.query call.retired m m) ≡ part (kept_over n m setpoints readbacks ks).retired)
    × (response (transitions (one_channel n m setpoints readbacks) ks) (call.query call.retired_length m m)
    ≡ part_length (length (kept_over n m setpoints readbacks ks).retired))
