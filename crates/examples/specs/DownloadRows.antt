-- Document 02, card 8, on readback depths 8 and 1: what opening a download and its portions answer. Three replies to the first word of a function, of ID 0,
-- are retired by a Group End.
use Rattle.std.specs.Prelude.{◌≡◌, List, [], ◌∷◌, ◌++◌, replicate, ℕ}
use Rattle.channel_core.specs.Answers.{Answer, refused, part, part_length}
use Rattle.channel.specs.OneChannel.{ChannelCall, write_register, arm, disarm, open_download, query, portion, portion_length, tick, event, change_user, response}
use Rattle.examples.specs.Reached.{led_at}
use Rattle.examples.specs.EndWordRows.{write, sent, replied, group_end}
use Rattle.examples.specs.TagRows as tags
use Rattle.examples.specs.ReadingRows.{nought, lowest, highest, minus_one, replies}

-- the words stored for them, and for one of FFFFh
abbrev pub first_word : ℕ
first_word = 0x80000000

abbrev pub second_word : ℕ
second_word = 0x80008000

abbrev pub third_word : ℕ
third_word = 0x80007fff

abbrev pub next_word : ℕ
next_word = 0x8000ffff

-- three readbacks retired; and a download opened
abbrev pub retired_three : List ChannelCall
retired_three = sent 8 ++ (replies 8 (nought ∷ lowest ∷ highest ∷ []) ++ (group_end 8 ∷ []))

abbrev pub opened : List ChannelCall
opened = retired_three ++ (open_download ∷ [])

-- the next function, with four replies kept
abbrev pub next_function : List ChannelCall
next_function = sent 8 ++ replies 8 (minus_one ∷ minus_one ∷ minus_one ∷ minus_one ∷ [])

-- four readbacks retired, the second of which is tagged and equals the end word
abbrev pub like_end : List ChannelCall
like_end =
    tags.start ∷ (tags.replied ++ (tags.tag ∷ (tags.replied ++ (tags.replied ++ (tags.replied ++ (tags.group_end ∷ open_download ∷ []))))))

-- what opening one answers after these calls; what a portion does, and the call beside it
abbrev pub opens : List ChannelCall → Answer
opens calls = response (led_at 8 calls) open_download

abbrev pub portion_after : List ChannelCall → (index size : ℕ) → Answer
portion_after calls index size = response (led_at 8 calls) (query (portion index size) 8 8)

abbrev pub length_after : List ChannelCall → (index size : ℕ) → Answer
length_after calls index size = response (led_at 8 calls) (query (portion_length index size) 8 8)

-- all three words of that download, after these calls
abbrev pub whole : List ChannelCall → Answer
whole calls = portion_after (opened ++ calls) 0 3

abbrev pub all_three : Answer
all_three = part (first_word ∷ second_word ∷ third_word ∷ [])

pub record DownloadRows : Type 0 where
  -- "Opening a download of a channel remembers the retired count and answers it."; with none retired it is 0
  pub opening : opens retired_three ≡ part_length 3
  pub opening_again : opens opened ≡ part_length 3
  pub opening_none : opens [] ≡ part_length 0
  pub opening_reset : opens (retired_three ++ (write 8 0x06 1 ∷ [])) ≡ part_length 0
  -- on depth 1, where every reply is lost
  pub opening_shallow : response (led_at 1 (replied 1 6 ++ (group_end 1 ∷ []))) open_download ≡ part_length 0
  pub nothing_shallow : response (led_at 1 (replied 1 6 ++ (group_end 1 ∷ open_download ∷ []))) (query (portion 0 0) 1 1) ≡ part []
  pub past_shallow : response (led_at 1 (replied 1 6 ++ (group_end 1 ∷ open_download ∷ []))) (query (portion 0 1) 1 1) ≡ refused 2
  -- "Portions give a first index and a length and return those words"
  pub whole_part : whole [] ≡ all_three
  pub front : portion_after opened 0 1 ≡ part (first_word ∷ [])
  pub middle : portion_after opened 1 1 ≡ part (second_word ∷ [])
  pub rest : portion_after opened 1 2 ≡ part (second_word ∷ third_word ∷ [])
  pub last : portion_after opened 2 1 ≡ part (third_word ∷ [])
  pub length : length_after opened 1 2 ≡ part_length 2
  -- by the count, also past a readback that equals the end word
  pub like_end_lem : response (tags.led like_end) (query (portion 1 2) 8 8) ≡ part (0x2000000 ∷ 0x20000000 ∷ [])
  -- "Length 0 is allowed.", up to the count
  pub nothing_first : portion_after opened 0 0 ≡ part []
  pub nothing_last : portion_after opened 3 0 ≡ part []
  pub nothing_past : portion_after opened 4 0 ≡ refused 2
  pub nothing_retired : portion_after (open_download ∷ []) 0 0 ≡ part []
  -- "A portion whose end is past the count is refused 2.", however large index and length are
  pub one_past : portion_after opened 0 4 ≡ refused 2
  pub past_from_1 : portion_after opened 1 3 ≡ refused 2
  pub past_from_3 : portion_after opened 3 1 ≡ refused 2
  pub past_none : portion_after (open_download ∷ []) 0 1 ≡ refused 2
  pub length_past : length_after opened 0 4 ≡ refused 2
  pub large_size : portion_after opened 1 0xffffffff ≡ refused 2
  pub large_index : portion_after opened 0xffffffff 1 ≡ refused 2
  pub both_large : portion_after opened 0x80000000 0x80000000 ≡ refused 2
  -- 12 with none open, of length 0 too
  pub none_open : portion_after [] 0 0 ≡ refused 12
  pub not_opened : portion_after retired_three 0 1 ≡ refused 12
  pub length_none : length_after retired_three 0 1 ≡ refused 12
  -- it comes before the range, and after the lengths of the two buffers
  pub range_later : portion_after retired_three 4 1 ≡ refused 12
  pub short_one : response (led_at 8 opened) (query (portion 0 4) 7 8) ≡ refused 1
  pub short_two : response (led_at 8 retired_three) (query (portion 0 1) 8 7) ≡ refused 1
  pub long_one : response (led_at 8 retired_three) (query (portion_length 4 1) 9 8) ≡ refused 1
  -- "while ticks, sends and replies go on": the next function, whose replies go to the other buffer, and its repeats; the count stays that of the opening
  pub started : whole (write 8 0x08 1 ∷ replicate 10 (tick 128)) ≡ all_three
  pub answered : whole next_function ≡ all_three
  pub answered_past : portion_after (opened ++ next_function) 0 4 ≡ refused 2
  pub answered_none : portion_after (open_download ∷ next_function) 0 1 ≡ refused 2
  pub repeated : whole (sent 8 ++ (replicate 25 (tick 128) ++ replies 8 (minus_one ∷ []))) ≡ all_three
  -- "Group End or reset on that channel ends the download.": while the next function runs, and on an idle channel with none stored; by command or event, with
  -- a Start too, disarmed too
  pub ended_running : whole (next_function ++ (group_end 8 ∷ [])) ≡ refused 12
  pub reset_running : whole (next_function ++ (write 8 0x06 1 ∷ [])) ≡ refused 12
  pub group_end_lem : whole (group_end 8 ∷ []) ≡ refused 12
  pub group_end_event_lem : whole (write 8 0x2a 0x105 ∷ event 64 5 ∷ []) ≡ refused 12
  pub group_end_start : whole (write 8 0x08 5 ∷ []) ≡ refused 12
  pub group_end_disarmed : whole (disarm ∷ group_end 8 ∷ []) ≡ refused 12
  pub reset : whole (write 8 0x06 1 ∷ []) ≡ refused 12
  -- nothing else does: arming, disarming, a change of user, another event, other commands, a write to Reset without D0, a Group End that is refused
  pub armed : whole (arm ∷ []) ≡ all_three
  pub disarmed : whole (next_function ++ (disarm ∷ [])) ≡ all_three
  pub user_changed_lem : whole (next_function ++ (change_user 2 ∷ [])) ≡ all_three
  pub other_event : whole (next_function ++ (write 8 0x2a 0x105 ∷ event 64 6 ∷ [])) ≡ all_three
  pub other_commands : whole (next_function ++ (write 8 0x08 0x0b ∷ [])) ≡ all_three
  pub no_reset : whole (next_function ++ (write 8 0x06 2 ∷ [])) ≡ all_three
  pub refused_end : whole (next_function ++ (write_register 63 0x08 4 ∷ [])) ≡ all_three
  -- opened again with no Group End between, it has the same words
  pub opened_twice : whole (next_function ++ (open_download ∷ [])) ≡ all_three
  -- opened after one, it is of what is retired then, here in buffer 2
  pub next_count : opens (opened ++ (next_function ++ (group_end 8 ∷ []))) ≡ part_length 4
  pub next_part : portion_after (opened ++ (next_function ++ (group_end 8 ∷ open_download ∷ []))) 2 2 ≡ part (next_word ∷ next_word ∷ [])
  pub next_past : portion_after (opened ++ (next_function ++ (group_end 8 ∷ open_download ∷ []))) 2 3 ≡ refused 2
