-- Document 02, card 3, on readback depths 1, 2 and 3: which replies are kept, what the channel's words are after a Group End, and what is retired. The
-- replies, frames of ID and data 0 with their CRC right, are to the first word of a function, which is not its last.
use Rattle.std.specs.Prelude.{◌≡◌, List, [], ◌∷◌, ◌++◌, replicate, ℕ, ◌*◌}
use Rattle.channel_core.specs.Answers.{Answer, value, kept, lost, unsolicited, part, part_length}
use Rattle.channel.specs.OneChannel.{ChannelCall, write_register, read_register, arm, disarm, reply, query, retired, retired_length, tick, event, response}
use Rattle.examples.specs.Reached.{led_at}

-- with depth M a register write is lent 8 × M words, and so is a reply
abbrev pub write : (m offset word : ℕ) → ChannelCall
write m offset word = write_register (m * 8) offset word

-- clock code 3, armed and started, and the first word sent
abbrev pub sent : ℕ → List ChannelCall
sent m = write m 0x0a 3 ∷ arm ∷ write m 0x08 1 ∷ replicate 10 (tick 128)

-- and so many replies
abbrev pub replied : (m replies : ℕ) → List ChannelCall
replied m replies = sent m ++ replicate replies (reply (m * 8) 3)

-- Commands with D2
abbrev pub group_end : ℕ → ChannelCall
group_end m = write m 0x08 4

-- what a reply is answered after these calls, and all of the channel's words
abbrev pub answers_reply : ℕ → List ChannelCall → Answer
answers_reply m calls = response (led_at m calls) (reply (m * 8) 3)

abbrev pub words_after : ℕ → List ChannelCall → List ℕ
words_after m calls = (led_at m calls).readbacks

-- what retired readbacks and its twin answer
abbrev pub retired_after : ℕ → List ChannelCall → Answer
retired_after m calls = response (led_at m calls) (query retired m m)

abbrev pub length_after : ℕ → List ChannelCall → Answer
length_after m calls = response (led_at m calls) (query retired_length m m)

-- the word that is stored for such a reply, and the end word
abbrev pub readback : ℕ
readback = 0x80000000

abbrev pub end_word : ℕ
end_word = 0x2000000

pub record EndWordRows : Type 0 where
  -- "With M = 1 a buffer takes only the end word.": every reply that is due is lost, the seventh is unasked, and each Group End writes the one word
  -- of the buffer that it retires
  pub one_lost : answers_reply 1 (replied 1 0) ≡ lost
  pub one_sixth : answers_reply 1 (replied 1 5) ≡ lost
  pub one_seventh : answers_reply 1 (replied 1 6) ≡ unsolicited
  pub one_before : words_after 1 (replied 1 6) ≡ 0 ∷ 0 ∷ []
  pub one_ended : words_after 1 (replied 1 6 ++ (group_end 1 ∷ [])) ≡ end_word ∷ 0 ∷ []
  pub one_twice : words_after 1 (replied 1 6 ++ (group_end 1 ∷ group_end 1 ∷ [])) ≡ end_word ∷ end_word ∷ []
  pub one_retired : retired_after 1 (replied 1 6 ++ (group_end 1 ∷ [])) ≡ part []
  pub one_length : length_after 1 (replied 1 6 ++ (group_end 1 ∷ [])) ≡ part_length 0
  -- a reply to a command frame needs no space
  pub one_command : answers_reply 1 (arm ∷ write 1 0xfc 1 ∷ tick 128 ∷ []) ≡ kept
  -- "A buffer of depth M takes M − 1 readbacks and the next is lost.", and counts among the six
  pub two_kept : answers_reply 2 (replied 2 0) ≡ kept
  pub two_lost : answers_reply 2 (replied 2 1) ≡ lost
  pub two_sixth : answers_reply 2 (replied 2 5) ≡ lost
  pub two_seventh : answers_reply 2 (replied 2 6) ≡ unsolicited
  pub three_kept : answers_reply 3 (replied 3 1) ≡ kept
  pub three_lost : answers_reply 3 (replied 3 2) ≡ lost
  -- full, its end word stands in the last place; "The retired part still excludes the end word."
  pub two_full : words_after 2 (replied 2 2 ++ (group_end 2 ∷ [])) ≡ readback ∷ end_word ∷ 0 ∷ 0 ∷ []
  pub three_full : words_after 3 (replied 3 2 ++ (group_end 3 ∷ [])) ≡ readback ∷ readback ∷ end_word ∷ 0 ∷ 0 ∷ 0 ∷ []
  pub three_retired : retired_after 3 (replied 3 2 ++ (group_end 3 ∷ [])) ≡ part (readback ∷ readback ∷ [])
  pub three_length : length_after 3 (replied 3 2 ++ (group_end 3 ∷ [])) ≡ part_length 2
  -- with space left it stands after the stored ones, and with none stored at the start
  pub three_space : words_after 3 (replied 3 1 ++ (group_end 3 ∷ [])) ≡ readback ∷ end_word ∷ 0 ∷ 0 ∷ 0 ∷ 0 ∷ []
  pub three_none : words_after 3 (group_end 3 ∷ []) ≡ end_word ∷ 0 ∷ 0 ∷ 0 ∷ 0 ∷ 0 ∷ []
  -- by the Group End event too, with a Start in the same command, and disarmed
  pub by_event : words_after 2 (write 2 0x2a 0x105 ∷ (replied 2 2 ++ (event 16 5 ∷ []))) ≡ readback ∷ end_word ∷ 0 ∷ 0 ∷ []
  pub with_start : words_after 2 (replied 2 2 ++ (write 2 0x08 5 ∷ [])) ≡ readback ∷ end_word ∷ 0 ∷ 0 ∷ []
  pub disarmed : words_after 2 (replied 2 2 ++ (disarm ∷ group_end 2 ∷ [])) ≡ readback ∷ end_word ∷ 0 ∷ 0 ∷ []
  -- it stays while the other buffer fills; the next group of its own buffer writes over it, and leaves its end word in turn
  pub other_fills : words_after 2 (group_end 2 ∷ replied 2 2) ≡ end_word ∷ 0 ∷ readback ∷ 0 ∷ []
  pub overwritten : words_after 2 (group_end 2 ∷ group_end 2 ∷ replied 2 2) ≡ readback ∷ 0 ∷ end_word ∷ 0 ∷ []
  pub again : words_after 2 (group_end 2 ∷ group_end 2 ∷ (replied 2 2 ++ (group_end 2 ∷ []))) ≡ readback ∷ end_word ∷ end_word ∷ 0 ∷ []
  -- a reset writes none; it makes buffer 1 the active one, where the next readback goes, and the end word of buffer 2 stays
  pub reset_none : words_after 2 (replied 2 2 ++ (write 2 0x06 1 ∷ [])) ≡ readback ∷ 0 ∷ 0 ∷ 0 ∷ []
  pub reset_first : words_after 2 (group_end 2 ∷ write 2 0x06 1 ∷ replied 2 2) ≡ readback ∷ 0 ∷ 0 ∷ 0 ∷ []
  pub reset_stays : words_after 2 (group_end 2 ∷ group_end 2 ∷ write 2 0x06 1 ∷ replied 2 2) ≡ readback ∷ 0 ∷ end_word ∷ 0 ∷ []
  -- lost replies are replies: none is missing after six (card 2), and five after one
  pub none_missing : response (led_at 1 (write 1 0x14 0x15 ∷ (replied 1 6 ++ replicate 10 (tick 128)))) (read_register 0x0c) ≡ value 0
  pub five_missing : response (led_at 1 (write 1 0x14 0x15 ∷ (replied 1 1 ++ replicate 10 (tick 128)))) (read_register 0x0c) ≡ value 5
