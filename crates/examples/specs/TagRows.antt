-- Document 02, card 6, on a function of three words sent every 10 ticks: the first is sent on tick 10, the second is none of first, paused and last, and the
-- third is repeated. Replies are frames of ID and data 0 with their CRC right, so that a word has only the bits that tell of its send.
use Rattle.std.specs.Prelude.{◌≡◌, List, [], ◌∷◌, ◌++◌, take, replicate, ℕ}
use Rattle.channel_core.specs.Answers.{Answer, value, part, part_length}
use Rattle.channel.specs.OneChannel.{OneChannel, ChannelCall, one_channel, write_register, read_register, write_setpoint, arm, disarm, reply, query, retired, retired_length, tick, event, change_user, transitions, response}

-- opened with depths 3 and 8 and zeroed words, clock code 3, the Tag event's code 7, armed
abbrev pub ready : List ChannelCall
ready = write_register 64 0x0a 3 ∷ write_register 64 0x2c 0x107 ∷ arm ∷ []

abbrev pub led : List ChannelCall → OneChannel
led calls = transitions (one_channel 3 8 (replicate 48 0) (replicate 16 0)) (ready ++ calls)

-- Commands: D0 Start, D2 Group End, D3 Tag
abbrev pub command : ℕ → ChannelCall
command bits = write_register 64 0x08 bits

abbrev pub start : ChannelCall
start = command 1

abbrev pub group_end : ChannelCall
group_end = command 4

abbrev pub tag : ChannelCall
tag = command 8

-- the next send, and then these calls
abbrev pub next : List ChannelCall → List ChannelCall
next calls = replicate 10 (tick 192) ++ calls

-- the next send, and one reply
abbrev pub replied : List ChannelCall
replied = next (reply 64 3 ∷ [])

-- so for each of the three words, and for the first repeat of the last
abbrev pub function : List ChannelCall
function = start ∷ (replied ++ (replied ++ (replied ++ replied)))

-- what is retired by a Group End after these calls
abbrev pub retired_by : List ChannelCall → Answer
retired_by calls = response (led (calls ++ (group_end ∷ []))) (query retired 8 8)

pub record TagRows : Type 0 where
  -- no tag; a tag on the idle channel, by command and by event; a second tag adds nothing; one with the Start
  pub none : retired_by function ≡ part (0x80000000 ∷ 0 ∷ 0x20000000 ∷ 0x20000000 ∷ [])
  pub by_command : retired_by (tag ∷ function) ≡ part (0x82000000 ∷ 0 ∷ 0x20000000 ∷ 0x20000000 ∷ [])
  pub by_event : retired_by (event 64 7 ∷ function) ≡ part (0x82000000 ∷ 0 ∷ 0x20000000 ∷ 0x20000000 ∷ [])
  pub twice : retired_by (tag ∷ tag ∷ function) ≡ part (0x82000000 ∷ 0 ∷ 0x20000000 ∷ 0x20000000 ∷ [])
  pub with_start : retired_by (command 9 ∷ (replied ++ replied)) ≡ part (0x82000000 ∷ 0 ∷ [])
  -- "User 1, ID 0, data 0, tagged, may equal the end word": the second word does, and the retired part goes on behind it, by its count
  pub like_end_lem : retired_by (start ∷ (replied ++ (tag ∷ (replied ++ (replied ++ replied)))))
      ≡ part (0x80000000 ∷ 0x2000000 ∷ 0x20000000 ∷ 0x20000000 ∷ [])
  pub like_end_length : response (led (start ∷ (replied ++ (tag ∷ (replied ++ (replied ++ (replied ++ (group_end ∷ []))))))))
      (query retired_length 8 8)
      ≡ part_length 4
  -- so too where it is the part's last, right before the end word
  pub like_end_last : retired_by (start ∷ (replied ++ (tag ∷ replied))) ≡ part (0x80000000 ∷ 0x2000000 ∷ [])
  pub like_end_words : take 4 (led (start ∷ (replied ++ (tag ∷ (replied ++ (group_end ∷ [])))))).readbacks ≡ 0x80000000 ∷ 0x2000000 ∷ 0x2000000 ∷ 0 ∷ []
  -- a tag between a send and its reply is for the next send
  pub before_reply : retired_by (start ∷ (next (tag ∷ reply 64 3 ∷ []) ++ (replied ++ replied))) ≡ part (0x80000000 ∷ 0x2000000 ∷ 0x20000000 ∷ [])
  -- a repeat uses it, and a repeat ends it; a tag for each of two sends
  pub by_repeat : retired_by (start ∷ (replied ++ (replied ++ (replied ++ (tag ∷ replied))))) ≡ part (0x80000000 ∷ 0 ∷ 0x20000000 ∷ 0x22000000 ∷ [])
  pub ended_by_repeat : retired_by (start ∷ (replied ++ (replied ++ (tag ∷ (replied ++ replied))))) ≡ part (0x80000000 ∷ 0 ∷ 0x22000000 ∷ 0x20000000 ∷ [])
  pub two_marks : retired_by (tag ∷ start ∷ (next (tag ∷ reply 64 3 ∷ []) ++ (replied ++ replied))) ≡ part (0x82000000 ∷ 0x2000000 ∷ 0x20000000 ∷ [])
  -- between two sends it moves none
  pub between : retired_by (start ∷ (replicate 15 (tick 192) ++ (tag ∷ (replicate 5 (tick 192) ++ (reply 64 3 ∷ []))))) ≡ part (0x2000000 ∷ [])
  -- every reply to the send has it, and the other bits are as they would be: ID 15h, data 1234h; a wrong CRC, D24; a paused word
  pub each_reply : retired_by (tag ∷ start ∷ next (reply 64 3 ∷ reply 64 3 ∷ [])) ≡ part (0x82000000 ∷ 0x82000000 ∷ [])
  pub fields : retired_by (tag ∷ start ∷ next (reply 64 0x5448d00317 ∷ [])) ≡ part (0x82151234 ∷ [])
  pub wrong_crc : retired_by (tag ∷ start ∷ next (reply 64 7 ∷ [])) ≡ part (0x83000000 ∷ [])
  pub paused : retired_by (disarm ∷ write_setpoint 192 1 1 0 0x10000 ∷ arm ∷ start ∷ (replied ++ (tag ∷ (replied ++ replied))))
      ≡ part (0xc0000000 ∷ 0x42000000 ∷ 0x40000000 ∷ [])
  -- "Group End, disarm and reset drop a tag not yet used."; "Tag acts last within one event or command."
  pub group_end_lem : retired_by (tag ∷ group_end ∷ function) ≡ part (0x80000000 ∷ 0 ∷ 0x20000000 ∷ 0x20000000 ∷ [])
  pub after_group_end : retired_by (command 12 ∷ function) ≡ part (0x82000000 ∷ 0 ∷ 0x20000000 ∷ 0x20000000 ∷ [])
  pub same_code : retired_by (write_register 64 0x2a 0x107 ∷ event 64 7 ∷ function) ≡ part (0x82000000 ∷ 0 ∷ 0x20000000 ∷ 0x20000000 ∷ [])
  pub disarmed : retired_by (tag ∷ disarm ∷ arm ∷ function) ≡ part (0x80000000 ∷ 0 ∷ 0x20000000 ∷ 0x20000000 ∷ [])
  pub reset : retired_by (tag ∷ write_register 64 0x06 1 ∷ (ready ++ function)) ≡ part (0x80000000 ∷ 0 ∷ 0x20000000 ∷ 0x20000000 ∷ [])
  -- "on an armed channel"; a code that is not active
  pub while_disarmed : retired_by (disarm ∷ tag ∷ event 64 7 ∷ arm ∷ function) ≡ part (0x80000000 ∷ 0 ∷ 0x20000000 ∷ 0x20000000 ∷ [])
  pub not_active : retired_by (write_register 64 0x2c 0x007 ∷ event 64 7 ∷ function) ≡ part (0x80000000 ∷ 0 ∷ 0x20000000 ∷ 0x20000000 ∷ [])
  -- a user change and a restart leave it; a restart's first send ends a mark, and in its start delay replies have the mark of the send before
  pub user_changed_lem : retired_by (tag ∷ change_user 2 ∷ function) ≡ part (0x86000000 ∷ 0x4000000 ∷ 0x24000000 ∷ 0x24000000 ∷ [])
  pub restarted : retired_by (start ∷ tag ∷ function) ≡ part (0x82000000 ∷ 0 ∷ 0x20000000 ∷ 0x20000000 ∷ [])
  pub ended_by_restart : retired_by (tag ∷ start ∷ next (start ∷ replied)) ≡ part (0x80000000 ∷ [])
  pub reply_in_start_delay : retired_by (tag ∷ start ∷ next (start ∷ reply 64 3 ∷ replied)) ≡ part (0x82000000 ∷ 0x80000000 ∷ [])
  -- a command frame neither uses nor ends it, and its own reply has no mark
  pub command_frame_lem : retired_by (tag ∷ write_register 64 0xfc 1 ∷ tick 192 ∷ reply 64 3 ∷ function) ≡ part (0x82000000 ∷ 0 ∷ 0x20000000 ∷ 0x20000000 ∷ [])
  pub command_reply_lem : response (led (tag ∷ write_register 64 0xfc 1 ∷ tick 192 ∷ reply 64 7 ∷ [])) (read_register 0xe4) ≡ value 0x100
  -- 2C keeps 9 bits, and reset clears it
  pub register : response (led (write_register 64 0x2c 0xffff ∷ [])) (read_register 0x2c) ≡ value 0x1ff
  pub register_reset : response (led (write_register 64 0x06 1 ∷ [])) (read_register 0x2c) ≡ value 0
