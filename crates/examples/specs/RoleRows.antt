-- Document 02, card 9, on a board of depths 1 and 1 with zeroed words: what each role is answered. A role is the card's seat.
use Rattle.std.specs.Prelude.{◌≡◌, Bool, true, false, [], ◌∷◌, replicate}
use Rattle.channel_core.specs.Answers.{value, frame, done, none, unsolicited, part, part_length}
use Rattle.channel.specs.OneChannel.{retired, retired_length, readings, portion, portion_length}
use Rattle.permissions.specs.declared.Role.{Role}
use Rattle.permissions.specs.declared.Role.TheVariants as role
use Rattle.permissions.specs.declared.ChannelRights.{ChannelRights}
use Rattle.permissions.specs.declared.BoardRights.{BoardRights}
use Rattle.permissions.specs.Rights.{rights}
use Rattle.board.specs.Answers.{BoardAnswer, one, each}
use Rattle.board.specs.Worlds.{World}
use Rattle.isolation.specs.Calls.{Call, write_register, read_register, write_setpoint, arm, disarm, open_download, reply, query, tick, event, change_user, interrupt_level, Lent, words, buffers, given, opening}
use Rattle.access_control.specs.Guarding.{refused_by, guarded_answer, guarded_step}

-- the candidate may neither read nor write channel 1, both channel 2, read channel 3 and write channel 4; the watcher may read channel 1, neither channel 2,
-- write channel 3 and both channel 4
abbrev pub at_channel : (candidate_reads candidate_writes watcher_reads watcher_writes : Bool) → ChannelRights
at_channel cr cw wr ww = record { candidate = rights cr cw; watcher = rights wr ww }

abbrev pub rights_given : BoardRights
rights_given =
    record {
      channels = at_channel false false true false ∷ at_channel true true false false ∷ at_channel true false false true ∷ at_channel false true true true ∷ [];
    }

abbrev pub opened : World
opened = opening 1 1 (replicate 64 0) (replicate 8 0)

-- a call by a role, lent the memory as those before it left it
abbrev pub called : World → Role → Call → World
called w p x = guarded_step rights_given w (record { role = p; item = record { call = x; lent = given w x } })

-- what a role is answered in a world, lent that memory; and in the world opened
abbrev pub answered_in : World → Role → Call → BoardAnswer
answered_in w p x = guarded_answer rights_given p w.board x (given w x)

abbrev pub asks : Role → Call → BoardAnswer
asks p x = answered_in opened p x

-- lent this instead
abbrev pub asks_lent : Role → Call → Lent → BoardAnswer
asks_lent p x l = guarded_answer rights_given p opened.board x l

abbrev pub candidate : Call → BoardAnswer
candidate x = asks role.Candidate x

abbrev pub watcher : Call → BoardAnswer
watcher x = asks role.Watcher x

abbrev pub examiner : Call → BoardAnswer
examiner x = asks role.Examiner x

abbrev pub denied : BoardAnswer
denied = refused_by 13

-- channel 1 armed, and a command frame waiting in it: the next tick sends it
abbrev pub waiting : World
waiting = called (called opened role.Examiner (arm 1)) role.Examiner (write_register 0x8fc 1)

abbrev pub sent : BoardAnswer
sent = each (frame 3) none none none

abbrev pub silent : BoardAnswer
silent = each none none none none

pub record RoleRows : Type 0 where
  -- "Setpoint writes, register writes, arming, disarming and replies need the write right."
  pub write_none : candidate (write_register 0x800 1) ≡ denied
  pub write_read_alone : candidate (write_register 0x1800 1) ≡ denied
  pub write_alone : candidate (write_register 0x2000 1) ≡ one done
  pub write_both : candidate (write_register 0x1000 1) ≡ one done
  pub write_watcher : watcher (write_register 0x1800 1) ≡ one done
  pub setpoint_read_alone : candidate (write_setpoint 3 1 1 0 5) ≡ denied
  pub setpoint_write_alone : candidate (write_setpoint 4 1 1 0 5) ≡ one done
  pub arm_denied : candidate (arm 1) ≡ denied
  pub arm_read_alone : candidate (arm 3) ≡ denied
  pub arm_granted : candidate (arm 4) ≡ one done
  pub disarm_denied : watcher (disarm 1) ≡ denied
  pub disarm_granted : watcher (disarm 3) ≡ one done
  pub reply_denied : candidate (reply 3 3) ≡ denied
  pub reply_granted : candidate (reply 4 3) ≡ one unsolicited
  -- "Register reads, voltages, retired parts and downloads need the read right"
  pub read_denied : candidate (read_register 0x2014) ≡ denied
  pub read_granted : candidate (read_register 0x1814) ≡ one (value 0)
  pub read_watcher : watcher (read_register 0x814) ≡ one (value 0)
  pub retired_denied : candidate (query 4 retired) ≡ denied
  pub retired_granted : candidate (query 3 retired) ≡ one (part [])
  pub length_denied : watcher (query 2 retired_length) ≡ denied
  pub length_granted : watcher (query 4 retired_length) ≡ one (part_length 0)
  pub readings_denied : watcher (query 3 readings) ≡ denied
  pub download_denied : candidate (open_download 1) ≡ denied
  pub download_write_alone : candidate (open_download 4) ≡ denied
  pub download_granted : candidate (open_download 3) ≡ one (part_length 0)
  pub portion_granted : answered_in (called opened role.Candidate (open_download 3)) role.Candidate (query 3 (portion 0 0)) ≡ one (part [])
  pub portion_write_alone : answered_in (called opened role.Examiner (open_download 4)) role.Candidate (query 4 (portion_length 0 0)) ≡ denied
  -- "reading 02, 04 or 0C needs both, as it clears"
  pub clear_read_alone : candidate (read_register 0x1802) ≡ denied
  pub clear_polling : candidate (read_register 0x1804) ≡ denied
  pub clear_missing : candidate (read_register 0x180c) ≡ denied
  pub clear_write_alone : candidate (read_register 0x2002) ≡ denied
  pub clear_both : candidate (read_register 0x1002) ≡ one (value 0)
  pub clear_both_missing : watcher (read_register 0x200c) ≡ one (value 0)
  pub not_clear : candidate (read_register 0x180e) ≡ one (value 0)
  -- "Main registers, user changes and the interrupt level are the examiner's."
  pub main_read_lem : candidate (read_register 0x22) ≡ denied
  pub main_write : watcher (write_register 0x22 1) ≡ denied
  pub main_status_lem : watcher (read_register 0x2a) ≡ denied
  pub main_examiner : examiner (read_register 0x28) ≡ one (value 0x800)
  pub user_denied : candidate (change_user 2) ≡ denied
  pub user_examiner : examiner (change_user 2) ≡ one done
  pub level_candidate : candidate interrupt_level ≡ denied
  pub level_watcher : watcher interrupt_level ≡ denied
  pub level_examiner : examiner interrupt_level ≡ one (value 0)
  -- "Ticks and events are the examiner's and the candidate's"
  pub tick_watcher : watcher tick ≡ denied
  pub tick_candidate : candidate tick ≡ silent
  pub event_watcher : watcher (event 5) ≡ denied
  pub event_candidate : candidate (event 5) ≡ one done
  -- "checked once 1, 3 and the channel have passed": 1
  pub length_first : asks_lent role.Candidate (write_register 0x800 1) (words []) ≡ refused_by 1
  pub tick_length_first : asks_lent role.Watcher tick (words []) ≡ refused_by 1
  pub buffers_first : asks_lent role.Candidate (query 1 retired_length) (buffers [] []) ≡ refused_by 1
  -- 3, for everybody
  pub unmapped_first : candidate (read_register 0x816) ≡ refused_by 3
  pub unmapped_main : watcher (read_register 0x20) ≡ refused_by 3
  pub outside : candidate (read_register 0x2800) ≡ refused_by 3
  -- the channel
  pub channel_first : candidate (arm 5) ≡ refused_by 2
  pub channel_zero : watcher (query 0 retired) ≡ refused_by 2
  -- "before all else": 2 of a user, an index and a range, 4, 5, 7, 10, 12; the examiner is answered these
  pub before_user : candidate (change_user 9) ≡ denied
  pub after_user : examiner (change_user 9) ≡ refused_by 2
  pub before_index : candidate (write_setpoint 1 1 1 1 5) ≡ denied
  pub after_index : examiner (write_setpoint 1 1 1 1 5) ≡ refused_by 2
  pub before_access : candidate (write_register 0x802 1) ≡ denied
  pub after_access : examiner (write_register 0x802 1) ≡ refused_by 4
  pub before_read_access : candidate (read_register 0x806) ≡ denied
  pub after_read_access : examiner (read_register 0x806) ≡ refused_by 4
  pub before_clock : candidate (write_register 0x80a 4) ≡ denied
  pub after_clock : examiner (write_register 0x80a 4) ≡ refused_by 5
  pub before_framing : candidate (reply 1 0) ≡ denied
  pub after_framing : examiner (reply 1 0) ≡ refused_by 7
  pub before_idle : candidate (write_register 0x8fc 1) ≡ denied
  pub after_idle : examiner (write_register 0x8fc 1) ≡ refused_by 10
  pub before_download : candidate (query 1 (portion 0 0)) ≡ denied
  pub after_download : examiner (query 1 (portion 0 0)) ≡ refused_by 12
  pub before_range : answered_in (called opened role.Examiner (open_download 1)) role.Candidate (query 1 (portion_length 0 1)) ≡ denied
  pub after_range : answered_in (called opened role.Examiner (open_download 1)) role.Examiner (query 1 (portion_length 0 1)) ≡ refused_by 2
  -- 6, of an armed channel's active buffer
  pub before_active : answered_in (called opened role.Examiner (arm 1)) role.Candidate (write_setpoint 1 1 1 0 5) ≡ denied
  pub after_active : answered_in (called opened role.Examiner (arm 1)) role.Examiner (write_setpoint 1 1 1 0 5) ≡ refused_by 6
  -- "a tick's answer shows a seat only channels it may read": the same tick, by the examiner and by the candidate, who can't read channel 1
  pub frame_shown : answered_in waiting role.Examiner tick ≡ sent
  pub frame_hidden : answered_in waiting role.Candidate tick ≡ silent
  -- "a frame that a tick doesn't show still counts as sent": after the candidate's tick it waits no longer
  pub sent_unseen : answered_in (called waiting role.Candidate tick) role.Examiner tick ≡ silent
  -- two sittings that differ in calls naming channel 1: the candidate is answered the same, the examiner is not
  pub alike : answered_in opened role.Candidate tick ≡ answered_in waiting role.Candidate tick
  pub unlike : answered_in opened role.Examiner tick ≡ silent
  -- a refused call changes nothing, and nothing changes the rights: a reset, a Group End, a user change
  pub refused_stays : answered_in (called waiting role.Candidate (disarm 1)) role.Examiner tick ≡ sent
  pub reset_stays : answered_in (called opened role.Examiner (write_register 0x806 1)) role.Candidate (arm 1) ≡ denied
  pub reset_keeps : answered_in (called opened role.Examiner (write_register 0x1006 1)) role.Candidate (arm 2) ≡ one done
  pub group_end_stays : answered_in (called opened role.Examiner (write_register 0x808 4)) role.Candidate (query 1 retired) ≡ denied
  pub user_stays : answered_in (called opened role.Examiner (change_user 2)) role.Watcher (read_register 0x814) ≡ one (value 0)
