-- Document 02, card 10, on depths 2 and 1: what a channel says that its last tick did. With zeroed words a function has two, a plain one and the last.
-- Ticks are counted from the Start.
use Rattle.std.specs.Prelude.{◌≡◌, List, [], ◌∷◌, ◌++◌, replicate, ℕ, ◌-◌}
use Rattle.channel_core.specs.Results as reason
use Rattle.channel_core.specs.Answers.{Answer}
use Rattle.channel_core.specs.Answers as ans
use Rattle.channel.specs.OneChannel.{OneChannel, ChannelCall, write_register, read_register, write_setpoint, arm, disarm, open_download, reply, query, retired, last_tick, tick, event, change_user, write_main, read_main, transitions, response}
use Rattle.examples.specs.Reached.{led, starting, pausing}

-- what the call answers, after these calls on this channel
abbrev pub answers : OneChannel → List ChannelCall → Answer
answers o calls = response (transitions o calls) (query last_tick 0 0)

-- as opened; and armed, with clock code 3, whose period is 10
abbrev pub opened : OneChannel
opened = led []

abbrev pub armed : OneChannel
armed = led (write_register 8 0x0a 3 ∷ arm ∷ [])

abbrev pub write : (offset value : ℕ) → ChannelCall
write offset value = write_register 8 offset value

-- Commands with D0, and with D2
abbrev pub start : ChannelCall
start = write 0x08 1

abbrev pub group_end : ChannelCall
group_end = write 0x08 4

abbrev pub ticks : ℕ → List ChannelCall
ticks k = replicate k (tick 128)

-- a Start by command, so many ticks, and these calls
abbrev pub after_start : ℕ → List ChannelCall → Answer
after_start k calls = answers armed (start ∷ (ticks k ++ calls))

-- so too by event, with start delay 2
abbrev pub after_event : ℕ → List ChannelCall → Answer
after_event k calls = answers (starting 0 2) (event 8 0 ∷ (ticks k ++ calls))

-- the first word has pause 1: a Start by command, the word's send on tick 10, these calls, and the ticks up to this one
abbrev pub paused : (delay : ℕ) → List ChannelCall → ℕ → Answer
paused delay calls t = answers (pausing delay) (start ∷ (ticks 10 ++ (calls ++ ticks (t - 10))))

-- those calls being Resume 1's event
abbrev pub resumed : (delay : ℕ) → ℕ → Answer
resumed delay t = paused delay (event 8 1 ∷ []) t

-- card 1: a command frame's ID and data, a write to FC, and these calls
abbrev pub command_frame : (fc : ℕ) → List ChannelCall → List ChannelCall
command_frame fc calls = write 0xe0 0x115 ∷ write 0xe2 0x1234 ∷ write 0xfc fc ∷ calls

pub record LastTickRows : Type 0 where
  -- "no tick yet": opened, and after calls of which none is a tick
  pub opening : answers opened [] ≡ ans.last_tick reason.no_tick
  pub arm_alone : answers opened (arm ∷ []) ≡ ans.last_tick reason.no_tick
  pub start_alone : after_start 0 [] ≡ ans.last_tick reason.no_tick
  pub other_calls : answers armed
      (read_register 0x02 ∷ write_setpoint 128 1 2 0 5 ∷ open_download ∷ reply 8 3 ∷ query retired 1 1 ∷ group_end ∷ change_user 2 ∷ write_main 8 0x22 1 ∷ read_main 0x28 ∷ disarm ∷ [])
      ≡ ans.last_tick reason.no_tick
  -- a tick that is refused 1 is none
  pub refused_alone : answers armed (tick 127 ∷ []) ≡ ans.last_tick reason.no_tick
  -- "disarmed", a Start then does not work; "idle"
  pub tick_disarmed : answers opened (tick 128 ∷ []) ≡ ans.last_tick reason.disarmed
  pub start_disarmed : answers opened (start ∷ tick 128 ∷ []) ≡ ans.last_tick reason.disarmed
  pub tick_idle : answers armed (tick 128 ∷ []) ≡ ans.last_tick reason.idle
  -- "With start delay D, no command frame and only ticks after Start, ticks 1 to D are start delay, D + 1 to D + 9 are start gap, and D + 10 is sent.": by
  -- command, where D is 0, and by event, where it is 2
  pub start_tick_1 : after_start 1 [] ≡ ans.last_tick reason.start_gap
  pub start_tick_9 : after_start 9 [] ≡ ans.last_tick reason.start_gap
  pub start_tick_10 : after_start 10 [] ≡ ans.last_tick reason.sent
  pub event_tick_1 : after_event 1 [] ≡ ans.last_tick reason.start_delay
  pub event_tick_2 : after_event 2 [] ≡ ans.last_tick reason.start_delay
  pub event_tick_3 : after_event 3 [] ≡ ans.last_tick reason.start_gap
  pub event_tick_11 : after_event 11 [] ≡ ans.last_tick reason.start_gap
  pub event_tick_12 : after_event 12 [] ≡ ans.last_tick reason.sent
  -- "between clock edges": from the first word to the last, and between its repeats
  pub first_word_11 : after_start 11 [] ≡ ans.last_tick reason.between_edges
  pub first_word_19 : after_start 19 [] ≡ ans.last_tick reason.between_edges
  pub last_word_20 : after_start 20 [] ≡ ans.last_tick reason.sent
  pub last_word_21 : after_start 21 [] ≡ ans.last_tick reason.between_edges
  pub last_word_29 : after_start 29 [] ≡ ans.last_tick reason.between_edges
  pub repeat_30 : after_start 30 [] ≡ ans.last_tick reason.sent
  -- so too while a word is paused; Commands D1 does not resume pause 1
  pub paused_19 : paused 0 [] 19 ≡ ans.last_tick reason.between_edges
  pub not_resumed_11 : paused 0 (write 0x08 2 ∷ []) 11 ≡ ans.last_tick reason.between_edges
  -- document 01: "resume delay 25 then loaded: repeats on 20 and 30, next word on 45"; "A resume delay between repeats counts as between edges."; no repeat
  -- on 40
  pub resumed_11 : resumed 25 11 ≡ ans.last_tick reason.between_edges
  pub resumed_20 : resumed 25 20 ≡ ans.last_tick reason.sent
  pub resumed_30 : resumed 25 30 ≡ ans.last_tick reason.sent
  pub resumed_31 : resumed 25 31 ≡ ans.last_tick reason.between_edges
  pub resumed_35 : resumed 25 35 ≡ ans.last_tick reason.between_edges
  pub resumed_36 : resumed 25 36 ≡ ans.last_tick reason.resume_gap
  pub resumed_40 : resumed 25 40 ≡ ans.last_tick reason.resume_gap
  pub resumed_44 : resumed 25 44 ≡ ans.last_tick reason.resume_gap
  pub resumed_45 : resumed 25 45 ≡ ans.last_tick reason.sent
  -- "Delay 0: next on 20."
  pub at_once_11 : resumed 0 11 ≡ ans.last_tick reason.resume_gap
  pub at_once_19 : resumed 0 19 ≡ ans.last_tick reason.resume_gap
  pub at_once_20 : resumed 0 20 ≡ ans.last_tick reason.sent
  -- "The condition, save for no tick yet, is that of the state just before that tick.": what comes after it matters to the next
  pub then_armed : answers opened (tick 128 ∷ arm ∷ []) ≡ ans.last_tick reason.disarmed
  pub then_started : answers armed (tick 128 ∷ start ∷ []) ≡ ans.last_tick reason.idle
  pub then_resumed : resumed 25 10 ≡ ans.last_tick reason.sent
  pub then_disarmed : after_start 1 (disarm ∷ []) ≡ ans.last_tick reason.start_gap
  pub then_ended : after_start 1 (group_end ∷ []) ≡ ans.last_tick reason.start_gap
  pub then_user_changed : after_start 1 (change_user 2 ∷ []) ≡ ans.last_tick reason.start_gap
  pub disarmed_next : after_start 1 (disarm ∷ tick 128 ∷ []) ≡ ans.last_tick reason.disarmed
  pub ended_next : after_start 1 (group_end ∷ tick 128 ∷ []) ≡ ans.last_tick reason.idle
  pub user_changed_next : after_start 1 (change_user 2 ∷ tick 128 ∷ []) ≡ ans.last_tick reason.idle
  -- a restart has its own delay and gap
  pub restarted : after_start 15 (start ∷ tick 128 ∷ []) ≡ ans.last_tick reason.start_gap
  pub restarted_sent : after_start 15 (start ∷ ticks 10) ≡ ans.last_tick reason.sent
  pub restarted_event : after_event 12 (event 8 0 ∷ tick 128 ∷ []) ≡ ans.last_tick reason.start_delay
  -- "A command frame counts as sent.": on an idle channel, on a disarmed one after a Group End, and on the first tick after a Start
  pub frame_idle : answers armed (command_frame 1 (ticks 1)) ≡ ans.last_tick reason.sent
  pub frame_idle_next : answers armed (command_frame 1 (ticks 2)) ≡ ans.last_tick reason.idle
  pub frame_not_yet : answers opened (command_frame 2 (ticks 1)) ≡ ans.last_tick reason.disarmed
  pub frame_disarmed : answers opened (command_frame 2 (group_end ∷ ticks 1)) ≡ ans.last_tick reason.sent
  pub frame_disarmed_next : answers opened (command_frame 2 (group_end ∷ ticks 2)) ≡ ans.last_tick reason.disarmed
  pub frame_start : answers armed (command_frame 1 (start ∷ ticks 1)) ≡ ans.last_tick reason.sent
  pub frame_start_next : answers armed (command_frame 1 (start ∷ ticks 2)) ≡ ans.last_tick reason.start_gap
  -- "Reset returns the channel to no tick yet."; one without D0 leaves it
  pub reset : after_start 1 (write 0x06 1 ∷ []) ≡ ans.last_tick reason.no_tick
  pub no_reset : after_start 1 (write 0x06 2 ∷ []) ≡ ans.last_tick reason.start_gap
  -- a refused tick leaves it, the call itself does, and a register read
  pub refused_tick : after_start 9 (tick 127 ∷ []) ≡ ans.last_tick reason.start_gap
  pub again : after_start 1 (query last_tick 0 0 ∷ []) ≡ ans.last_tick reason.start_gap
  pub register_read : after_start 10 (read_register 0x02 ∷ read_register 0x0a ∷ []) ≡ ans.last_tick reason.sent
