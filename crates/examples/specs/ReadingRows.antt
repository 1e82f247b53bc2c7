-- Document 02, card 7, on readback depths 2 to 16: the readings of a send by the replies after it. The send is the first word of a function of two, the second
-- of which is repeated; replies have ID 0.
use Rattle.std.specs.Prelude.{◌≡◌, List, [], ◌∷◌, ◌++◌, map, true, false, pos, negsuc, replicate, ℕ, ◌*◌}
use Rattle.std.specs.Float.{fin}
use Rattle.channel_core.specs.Results.{AdcReading, volts, lost, damaged}
use Rattle.channel_core.specs.Answers.{Answer, readings}
use Rattle.channel.specs.OneChannel.{ChannelCall, write_setpoint, arm, disarm, reply, query, tick, event, change_user, response}
use Rattle.channel.specs.OneChannel as to
use Rattle.examples.specs.Reached.{led_at}
use Rattle.examples.specs.EndWordRows.{write, sent, group_end}

-- frames of these data, with a right CRC and, of 0 and 8000h, with a wrong one
abbrev pub nought : ℕ
nought = 3

abbrev pub wrong_nought : ℕ
wrong_nought = 7

abbrev pub lowest : ℕ
lowest = 0x200000383

abbrev pub wrong_lowest : ℕ
wrong_lowest = 0x200000387

abbrev pub highest : ℕ
highest = 0x1fffc02d7

abbrev pub minus_one : ℕ
minus_one = 0x3fffc0157

-- −10 V, 0 V, 9.99969482421875 V = 163,835 / 2 ^ 14, and −10 / 32,768 V, a step below 0
abbrev pub minus_ten_volts : AdcReading
minus_ten_volts = volts (fin true 5 (pos 1))

abbrev pub no_volts : AdcReading
no_volts = volts (fin false 0 (pos 0))

abbrev pub most_volts : AdcReading
most_volts = volts (fin false 163835 (negsuc 13))

abbrev pub step_down : AdcReading
step_down = volts (fin true 5 (negsuc 13))

abbrev pub all_lost : Answer
all_lost = readings lost lost lost lost

-- replies on depth M
abbrev pub replies : (m : ℕ) → List ℕ → List ChannelCall
replies m = map (reply (m * 8))

-- what the call answers after these calls on depth M; after the first word's send, these replies, and these calls
abbrev pub answers : (m : ℕ) → List ChannelCall → Answer
answers m calls = response (led_at m calls) (query to.readings 0 0)

abbrev pub after : (m : ℕ) → List ℕ → List ChannelCall → Answer
after m frames calls = answers m (sent m ++ (replies m frames ++ calls))

-- six replies: two that are no ADC words, then one of each
abbrev pub six : List ℕ
six = nought ∷ nought ∷ lowest ∷ nought ∷ highest ∷ minus_one ∷ []

abbrev pub all_four : Answer
all_four = readings minus_ten_volts no_volts most_volts step_down

pub record ReadingRows : Type 0 where
  -- "with none, all four are lost": opened, armed, started; and with no reply after a send
  pub opened : answers 16 [] ≡ all_lost
  pub started : answers 16 (arm ∷ write 16 0x08 1 ∷ replicate 9 (tick 128)) ≡ all_lost
  pub none : after 16 [] [] ≡ all_lost
  -- "A send's third to sixth replies are its ADC words.", one after the other; a seventh is unasked
  pub two : after 16 (lowest ∷ highest ∷ []) [] ≡ all_lost
  pub three : after 16 (nought ∷ nought ∷ lowest ∷ []) [] ≡ readings minus_ten_volts lost lost lost
  pub four : after 16 (nought ∷ nought ∷ lowest ∷ nought ∷ []) [] ≡ readings minus_ten_volts no_volts lost lost
  pub five : after 16 (nought ∷ nought ∷ lowest ∷ nought ∷ highest ∷ []) [] ≡ readings minus_ten_volts no_volts most_volts lost
  pub all_six : after 16 six [] ≡ all_four
  pub seventh : after 16 (six ++ (highest ∷ [])) [] ≡ all_four
  -- "damaged by a wrong CRC", in each place; the first two replies matter to none
  pub all_damaged : after 16 (wrong_nought ∷ wrong_nought ∷ wrong_lowest ∷ wrong_nought ∷ wrong_lowest ∷ wrong_nought ∷ []) [] ≡ readings damaged damaged damaged damaged
  pub one_damaged : after 16 (wrong_nought ∷ nought ∷ lowest ∷ wrong_nought ∷ highest ∷ []) [] ≡ readings minus_ten_volts damaged most_volts lost
  -- "A reading is lost when its reply wasn't stored, with a wrong CRC or not.": of depth M the buffer takes M − 1
  pub full : after 5 six [] ≡ readings minus_ten_volts no_volts lost lost
  pub full_wrong : after 5 (nought ∷ nought ∷ lowest ∷ wrong_nought ∷ wrong_lowest ∷ wrong_nought ∷ []) [] ≡ readings minus_ten_volts damaged lost lost
  pub full_before : after 2 (nought ∷ nought ∷ wrong_lowest ∷ nought ∷ highest ∷ []) [] ≡ all_lost
  -- what an earlier send left in the place of a lost reply is not its reading
  pub full_next : after 7 six (replicate 10 (tick 128) ++ replies 7 six) ≡ all_lost
  -- lost replies count among the six: a seventh is unasked
  pub full_seventh : after 4 (six ++ (lowest ∷ [])) [] ≡ readings minus_ten_volts lost lost lost
  -- a bad frame, and a reply that is refused 1, take no position
  pub bad_framing : after 16 (nought ∷ nought ∷ 2 ∷ lowest ∷ []) [] ≡ readings minus_ten_volts lost lost lost
  pub refused : answers 16 (sent 16 ++ (replies 16 (nought ∷ nought ∷ []) ++ (reply 127 highest ∷ reply 128 lowest ∷ []))) ≡ readings minus_ten_volts lost lost lost
  -- the next send has replies of its own, the first of a last word and its repeats too; between sends they stay
  pub between : after 16 six (replicate 9 (tick 128)) ≡ all_four
  pub next_send : after 16 six (replicate 10 (tick 128)) ≡ all_lost
  pub next_replies : after 16 six (replicate 10 (tick 128) ++ replies 16 (nought ∷ nought ∷ highest ∷ [])) ≡ readings most_volts lost lost lost
  pub last_word : after 16 [] (replicate 10 (tick 128) ++ (replies 16 six ++ replicate 9 (tick 128))) ≡ all_four
  pub first_repeat : after 16 [] (replicate 10 (tick 128) ++ (replies 16 six ++ replicate 10 (tick 128))) ≡ all_lost
  pub of_a_repeat : after 16 [] (replicate 20 (tick 128) ++ (replies 16 six ++ replicate 9 (tick 128))) ≡ all_four
  pub next_repeat : after 16 [] (replicate 20 (tick 128) ++ (replies 16 six ++ replicate 10 (tick 128))) ≡ all_lost
  -- a restart keeps them until its first send, with what still comes; arming again and the same user change nothing
  pub restarted : after 16 six (write 16 0x08 1 ∷ replicate 9 (tick 128)) ≡ all_four
  pub restart_more : after 16 (nought ∷ nought ∷ []) (write 16 0x08 1 ∷ reply 128 lowest ∷ []) ≡ readings minus_ten_volts lost lost lost
  pub restart_sent : after 16 six (write 16 0x08 1 ∷ replicate 10 (tick 128)) ≡ all_lost
  pub same_user : after 16 six (arm ∷ change_user 1 ∷ []) ≡ all_four
  -- "its last setpoint send since idle": what idles, by whichever call, leaves none
  pub group_end_lem : after 16 six (group_end 16 ∷ []) ≡ all_lost
  pub group_end_event_lem : answers 16 (write 16 0x2a 0x105 ∷ (sent 16 ++ (replies 16 six ++ (event 128 5 ∷ [])))) ≡ all_lost
  pub group_end_start : after 16 six (write 16 0x08 5 ∷ []) ≡ all_lost
  pub disarmed : after 16 six (disarm ∷ []) ≡ all_lost
  pub user_changed_lem : after 16 six (change_user 2 ∷ []) ≡ all_lost
  pub reset : after 16 six (write 16 0x06 1 ∷ []) ≡ all_lost
  -- replies to a command frame, and unasked ones, are no ADC words
  pub command_frame_lem : answers 16 (arm ∷ write 16 0xfc 1 ∷ tick 128 ∷ replies 16 six) ≡ all_lost
  pub unasked : answers 16 (replies 16 six) ≡ all_lost
  -- a tag and a pause do not matter
  pub tagged : answers 16 (arm ∷ write 16 0x08 8 ∷ (sent 16 ++ replies 16 six)) ≡ all_four
  pub paused : answers 16 (write_setpoint 128 1 1 0 0x10000 ∷ (sent 16 ++ replies 16 six)) ≡ all_four
