-- Document 02, card 2, on a function of two words sent every 10 ticks, the first on tick 10: what 0C and the statuses read. The readback buffer takes one.
use Rattle.std.specs.Prelude.{◌≡◌, true, false, List, [], ◌∷◌, ◌++◌, replicate, ℕ}
use Rattle.channel_core.specs.Answers.{refused, value, bit, kept, lost}
use Rattle.channel.specs.OneChannel.{ChannelCall, write_register, read_register, arm, disarm, reply, tick, change_user, read_main, response}
use Rattle.examples.specs.Reached.{led_at}

-- this Frame ID, clock code 3, armed and started; then ticks
abbrev pub started : (id : ℕ) → List ChannelCall
started id = write_register 16 0x14 id ∷ write_register 16 0x0a 3 ∷ arm ∷ write_register 16 0x08 1 ∷ []

abbrev pub ticks : ℕ → List ChannelCall
ticks k = replicate k (tick 128)

-- the first word sent, and the Frame ID changed before the second
abbrev pub changed : (from to : ℕ) → List ChannelCall
changed from to = started from ++ (ticks 10 ++ (write_register 16 0x14 to ∷ ticks 10))

-- the first word sent, and two replies
abbrev pub answered : List ChannelCall
answered = started 0x15 ++ (ticks 10 ++ (reply 16 3 ∷ reply 16 3 ∷ []))

-- both words sent, and no reply: six are missing
abbrev pub unanswered : List ChannelCall
unanswered = started 0x15 ++ ticks 20

-- a function that ends, and the next one's first word
abbrev pub next_first : List ChannelCall → List ChannelCall
next_first between = between ++ (arm ∷ write_register 16 0x08 1 ∷ ticks 10)

pub record MissingRows : Type 0 where
  -- no reply to the first word: six are missing once the second is sent, and D4 is latched beside RUN and EOF
  pub none_before : response (led_at 2 (started 0x15 ++ ticks 19)) (read_register 0x0c) ≡ value 0
  pub six : response (led_at 2 unanswered) (read_register 0x0c) ≡ value 6
  pub latched_02 : response (led_at 2 unanswered) (read_register 0x02) ≡ value 0xc010
  pub latched_04 : response (led_at 2 unanswered) (read_register 0x04) ≡ value 0xc010
  -- 0C is read-only; a read clears the count, and not D4; a read of a status leaves the count
  pub read_only : response (led_at 2 unanswered) (write_register 16 0x0c 0) ≡ refused 4
  pub cleared : response (led_at 2 (unanswered ++ (read_register 0x0c ∷ []))) (read_register 0x0c) ≡ value 0
  pub latched_still : response (led_at 2 (unanswered ++ (read_register 0x0c ∷ []))) (read_register 0x02) ≡ value 0xc010
  pub counted_still : response (led_at 2 (unanswered ++ (read_register 0x02 ∷ read_register 0x04 ∷ []))) (read_register 0x0c) ≡ value 6
  -- the Main bits: D4 enabled as it happens, not enabled, enabled later
  pub enabled : response (led_at 2 (write_register 16 0x00 0x10 ∷ unanswered)) (read_main 0x28) ≡ bit true
  pub enabled_2a : response (led_at 2 (write_register 16 0x00 0x10 ∷ unanswered)) (read_main 0x2a) ≡ bit true
  pub not_enabled : response (led_at 2 unanswered) (read_main 0x28) ≡ bit false
  pub enabled_later : response (led_at 2 (unanswered ++ (write_register 16 0x00 0x10 ∷ []))) (read_main 0x28) ≡ bit false
  -- two replies, one kept and one lost: four are missing
  pub first_kept : response (led_at 2 (started 0x15 ++ ticks 10)) (reply 16 3) ≡ kept
  pub second_lost : response (led_at 2 (started 0x15 ++ (ticks 10 ++ (reply 16 3 ∷ [])))) (reply 16 3) ≡ lost
  pub four : response (led_at 2 (answered ++ ticks 10)) (read_register 0x0c) ≡ value 4
  -- the Frame ID that counts is that of the send looked at
  pub from_15 : response (led_at 2 (changed 0x15 0)) (read_register 0x0c) ≡ value 6
  pub to_15 : response (led_at 2 (changed 0 0x15)) (read_register 0x0c) ≡ value 0
  -- a restart does not break the chain; idling does: disarm, a user change, Group End
  pub restarted : response (led_at 2 (answered ++ (write_register 16 0x08 1 ∷ ticks 10))) (read_register 0x0c) ≡ value 4
  pub disarmed : response (led_at 2 (next_first (answered ++ (disarm ∷ [])))) (read_register 0x0c) ≡ value 0
  pub user_changed_lem : response (led_at 2 (next_first (answered ++ (change_user 2 ∷ [])))) (read_register 0x0c) ≡ value 0
  pub group_ended_lem : response (led_at 2 (next_first (answered ++ (write_register 16 0x08 4 ∷ [])))) (read_register 0x0c) ≡ value 0
  -- Group End keeps the count, and reset clears it
  pub kept_over_group_end : response (led_at 2 (unanswered ++ (write_register 16 0x08 4 ∷ []))) (read_register 0x0c) ≡ value 6
  pub cleared_by_reset : response (led_at 2 (unanswered ++ (write_register 16 0x06 1 ∷ []))) (read_register 0x0c) ≡ value 0
  -- a command frame of ID 15h before the first word is not looked at, and does not look
  pub command_between : response (led_at 2 (next_first (write_register 16 0x14 0x15 ∷ write_register 16 0xe0 0x15 ∷ arm ∷ write_register 16 0xfc 1 ∷ tick 128 ∷ [])))
      (read_register 0x0c)
      ≡ value 0
  -- 42 sends found 252 missing, and the next takes the count to 255; a send at 255 latches D4 again
  pub near_most : response (led_at 2 (started 0x15 ++ ticks 430)) (read_register 0x0c) ≡ value 252
  pub most : response (led_at 2 (started 0x15 ++ ticks 440)) (read_register 0x0c) ≡ value 255
  pub most_still : response (led_at 2 (started 0x15 ++ ticks 450)) (read_register 0x0c) ≡ value 255
  pub latched_at_most : response (led_at 2 (started 0x15 ++ (ticks 440 ++ (read_register 0x02 ∷ ticks 10)))) (read_register 0x02) ≡ value 0x0010
