-- No call but a tick is answered a frame: of all that a channel hears, the frames are the ticks' answers to it. Assumes nothing.
use Prim.Native.Nat.{ℕ}
use mathlib.Core.Path.{◌≡◌, refl}
use mathlib.Core.Bool.{Bool, true, false, ◌||◌}
use mathlib.Core.List.{[], ◌∷◌}
use lib.ListN.{length}
use lib.Dec.{eqb}
use Rattle.address_map.specs.Addresses.{Named, named, main, channel, nothing}
use Rattle.register_map.specs.AccessRule.{channel_access, main_access}
use Rattle.register_map.specs.AccessRefusals.{read_refusal, write_refusal}
use Rattle.frame.specs.Frames.{Reading, read}
use Rattle.frame.specs.Frames as frame
use Rattle.readback.specs.declared.Disposition.{Disposition}
use Rattle.readback.specs.declared.Disposition.TheVariants as disposition
use Rattle.command_frames.specs.Commanding.{takes}
use Rattle.channel_core.specs.declared.Channel.{Channel}
use Rattle.channel_core.specs.Answers.{Answer, is_refusal, is_frame, unless}
use Rattle.channel_core.specs.Answers as ans
use Rattle.channel_readings.specs.Measuring as reading
use Rattle.channel_replies.specs.Replying.{receipt_answer, disposition_now, reply_answer_as, reply_answer}
use Rattle.channel_registers.specs.Calls as channel_registers
use Rattle.channel.specs.Calls as chn
use Rattle.channel.specs.OneChannel.{Query, user_refusal}
use Rattle.channel.specs.OneChannel as to
use Rattle.board_state.specs.declared.Board.{Board}
use Rattle.board_state.specs.State.{channel_at}
use Rattle.board_state.specs.Main.{main_value}
use Rattle.board.specs.Answers.{BoardAnswer, one}
use Rattle.board_state.specs.Checks.{no_channel, setpoints_fit, readbacks_fit}
use Rattle.board_registers.specs.Calls.{read_answer_at, write_answer_at}
use Rattle.board.specs.Calls as board
use Rattle.board_channels.specs.Calls as channels
use Rattle.board_downloads.specs.Calls as downloads
use Rattle.board_readings.specs.Calls.{readings_answer, last_tick_answer}
use Rattle.board_registers.specs.Calls as registers
use Rattle.isolation.specs.Calls.{Call, write_register, read_register, write_setpoint, arm, disarm, open_download, reply, query, tick, event, change_user, interrupt_level, Lent, first, second, query_answer_at, answer}
use Rattle.isolation.specs.Feeding.{only, Scope, of_one, of_each, of_main, of_all, of_none, write_scope, read_scope, answer_for, shared, shared_read, observe_in, observe}
use Rattle.channel.proofs.Cases.{either, by_test}
use Rattle.tally.specs.Tallies.{sends}
use Rattle.run_laws.specs.Drawn.{how_many}

-- no frame
record Quiet (a : Answer) : Type 0 where
  quiet : is_frame a ≡ false

-- ---- Answers

unless_quiet : (k : ℕ) (a : Answer) → Quiet a → Quiet (unless k a)
unless_quiet k a q = by_test Quiet (eqb k 0) (λ t. q) (λ t. record { quiet = refl })

receipt_quiet : (d : Disposition) → Quiet (receipt_answer d)
receipt_quiet disposition.Unsolicited = record { quiet = refl }
receipt_quiet disposition.Lost = record { quiet = refl }
receipt_quiet disposition.Kept = record { quiet = refl }

reading_quiet : (r : Reading) (c : Channel) (m : ℕ) → Quiet (reply_answer_as r c m)
reading_quiet (frame.refused k) c m = record { quiet = refl }
reading_quiet (frame.fields id word aux crc) c m =
    either Quiet (takes c.commands) (record { quiet = refl }) (receipt_quiet (disposition_now c m))

module _ (b : Board) where
  write_at : (n : Named) (v : ℕ) → Quiet (write_answer_at n b v)
  unfolding channel_registers.written_answer
  write_at (main o) v = unless_quiet (write_refusal (main_access o)) ans.done (record { quiet = refl })
  write_at (channel d o) v = unless_quiet (channel_registers.register_refusal (channel_at b d) o v) ans.done (record { quiet = refl })
  write_at nothing v = record { quiet = refl }

  read_at : (n : Named) → Quiet (read_answer_at n b)
  unfolding channel_registers.read_answer
  read_at (main o) = unless_quiet (read_refusal (main_access o)) (ans.value (main_value b o)) (record { quiet = refl })
  read_at (channel d o) = unless_quiet (read_refusal (channel_access o)) (ans.value (channel_registers.read_value (channel_at b d) o)) (record { quiet = refl })
  read_at nothing = record { quiet = refl }

  setpoint_quiet : (k d u f i : ℕ) → Quiet (channels.setpoint_answer b k d u f i)
  unfolding channels.setpoint_answer chn.setpoint_answer
  setpoint_quiet k d u f i =
      by_test Quiet (setpoints_fit b k)
      (λ t. by_test Quiet (no_channel d) (λ t. record { quiet = refl }) (λ t. unless_quiet (chn.setpoint_refusal (channel_at b d) b.n u f i) ans.done (record { quiet = refl })))
      (λ t. record { quiet = refl })

  reply_quiet : (k d f : ℕ) → Quiet (channels.reply_answer b k d f)
  unfolding channels.reply_answer reply_answer
  reply_quiet k d f =
      by_test Quiet (readbacks_fit b k)
      (λ t. by_test Quiet (no_channel d) (λ t. record { quiet = refl }) (λ t. reading_quiet (read f) (channel_at b d) b.m))
      (λ t. record { quiet = refl })

arm_quiet : (d : ℕ) → Quiet (channels.arm_answer d)
unfolding channels.arm_answer
arm_quiet d = by_test Quiet (no_channel d) (λ t. record { quiet = refl }) (λ t. record { quiet = refl })

-- ---- What is observed of them

one_quiet : (a : Answer) → Quiet a → how_many is_frame (a ∷ []) ≡ 0
unfolding how_many
one_quiet a q = rw q.quiet

only_quiet : (t : Bool) (a : Answer) → Quiet a → how_many is_frame (only t a) ≡ 0
unfolding how_many
only_quiet true a q = one_quiet a q
only_quiet false a q = refl

-- whomever the call concerns
observed_quiet : (c : ℕ) (x : Scope) (a : Answer) → Quiet a → how_many is_frame (observe_in c x (one a)) ≡ 0
unfolding how_many
observed_quiet c (of_one d) a q = only_quiet (eqb d c) a q
observed_quiet c of_each a q = one_quiet a q
observed_quiet c (of_main o) a q =
    one_quiet (shared_read c o a)
    (by_test Quiet (is_refusal a) (λ t. q) (λ t. by_test Quiet (eqb o 0x28 || eqb o 0x2a) (λ t. record { quiet = refl }) (λ t. record { quiet = refl })))
observed_quiet c of_all a q = one_quiet (shared a) (by_test Quiet (is_refusal a) (λ t. q) (λ t. record { quiet = refl }))
observed_quiet c of_none a q = refl

query_quiet : (b : Board) (d : ℕ) (q : Query) (l : Lent) → Quiet (query_answer_at b d q l)
unfolding channels.retired_answer channels.retired_length readings_answer last_tick_answer reading.readings_answer downloads.portion_answer downloads.portion_length
query_quiet b d to.retired l =
    unless_quiet (channels.retired_refusal b d (length (first l)) (length (second l))) (ans.part (channels.retired_words b d (first l) (second l)))
    (record { quiet = refl })
query_quiet b d to.retired_length l =
    unless_quiet (channels.retired_refusal b d (length (first l)) (length (second l))) (ans.part_length (length (channels.retired_words b d (first l) (second l))))
    (record { quiet = refl })
query_quiet b d to.readings l = by_test Quiet (no_channel d) (λ t. record { quiet = refl }) (λ t. record { quiet = refl })
query_quiet b d to.last_tick l = by_test Quiet (no_channel d) (λ t. record { quiet = refl }) (λ t. record { quiet = refl })
query_quiet b d (to.portion i n) l = unless_quiet (downloads.portion_refusal b d i n (length (first l)) (length (second l))) _ (record { quiet = refl })
query_quiet b d (to.portion_length i n) l = unless_quiet (downloads.portion_refusal b d i n (length (first l)) (length (second l))) _ (record { quiet = refl })

opening_quiet : (b : Board) (d : ℕ) → Quiet (downloads.opening_answer b d)
unfolding downloads.opening_answer
opening_quiet b d = by_test Quiet (no_channel d) (λ t. record { quiet = refl }) (λ t. record { quiet = refl })

pub frames_observed : (c : ℕ) (b : Board) (x : Call) (l : Lent) → how_many is_frame (observe c x (answer b x l)) ≡ how_many (sends c) (answer b x l ∷ [])
unfolding how_many answer registers.write_answer registers.read_answer board.tick_board_answer board.event_answer board.user_answer
frames_observed c b (write_register a v) l =
    observed_quiet c (write_scope (named a)) _ (by_test Quiet (readbacks_fit b (length (first l))) (λ t. write_at b (named a) v) (λ t. record { quiet = refl }))
frames_observed c b (read_register a) l = observed_quiet c (read_scope (named a)) _ (read_at b (named a))
frames_observed c b (write_setpoint d u f i y) l = observed_quiet c (of_one d) _ (setpoint_quiet b (length (first l)) d u f i)
frames_observed c b (arm d) l = observed_quiet c (of_one d) _ (arm_quiet d)
frames_observed c b (disarm d) l = observed_quiet c (of_one d) _ (arm_quiet d)
frames_observed c b (open_download d) l = observed_quiet c (of_one d) _ (opening_quiet b d)
frames_observed c b (reply d y) l = observed_quiet c (of_one d) _ (reply_quiet b (length (first l)) d y)
frames_observed c b (query d q) l = observed_quiet c (of_one d) _ (query_quiet b d q l)
frames_observed c b tick l =
    by_test (λ (s : BoardAnswer). how_many is_frame (answer_for c s ∷ []) ≡ how_many (sends c) (s ∷ []))
    (setpoints_fit b (length (first l))) (λ t. refl) (λ t. refl)
frames_observed c b (event y) l =
    observed_quiet c of_all _ (by_test Quiet (readbacks_fit b (length (first l))) (λ t. record { quiet = refl }) (λ t. record { quiet = refl }))
frames_observed c b (change_user u) l = observed_quiet c of_all _ (unless_quiet (user_refusal u) ans.done (record { quiet = refl }))
frames_observed c b interrupt_level l = refl
