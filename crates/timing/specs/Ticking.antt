-- Document 01, 'A channel's life': ticks in a row on one channel by itself, what each of them answers, and what the laws of Timing.antt say of those
-- answers.
use Rattle.std.specs.Prelude.{ℕ, ◌+◌, ◌-◌, ◌*◌, ◌%◌, ◌≤◌, ◌<◌, ◌≡◌, cond, eqb, get_or, replicate}
use Rattle.frame.specs.Frames.{encoded}
use Rattle.status.specs.Bits.{bit_of}
use Rattle.registers.specs.Map.{period_of, second_active}
use Rattle.sequencer.specs.declared.Sequencer.{Sequencer}
use Rattle.sequencer.specs.declared.Stage.TheVariants as stage
use Rattle.sequencer.specs.Transmissions.{Transmission}
use Rattle.sequencer.specs.Transmissions as transmission
use Rattle.sequencer.specs.Runs.{ticks, sends, JustSent, Beat}
use Rattle.channel_core.specs.Answers.{Answer}
use Rattle.channel_core.specs.Answers as ans
use Rattle.channel_core.specs.Behaviour.{setpoint_place, command_answer, send_frame}
use Rattle.channel.specs.OneChannel.{OneChannel, ChannelCall, tick, transitions, response}

-- a tick, lent memory of the right length
abbrev pub one_tick : OneChannel → ChannelCall
one_tick o = tick (o.n * 64)

-- the channel after k ticks
unfoldable pub after : OneChannel → ℕ → OneChannel
after o k = transitions o (replicate k (one_tick o))

-- what tick j from now answers, the next being tick 1
unfoldable pub on_tick : OneChannel → ℕ → Answer
on_tick o j = response (after o (j - 1)) (one_tick o)

-- the word at index i of the current user's active buffer
abbrev pub word_at : OneChannel → ℕ → ℕ
word_at o i =
    get_or o.setpoints (setpoint_place (o.user - 1) (bit_of (second_active o.channel.registers (o.user - 1))) o.n i) 0

-- the period of the clock, in ticks
abbrev pub period : OneChannel → ℕ
period o = period_of o.channel.registers.clock

-- "Setpoint frames carry the register's Frame ID, D15–D0 of the word, auxiliary 0."
abbrev pub frame_of : OneChannel → ℕ → Answer
frame_of o word = ans.frame (encoded o.channel.registers.id (word % 65536) 0)

-- what tick j from now answers where no setpoint leaves: the command frame on the next tick, if one is due, and none. (Whether one is due is told by
-- calls and answers: `CommandsTold` in histories; with a function under way none is: `OnlySetpoints`.)
abbrev pub between : OneChannel → ℕ → Answer
between o j = cond (eqb j 1) (command_answer o.channel.commands) ans.none

-- what it answers where this is transmitted
abbrev pub answer_on : OneChannel → ℕ → Transmission → Answer
answer_on o j transmission.Nothing = between o j
answer_on o j (transmission.Word word k) = send_frame o.channel.registers.id (transmission.Word word k)

-- the sequencer by itself, handed this channel's words, depth, period and Frame ID: after k ticks, and what its tick j transmits
abbrev pub played : OneChannel → ℕ → Sequencer
played o k = ticks (word_at o) o.n (period o) o.channel.registers.id o.channel.sequencer k

abbrev pub plays : OneChannel → ℕ → Transmission
plays o j = sends (word_at o) o.n (period o) o.channel.registers.id o.channel.sequencer j

-- depths, user, registers (E0, E2 and E4–FA too; of 00 nothing is said, and sends change 02, 04, 0C and FE) and setpoint words are the same: so are
-- its words, period, delays and Frame ID
pub record Keeps (o p : OneChannel) : Type 0 where
  pub same_n : p.n ≡ o.n
  pub same_m : p.m ≡ o.m
  pub same_user : p.user ≡ o.user
  pub same_registers : p.channel.registers ≡ o.channel.registers
  pub same_header : p.channel.commands.header ≡ o.channel.commands.header
  pub same_word : p.channel.commands.word ≡ o.channel.commands.word
  pub same_replies : p.channel.commands.replies ≡ o.channel.commands.replies
  pub same_setpoints : p.setpoints ≡ o.setpoints

-- its sequencer stands as just after the first sending of the word at index i
abbrev pub Sent : OneChannel → ℕ → Type 0
Sent o i = JustSent (word_at o) o.n (period o) i o.channel.sequencer

-- the next setpoint is the word at index i, and leaves on tick k: on ticks 1 to k − 1 none does
pub record NextSetpoint (o : OneChannel) (k i : ℕ) : Type 0 where
  pub silent : (j : ℕ) → 1 ≤ j → j < k → on_tick o j ≡ between o j
  pub sent : on_tick o k ≡ frame_of o (word_at o i)
  pub done : Sent (after o k) i

-- x is what tick j answers where this word is repeated: its frame on tick `left` and each period after it, no setpoint's on others
pub record Repeat (o : OneChannel) (word left j : ℕ) (x : Answer) : Type 0 where
  pub on : Beat left (period o) j → x ≡ frame_of o word
  pub off : (Beat left (period o) j → ⊥) → x ≡ between o j

-- so for the kept word of `o`, with its ticks to the next send
abbrev pub KeptRepeat : OneChannel → ℕ → Answer → Type 0
KeptRepeat o j x = Repeat o o.channel.sequencer.word o.channel.sequencer.left j x

-- `r` is the paused channel `o`, once a resume with this delay was loaded: repeats go on through the delay, its last tick included; then no setpoint
-- leaves on 9 ticks, and that of the index due leaves on the 10th, restarting the clock
pub record Resumes (o r : OneChannel) (delay : ℕ) : Type 0 where
  pub repeats : (j : ℕ) → 1 ≤ j → j ≤ delay → KeptRepeat o j (on_tick r j)
  pub silent : (j : ℕ) → delay < j → j < delay + 10 → on_tick r j ≡ between o j
  pub sent : on_tick r (delay + 10) ≡ frame_of o (word_at o o.channel.sequencer.index)
  pub done : Sent (after r (delay + 10)) o.channel.sequencer.index
  pub under_way : (j : ℕ) → j < delay + 10 → (after r j).channel.sequencer.stage ≡ stage.Resuming

-- the same word is repeated in the same stage
pub record Still (o p : OneChannel) : Type 0 where
  pub same_stage : p.channel.sequencer.stage ≡ o.channel.sequencer.stage
  pub same_index : p.channel.sequencer.index ≡ o.channel.sequencer.index
  pub same_kept : p.channel.sequencer.word ≡ o.channel.sequencer.word
  pub some_left : 1 ≤ p.channel.sequencer.left
