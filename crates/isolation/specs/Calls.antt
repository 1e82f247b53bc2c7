-- Document 01, 'What holds it to this': the calls on an open board that stand in a list, each with what it is lent, and the world that they run on.
-- A call's answer, the board after it and the lent words after it are the very definitions that the calls' contracts are equations with.
use Rattle.std.specs.Prelude.{ℕ, ◌*◌, ◌≡◌, ◌⊎◌, List, [], ◌∷◌, Bool, true, cond, length, take, drop}
use Rattle.channel_core.specs.Answers.{Answer}
use Rattle.channel_core.specs.Answers as ans
use Rattle.channel.specs.OneChannel.{Query, retired, retired_length, readings, portion, portion_length, last_tick}
use Rattle.board_state.specs.declared.Board.{Board}
use Rattle.board_state.specs.Main.{level_of}
use Rattle.board_state.specs.Parts.{own}
use Rattle.board.specs.Worlds.{World, world}
use Rattle.board.specs.Answers.{BoardAnswer, one, refuses}
use Rattle.board.specs.Calls as board
use Rattle.board_channels.specs.Calls as channels
use Rattle.board_downloads.specs.Calls as downloads
use Rattle.board_readings.specs.Calls.{readings_answer, last_tick_answer}
use Rattle.board_registers.specs.Calls as registers

-- "In the list stand the calls under Calls, the retired call's twin, and, from its request on, each call on the board that a later request adds": a call's
-- arguments alone. `query` are those that name a channel and change nothing in any state: retired readbacks and its twin, card 7's readings,
-- card 8's portions and their twin, and card 10's: what the last tick did
pub data Call : Type 0 where
  write_register : (address value : ℕ) → Call
  read_register : (address : ℕ) → Call
  write_setpoint : (number user buffer index word : ℕ) → Call
  arm : (number : ℕ) → Call
  disarm : (number : ℕ) → Call
  open_download : (number : ℕ) → Call
  reply : (number frame : ℕ) → Call
  query : (number : ℕ) → Query → Call
  tick : Call
  event : (code : ℕ) → Call
  change_user : (user : ℕ) → Call
  interrupt_level : Call

-- what a call is lent: no words, a memory, or two readback buffers
pub data Lent : Type 0 where
  none : Lent
  words : List ℕ → Lent
  buffers : (one two : List ℕ) → Lent

pub record Item : Type 0 where
  pub call : Call
  pub lent : Lent

-- the memory, or the first buffer; the second buffer
abbrev pub first : Lent → List ℕ
first none = []
first (words s) = s
first (buffers s t) = s

abbrev pub second : Lent → List ℕ
second none = []
second (words s) = []
second (buffers s t) = t

abbrev pub lengths : Lent → List ℕ
lengths none = []
lengths (words s) = length s ∷ []
lengths (buffers s t) = length s ∷ (length t ∷ [])

-- ---- What the contracts say of a call, refused or not: its answer, the board after it, the lent words after it

abbrev pub query_answer_at : Board → ℕ → Query → Lent → Answer
query_answer_at b number retired l = channels.retired_answer b number (first l) (second l)
query_answer_at b number retired_length l = channels.retired_length b number (first l) (second l)
query_answer_at b number readings l = readings_answer b number
query_answer_at b number (portion index size) l = downloads.portion_answer b number index size (first l) (second l)
query_answer_at b number (portion_length index size) l = downloads.portion_length b number index size (first l) (second l)
query_answer_at b number last_tick l = last_tick_answer b number

unfoldable pub answer : Board → Call → Lent → BoardAnswer
answer b (write_register address value) l = one (registers.write_answer b (length (first l)) address value)
answer b (read_register address) l = one (registers.read_answer b address)
answer b (write_setpoint number user buffer index word) l =
    one (channels.setpoint_answer b (length (first l)) number user buffer index)
answer b (arm number) l = one (channels.arm_answer number)
answer b (disarm number) l = one (channels.arm_answer number)
answer b (open_download number) l = one (downloads.opening_answer b number)
answer b (reply number frame) l = one (channels.reply_answer b (length (first l)) number frame)
answer b (query number which) l = one (query_answer_at b number which l)
answer b tick l = board.tick_board_answer b (first l)
answer b (event code) l = one (board.event_answer b (length (first l)))
answer b (change_user user) l = one (board.user_answer user)
answer b interrupt_level l = one (ans.value (level_of b))

unfoldable pub after : Board → Call → Lent → Board
after b (write_register address value) l = registers.write_board b (length (first l)) address value
after b (read_register address) l = registers.read_board b address
after b (write_setpoint number user buffer index word) l = b
after b (arm number) l = channels.arm_board b number
after b (disarm number) l = channels.disarm_board b number
after b (open_download number) l = downloads.opened_board b number
after b (reply number frame) l = channels.reply_board b (length (first l)) number frame
after b (query number which) l = b
after b tick l = board.tick_board b (first l)
after b (event code) l = board.event_board b (length (first l)) code
after b (change_user user) l = board.user_board b user
after b interrupt_level l = b

-- a memory after the call that it was lent to. Register write, setpoint write, reply and event may change it
unfoldable pub words_after : Board → Call → List ℕ → List ℕ
words_after b (write_register address value) s = registers.write_words b s address value
words_after b (read_register address) s = s
words_after b (write_setpoint number user buffer index word) s = channels.setpoint_words b s number user buffer index word
words_after b (arm number) s = s
words_after b (disarm number) s = s
words_after b (open_download number) s = s
words_after b (reply number frame) s = channels.reply_words b s number frame
words_after b (query number which) s = s
words_after b tick s = s
words_after b (event code) s = board.event_words b s code
words_after b (change_user user) s = s
words_after b interrupt_level s = s

abbrev pub lent_after : Board → Call → Lent → Lent
lent_after b x none = none
lent_after b x (words s) = words (words_after b x s)
lent_after b x (buffers s t) = buffers s t

-- ---- Refusals

abbrev pub refused : Board → Call → Lent → Bool
refused b x l = refuses (answer b x l)

-- ---- What a call is lent

-- nothing, a memory, or the two readback buffers of a channel
pub data Lending : Type 0 where
  lends_nothing : Lending
  lends_setpoints : Lending
  lends_readbacks : Lending
  lends_buffers : (number : ℕ) → Lending

abbrev pub query_lending : ℕ → Query → Lending
query_lending number retired = lends_buffers number
query_lending number retired_length = lends_buffers number
query_lending number readings = lends_nothing
query_lending number (portion index size) = lends_buffers number
query_lending number (portion_length index size) = lends_buffers number
query_lending number last_tick = lends_nothing

abbrev pub lending : Call → Lending
lending (write_register address value) = lends_readbacks
lending (read_register address) = lends_nothing
lending (write_setpoint number user buffer index word) = lends_setpoints
lending (arm number) = lends_nothing
lending (disarm number) = lends_nothing
lending (open_download number) = lends_nothing
lending (reply number frame) = lends_readbacks
lending (query number which) = query_lending number which
lending tick = lends_setpoints
lending (event code) = lends_readbacks
lending (change_user user) = lends_nothing
lending interrupt_level = lends_nothing

-- "buffers 1 and 2 of its channel"
abbrev pub own_buffers : World → ℕ → Lent
own_buffers w number =
    buffers (take w.board.m (own w.readbacks (w.board.m * 2) number))
    (take w.board.m (drop w.board.m (own w.readbacks (w.board.m * 2) number)))

-- the memory as the opening and the unrefused calls before it left it
abbrev pub lent_from : World → Lending → Lent
lent_from w lends_nothing = none
lent_from w lends_setpoints = words w.setpoints
lent_from w lends_readbacks = words w.readbacks
lent_from w (lends_buffers number) = own_buffers w number

-- what a call that is not refused is lent
abbrev pub given : World → Call → Lent
given w x = lent_from w (lending x)

-- ---- One call

-- the world with one part of it changed
abbrev pub with_board : World → Board → World
with_board w b = record { board = b; setpoints = w.setpoints; readbacks = w.readbacks }

abbrev pub with_setpoints : World → List ℕ → World
with_setpoints w s = record { board = w.board; setpoints = s; readbacks = w.readbacks }

abbrev pub with_readbacks : World → List ℕ → World
with_readbacks w s = record { board = w.board; setpoints = w.setpoints; readbacks = s }

-- the world with what was lent come back: a memory may have changed, buffers are lent for reading only
abbrev pub back_to : World → Lending → Lent → World
back_to w lends_nothing l = w
back_to w lends_setpoints l = with_setpoints w (first l)
back_to w lends_readbacks l = with_readbacks w (first l)
back_to w (lends_buffers number) l = w

abbrev pub back : World → Call → Lent → World
back w x l = back_to w (lending x) l

-- the board by the contract always; the memory by the contract, or where the call is refused as it was: what is lent to a refused call is
-- no memory of the world
unfoldable pub step : World → Item → World
step w i =
    cond (refused w.board i.call i.lent)
    (with_board w (after w.board i.call i.lent))
    (back (with_board w (after w.board i.call i.lent)) i.call (lent_after w.board i.call i.lent))

-- ---- Lists of calls

-- "A call that is refused whatever words stand in what it is lent .. may be lent anything"; any other is lent the memory
abbrev pub Fits : World → Item → Type 0
Fits w i =
    ((l : Lent) → lengths l ≡ lengths i.lent → refused w.board i.call l ≡ true) ⊎ (i.lent ≡ given w i.call)

abbrev pub Allowed : World → List Item → Type 0
Allowed w [] = Unit {0}
Allowed w (i ∷ is) = Fits w i × Allowed (step w i) is

-- the world after a list
abbrev pub world_after : World → List Item → World
world_after w [] = w
world_after w (i ∷ is) = world_after (step w i) is

-- the world of an opening: "Opening leaves lent words as they are"
abbrev pub opening : ℕ → ℕ → List ℕ → List ℕ → World
opening n m setpoints readbacks = world (board.open_board n m (length setpoints) (length readbacks)) setpoints readbacks
