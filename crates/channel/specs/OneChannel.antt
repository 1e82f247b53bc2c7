-- Document 01, 'A channel's life': the one-channel definition. One channel by itself, fed calls with their arguments and lent LENGTHS alone,
-- "never the board's answers or state". Its refusals follow "from the refusal table, the call and this state".
use Rattle.std.specs.Prelude.{ℕ, ◌*◌, true, false, cond, List, [], ◌∷◌, length, take, drop, eqb}
use Rattle.refusal.specs.Refusals.{number_of}
use Rattle.refusal.specs.declared.Refusal.TheVariants as refusal
use Rattle.frame.specs.Frames.{Reading, read}
use Rattle.frame.specs.Frames as frame
use Rattle.register_map.specs.AccessRule.{channel_access, main_access}
use Rattle.register_map.specs.AccessRefusals.{read_refusal, write_refusal}
use Rattle.registers.specs.Map.{second_active, readback_place}
use Rattle.readback.specs.Storing.{retired_part}
use Rattle.channel_core.specs.declared.Channel.{Channel}
use Rattle.channel_core.specs.Answers.{Answer, unless}
use Rattle.channel_core.specs.Answers as ans
use Rattle.channel_core.specs.State.{opened}
use Rattle.channel_core.specs.Behaviour.{user_changed, event_of, event_words, tick_of, tick_answer}
use Rattle.channel_replies.specs.Replying.{reply_answer, reply_of, reply_words}
use Rattle.channel_readings.specs.Measuring.{readings_answer}
use Rattle.channel_registers.specs.Calls.{register_refusal, register_effect, register_words, read_effect, read_value}
use Rattle.downloads.specs.Portions.{portion_of}
use Rattle.channel.specs.Downloads.{download_opened, opening_answer, portion_refusal, download_part}
use Rattle.channel.specs.Calls.{then, outside, setpoint_refusal, setpoint_words, armed_of, disarmed_of, retired_refusal, main_bit, main_taken}

-- the calls that name the channel and change nothing in any state; a register read may, and stands by itself. One more is a case here, with its
-- refusal and its answer (`query_refusal`, `query_answer`).
pub data Query : Type 0 where
  -- retired readbacks, and what document 01 calls its twin
  retired : Query
  retired_length : Query
  -- document 02, card 7: the readings of its last setpoint send, lent nothing
  readings : Query
  -- document 02, card 8: a portion of its download, `size` words from `index` on, and the twin
  portion : (index size : ℕ) → Query
  portion_length : (index size : ℕ) → Query
  -- document 02, card 10: what its last tick did, lent nothing
  last_tick : Query

-- the calls that name the channel, then the shared ones. `lent`, `one`, `two` are the lengths of what the call is lent.
pub data ChannelCall : Type 0 where
  write_register : (lent offset value : ℕ) → ChannelCall
  read_register : (offset : ℕ) → ChannelCall
  write_setpoint : (lent user buffer index word : ℕ) → ChannelCall
  arm : ChannelCall
  disarm : ChannelCall
  open_download : ChannelCall
  reply : (lent frame : ℕ) → ChannelCall
  query : (which : Query) (one two : ℕ) → ChannelCall
  tick : (lent : ℕ) → ChannelCall
  event : (lent code : ℕ) → ChannelCall
  change_user : (user : ℕ) → ChannelCall
  write_main : (lent offset value : ℕ) → ChannelCall
  read_main : (offset : ℕ) → ChannelCall

-- "It holds both depths, the current user, ..; its 16 × N setpoint and 2 × M readback words."
pub record OneChannel : Type 0 where
  pub n : ℕ
  pub m : ℕ
  pub user : ℕ
  pub channel : Channel
  pub setpoints : List ℕ
  pub readbacks : List ℕ

-- the same with one of these changed
abbrev pub with_user : OneChannel → ℕ → OneChannel
with_user o user = record { n = o.n; m = o.m; user = user; channel = o.channel; setpoints = o.setpoints; readbacks = o.readbacks }

abbrev pub with_channel : OneChannel → Channel → OneChannel
with_channel o c = record { n = o.n; m = o.m; user = o.user; channel = c; setpoints = o.setpoints; readbacks = o.readbacks }

abbrev pub with_setpoints : OneChannel → List ℕ → OneChannel
with_setpoints o s = record { n = o.n; m = o.m; user = o.user; channel = o.channel; setpoints = s; readbacks = o.readbacks }

abbrev pub with_readbacks : OneChannel → List ℕ → OneChannel
with_readbacks o s = record { n = o.n; m = o.m; user = o.user; channel = o.channel; setpoints = o.setpoints; readbacks = s }

-- "It opens as the board does": user 1, and its words as they are
abbrev pub one_channel : ℕ → ℕ → List ℕ → List ℕ → OneChannel
one_channel n m setpoints readbacks =
    record { n = n; m = m; user = 1; channel = opened; setpoints = setpoints; readbacks = readbacks }

-- ---- Refusals, in the order of document 01's table; one that a request adds where its card says

-- 1: "lent lengths other than 64 × N and 8 × M"
abbrev pub length_refusal : ℕ → ℕ → ℕ
length_refusal lent wanted = cond (eqb lent wanted) 0 (number_of refusal.SizeMismatch)

-- 7, of a reply that is not well framed
abbrev pub framing_refusal : Reading → ℕ
framing_refusal (frame.refused k) = k
framing_refusal (frame.fields id word aux crc) = 0

-- 2, of a user out of range
abbrev pub user_refusal : ℕ → ℕ
user_refusal user = cond (outside 1 8 user) (number_of refusal.OutOfRange) 0

abbrev pub query_refusal : OneChannel → Query → (one two : ℕ) → ℕ
query_refusal o retired one two = retired_refusal o.m one two
query_refusal o retired_length one two = retired_refusal o.m one two
query_refusal o readings one two = 0
query_refusal o (portion index size) one two = portion_refusal o.channel o.m index size one two
query_refusal o (portion_length index size) one two = portion_refusal o.channel o.m index size one two
query_refusal o last_tick one two = 0

unfoldable pub refusal_of : OneChannel → ChannelCall → ℕ
refusal_of o (write_register lent offset value) = then (length_refusal lent (o.m * 8)) (register_refusal o.channel offset value)
refusal_of o (read_register offset) = read_refusal (channel_access offset)
refusal_of o (write_setpoint lent user buffer index word) =
    then (length_refusal lent (o.n * 64)) (setpoint_refusal o.channel o.n user buffer index)
refusal_of o arm = 0
refusal_of o disarm = 0
refusal_of o open_download = 0
refusal_of o (reply lent f) = then (length_refusal lent (o.m * 8)) (framing_refusal (read f))
refusal_of o (query which one two) = query_refusal o which one two
refusal_of o (tick lent) = length_refusal lent (o.n * 64)
refusal_of o (event lent code) = length_refusal lent (o.m * 8)
refusal_of o (change_user user) = user_refusal user
refusal_of o (write_main lent offset value) = then (length_refusal lent (o.m * 8)) (write_refusal (main_access offset))
refusal_of o (read_main offset) = read_refusal (main_access offset)

-- ---- What a call that is not refused does

-- "A user change to another user idles every channel"
abbrev pub user_change : OneChannel → ℕ → OneChannel
user_change o user = cond (eqb user o.user) o (with_user (with_channel o (user_changed o.channel)) user)

-- "reading Main 28 or 2A answers its bit and clears it there, and other Main uses change nothing in it"
abbrev pub main_read : Channel → ℕ → Channel
main_read c offset = cond (eqb offset 0x28) (main_taken c false) (cond (eqb offset 0x2a) (main_taken c true) c)

unfoldable pub effect : OneChannel → ChannelCall → OneChannel
effect o (write_register lent offset value) =
    with_readbacks (with_channel o (register_effect o.channel offset value)) (register_words o.channel o.readbacks o.m offset value)
effect o (read_register offset) = with_channel o (read_effect o.channel offset)
effect o (write_setpoint lent user buffer index word) =
    with_setpoints o (setpoint_words o.channel o.setpoints o.n user buffer index word)
effect o arm = with_channel o (armed_of o.channel)
effect o disarm = with_channel o (disarmed_of o.channel)
effect o open_download = with_channel o (download_opened o.channel)
effect o (reply lent f) =
    with_readbacks (with_channel o (reply_of o.channel o.m f)) (reply_words o.channel o.readbacks o.m o.user f)
effect o (query which one two) = o
effect o (tick lent) = with_channel o (tick_of o.channel o.setpoints o.n o.user)
effect o (event lent code) =
    with_readbacks (with_channel o (event_of o.channel o.user code)) (event_words o.channel o.readbacks o.m code)
effect o (change_user user) = user_change o user
effect o (write_main lent offset value) = o
effect o (read_main offset) = with_channel o (main_read o.channel offset)

-- ---- What such a call answers

-- readback buffers 1 and 2 of the channel
abbrev pub buffer_one : OneChannel → List ℕ
buffer_one o = take o.m o.readbacks

abbrev pub buffer_two : OneChannel → List ℕ
buffer_two o = take o.m (drop o.m o.readbacks)

-- the retired part of its own buffers
unfoldable pub retired_of : OneChannel → List ℕ
retired_of o = retired_part (second_active o.channel.registers readback_place) o.channel.readbacks.retired (buffer_one o) (buffer_two o)

-- a portion of its download, of its own buffers
unfoldable pub portion_in : OneChannel → (index size : ℕ) → List ℕ
portion_in o index size = portion_of (download_part o.channel (buffer_one o) (buffer_two o)) index size

-- a read of 28 or 2A answers the channel its bit there, another Main use only that it was done
abbrev pub main_answer : Channel → ℕ → Answer
main_answer c offset =
    cond (eqb offset 0x28) (ans.bit (main_bit c false)) (cond (eqb offset 0x2a) (ans.bit (main_bit c true)) ans.done)

abbrev pub query_answer : OneChannel → Query → Answer
query_answer o retired = ans.part (retired_of o)
query_answer o retired_length = ans.part_length (length (retired_of o))
query_answer o readings = readings_answer o.channel
query_answer o (portion index size) = ans.part (portion_in o index size)
query_answer o (portion_length index size) = ans.part_length (length (portion_in o index size))
query_answer o last_tick = ans.last_tick (ans.reason_of o.channel.outcome)

unfoldable pub answer : OneChannel → ChannelCall → Answer
answer o (write_register lent offset value) = ans.done
answer o (read_register offset) = ans.value (read_value o.channel offset)
answer o (write_setpoint lent user buffer index word) = ans.done
answer o arm = ans.done
answer o disarm = ans.done
answer o open_download = opening_answer o.channel
answer o (reply lent f) = reply_answer o.channel o.m f
answer o (query which one two) = query_answer o which
answer o (tick lent) = tick_answer o.channel o.setpoints o.n o.user
answer o (event lent code) = ans.done
answer o (change_user user) = ans.done
answer o (write_main lent offset value) = ans.done
answer o (read_main offset) = main_answer o.channel offset

-- ---- One call, and a list of calls. "A refusal .. changes nothing."

unfoldable pub transition : OneChannel → ChannelCall → OneChannel
transition o k = cond (eqb (refusal_of o k) 0) (effect o k) o

unfoldable pub response : OneChannel → ChannelCall → Answer
response o k = unless (refusal_of o k) (answer o k)

abbrev pub transitions : OneChannel → List ChannelCall → OneChannel
transitions o [] = o
transitions o (k ∷ ks) = transitions (transition o k) ks

abbrev pub responses : OneChannel → List ChannelCall → List Answer
responses o [] = []
responses o (k ∷ ks) = response o k ∷ responses (transition o k) ks
