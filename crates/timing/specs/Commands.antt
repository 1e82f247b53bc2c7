-- Document 02, card 1, in its own terms: what FC asks for and what leaves, what E4–FE read then, over what calls ANSWER on one channel by itself. Of any
-- state `o`, reachable or not; each law names the frame and the words by the paper's rule, and not by the definitions that the channel is made of.
use Rattle.std.specs.Prelude.{ℕ, ◌+◌, ◌*◌, ◌/◌, ◌%◌, ◌<◌, ◌≡◌, Bool, true, false, cond, not, ◌&&◌, length}
use Rattle.frame.specs.Frames.{encoded, read, fields, crc_right}
use Rattle.status.specs.Bits.{bit_at, bit_of}
use Rattle.sequencer.specs.Playing.{is_idle}
use Rattle.channel_core.specs.Answers as ans
use Rattle.channel.specs.OneChannel.{OneChannel, ChannelCall, write_register, read_register, disarm, reply, transition, response}
use Rattle.histories.specs.History.{entry, ends_group}
use Rattle.timing.specs.Ticking.{after, on_tick, between}

-- a write to a register of this channel, lent memory of the right length
abbrev pub write : OneChannel → ℕ → ℕ → ChannelCall
write o offset value = write_register (o.m * 8) offset value

abbrev pub written : OneChannel → ℕ → ℕ → OneChannel
written o offset value = transition o (write o offset value)

-- E0 and E2 written, in this order
abbrev pub prepared : OneChannel → ℕ → ℕ → OneChannel
prepared o header word = written (written o 0xe0 header) 0xe2 word

-- "E0 high byte auxiliary bits and low byte Frame ID, E2 data"
abbrev pub carried : ℕ → ℕ → ans.Answer
carried header word = ans.frame (encoded (header % 256) word (header / 256))

-- ---- FC

-- "(10 "function on": FC written with D0 while disarmed or not idle"; and nothing else is refused
abbrev pub SendRefused : Type 0
SendRefused =
    (o : OneChannel) (value : ℕ)
    → response o (write o 0xfc value)
    ≡ cond (bit_at value 0 && not (o.channel.sequencer.armed && is_idle o.channel.sequencer.stage)) (ans.refused 10) ans.done

-- "FC D0 sends on the next tick", whatever waited before and whether D1 is set too. "The frame is built from E0 and E2 at that tick": as written after
-- FC. "FE is cleared when a command frame is sent."
abbrev pub SendsNow : Type 0
SendsNow =
    (o : OneChannel) (value header word : ℕ)
    → o.channel.sequencer.armed ≡ true → is_idle o.channel.sequencer.stage ≡ true → bit_at value 0 ≡ true
    → let p = prepared (written o 0xfc value) header word in
    (on_tick p 1 ≡ carried header word) × (response (after p 1) (read_register 0xfe) ≡ ans.value 0)

-- "D1 sends on the tick after the next Group End.", however many ticks come before it, whatever waited before, and whatever call `g` it comes by: its
-- event or Commands D2, with a Start or without
abbrev pub SendsAfterGroupEnd : Type 0
SendsAfterGroupEnd =
    (o : OneChannel) (value k : ℕ) (g : ChannelCall) (header word : ℕ)
    → bit_at value 0 ≡ false → bit_at value 1 ≡ true
    → let w = after (written o 0xfc value) k in
    ends_group (entry w g) ≡ true
    → let p = prepared (transition w g) header word in
    (on_tick p 1 ≡ carried header word) × (response (after p 1) (read_register 0xfe) ≡ ans.value 0)

-- and none before it
abbrev pub WaitsForGroupEnd : Type 0
WaitsForGroupEnd =
    (o : OneChannel) (value j : ℕ) → bit_at value 0 ≡ false → bit_at value 1 ≡ true → between (written o 0xfc value) j ≡ ans.none

-- with neither bit nothing changes
abbrev pub NeitherBit : Type 0
NeitherBit = (o : OneChannel) (value : ℕ) → bit_at value 0 ≡ false → bit_at value 1 ≡ false → written o 0xfc value ≡ o

-- "Disarm and reset drop a waiting frame.": none leaves, not even after a Group End
abbrev pub Dropped : Type 0
Dropped =
    (o : OneChannel) (j : ℕ)
    → let d = transition o disarm in
    let r = written o 0x06 1 in
    (between d j ≡ ans.none) × ((g : ChannelCall) → ends_group (entry d g) ≡ true → between (transition d g) j ≡ ans.none)
    × (between r j ≡ ans.none) × ((g : ChannelCall) → ends_group (entry r g) ≡ true → between (transition r g) j ≡ ans.none)

-- ---- Replies

-- the ID word of a pair: "D8 of an ID word for a wrong CRC and its other high bits 0"
abbrev pub readback_id : ℕ → Bool → ℕ
readback_id id right = bit_of (not right) * 256 + id

-- "Up to six replies after it go to E4–FA, answered as kept and stored in no buffer": reply k + 1 after a command frame, as the k-th pair from 0
pub record PairKept (o : OneChannel) (number id word k : ℕ) (right : Bool) : Type 0 where
  pub answers : response o (reply (o.m * 8) number) ≡ ans.kept
  pub readback_id_lem : response (transition o (reply (o.m * 8) number)) (read_register (0xe4 + 4 * k)) ≡ ans.value (readback_id id right)
  pub readback : response (transition o (reply (o.m * 8) number)) (read_register (0xe6 + 4 * k)) ≡ ans.value word
  pub count : response (transition o (reply (o.m * 8) number)) (read_register 0xfe) ≡ ans.value (k + 1)
  pub words : (transition o (reply (o.m * 8) number)).readbacks ≡ o.readbacks

abbrev pub RepliesToCommands : Type 0
RepliesToCommands =
    (o : OneChannel) (number id word aux crc k : ℕ) → read number ≡ fields id word aux crc
    → length o.channel.commands.replies ≡ 12 → o.channel.commands.receiving ≡ true → o.channel.commands.count ≡ k → k < 6
    → PairKept o number id word k (crc_right id word aux crc)

-- "until .. Group End": after one a reply is unasked, whatever was sent before it
abbrev pub GroupEndCloses : Type 0
GroupEndCloses =
    (o : OneChannel) (g : ChannelCall) (number id word aux crc : ℕ) → ends_group (entry o g) ≡ true → read number ≡ fields id word aux crc
    → let p = transition o g in
    response p (reply (p.m * 8) number) ≡ ans.unsolicited

-- ---- All of it

pub record CommandLaws : Type 0 where
  pub send_refused : SendRefused
  pub sends_now : SendsNow
  pub sends_after_group_end : SendsAfterGroupEnd
  pub waits_for_group_end : WaitsForGroupEnd
  pub neither_bit : NeitherBit
  pub dropped : Dropped
  pub replies_to_commands : RepliesToCommands
  pub group_end_closes : GroupEndCloses
