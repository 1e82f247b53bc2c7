-- Document 01, 'A channel's life', over what calls ANSWERED. A history: what a channel by itself was called with, in which state, and what it
-- answered. Laws over histories are stated with these.
-- Document 02, card 1: which of the frames are command frames, and which replies go to E4–FA, told by calls and answers. Card 2: the Frame ID that a
-- frame carries, read from the frame, and which register a call reads. Card 6: what a call makes of tags (specs/TagChanges). Card 7: a reply as an
-- ADC word, by its own frame. Card 8: which calls open a download. Card 10: which are ticks. Of the state before a call only the code of the Group End
-- event (which `TagsTold`, specs/Tags, has told by writes), the current user, and what a stored word says of the last send are looked at.
use Rattle.std.specs.Prelude.{ℕ, ◌+◌, Bool, true, false, cond, not, ◌&&◌, ◌||◌, List, [], ◌∷◌, eqb}
use Rattle.frame.specs.Frames.{Reading, read, crc_right}
use Rattle.frame.specs.Frames as frame
use Rattle.status.specs.Bits.{bit_at}
use Rattle.registers.specs.Map.{triggers_of, group_end_event}
use Rattle.adc_words.specs.declared.AdcWord.{AdcWord}
use Rattle.adc_words.specs.Positions.{adc_word, no_reply}
use Rattle.sequencer.specs.Playing.{send_of}
use Rattle.readback.specs.Storing.{stored_word}
use Rattle.command_frames.specs.declared.CommandFrames.{CommandFrames}
use Rattle.command_frames.specs.Commanding.{is_due, takes, received}
use Rattle.command_frames.specs.Commanding as cmd
use Rattle.channel_core.specs.Answers.{Answer, is_refusal, is_frame, is_received}
use Rattle.channel_core.specs.Answers as ans
use Rattle.channel.specs.OneChannel.{ChannelCall, OneChannel, transition, response}
use Rattle.channel.specs.OneChannel as call
use Rattle.histories.specs.TagChanges.{TagChange, leaves_tags, armed_tags, disarmed_tags, event_tags, written_tags}

-- one call: the state before it, the call, and what it answered
pub record Entry : Type 0 where
  pub before : OneChannel
  pub call : ChannelCall
  pub answer : Answer

abbrev pub entry : OneChannel → ChannelCall → Entry
entry o k = record { before = o; call = k; answer = response o k }

abbrev pub history : OneChannel → List ChannelCall → List Entry
history o [] = []
history o (k ∷ ks) = entry o k ∷ history (transition o k) ks

-- ---- What a call asks for

-- "Kept word: .. D31–D26 describe the last send", and D25 (card 6): the word of a reply that comes at this state; there is none where it is refused 7
abbrev pub reply_word : OneChannel → Reading → List ℕ
reply_word o (frame.refused k) = []
reply_word o (frame.fields id word aux crc) = stored_word (send_of o.channel.sequencer.last) o.user (not (crc_right id word aux crc)) id word ∷ []

-- a reply as an ADC word, stored or not: whether the CRC of its own frame is right, and its data
abbrev pub adc_in : Reading → (stored : Bool) → AdcWord
adc_in (frame.refused k) stored = no_reply
adc_in (frame.fields id word aux crc) stored = adc_word stored (crc_right id word aux crc) word

-- of a call that brings no reply
abbrev pub no_adc : (stored : Bool) → AdcWord
no_adc stored = no_reply

-- a reply that was answered kept
abbrev pub is_kept : Answer → Bool
is_kept (ans.refused k) = false
is_kept (ans.value v) = false
is_kept (ans.frame f) = false
is_kept ans.kept = true
is_kept ans.lost = false
is_kept (ans.part s) = false
is_kept (ans.other r) = false

-- what a call makes of command frames, by what it answered: the frame that waits, its registers, the replies to the last one
abbrev pub CommandChange : Type 0
CommandChange = Answer → CommandFrames → CommandFrames

abbrev pub leaves_commands : CommandChange
leaves_commands a f = f

-- a reply that was answered kept goes to E4–FA, where a command frame takes it
abbrev pub replied_to : Reading → CommandChange
replied_to (frame.refused k) a f = f
replied_to (frame.fields id word aux crc) a f = cond (is_kept a) (received f (not (crc_right id word aux crc)) id word) f

-- a tick that answered a frame: the command frame if one was due, else a setpoint's
abbrev pub ticked_by : CommandChange
ticked_by a f = cond (is_frame a) (cmd.ticked f (not (is_due f.waiting))) f

-- a write: Reset with D0, Commands with D2, else E0, E2 and FC keep it
abbrev pub written_by : ℕ → ℕ → CommandChange
written_by offset value a f =
    cond (eqb offset 0x06 && bit_at value 0) cmd.opened
    (cond (eqb offset 0x08 && bit_at value 2) (cmd.group_ended f) (cmd.stored f offset value))

-- what the laws over histories want to know of a call that is not refused
pub record Asks : Type 0 where
  -- a Group End: the Group End event's code, or Commands with D2
  pub group_end : Bool
  -- a reset: Reset with D0
  pub reset : Bool
  -- "A user change to another user idles every channel"; "Disarm idles"
  pub idle : Bool
  -- the opening of a download
  pub opens : Bool
  -- a tick
  pub ticks : Bool
  -- the word that a reply brings
  pub word : List ℕ
  -- that reply as an ADC word, stored or not
  pub adc : (stored : Bool) → AdcWord
  -- a read of the channel's register at this offset
  pub reads : ℕ → Bool
  -- what it makes of command frames
  pub commands : CommandChange
  -- what it makes of tags, where it is no setpoint send
  pub tags : TagChange

abbrev pub reads_nothing : ℕ → Bool
reads_nothing offset = false

-- none of these but what it makes of command frames and tags: the call ends no group, resets and idles nothing, opens no download, is no tick, brings
-- no word and reads no register
abbrev pub changing : CommandChange → TagChange → Asks
changing f g = record { group_end = false; reset = false; idle = false; opens = false; ticks = false; word = []; adc = no_adc; reads = reads_nothing; commands = f; tags = g }

-- none of these, whatever else it does
abbrev pub asks_nothing : Asks
asks_nothing = changing leaves_commands leaves_tags

-- one of these alone
abbrev pub group_end_if : Bool → TagChange → Asks
group_end_if on g =
    record { group_end = on; reset = false; idle = false; opens = false; ticks = false; word = []; adc = no_adc; reads = reads_nothing; commands = λ a f. cond on (cmd.group_ended f) f; tags = g }

abbrev pub idle_if : Bool → CommandChange → TagChange → Asks
idle_if on f g = record { group_end = false; reset = false; idle = on; opens = false; ticks = false; word = []; adc = no_adc; reads = reads_nothing; commands = f; tags = g }

abbrev pub bringing : List ℕ → (Bool → AdcWord) → CommandChange → Asks
bringing word a f = record { group_end = false; reset = false; idle = false; opens = false; ticks = false; word = word; adc = a; reads = reads_nothing; commands = f; tags = leaves_tags }

abbrev pub reading : ℕ → Asks
reading offset =
    record { group_end = false; reset = false; idle = false; opens = false; ticks = false; word = []; adc = no_adc; reads = eqb offset; commands = leaves_commands; tags = leaves_tags }

abbrev pub opening_download : Asks
opening_download =
    record { group_end = false; reset = false; idle = false; opens = true; ticks = false; word = []; adc = no_adc; reads = reads_nothing; commands = leaves_commands; tags = leaves_tags }

abbrev pub ticking : Asks
ticking =
    record { group_end = false; reset = false; idle = false; opens = false; ticks = true; word = []; adc = no_adc; reads = reads_nothing; commands = ticked_by; tags = leaves_tags }

abbrev pub asks : OneChannel → ChannelCall → Asks
asks o (call.write_register lent offset value) =
    record {
      group_end = eqb offset 0x08 && bit_at value 2;
      reset = eqb offset 0x06 && bit_at value 0;
      idle = false;
      opens = false;
      ticks = false;
      word = [];
      adc = no_adc;
      reads = reads_nothing;
      commands = written_by offset value;
      tags = written_tags offset value;
    }
asks o (call.read_register offset) = reading offset
asks o (call.write_setpoint lent user buffer index word) = asks_nothing
asks o call.arm = changing leaves_commands armed_tags
asks o call.disarm = idle_if true (λ a f. cmd.dropped f) disarmed_tags
asks o call.open_download = opening_download
asks o (call.reply lent f) = bringing (reply_word o (read f)) (adc_in (read f)) (replied_to (read f))
asks o (call.query which one two) = asks_nothing
asks o (call.tick lent) = ticking
asks o (call.event lent code) =
    group_end_if (triggers_of o.channel.registers group_end_event code) (event_tags code)
asks o (call.change_user user) = idle_if (not (eqb user o.user)) leaves_commands leaves_tags
asks o (call.write_main lent offset value) = asks_nothing
asks o (call.read_main offset) = asks_nothing

-- ---- What an entry shows

abbrev pub is_refused : Entry → Bool
is_refused e = is_refusal e.answer

-- a Group End that took place
abbrev pub ends_group : Entry → Bool
ends_group e = cond (is_refused e) false (asks e.before e.call).group_end

-- a reset that took place
abbrev pub resets : Entry → Bool
resets e = cond (is_refused e) false (asks e.before e.call).reset

-- a call that idles without either, and took place
abbrev pub stops : Entry → Bool
stops e = cond (is_refused e) false (asks e.before e.call).idle

-- the opening of a download that took place
abbrev pub opens_download : Entry → Bool
opens_download e = cond (is_refused e) false (asks e.before e.call).opens

-- a tick that took place
abbrev pub makes_tick : Entry → Bool
makes_tick e = cond (is_refused e) false (asks e.before e.call).ticks

-- a read of the register at this offset that took place
abbrev pub reads_at : ℕ → Entry → Bool
reads_at offset e = cond (is_refused e) false ((asks e.before e.call).reads offset)

-- the Frame ID that a frame carries; 0 where the number is no frame
abbrev pub id_in : Reading → ℕ
id_in (frame.refused k) = 0
id_in (frame.fields id word aux crc) = id

-- the Frame ID of the frame that a tick answered; 0 where there is none, which nothing asks for
abbrev pub sent_id : Answer → ℕ
sent_id (ans.refused k) = 0
sent_id (ans.value v) = 0
sent_id (ans.frame f) = id_in (read f)
sent_id ans.kept = 0
sent_id ans.lost = 0
sent_id (ans.part s) = 0
sent_id (ans.other r) = 0

-- ---- Command frames along a history

-- what is told of command frames after an entry; a refused call tells nothing
unfoldable pub commands_after : CommandFrames → Entry → CommandFrames
commands_after f e = cond (is_refused e) f ((asks e.before e.call).commands e.answer f)

unfoldable pub commands_since : CommandFrames → List Entry → CommandFrames
commands_since f [] = f
commands_since f (e ∷ es) = commands_since (commands_after f e) es

-- an entry, and what the entries before it tell of command frames
pub record Told : Type 0 where
  pub entry : Entry
  pub commands : CommandFrames

unfoldable pub told : CommandFrames → List Entry → List Told
told f [] = []
told f (e ∷ es) = record { entry = e; commands = f } ∷ told (commands_after f e) es

-- of a history from an opening
abbrev pub told_of : OneChannel → List ChannelCall → List Told
told_of o ks = told cmd.opened (history o ks)

-- a setpoint send: a tick that answered a frame, where no command frame was due
abbrev pub sends_setpoint : Told → Bool
sends_setpoint t = is_frame t.entry.answer && not (is_due t.commands.waiting)

-- a reply that was answered kept or lost, and did not go to E4–FA
abbrev pub receives : Told → Bool
receives t = is_received t.entry.answer && not (takes t.commands)

-- ---- Counted along a history

-- how many setpoints were sent since the last Group End or reset, and `k` more before the history if it has none
unfoldable pub sends_since : ℕ → List Told → ℕ
sends_since k [] = k
sends_since k (t ∷ ts) = sends_since (cond (ends_group t.entry || resets t.entry) 0 (cond (sends_setpoint t) (k + 1) k)) ts
