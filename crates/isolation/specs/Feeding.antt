-- Document 01, 'What holds it to this': what a channel is fed of a call, what it observes of the answer, and what of the world is its own.
use Rattle.std.specs.Prelude.{ℕ, ◌+◌, ◌*◌, List, [], ◌∷◌, ◌++◌, Bool, true, false, cond, ◌||◌, length, eqb}
use Rattle.status.specs.Bits.{bit_at}
use Rattle.address_map.specs.Addresses.{Named, named, main, channel, nothing}
use Rattle.channel_core.specs.Answers.{Answer, is_refusal}
use Rattle.channel_core.specs.Answers as ans
use Rattle.channel.specs.OneChannel.{OneChannel, ChannelCall}
use Rattle.channel.specs.OneChannel as to
use Rattle.board_state.specs.State.{channel_at}
use Rattle.board_state.specs.Parts.{own}
use Rattle.board.specs.Answers.{BoardAnswer, one, each, of_four}
use Rattle.board.specs.Worlds.{World}
use Rattle.isolation.specs.Calls.{Call, write_register, read_register, write_setpoint, arm, disarm, open_download, reply, query, tick, event, change_user, interrupt_level, first, second, Item, answer, step}

-- one, or none
abbrev pub only : {A : Type 0} → Bool → A → List A
only true a = a ∷ []
only false a = []

-- ---- Whom a call concerns

pub data Scope : Type 0 where
  -- it names a channel, by a number that may be out of range
  of_one : (number : ℕ) → Scope
  -- shared: a tick, which answers each channel for itself
  of_each : Scope
  -- shared: a read of a Main register
  of_main : (offset : ℕ) → Scope
  -- any other shared call
  of_all : Scope
  -- it concerns no channel
  of_none : Scope

-- "A register call names the channel in whose 0800h its address falls"; an address from 2800h up "names no channel"
abbrev pub write_scope : Named → Scope
write_scope (main offset) = of_all
write_scope (channel number offset) = of_one number
write_scope nothing = of_none

abbrev pub read_scope : Named → Scope
read_scope (main offset) = of_main offset
read_scope (channel number offset) = of_one number
read_scope nothing = of_none

-- "Naming a channel: register write, register read, setpoint write, arm, disarm, reply, retired readbacks." "Shared: tick (1 µs), event (8-bit
-- code), user change, Main register use, interrupt level.", which "is fed to none"
abbrev pub scope : Call → Scope
scope (write_register address value) = write_scope (named address)
scope (read_register address) = read_scope (named address)
scope (write_setpoint number user buffer index word) = of_one number
scope (arm number) = of_one number
scope (disarm number) = of_one number
scope (open_download number) = of_one number
scope (reply number frame) = of_one number
scope (query number which) = of_one number
scope tick = of_each
scope (event code) = of_all
scope (change_user user) = of_all
scope interrupt_level = of_none

abbrev pub names_in : Scope → ℕ → Bool
names_in (of_one number) c = eqb number c
names_in of_each c = false
names_in (of_main offset) c = false
names_in of_all c = false
names_in of_none c = false

-- whether a call names channel c
abbrev pub names : Call → ℕ → Bool
names x c = names_in (scope x) c

-- ---- What channel c is fed: "calls with their arguments and lent lengths, never the board's answers or state"

-- a Main use is shared; an address from 2800h up "names no channel and .. is fed to none"
abbrev pub feed_write : ℕ → Named → (lent value : ℕ) → List ChannelCall
feed_write c (main offset) lent value = to.write_main lent offset value ∷ []
feed_write c (channel number offset) lent value = only (eqb number c) (to.write_register lent offset value)
feed_write c nothing lent value = []

abbrev pub feed_read : ℕ → Named → List ChannelCall
feed_read c (main offset) = to.read_main offset ∷ []
feed_read c (channel number offset) = only (eqb number c) (to.read_register offset)
feed_read c nothing = []

-- `k` and `j` are the lengths of what the call is lent. A call naming another channel, or none, feeds nothing; a shared one feeds all four
abbrev pub feed : ℕ → Call → (k j : ℕ) → List ChannelCall
feed c (write_register address value) k j = feed_write c (named address) k value
feed c (read_register address) k j = feed_read c (named address)
feed c (write_setpoint number user buffer index word) k j =
    only (eqb number c) (to.write_setpoint k user buffer index word)
feed c (arm number) k j = only (eqb number c) to.arm
feed c (disarm number) k j = only (eqb number c) to.disarm
feed c (open_download number) k j = only (eqb number c) to.open_download
feed c (reply number frame) k j = only (eqb number c) (to.reply k frame)
feed c (query number which) k j = only (eqb number c) (to.query which k j)
feed c tick k j = to.tick k ∷ []
feed c (event code) k j = to.event k code ∷ []
feed c (change_user user) k j = to.change_user user ∷ []
feed c interrupt_level k j = []

abbrev pub feeds : ℕ → Item → List ChannelCall
feeds c i = feed c i.call (length (first i.lent)) (length (second i.lent))

-- ---- What channel c observes

-- an answer, or of a tick's this channel's: its "frame or none"
abbrev pub answer_for : ℕ → BoardAnswer → Answer
answer_for c (one a) = a
answer_for c (each f g h k) = of_four c f g h k

-- "for a shared call, the number if refused"; of any other answer nothing is compared
abbrev pub shared : Answer → Answer
shared a = cond (is_refusal a) a ans.done

-- the word of a register read
abbrev pub value_of : Answer → ℕ
value_of (ans.refused k) = 0
value_of (ans.value v) = v
value_of (ans.frame f) = 0
value_of ans.kept = 0
value_of ans.lost = 0
value_of (ans.part s) = 0
value_of (ans.other r) = 0

-- "and its bit when 28 or 2A is read": "D7–D4 channels 4–1"
abbrev pub shared_read : ℕ → ℕ → Answer → Answer
shared_read c offset a =
    cond (is_refusal a) a (cond (eqb offset 0x28 || eqb offset 0x2a) (ans.bit (bit_at (value_of a) (3 + c))) ans.done)

-- "for a call naming the channel, the answer, be it a refusal's number or a part's words in order"; for a shared call, the number if refused,
-- "this channel's frame or none on a tick, and its bit when 28 or 2A is read"
abbrev pub observe_in : ℕ → Scope → BoardAnswer → List Answer
observe_in c (of_one number) s = only (eqb number c) (answer_for c s)
observe_in c of_each s = answer_for c s ∷ []
observe_in c (of_main offset) s = shared_read c offset (answer_for c s) ∷ []
observe_in c of_all s = shared (answer_for c s) ∷ []
observe_in c of_none s = []

abbrev pub observe : ℕ → Call → BoardAnswer → List Answer
observe c x s = observe_in c (scope x) s

-- ---- What of the world is channel c's: all that the one-channel definition holds

abbrev pub view : ℕ → World → OneChannel
view c w =
    record {
      n = w.board.n;
      m = w.board.m;
      user = w.board.user;
      channel = channel_at w.board c;
      setpoints = own w.setpoints (w.board.n * 16) c;
      readbacks = own w.readbacks (w.board.m * 2) c;
    }

-- ---- Along a list

abbrev pub fed : ℕ → List Item → List ChannelCall
fed c [] = []
fed c (i ∷ is) = feeds c i ++ fed c is

abbrev pub observes : ℕ → World → List Item → List Answer
observes c w [] = []
observes c w (i ∷ is) = observe c i.call (answer w.board i.call i.lent) ++ observes c (step w i) is
