-- Document 02, card 1: command frames, which leave between functions. A channel's registers E0–FE, the frame that waits, and the replies to the last
-- one sent. Of a channel alone; who calls these, and when, stands in channel_core, channel_replies, channel_registers and channel.
use Rattle.std.specs.Prelude.{ℕ, ◌+◌, ◌-◌, ◌*◌, ◌/◌, ◌%◌, Bool, true, false, cond, ◌&&◌, List, get_or, set, replicate, eqb, ltb, Option, Some, None}
use Rattle.frame.specs.Frames.{encoded}
use Rattle.status.specs.Bits.{bit_at, bit_of}
use Rattle.command_frames.specs.declared.Trigger.{Trigger}
use Rattle.command_frames.specs.declared.Trigger.TheVariants as trigger
use Rattle.command_frames.specs.declared.CommandFrames.{CommandFrames}

-- "all registers 0": nothing was sent, and nothing waits
abbrev pub opened : CommandFrames
opened = record { header = 0; word = 0; waiting = None; receiving = false; count = 0; replies = replicate 12 0 }

-- the same with one of these changed
abbrev pub with_header : CommandFrames → ℕ → CommandFrames
with_header f header = record { header = header; word = f.word; waiting = f.waiting; receiving = f.receiving; count = f.count; replies = f.replies }

abbrev pub with_word : CommandFrames → ℕ → CommandFrames
with_word f word = record { header = f.header; word = word; waiting = f.waiting; receiving = f.receiving; count = f.count; replies = f.replies }

abbrev pub with_waiting : CommandFrames → Option Trigger → CommandFrames
with_waiting f w = record { header = f.header; word = f.word; waiting = w; receiving = f.receiving; count = f.count; replies = f.replies }

abbrev pub with_receiving : CommandFrames → Bool → CommandFrames
with_receiving f receiving = record { header = f.header; word = f.word; waiting = f.waiting; receiving = receiving; count = f.count; replies = f.replies }

-- ---- What waits

-- a write to FC: "FC D0 sends on the next tick. D1 sends on the tick after the next Group End. D0 wins if both are set."; "a later FC write with D0 or
-- D1 replaces a waiting frame", one with neither changes nothing
abbrev pub requested : Option Trigger → ℕ → Option Trigger
requested w value = cond (bit_at value 0) (Some trigger.NextTick) (cond (bit_at value 1) (Some trigger.GroupEnd) w)

-- a frame leaves on the next tick
abbrev pub is_due : Option Trigger → Bool
is_due None = false
is_due (Some trigger.NextTick) = true
is_due (Some trigger.GroupEnd) = false

-- a Group End: a frame that waited for it leaves on the tick after
abbrev pub reached : Option Trigger → Option Trigger
reached None = None
reached (Some trigger.NextTick) = Some trigger.NextTick
reached (Some trigger.GroupEnd) = Some trigger.NextTick

-- a tick: none waits for it any longer
abbrev pub elapsed : Option Trigger → Option Trigger
elapsed None = None
elapsed (Some trigger.NextTick) = None
elapsed (Some trigger.GroupEnd) = Some trigger.GroupEnd

-- ---- Registers

-- what a write at an offset keeps: "E0 high byte auxiliary bits and low byte Frame ID, E2 data, .. FC send"
unfoldable pub stored : CommandFrames → ℕ → ℕ → CommandFrames
stored f offset value =
    cond (eqb offset 0xe0) (with_header f value)
    (cond (eqb offset 0xe2) (with_word f value)
    (cond (eqb offset 0xfc) (with_waiting f (requested f.waiting value)) f))

-- what a read at an offset shows: E0, E2, "E4–FA six pairs of readback ID and readback, .. FE readback count"
unfoldable pub loaded : CommandFrames → ℕ → ℕ
loaded f offset =
    cond (eqb offset 0xe0) f.header
    (cond (eqb offset 0xe2) f.word
    (cond (ltb offset 0xe4) 0
    (cond (ltb offset 0xfc) (get_or f.replies ((offset - 0xe4) / 2) 0)
    (cond (eqb offset 0xfe) f.count 0))))

-- ---- The frame

-- "The frame is built from E0 and E2 at that tick"
unfoldable pub command_frame : CommandFrames → ℕ
command_frame f = encoded (f.header % 256) f.word (f.header / 256)

-- it leaves: "FE is cleared when a command frame is sent", and replies go to E4–FA from now on
abbrev pub sent : CommandFrames → CommandFrames
sent f = record { header = f.header; word = f.word; waiting = None; receiving = true; count = 0; replies = f.replies }

-- a setpoint leaves: replies go to E4–FA "until the first setpoint". No frame is due on that tick (`NeverTogether`, histories)
abbrev pub setpoint_sent : CommandFrames → CommandFrames
setpoint_sent f = with_receiving (with_waiting f (elapsed f.waiting)) false

-- a tick, with a setpoint or without
unfoldable pub ticked : CommandFrames → Bool → CommandFrames
ticked f setpoint = cond setpoint (setpoint_sent f) (cond (is_due f.waiting) (sent f) f)

-- Group End: a frame that waits for it is due; replies go to E4–FA "until .. Group End"
unfoldable pub group_ended : CommandFrames → CommandFrames
group_ended f = with_receiving (with_waiting f (reached f.waiting)) false

-- "Disarm and reset drop a waiting frame." (A reset returns to `opened`.)
unfoldable pub dropped : CommandFrames → CommandFrames
dropped f = with_waiting f None

-- ---- Replies

-- "Up to six replies after it go to E4–FA"
unfoldable pub takes : CommandFrames → Bool
takes f = f.receiving && ltb f.count 6

-- "D8 of an ID word for a wrong CRC and its other high bits 0"
abbrev pub id_word : ℕ → Bool → ℕ
id_word id wrong = bit_of wrong * 0x100 + id

-- the next pair after the `count` that are there
abbrev pub with_pair : List ℕ → ℕ → ℕ → ℕ → List ℕ
with_pair replies count id word = set (set replies (2 * count) id) (2 * count + 1) word

-- a reply: to E4–FA, where it goes there
unfoldable pub received : CommandFrames → Bool → ℕ → ℕ → CommandFrames
received f wrong id word =
    cond (takes f)
    (record {
      header = f.header;
      word = f.word;
      waiting = f.waiting;
      receiving = f.receiving;
      count = f.count + 1;
      replies = with_pair f.replies f.count (id_word id wrong) word;
    })
    f
