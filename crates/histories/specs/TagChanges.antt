-- Document 02, card 6: what each call makes of tags. What is told of them goes by calls and what they answered: arming, disarming and resets, writes to the
-- event registers, events and commands, and the setpoint sends. Nothing here looks at the state.
use Rattle.std.specs.Prelude.{ℕ, ◌-◌, ◌/◌, ◌%◌, Bool, true, false, cond, not, ◌&&◌, ◌||◌, List, eqb, leb, ltb, get_or, set, replicate}
use Rattle.status.specs.Bits.{bit_at}
use Rattle.registers.specs.Map.{matches, group_end_event, tag_event}

-- whether the channel is armed, what the event registers 20–2C hold, whether there is "a tag not yet used", and whether the last setpoint send used one
pub record Tags : Type 0 where
  pub armed : Bool
  pub events : List ℕ
  pub tag : Bool
  pub tagged : Bool

-- at an opening and after a reset: "all registers 0, channels disarmed"; reset drops "a tag not yet used"
abbrev pub opened_tags : Tags
opened_tags = record { armed = false; events = replicate 7 0; tag = false; tagged = false }

-- what a call makes of them
abbrev pub TagChange : Type 0
TagChange = Tags → Tags

-- nothing
abbrev pub leaves_tags : TagChange
leaves_tags g = g

-- arming
abbrev pub armed_tags : TagChange
armed_tags g = record { armed = true; events = g.events; tag = g.tag; tagged = g.tagged }

-- disarming: "Group End, disarm and reset drop a tag not yet used."
abbrev pub disarmed_tags : TagChange
disarmed_tags g = record { armed = false; events = g.events; tag = false; tagged = g.tagged }

-- a Group End, where it is asked for: it drops "a tag not yet used"
abbrev pub dropped_if : Bool → TagChange
dropped_if on g = record { armed = g.armed; events = g.events; tag = not on && g.tag; tagged = g.tagged }

-- a tag, where it is asked for: "A tag event or Commands D3 on an armed channel marks the next setpoint send."
abbrev pub tagged_if : Bool → TagChange
tagged_if on g = record { armed = g.armed; events = g.events; tag = (on && g.armed) || g.tag; tagged = g.tagged }

-- an event: "Tag acts last within one event or command.", after the Group End, if there is one; Start and Resume leave tags
abbrev pub event_tags : (code : ℕ) → TagChange
event_tags code g =
    tagged_if (matches (get_or g.events tag_event 0) code) (dropped_if (matches (get_or g.events group_end_event 0) code) g)

-- a write to Commands: so with D3 and D2
abbrev pub command_tags : (value : ℕ) → TagChange
command_tags value g = tagged_if (bit_at value 3) (dropped_if (bit_at value 2) g)

-- a write to an event register: "Event registers keep 9 bits: D8 active, D7–D0 code."
abbrev pub event_written : (offset value : ℕ) → TagChange
event_written offset value g =
    record { armed = g.armed; events = set g.events ((offset - 0x20) / 2) (value % 512); tag = g.tag; tagged = g.tagged }

-- a write: Reset with D0, Commands, an event register; to another register it leaves tags
abbrev pub written_tags : (offset value : ℕ) → TagChange
written_tags offset value g =
    cond (eqb offset 0x06 && bit_at value 0) opened_tags
    (cond (eqb offset 0x08) (command_tags value g)
    (cond (leb 0x20 offset && ltb offset 0x2e) (event_written offset value g) g))

-- a setpoint send, a repeat too: a tag not yet used marks it; "the send after it ends the mark"
abbrev pub sent_tags : TagChange
sent_tags g = record { armed = g.armed; events = g.events; tag = false; tagged = g.tag }
