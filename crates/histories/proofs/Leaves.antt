-- Start, Resume, Tag and reads leave the registers, the stored readback counts, the ADC words, the download, what the last tick did and the command
-- frames; a reply leaves the download and what the last tick did. Assumes nothing.
use Prim.Native.Nat.{ℕ}
use mathlib.Core.Path.{◌≡◌, refl, ◌∙◌}
use mathlib.Core.Bool.{Bool, true, false}
use lib.Dec.{eqb}
use Rattle.frame.specs.Frames.{Reading, read, crc_right}
use Rattle.frame.specs.Frames as frame
use Rattle.status.specs.Bits.{bit_at}
use Rattle.registers.specs.Map.{triggers_of, group_end_event}
use Rattle.sequencer.specs.Playing.{is_idle}
use Rattle.readback.specs.declared.Disposition.{Disposition}
use Rattle.readback.specs.declared.Disposition.TheVariants as disposition
use Rattle.command_frames.specs.Commanding.{takes}
use Rattle.channel_core.specs.declared.Channel.{Channel}
use Rattle.channel_core.specs.Behaviour.{started, started_if, ended_if, resumed_if, tagged_if, resumed_on, event_of, commanded}
use Rattle.channel_replies.specs.Replying.{disposition_now, received_channel, reply_as, reply_of}
use Rattle.channel_registers.specs.Calls.{read_effect}
use Rattle.channel.specs.Calls.{main_taken}
use Rattle.channel.specs.OneChannel.{main_read}
use Rattle.channel.proofs.Cases.{either}

pub record Leaves (c d : Channel) : Type 0 where
  pub registers : d.registers ≡ c.registers
  pub readbacks : d.readbacks ≡ c.readbacks
  pub adc : d.adc ≡ c.adc
  pub download : d.download ≡ c.download
  pub outcome : d.outcome ≡ c.outcome
  pub commands : d.commands ≡ c.commands

pub leaves_all : (c : Channel) → Leaves c c
leaves_all c = record { registers = refl; readbacks = refl; adc = refl; download = refl; outcome = refl; commands = refl }

leaves_both : {c d e : Channel} → Leaves c d → Leaves d e → Leaves c e
leaves_both a b = record { registers = b.registers ∙ a.registers; readbacks = b.readbacks ∙ a.readbacks; adc = b.adc ∙ a.adc; download = b.download ∙ a.download; outcome = b.outcome ∙ a.outcome; commands = b.commands ∙ a.commands }

leaves_started : (on : Bool) (c : Channel) (delay : ℕ) → Leaves c (started_if on c delay)
unfolding started_if started
leaves_started true c delay =
    either (Leaves c) c.sequencer.armed
    (leaves_both
    (either (Leaves c) (is_idle c.sequencer.stage) (record { registers = refl; readbacks = refl; adc = refl; download = refl; outcome = refl; commands = refl }) (leaves_all c))
    (record { registers = refl; readbacks = refl; adc = refl; download = refl; outcome = refl; commands = refl }))
    (leaves_all c)
leaves_started false c delay = leaves_all c

leaves_resumed : (on : Bool) (c : Channel) (pause delay : ℕ) → Leaves c (resumed_if on c pause delay)
unfolding resumed_if
leaves_resumed on c pause delay = either (Leaves c) on (record { registers = refl; readbacks = refl; adc = refl; download = refl; outcome = refl; commands = refl }) (leaves_all c)

leaves_tagged : (on : Bool) (c : Channel) → Leaves c (tagged_if on c)
unfolding tagged_if
leaves_tagged on c = either (Leaves c) on (record { registers = refl; readbacks = refl; adc = refl; download = refl; outcome = refl; commands = refl }) (leaves_all c)

-- what one event or command does after its Group End, if any
pub leaves_event : (c : Channel) (user code : ℕ) → Leaves (ended_if (triggers_of c.registers group_end_event code) c) (event_of c user code)
unfolding event_of resumed_on
leaves_event c user code =
    leaves_both (leaves_started _ _ _)
    (leaves_both (leaves_resumed _ _ _ _)
    (leaves_both (leaves_resumed _ _ _ _)
    (leaves_both (leaves_resumed _ _ _ _) (leaves_both (leaves_resumed _ _ _ _) (leaves_tagged _ _)))))

pub leaves_command : (c : Channel) (value : ℕ) → Leaves (ended_if (bit_at value 2) c) (commanded c value)
unfolding commanded
leaves_command c value = leaves_both (leaves_started _ _ _) (leaves_both (leaves_resumed _ _ _ _) (leaves_tagged _ _))

-- a register read and a Main read clear what they showed, and no more
pub leaves_read : (c : Channel) (offset : ℕ) → Leaves c (read_effect c offset)
unfolding read_effect
leaves_read c offset =
    either (Leaves c) (eqb offset 0x02) (record { registers = refl; readbacks = refl; adc = refl; download = refl; outcome = refl; commands = refl })
    (either (Leaves c) (eqb offset 0x04) (record { registers = refl; readbacks = refl; adc = refl; download = refl; outcome = refl; commands = refl })
    (either (Leaves c) (eqb offset 0x0c) (record { registers = refl; readbacks = refl; adc = refl; download = refl; outcome = refl; commands = refl }) (leaves_all c)))

leaves_taken : (c : Channel) (polling : Bool) → Leaves c (main_taken c polling)
unfolding main_taken
leaves_taken c polling =
    either (Leaves c) polling (record { registers = refl; readbacks = refl; adc = refl; download = refl; outcome = refl; commands = refl }) (record { registers = refl; readbacks = refl; adc = refl; download = refl; outcome = refl; commands = refl })

pub leaves_main : (c : Channel) (offset : ℕ) → Leaves c (main_read c offset)
leaves_main c offset =
    either (Leaves c) (eqb offset 0x28) (leaves_taken c false) (either (Leaves c) (eqb offset 0x2a) (leaves_taken c true) (leaves_all c))

-- a reply leaves the download and what the last tick did
pub record LeavesAside (c d : Channel) : Type 0 where
  pub download : d.download ≡ c.download
  pub outcome : d.outcome ≡ c.outcome

pub leaves_reply : (c : Channel) (m f : ℕ) → LeavesAside c (reply_of c m f)
unfolding reply_of
leaves_reply c m f = go (read f)
  where
    disposed : (d : Disposition) (right : Bool) (word : ℕ) → LeavesAside c (received_channel d c m right word)
    disposed disposition.Unsolicited right word = record { download = refl; outcome = refl }
    disposed disposition.Lost right word = record { download = refl; outcome = refl }
    disposed disposition.Kept right word = record { download = refl; outcome = refl }

    go : (g : Reading) → LeavesAside c (reply_as g c m)
    go (frame.refused k) = record { download = refl; outcome = refl }
    go (frame.fields id word aux crc) =
        either (LeavesAside c) (takes c.commands) (record { download = refl; outcome = refl })
        (disposed (disposition_now c m) (crc_right id word aux crc) word)
