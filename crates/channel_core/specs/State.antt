-- Document 01, 'A channel's life': one channel's state, what is listed under "It holds ..", but for the depths, the current user and the words, which come with each call.
--   "its registers"                          registers, and status.enable, status's two copies
--   "both Main bits"                         status.interrupt.main, status.polling.main
--   armed, idle, ticks, index, word, last send, replies, last word went, setpoint count    sequencer (crate `sequencer`)
--   "both stored readback counts"            readbacks (crate `readback`)
-- Document 02, card 1: "A channel's solitary definition now has these registers."
--   E0–FE, the frame that waits, whether replies go to E4–FA    commands (crate `command_frames`)
-- Card 2: "The channel record carries the Frame ID of its last setpoint send and this count."    sequencer
-- Card 6: "a tag not yet used", and whether the last setpoint send used one    sequencer
-- Card 7: the ADC words of "its last setpoint send", as far as replies to it have come    adc (crate `adc_words`)
-- Card 8: the download, and the retired count that it "remembers"    download (crate `downloads`)
-- Card 10: "what the last tick did"    outcome (crate `tick_outcome`)
use Rattle.std.specs.Prelude.{ℕ, Option}
use Rattle.status.specs.declared.Status.{Status}
use Rattle.status.specs.Latching as st
use Rattle.registers.specs.declared.Registers.{Registers}
use Rattle.registers.specs.Map as reg
use Rattle.adc_words.specs.declared.AdcWords.{AdcWords}
use Rattle.adc_words.specs.Positions.{none_arrived}
use Rattle.downloads.specs.declared.Download.{Download}
use Rattle.downloads.specs.Portions.{no_download}
use Rattle.sequencer.specs.declared.Sequencer.{Sequencer}
use Rattle.sequencer.specs.Playing as seq
use Rattle.tick_outcome.specs.declared.TickOutcome.{TickOutcome}
use Rattle.tick_outcome.specs.declared.TickOutcome.TheVariants as tick
use Rattle.readback.specs.declared.Readbacks.{Readbacks}
use Rattle.readback.specs.Storing as rb
use Rattle.command_frames.specs.declared.CommandFrames.{CommandFrames}
use Rattle.command_frames.specs.Commanding as cmd
use Rattle.channel_core.specs.declared.Channel.{Channel}

-- "all registers 0, channels disarmed, .. buffers 1 active, no readbacks"; "no tick yet" (card 10)
unfoldable pub opened : Channel
opened =
    record { status = st.opened; registers = reg.opened; sequencer = seq.opened; readbacks = rb.opened; adc = none_arrived; download = no_download; outcome = tick.NoTick; commands = cmd.opened }

-- "Reset D0 returns that channel to its opening state; lent words and its Main bits stay (bench)."; so it drops "a waiting frame" (card 1) and "a tag not
-- yet used" (card 6), "ends the download" (card 8) and "returns the channel to no tick yet" (card 10)
unfoldable pub reset : Channel → Channel
reset c =
    record { status = st.reset c.status; registers = reg.opened; sequencer = seq.opened; readbacks = rb.opened; adc = none_arrived; download = no_download; outcome = tick.NoTick; commands = cmd.opened }

abbrev pub with_status : Channel → Status → Channel
with_status c s =
    record { status = s; registers = c.registers; sequencer = c.sequencer; readbacks = c.readbacks; adc = c.adc; download = c.download; outcome = c.outcome; commands = c.commands }

abbrev pub with_registers : Channel → Registers → Channel
with_registers c r =
    record { status = c.status; registers = r; sequencer = c.sequencer; readbacks = c.readbacks; adc = c.adc; download = c.download; outcome = c.outcome; commands = c.commands }

abbrev pub with_sequencer : Channel → Sequencer → Channel
with_sequencer c s =
    record { status = c.status; registers = c.registers; sequencer = s; readbacks = c.readbacks; adc = c.adc; download = c.download; outcome = c.outcome; commands = c.commands }

abbrev pub with_readbacks : Channel → Readbacks → Channel
with_readbacks c b =
    record { status = c.status; registers = c.registers; sequencer = c.sequencer; readbacks = b; adc = c.adc; download = c.download; outcome = c.outcome; commands = c.commands }

abbrev pub with_adc : Channel → AdcWords → Channel
with_adc c w =
    record { status = c.status; registers = c.registers; sequencer = c.sequencer; readbacks = c.readbacks; adc = w; download = c.download; outcome = c.outcome; commands = c.commands }

abbrev pub with_download : Channel → Option Download → Channel
with_download c d =
    record { status = c.status; registers = c.registers; sequencer = c.sequencer; readbacks = c.readbacks; adc = c.adc; download = d; outcome = c.outcome; commands = c.commands }

abbrev pub with_outcome : Channel → TickOutcome → Channel
with_outcome c x =
    record { status = c.status; registers = c.registers; sequencer = c.sequencer; readbacks = c.readbacks; adc = c.adc; download = c.download; outcome = x; commands = c.commands }

abbrev pub with_commands : Channel → CommandFrames → Channel
with_commands c f =
    record { status = c.status; registers = c.registers; sequencer = c.sequencer; readbacks = c.readbacks; adc = c.adc; download = c.download; outcome = c.outcome; commands = f }

-- a condition happens
abbrev pub condition_latched : Channel → ℕ → Channel
condition_latched c bit = with_status c (st.latched c.status bit)
