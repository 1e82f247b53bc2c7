-- The rows of a command frame hold, by computation. Assumes nothing.
use mathlib.Core.Path.{refl}
use Rattle.frame.specs.Crc.{crc_of}
use Rattle.frame.specs.Frames.{crc_for, encoded, read, crc_right}
use Rattle.status.specs.Latching.{latched}
use Rattle.register_map.specs.AccessRule.{channel_access}
use Rattle.sequencer.specs.Playing as seq
use Rattle.command_frames.specs.Commanding as cmd
use Rattle.channel_core.specs.State.{opened}
use Rattle.channel_core.specs.Behaviour.{due_of, tick_of, tick_answer}
use Rattle.channel_replies.specs.Replying.{reply_answer, reply_of, reply_words}
use Rattle.channel_registers.specs.Calls.{register_refusal, register_effect, register_words, read_value}
use Rattle.channel.specs.Calls.{armed_of}
use Rattle.channel.specs.OneChannel.{refusal_of, effect, answer, transition, response}
use Rattle.examples.specs.CommandRows.{CommandRows}

pub command_rows : CommandRows
unfolding transition response refusal_of effect answer register_refusal register_effect register_words read_value channel_access armed_of seq.armed seq.ticked due_of tick_of tick_answer reply_answer reply_of reply_words cmd.stored cmd.loaded cmd.command_frame cmd.ticked cmd.takes cmd.received opened latched read crc_right encoded crc_for crc_of
command_rows = record { frame_1743 = refl; reply_kept = refl; readback_id_lem = refl; readback = refl; readback_count = refl }
