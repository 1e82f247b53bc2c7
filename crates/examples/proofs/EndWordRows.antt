-- The rows of end words hold, by computation. Assumes nothing.
use mathlib.Core.Path.{refl}
use Rattle.frame.specs.Crc.{crc_of}
use Rattle.frame.specs.Frames.{crc_for, read, crc_right}
use Rattle.register_map.specs.AccessRule.{channel_access}
use Rattle.registers.specs.Map.{stored, flips}
use Rattle.registers.specs.Map as reg
use Rattle.sequencer.specs.Playing as seq
use Rattle.readback.specs.Storing.{disposition_of, stored_word}
use Rattle.command_frames.specs.Commanding as cmd
use Rattle.channel_core.specs.State.{opened, reset}
use Rattle.channel_core.specs.Behaviour.{started, group_ended, group_words, started_if, ended_if, ended_words, resumed_if, tagged_if, event_words, commanded, command_words, due_of, tick_of}
use Rattle.channel_replies.specs.Replying.{disposition_now, reply_answer, reply_of, reply_words}
use Rattle.channel_registers.specs.Calls.{register_refusal, register_effect, register_words, read_value}
use Rattle.channel.specs.Calls.{armed_of, disarmed_of}
use Rattle.channel.specs.OneChannel.{retired_of, refusal_of, effect, answer, transition, response}
use Rattle.examples.specs.EndWordRows.{EndWordRows}

pub end_word_rows : EndWordRows
unfolding stored_word retired_of event_words transition response refusal_of effect answer register_refusal register_effect register_words read_value channel_access stored armed_of disarmed_of started group_ended group_words started_if ended_if ended_words resumed_if tagged_if commanded command_words due_of tick_of disposition_of disposition_now reply_answer reply_of reply_words seq.armed seq.idled seq.started seq.answered seq.ticked seq.advancing seq.sent_next seq.sent_as seq.group_ended seq.shortfall reg.group_ended flips cmd.stored cmd.ticked cmd.takes opened reset read crc_right crc_for crc_of
end_word_rows =
    record {
      one_lost = refl;
      one_sixth = refl;
      one_seventh = refl;
      one_before = refl;
      one_ended = refl;
      one_twice = refl;
      one_retired = refl;
      one_length = refl;
      one_command = refl;
      two_kept = refl;
      two_lost = refl;
      two_sixth = refl;
      two_seventh = refl;
      three_kept = refl;
      three_lost = refl;
      two_full = refl;
      three_full = refl;
      three_retired = refl;
      three_length = refl;
      three_space = refl;
      three_none = refl;
      by_event = refl;
      with_start = refl;
      disarmed = refl;
      other_fills = refl;
      overwritten = refl;
      again = refl;
      reset_none = refl;
      reset_first = refl;
      reset_stays = refl;
      none_missing = refl;
      five_missing = refl;
    }
