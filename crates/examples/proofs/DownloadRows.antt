-- The rows of downloads hold, by computation. Assumes nothing.
use mathlib.Core.Path.{refl}
use Rattle.frame.specs.Crc.{crc_of}
use Rattle.frame.specs.Frames.{crc_for, read, crc_right}
use Rattle.register_map.specs.AccessRule.{channel_access}
use Rattle.registers.specs.Map.{stored, loaded, flips}
use Rattle.registers.specs.Map as reg
use Rattle.adc_words.specs.Positions.{with_reply}
use Rattle.sequencer.specs.Playing as seq
use Rattle.readback.specs.Storing.{disposition_of, stored_word}
use Rattle.command_frames.specs.Commanding as cmd
use Rattle.channel_core.specs.State.{opened, reset}
use Rattle.channel_core.specs.Behaviour.{started, group_ended, group_words, user_changed, started_if, ended_if, ended_words, resumed_if, tagged_if, resumed_on, event_of, event_words, commanded, command_words, due_of, tick_of}
use Rattle.channel_replies.specs.Replying.{disposition_now, reply_answer, reply_of, reply_words}
use Rattle.channel_registers.specs.Calls.{register_refusal, register_effect, register_words, read_value}
use Rattle.channel.specs.Calls.{setpoint_refusal, setpoint_words, armed_of, disarmed_of}
use Rattle.channel.specs.Downloads.{download_opened}
use Rattle.channel.specs.OneChannel.{retired_of, portion_in, refusal_of, effect, answer, transition, response}
use Rattle.examples.specs.DownloadRows.{DownloadRows}

pub download_rows : DownloadRows
unfolding download_opened portion_in with_reply stored_word retired_of event_words transition response refusal_of effect answer register_refusal register_effect register_words read_value channel_access stored armed_of disarmed_of started group_ended group_words started_if ended_if ended_words resumed_if commanded command_words due_of tick_of disposition_of disposition_now reply_answer reply_of reply_words seq.armed seq.idled seq.started seq.answered seq.ticked seq.advancing seq.sent_next seq.sent_as seq.group_ended seq.shortfall reg.group_ended flips cmd.stored cmd.ticked cmd.takes opened reset read crc_right crc_for crc_of loaded user_changed tagged_if resumed_on event_of setpoint_refusal setpoint_words seq.disarmed seq.resumed seq.repeating seq.repeated seq.tagged cmd.group_ended cmd.dropped cmd.received cmd.loaded
download_rows =
    record {
      opening = refl;
      opening_again = refl;
      opening_none = refl;
      opening_reset = refl;
      opening_shallow = refl;
      nothing_shallow = refl;
      past_shallow = refl;
      whole_part = refl;
      front = refl;
      middle = refl;
      rest = refl;
      last = refl;
      length = refl;
      like_end_lem = refl;
      nothing_first = refl;
      nothing_last = refl;
      nothing_past = refl;
      nothing_retired = refl;
      one_past = refl;
      past_from_1 = refl;
      past_from_3 = refl;
      past_none = refl;
      length_past = refl;
      large_size = refl;
      large_index = refl;
      both_large = refl;
      none_open = refl;
      not_opened = refl;
      length_none = refl;
      range_later = refl;
      short_one = refl;
      short_two = refl;
      long_one = refl;
      started = refl;
      answered = refl;
      answered_past = refl;
      answered_none = refl;
      repeated = refl;
      ended_running = refl;
      reset_running = refl;
      group_end_lem = refl;
      group_end_event_lem = refl;
      group_end_start = refl;
      group_end_disarmed = refl;
      reset = refl;
      armed = refl;
      disarmed = refl;
      user_changed_lem = refl;
      other_event = refl;
      other_commands = refl;
      no_reset = refl;
      refused_end = refl;
      opened_twice = refl;
      next_count = refl;
      next_part = refl;
      next_past = refl;
    }
