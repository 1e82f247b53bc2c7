-- The rows of tags hold, by computation. Assumes nothing.
use mathlib.Core.Path.{refl}
use Rattle.frame.specs.Crc.{crc_of}
use Rattle.frame.specs.Frames.{crc_for, read, crc_right}
use Rattle.register_map.specs.AccessRule.{channel_access}
use Rattle.registers.specs.Map.{stored, loaded, flips}
use Rattle.registers.specs.Map as reg
use Rattle.sequencer.specs.Playing as seq
use Rattle.readback.specs.Storing.{disposition_of, stored_word}
use Rattle.command_frames.specs.Commanding as cmd
use Rattle.channel_core.specs.State.{opened, reset}
use Rattle.channel_core.specs.Behaviour.{started, group_ended, group_words, user_changed, started_if, ended_if, ended_words, resumed_if, tagged_if, resumed_on, event_of, event_words, commanded, command_words, due_of, tick_of}
use Rattle.channel_replies.specs.Replying.{disposition_now, reply_answer, reply_of, reply_words}
use Rattle.channel_registers.specs.Calls.{register_refusal, register_effect, register_words, read_value}
use Rattle.channel.specs.Calls.{setpoint_refusal, setpoint_words, armed_of, disarmed_of}
use Rattle.channel.specs.OneChannel.{retired_of, refusal_of, effect, answer, transition, response}
use Rattle.examples.specs.TagRows.{TagRows}

pub tag_rows : TagRows
unfolding stored_word retired_of event_words transition response refusal_of effect answer register_refusal register_effect register_words read_value channel_access stored armed_of disarmed_of started group_ended group_words started_if ended_if ended_words resumed_if commanded command_words due_of tick_of disposition_of disposition_now reply_answer reply_of reply_words seq.armed seq.idled seq.started seq.answered seq.ticked seq.advancing seq.sent_next seq.sent_as seq.group_ended seq.shortfall reg.group_ended flips cmd.stored cmd.ticked cmd.takes opened reset read crc_right crc_for crc_of loaded user_changed tagged_if resumed_on event_of setpoint_refusal setpoint_words seq.disarmed seq.resumed seq.repeating seq.repeated seq.tagged cmd.group_ended cmd.dropped cmd.received cmd.loaded
tag_rows =
    record {
      none = refl;
      by_command = refl;
      by_event = refl;
      twice = refl;
      with_start = refl;
      like_end_lem = refl;
      like_end_length = refl;
      like_end_last = refl;
      like_end_words = refl;
      before_reply = refl;
      by_repeat = refl;
      ended_by_repeat = refl;
      two_marks = refl;
      between = refl;
      each_reply = refl;
      fields = refl;
      wrong_crc = refl;
      paused = refl;
      group_end_lem = refl;
      after_group_end = refl;
      same_code = refl;
      disarmed = refl;
      reset = refl;
      while_disarmed = refl;
      not_active = refl;
      user_changed_lem = refl;
      restarted = refl;
      ended_by_restart = refl;
      reply_in_start_delay = refl;
      command_frame_lem = refl;
      command_reply_lem = refl;
      register = refl;
      register_reset = refl;
    }
