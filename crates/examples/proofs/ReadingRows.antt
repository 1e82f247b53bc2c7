-- The rows of readings hold, by computation. Assumes nothing.
use mathlib.Core.Path.{refl}
use Rattle.frame.specs.Crc.{crc_of}
use Rattle.frame.specs.Frames.{crc_for, read, crc_right}
use Rattle.register_map.specs.AccessRule.{channel_access}
use Rattle.registers.specs.Map.{stored, loaded, flips}
use Rattle.registers.specs.Map as reg
use Rattle.codes.specs.Voltage.{voltage_of}
use Rattle.adc_words.specs.Positions.{with_reply, arrived}
use Rattle.sequencer.specs.Playing as seq
use Rattle.readback.specs.Storing.{disposition_of, stored_word}
use Rattle.command_frames.specs.Commanding as cmd
use Rattle.channel_core.specs.State.{opened, reset}
use Rattle.channel_core.specs.Behaviour.{started, group_ended, group_words, user_changed, started_if, ended_if, ended_words, resumed_if, tagged_if, resumed_on, event_of, event_words, commanded, command_words, due_of, tick_of}
use Rattle.channel_readings.specs.Measuring.{measured, readings_answer}
use Rattle.channel_replies.specs.Replying.{disposition_now, reply_answer, reply_of, reply_words}
use Rattle.channel_registers.specs.Calls.{register_refusal, register_effect, register_words, read_value}
use Rattle.channel.specs.Calls.{setpoint_refusal, setpoint_words, armed_of, disarmed_of}
use Rattle.channel.specs.OneChannel.{retired_of, refusal_of, effect, answer, transition, response}
use Rattle.examples.specs.ReadingRows.{ReadingRows}

pub reading_rows : ReadingRows
unfolding readings_answer measured voltage_of with_reply arrived stored_word retired_of event_words transition response refusal_of effect answer register_refusal register_effect register_words read_value channel_access stored armed_of disarmed_of started group_ended group_words started_if ended_if ended_words resumed_if commanded command_words due_of tick_of disposition_of disposition_now reply_answer reply_of reply_words seq.armed seq.idled seq.started seq.answered seq.ticked seq.advancing seq.sent_next seq.sent_as seq.group_ended seq.shortfall reg.group_ended flips cmd.stored cmd.ticked cmd.takes opened reset read crc_right crc_for crc_of loaded user_changed tagged_if resumed_on event_of setpoint_refusal setpoint_words seq.disarmed seq.resumed seq.repeating seq.repeated seq.tagged cmd.group_ended cmd.dropped cmd.received cmd.loaded
reading_rows =
    record {
      opened = refl;
      started = refl;
      none = refl;
      two = refl;
      three = refl;
      four = refl;
      five = refl;
      all_six = refl;
      seventh = refl;
      all_damaged = refl;
      one_damaged = refl;
      full = refl;
      full_wrong = refl;
      full_before = refl;
      full_next = refl;
      full_seventh = refl;
      bad_framing = refl;
      refused = refl;
      between = refl;
      next_send = refl;
      next_replies = refl;
      last_word = refl;
      first_repeat = refl;
      of_a_repeat = refl;
      next_repeat = refl;
      restarted = refl;
      restart_more = refl;
      restart_sent = refl;
      same_user = refl;
      group_end_lem = refl;
      group_end_event_lem = refl;
      group_end_start = refl;
      disarmed = refl;
      user_changed_lem = refl;
      reset = refl;
      command_frame_lem = refl;
      unasked = refl;
      tagged = refl;
      paused = refl;
    }
