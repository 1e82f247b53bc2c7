-- The rows of last ticks hold, by computation. Assumes nothing.
use mathlib.Core.Path.{refl}
use Rattle.frame.specs.Frames.{read}
use Rattle.register_map.specs.AccessRule.{channel_access, main_access}
use Rattle.registers.specs.Map.{stored}
use Rattle.sequencer.specs.Playing as seq
use Rattle.tick_outcome.specs.Outcomes.{outcome, silence}
use Rattle.readback.specs.Storing.{disposition_of}
use Rattle.command_frames.specs.Commanding as cmd
use Rattle.channel_core.specs.State.{opened, reset}
use Rattle.channel_core.specs.Behaviour.{started, group_ended, user_changed, started_if, ended_if, resumed_if, tagged_if, resumed_on, event_of, commanded, due_of, tick_answer, tick_outcome_of, tick_of}
use Rattle.channel_replies.specs.Replying.{disposition_now, reply_of}
use Rattle.channel_registers.specs.Calls.{register_refusal, register_effect, read_effect}
use Rattle.channel.specs.Calls.{setpoint_refusal, setpoint_words, armed_of, disarmed_of, main_taken}
use Rattle.channel.specs.Downloads.{download_opened}
use Rattle.channel.specs.OneChannel.{refusal_of, effect, answer, transition, response}
use Rattle.examples.specs.LastTickRows.{LastTickRows}

pub last_tick_rows : LastTickRows
unfolding transition response refusal_of effect answer register_refusal register_effect read_effect channel_access main_access stored armed_of disarmed_of main_taken download_opened setpoint_refusal setpoint_words started group_ended user_changed started_if ended_if resumed_if tagged_if resumed_on event_of commanded due_of tick_answer tick_outcome_of tick_of outcome silence read disposition_now disposition_of reply_of seq.armed seq.disarmed seq.idled seq.started seq.resumed seq.ticked seq.advancing seq.repeating seq.repeated seq.resuming seq.sent_next seq.sent_as seq.group_ended cmd.stored cmd.ticked cmd.takes cmd.group_ended cmd.dropped opened reset
last_tick_rows =
    record {
      opening = refl;
      arm_alone = refl;
      start_alone = refl;
      other_calls = refl;
      refused_alone = refl;
      tick_disarmed = refl;
      start_disarmed = refl;
      tick_idle = refl;
      start_tick_1 = refl;
      start_tick_9 = refl;
      start_tick_10 = refl;
      event_tick_1 = refl;
      event_tick_2 = refl;
      event_tick_3 = refl;
      event_tick_11 = refl;
      event_tick_12 = refl;
      first_word_11 = refl;
      first_word_19 = refl;
      last_word_20 = refl;
      last_word_21 = refl;
      last_word_29 = refl;
      repeat_30 = refl;
      paused_19 = refl;
      not_resumed_11 = refl;
      resumed_11 = refl;
      resumed_20 = refl;
      resumed_30 = refl;
      resumed_31 = refl;
      resumed_35 = refl;
      resumed_36 = refl;
      resumed_40 = refl;
      resumed_44 = refl;
      resumed_45 = refl;
      at_once_11 = refl;
      at_once_19 = refl;
      at_once_20 = refl;
      then_armed = refl;
      then_started = refl;
      then_resumed = refl;
      then_disarmed = refl;
      then_ended = refl;
      then_user_changed = refl;
      disarmed_next = refl;
      ended_next = refl;
      user_changed_next = refl;
      restarted = refl;
      restarted_sent = refl;
      restarted_event = refl;
      frame_idle = refl;
      frame_idle_next = refl;
      frame_not_yet = refl;
      frame_disarmed = refl;
      frame_disarmed_next = refl;
      frame_start = refl;
      frame_start_next = refl;
      reset = refl;
      no_reset = refl;
      refused_tick = refl;
      again = refl;
      register_read = refl;
    }
