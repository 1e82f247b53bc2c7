-- The rows of missing readbacks hold, by computation. Assumes nothing.
use mathlib.Core.Path.{refl}
use Rattle.frame.specs.Crc.{crc_of}
use Rattle.frame.specs.Frames.{crc_for, encoded, read, crc_right}
use Rattle.status.specs.Bits.{word_of_bits}
use Rattle.status.specs.Latching.{latched}
use Rattle.register_map.specs.AccessRule.{channel_access, main_access}
use Rattle.registers.specs.Map.{stored, flips}
use Rattle.registers.specs.Map as reg
use Rattle.sequencer.specs.Playing as seq
use Rattle.readback.specs.Storing.{disposition_of}
use Rattle.command_frames.specs.Commanding as cmd
use Rattle.channel_core.specs.State.{opened, reset}
use Rattle.channel_core.specs.Behaviour.{started, group_ended, group_words, user_changed, started_if, ended_if, ended_words, resumed_if, tagged_if, commanded, command_words, due_of, tick_of, tick_answer}
use Rattle.channel_replies.specs.Replying.{disposition_now, reply_answer, reply_of, reply_words}
use Rattle.channel_registers.specs.Calls.{register_refusal, register_effect, register_words, read_effect, read_value}
use Rattle.channel.specs.Calls.{armed_of, disarmed_of}
use Rattle.channel.specs.OneChannel.{refusal_of, effect, answer, transition, response}
use Rattle.examples.specs.MissingRows.{MissingRows}

pub missing_rows : MissingRows
unfolding transition response refusal_of effect answer register_refusal register_effect register_words read_effect read_value channel_access main_access stored armed_of disarmed_of started group_ended group_words user_changed started_if ended_if ended_words resumed_if tagged_if commanded command_words due_of tick_of tick_answer disposition_of disposition_now reply_answer reply_of reply_words seq.armed seq.disarmed seq.idled seq.started seq.resumed seq.answered seq.ticked seq.advancing seq.repeating seq.repeated seq.sent_next seq.sent_as seq.group_ended seq.shortfall reg.group_ended flips cmd.stored cmd.group_ended cmd.ticked cmd.takes cmd.dropped opened reset latched word_of_bits read crc_right encoded crc_for crc_of
missing_rows =
    record {
      none_before = refl;
      six = refl;
      latched_02 = refl;
      latched_04 = refl;
      read_only = refl;
      cleared = refl;
      latched_still = refl;
      counted_still = refl;
      enabled = refl;
      enabled_2a = refl;
      not_enabled = refl;
      enabled_later = refl;
      first_kept = refl;
      second_lost = refl;
      four = refl;
      from_15 = refl;
      to_15 = refl;
      restarted = refl;
      disarmed = refl;
      user_changed_lem = refl;
      group_ended_lem = refl;
      kept_over_group_end = refl;
      cleared_by_reset = refl;
      command_between = refl;
      near_most = refl;
      most = refl;
      most_still = refl;
      latched_at_most = refl;
    }
