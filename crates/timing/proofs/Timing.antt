-- All the laws of timing, as stated. Assumes nothing.
use Rattle.timing.specs.Timing as the
use Rattle.timing.proofs.Bridge.{bridge, later_ticks}
use Rattle.timing.proofs.Starts.{start_by_command, start_by_event, start_keeps}
use Rattle.timing.proofs.Series.{countdown, plain_next, series, held, held_stays, held_word}
use Rattle.timing.proofs.Resuming.{resume_by_event, resume_by_command, event_ignored, command_ignored, other_pause, vme_pause, not_by_d1, meanwhile}
use Rattle.timing.proofs.Tags.{tag_leaves_ticks}
use Rattle.timing.proofs.Loaded.{loaded, only_setpoints}

pub timing : the.Timing
timing =
    record {
      bridge = bridge;
      later_ticks = later_ticks;
      start_by_command = start_by_command;
      start_by_event = start_by_event;
      start_keeps = start_keeps;
      countdown = countdown;
      plain_next = plain_next;
      series = series;
      held = held;
      held_stays = held_stays;
      held_word = held_word;
      resume_by_event = resume_by_event;
      resume_by_command = resume_by_command;
      event_ignored = event_ignored;
      command_ignored = command_ignored;
      tag_leaves_ticks = tag_leaves_ticks;
      other_pause = other_pause;
      vme_pause = vme_pause;
      not_by_d1 = not_by_d1;
      meanwhile = meanwhile;
      loaded = loaded;
      only_setpoints = only_setpoints;
    }
