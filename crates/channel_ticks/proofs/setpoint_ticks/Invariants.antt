-- What the ticks done come to, their frames, and what the last of them did.
use Rattle.std.proofs.Common.{◌-◌, ◌≤◌}
use Rattle.channel_ticks.proofs.TicksInRow.{Held, Said}
use Rattle.channel_ticks.proofs.setpoint_ticks.Given as goal

abbrev pub invariant-loop-done : goal.invariant-loop-done
invariant-loop-done l =
    (l.done ≤ l.count)
    × Held l.setpoints l.n l.user l.fn.c l.initial.captured l.done l.progress.sequencer l.progress.frames l.captured
    × Said l.setpoints l.n l.user l.fn.c l.done l.progress.outcome

abbrev pub decreases-loop-done : goal.decreases-loop-done
decreases-loop-done l = l.count - l.done
