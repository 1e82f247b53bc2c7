-- `each_tick` ends: the measure is the ticks that are left. Assumes nothing.
use Rattle.std.proofs.Common.{◌-◌, ◌≤◌}
use Rattle.printed_ticks.proofs.each_tick.Given as goal

abbrev pub invariant-loop-before : goal.invariant-loop-before
invariant-loop-before l = l.before ≤ l.count

abbrev pub decreases-loop-before : goal.decreases-loop-before
decreases-loop-before l = l.count - l.before
