-- The loop of `ramp::fill`: all words before i are written, and i has reached segment k or is one past it. Assumes nothing.
use Rattle.ramp.proofs.Filling.{Going}
use Rattle.ramp.proofs.fill.Given as goal

abbrev pub invariant-loop-i : goal.invariant-loop-i
invariant-loop-i l = Going l.points l.initial.codes l.initial.remainders l.codes l.remainders l.k l.i
