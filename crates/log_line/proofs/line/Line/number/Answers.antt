-- `Line::number` meets its contract: a digit at each power, then the last one. Assumes nothing.
use Rattle.std.proofs.Common.{arith}
use Rattle.log_line.proofs.Digits.{one_more, last_digit}
use Rattle.log_line.proofs.line.Line.number.Goals as goal

pub loop-power-preserved : goal.loop-power-preserved
loop-power-preserved c =
    record {
      at_most = omega arith;
      bytes = one_more _ _ _ _ c.loop-power-test.true c.loop-power.invariant.bytes c.digit.ensures.bytes;
    }

pub returns-clause-bytes : goal.returns-clause-bytes
returns-clause-bytes c =
    last_digit _ _ _ c.loop-power.auto.power-index-end c.loop-power-test.false c.loop-power.invariant.bytes c.byte.ensures.bytes
