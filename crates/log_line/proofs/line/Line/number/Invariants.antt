-- The loop of `Line::number`: the digits at the powers so far are written. Assumes nothing.
use Rattle.std.proofs.Common.{take, ◌≡◌, ◌≤◌, ◌+◌, ◌++◌}
use Rattle.log_line.specs.Written.{written}
use Rattle.log_line.proofs.Digits.{digits_at}
use Rattle.log_line.proofs.line.Line.number.Given as goal

abbrev pub invariant-loop-power : goal.invariant-loop-power
invariant-loop-power l =
    record {
      at_most : l.self.length ≤ l.initial.self.length + l.power-index;
      bytes : written l.self ≡ written l.initial.self ++ digits_at (take l.power-index l.power-items) l.number;
    }
