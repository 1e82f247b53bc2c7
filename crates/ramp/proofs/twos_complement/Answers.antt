-- `ramp::twos_complement` meets its contract. Assumes nothing.
use mathlib.Core.Path.{sym}
use native.Mathlib.Omega.{arith}
use Rattle.ramp.proofs.Signs.{sum_diff}
use Rattle.ramp.proofs.Rounding.{bits_low, bits_high}
use Rattle.ramp.proofs.twos_complement.Goals as goal

pub returns-then-offset-lt32768 : goal.returns-then-offset-lt32768
returns-then-offset-lt32768 c = ((λ z e. sym (bits_low z _ (sum_diff z _ _ e) c.if-offset-lt32768.true)), omega arith)

pub returns-else-offset-lt32768 : goal.returns-else-offset-lt32768
returns-else-offset-lt32768 c = ((λ z e. sym (bits_high z _ (sum_diff z _ _ e) c.if-offset-lt32768.false)), omega arith)
