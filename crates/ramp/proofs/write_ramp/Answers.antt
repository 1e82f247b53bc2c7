-- `ramp::write_ramp` meets its contract: a list that is valid keeps the rules. Assumes nothing.
use mathlib.Core.Path.{sym}
use Rattle.ramp.proofs.Validity.{valid_rules}
use Rattle.ramp.proofs.write_ramp.Goals as goal

pub fill-requires : goal.fill-requires
fill-requires c = (c.args.n, valid_rules _ _ _ _ (sym c.if-not-is_valid.ensures))
