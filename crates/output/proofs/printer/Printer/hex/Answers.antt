-- `Printer::hex` meets its contract: the digits are stored from the last to the first, and printed at once. Assumes nothing.
use Rattle.std.proofs.Common.{subst}
use Rattle.std.proofs.lemmas.List.{length-replicate}
use Rattle.output.specs.Blocks.{Prints}
use Rattle.output.proofs.Hex.{stored_none, stored_more, stored_whole}
use Rattle.output.proofs.printer.Printer.hex.Goals as goal

pub loop-place-init : goal.loop-place-init
loop-place-init g c = stored_none _ _ _ (length-replicate g.row.N 0)

pub loop-place-preserved : goal.loop-place-preserved
loop-place-preserved g c = stored_more _ c.loop-place-test.true c.hex_digit.ensures c.loop-place.invariant

pub returns : goal.returns
returns g c =
    subst (Prints c.args.self.now c.text.new.self)
    (stored_whole c.loop-place.auto.place-end c.loop-place-test.false c.loop-place.invariant) c.text.ensures
