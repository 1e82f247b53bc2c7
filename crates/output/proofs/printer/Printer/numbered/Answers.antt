-- `Printer::numbered` meets its contract: two pieces are printed. Assumes nothing.
use Rattle.output.proofs.Blocks.{both}
use Rattle.output.proofs.printer.Printer.numbered.Goals as goal

pub returns : goal.returns
returns c =
    let number = c.decimal.ensures in
    record { places = number.places; fewest = number.fewest; prints = both _ _ c.text.ensures number.prints }
