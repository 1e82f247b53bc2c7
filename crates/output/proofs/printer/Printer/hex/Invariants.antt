-- The loop of `Printer::hex`: the last digits are stored. Assumes nothing.
use Rattle.output.proofs.Hex.{Stored}
use Rattle.output.proofs.printer.Printer.hex.Given as goal

abbrev pub invariant-loop-place : goal.invariant-loop-place
invariant-loop-place g l = Stored g.row.N l.number l.place l.rest l.digits
