-- The loop of `printer::text`: the bytes so far are printed. Assumes nothing.
use Rattle.std.proofs.Common.{take}
use Rattle.output.specs.Blocks.{Prints}
use Rattle.output.proofs.printer.Printer.text.Given as goal

abbrev pub invariant-loop-byte : goal.invariant-loop-byte
invariant-loop-byte l = Prints l.initial.self l.self (take l.byte-index l.bytes)
