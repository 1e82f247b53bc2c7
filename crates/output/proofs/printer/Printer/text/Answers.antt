-- `Printer::text` meets its contract: at once where there is room, else byte by byte. Assumes nothing.
use Rattle.std.proofs.Common.{arith, refl}
use Rattle.output.proofs.Blocks.{piece_more, piece_put}
use Rattle.output.proofs.printer.Printer.text.Goals as goal

pub loop-byte-preserved : goal.loop-byte-preserved
loop-byte-preserved c = piece_more _ _ c.loop-byte-test.true c.loop-byte.invariant c.byte.ensures

pub returns-then-end-le-ROOM : goal.returns-then-end-le-ROOM
returns-then-end-le-ROOM c =
    piece_put _ _ _ (c.if-self.false, c.if-end-le-ROOM.true) (omega arith) c.copy_from_slice.ensures.after refl refl refl
