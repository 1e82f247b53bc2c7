-- `Printer::byte` meets its contract: the byte goes after those that are gathered. Assumes nothing.
use Rattle.std.proofs.Common.{arith, refl}
use Rattle.output.proofs.Blocks.{byte_put}
use Rattle.output.proofs.printer.Printer.byte.Goals as goal

pub returns-then-not-self : goal.returns-then-not-self
returns-then-not-self c =
    byte_put c.args.self.now c.make_room.new.self _ c.args.byte (omega arith) (omega arith) c.if-not-self.true refl refl refl c.make_room.ensures
