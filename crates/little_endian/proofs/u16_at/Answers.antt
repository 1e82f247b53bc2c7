-- `little_endian::u16_at` meets its contract: it is the number of a field's bytes. Assumes nothing.
use Rattle.std.proofs.Common.{arith, lit<}
use Rattle.little_endian.proofs.Bytes.{two_bytes}
use Rattle.little_endian.proofs.u16_at.Goals as goal

pub returns : goal.returns
returns c =
    let field = c.field.ensures in
    omega (arith, c.from_le_bytes.ensures, two_bytes c.args.bytes.now c.args.i, field 0 (lit< tt), field 1 (lit< tt))
