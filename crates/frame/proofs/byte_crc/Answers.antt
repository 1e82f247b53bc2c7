-- `frame::byte_crc` meets its contract: antt computes the 256 remainders and compares the code's list with them, once, at `returns`. Assumes nothing.
use Rattle.std.proofs.Common.{rules}
use Rattle.frame.specs.Table.{remainders}
use Rattle.frame.proofs.Table.{entry}
use Rattle.frame.proofs.byte_crc.Goals as goal

pub returns : goal.returns
unfolding remainders
returns c = entry c.args.byte (search rules)
