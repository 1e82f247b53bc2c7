-- `frame::Fields::is_intact` meets its contract: the CRC as received is compared with that of the fields. Assumes nothing.
use mathlib.Core.Path.{ap}
use lib.Dec.{eqb}
use Rattle.frame.specs.Frames.{crc_right}
use Rattle.frame.proofs.Fields.is_intact.Goals as goal

pub returns : goal.returns
unfolding crc_right
returns c = ap (eqb c.args.self.now.crc) c.frame_crc.ensures
