-- `frame::frame_crc` meets its contract: the four bytes write the middle bits. Assumes nothing.
use mathlib.Core.Path.{ap, ◌∙◌}
use mathlib.Core.List.{List, [], ◌∷◌}
use Rattle.std.proofs.Common.{ℕ, get_or}
use Rattle.frame.specs.Crc.{crc_of, of_bytes}
use Rattle.frame.proofs.Messages.{crc_bytes}
use Rattle.frame.proofs.frame_crc.Goals as goal

pub returns : goal.returns
returns c =
    let a = c.args in
    c.crc.ensures
    ∙ ap (λ (halves : List ℕ). crc_of (of_bytes (a.id ∷ get_or halves 0 0 ∷ get_or halves 1 0 ∷ a.auxiliary ∷ []))) c.to_be_bytes.ensures
    ∙ crc_bytes a.id a.data a.auxiliary c.ranges.data.fits
