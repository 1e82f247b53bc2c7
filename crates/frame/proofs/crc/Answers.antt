-- `frame::crc` meets its contract: one more byte comes in by `crc_more`. Assumes nothing.
use mathlib.Core.Path.{refl, ap, ◌∙◌}
use Rattle.std.proofs.Common.{ℕ, get_or, arith}
use Rattle.std.specs.Int.Bits.{bit_xor}
use Rattle.frame.specs.Crc.{crc_of}
use Rattle.frame.proofs.Messages.{crc_more}
use Rattle.frame.proofs.crc.Goals as goal

pub loop-byte-init : goal.loop-byte-init
unfolding crc_of
loop-byte-init c = refl

pub loop-byte-preserved : goal.loop-byte-preserved
loop-byte-preserved c =
    let message = c.args.message.now in
    let i = c.loop-byte.byte-index in
    c.byte_crc-remainder.ensures
    ∙ ap (λ (x : ℕ). crc_of (bit_xor x (get_or message i 0))) c.loop-byte.invariant
    ∙ crc_more message i (omega arith) (c.type_inv.message i).fits
