-- `status::word_of_bits` meets its contract: the word of the bits taken fits, and of one more. Assumes nothing.
use Rattle.std.proofs.Common.{arith}
use Rattle.status.proofs.Words.{next_fits}
use Rattle.status.proofs.word_of_bits.Goals as goal

pub overflow_mul-word : goal.overflow_mul-word
overflow_mul-word c = omega (arith, next_fits _ _ c.args.bits _ _ (c.in-Some.ensures.steps) c.loop-bit.invariant (omega (arith, c.well_formed)))

pub overflow_add-word : goal.overflow_add-word
overflow_add-word c = omega (arith, c.from.ensures, next_fits _ _ c.args.bits _ _ c.in-Some.ensures.steps c.loop-bit.invariant (omega (arith, c.well_formed)))
