-- The bits that are left, below the word of those taken, are the word of all.
use Rattle.std.proofs.Common.{◌≡◌}
use Rattle.status.specs.Bits.{word_of_bits}
use Rattle.status.proofs.Words.{below_word}
use Rattle.status.proofs.word_of_bits.Given as goal

abbrev pub invariant-loop-bit : goal.invariant-loop-bit
invariant-loop-bit l = below_word l.bit-iterator.iter.rest.now l.word ≡ word_of_bits l.fn.bits
