-- A byte of a number by its mask, and two halves joined. Assumes nothing.
use Prim.Native.Nat.{ℕ, ◌+◌, ◌*◌, ◌/◌, ◌%◌, ◌<◌}
use mathlib.Core.Path.{◌≡◌}
use lib.Bits.{bit_and, bit_or}
use Rattle.std.proofs.lemmas.Nat.{or_shifted}
use Rattle.std.proofs.lemmas.Nat.Bits.{and_high}

pub high_byte : (number : ℕ) → bit_and number 0xff0000 ≡ number / 65536 % 256 * 65536
high_byte number = and_high number 8 16

pub joined : (high low : ℕ) → low < 65536 → bit_or (high * 65536) low ≡ high * 65536 + low
joined high low h = or_shifted high 16 low h
