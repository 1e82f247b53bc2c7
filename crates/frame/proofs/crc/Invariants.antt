-- `frame::crc`: `remainder` is the CRC of the bytes passed. Assumes nothing.
use Rattle.std.proofs.Common.{take, ◌≡◌}
use Rattle.frame.specs.Crc.{crc_of, of_bytes}
use Rattle.frame.proofs.crc.Given as goal

abbrev pub invariant-loop-byte : goal.invariant-loop-byte
invariant-loop-byte l = l.remainder ≡ crc_of (of_bytes (take l.byte-index l.message))
