-- The bytes below the index are in their places.
use Rattle.std.proofs.Common.{ℕ, ◌≡◌, ◌+◌, ◌<◌, length, get_or}
use Rattle.little_endian.proofs.field.Given as goal

abbrev pub invariant-loop-k : goal.invariant-loop-k
invariant-loop-k g l = (length l.field ≡ g.row.N) × ((j : ℕ) → j < l.k → get_or l.field j 0 ≡ get_or l.bytes (l.at + j) 0)
