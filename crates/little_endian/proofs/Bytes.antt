-- A little-endian number as the sum of its bytes, each by its own index. Assumes nothing.
use Prim.Native.Nat.{ℕ, ◌+◌, ◌*◌}
use mathlib.Core.Path.{◌≡◌, ap}
use mathlib.Core.List.{List}
use native.Mathlib.Omega.{arith}
use lib.ListN.{get_or}
use Rattle.little_endian.specs.Numbers.{number_at, number16, number32}

at : (bytes : List ℕ) (j k : ℕ) → j ≡ k → get_or bytes j 0 ≡ get_or bytes k 0
at bytes j k e = ap (λ (x : ℕ). get_or bytes x 0) e

pub two_bytes : (bytes : List ℕ) (i : ℕ) → get_or bytes (i + 0) 0 + get_or bytes (i + 1) 0 * 0x100 ≡ number16 bytes i
unfolding number_at
two_bytes bytes i = omega (arith, at bytes (i + 0) i (omega arith))

pub four_bytes : (bytes : List ℕ) (i : ℕ)
    → get_or bytes (i + 0) 0 + get_or bytes (i + 1) 0 * 0x100 + get_or bytes (i + 2) 0 * 0x10000 + get_or bytes (i + 3) 0 * 0x1000000 ≡ number32 bytes i
unfolding number_at
four_bytes bytes i =
    omega (arith, at bytes (i + 0) i (omega arith), at bytes (i + 1 + 1) (i + 2) (omega arith), at bytes (i + 1 + 1 + 1) (i + 3) (omega arith))
