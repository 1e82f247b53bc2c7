-- Little-endian numbers. Bytes are numbers below 256; past the end of a list a byte is 0.
use Rattle.std.specs.Prelude.{ℕ, zero, suc, ◌+◌, ◌*◌, List, get_or}

-- the number whose little-endian bytes, so many as the first argument says, stand from index i on, the lowest first
unfoldable pub number_at : ℕ → List ℕ → ℕ → ℕ
number_at zero bytes i = 0
number_at (suc n) bytes i = get_or bytes i 0 + 256 * number_at n bytes (i + 1)

abbrev pub number16 : List ℕ → ℕ → ℕ
number16 = number_at 2

abbrev pub number32 : List ℕ → ℕ → ℕ
number32 = number_at 4
