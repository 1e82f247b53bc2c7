-- The two pools of words (tests/CALLS.md): how they are filled (Header), and their digest (The end).
use Rattle.std.specs.Prelude.{ℕ, ◌+◌, ◌*◌, ◌/◌, ◌%◌, ◌^◌, bit_xor}

-- "in 32 bits, s ^= s << 13, s ^= s >> 17, s ^= s << 5"
unfoldable pub left13 : ℕ → ℕ
left13 s = bit_xor s (s * 2 ^ 13 % 2 ^ 32)

unfoldable pub right17 : ℕ → ℕ
right17 s = bit_xor s (s / 2 ^ 17)

unfoldable pub left5 : ℕ → ℕ
left5 s = bit_xor s (s * 2 ^ 5 % 2 ^ 32)

unfoldable pub xorshift : ℕ → ℕ
xorshift s = left5 (right17 (left13 s))

-- "the FNV-1a hash in 64 bits (.., prime 100000001B3h)": the product by its prime, and one byte
unfoldable pub times_prime : ℕ → ℕ
times_prime x = x * (2 ^ 40 + 435) % 2 ^ 64

unfoldable pub hashed : ℕ → ℕ → ℕ
hashed h byte = times_prime (bit_xor h byte)
