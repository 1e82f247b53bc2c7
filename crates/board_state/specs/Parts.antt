-- Document 01, 'The bench and its memory': "Lent setpoint memory is 64 × N 32-bit words, by channel, ..", "Lent readback memory is 8 × M words, by channel, ..".
-- A channel's part of a memory, and a memory with that part replaced.
use Rattle.std.specs.Prelude.{ℕ, ◌-◌, ◌*◌, List, ◌++◌, take, drop}

-- the k elements from a, and a list with those replaced
abbrev pub part : {A : Type 0} → List A → ℕ → ℕ → List A
part xs a k = take k (drop a xs)

abbrev pub splice : {A : Type 0} → List A → ℕ → ℕ → List A → List A
splice xs a k ys = take a xs ++ (ys ++ drop k (drop a xs))

-- where the part of channel `number`, of this size, starts
abbrev pub part_start : ℕ → ℕ → ℕ
part_start number size = (number - 1) * size

abbrev pub own : List ℕ → ℕ → ℕ → List ℕ
own s size number = part s (part_start number size) size

abbrev pub with_own : List ℕ → ℕ → ℕ → List ℕ → List ℕ
with_own s size number ys = splice s (part_start number size) size ys
