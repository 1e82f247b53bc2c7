-- Document 01, opening paragraph: bits of words. "Dn is bit n, D0 lowest."
use Rattle.std.specs.Prelude.{ℕ, ◌+◌, ◌*◌, ◌/◌, ◌%◌, ◌^◌, Bool, true, false, List, [], ◌∷◌, eqb}

-- D`n` of a word
abbrev pub bit_at : ℕ → ℕ → Bool
bit_at word n = eqb (word / 2 ^ n % 2) 1

-- a bit as a number
abbrev pub bit_of : Bool → ℕ
bit_of true = 1
bit_of false = 0

-- the word whose bits, D0 first, are listed
unfoldable pub word_of_bits : List Bool → ℕ
word_of_bits [] = 0
word_of_bits (b ∷ l) = bit_of b + 2 * word_of_bits l
