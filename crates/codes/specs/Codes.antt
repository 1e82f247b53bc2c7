-- Document 02, cards 4 and 7: "a signed code in two's complement".
use Rattle.std.specs.Prelude.{ℕ, ◌-◌, ◌<◌, ◌≡◌, ◌⊎◌, cond, ltb, ℤ, pos, negsuc, ◌-ℤ◌, ◌≤ℤ◌}

-- the code that a word of 16 bits stands for; negsuc k is −(k + 1)
abbrev pub code_of : ℕ → ℤ
code_of word = cond (ltb word 32768) (pos word) (negsuc (65535 - word))

-- it is the one number from −32,768 to 32,767 that is the word, or the word less 65,536
pub record TwosComplement (word : ℕ) (code : ℤ) : Type 0 where
  pub at_least : negsuc 32767 ≤ℤ code
  pub at_most : code ≤ℤ pos 32767
  pub same_bits : (code ≡ pos word) ⊎ (code ≡ pos word -ℤ pos 65536)

abbrev pub CodesSigned : Type 0
CodesSigned = (word : ℕ) → word < 65536 → TwosComplement word (code_of word)
