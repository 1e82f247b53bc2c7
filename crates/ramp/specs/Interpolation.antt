-- Document 02, card 4: the code and the remainder at an index between two neighbours, over whole numbers with sign.
use Rattle.std.specs.Prelude.{ℕ, suc, ◌-◌, ◌/◌, ◌%◌, ℤ, pos, negsuc, ◌+ℤ◌, ◌-ℤ◌, ◌*ℤ◌}

-- z / w, "rounded down". `negsuc a` is −(a + 1), and its quotient −(a / w + 1).
unfoldable pub floor_div : ℤ → ℕ → ℤ
floor_div (pos a) w = pos (a / w)
floor_div (negsuc a) w = negsuc (a / w)

-- "the remainder left over, from 0 to q − p − 1": z less w times that quotient
unfoldable pub floor_mod : ℤ → ℕ → ℕ
floor_mod (pos a) w = a % w
floor_mod (negsuc a) w = w - suc (a % w)

-- "At index i between neighbours (p, s) and (q, t) the code is s + (t − s) × (i − p) / (q − p), rounded down."
unfoldable pub code_between : (p : ℕ) (s : ℤ) (q : ℕ) (t : ℤ) (i : ℕ) → ℤ
code_between p s q t i = s +ℤ floor_div ((t -ℤ s) *ℤ pos (i - p)) (q - p)

-- "and the remainder left over": of the same division
unfoldable pub remainder_between : (p : ℕ) (s : ℤ) (q : ℕ) (t : ℤ) (i : ℕ) → ℕ
remainder_between p s q t i = floor_mod ((t -ℤ s) *ℤ pos (i - p)) (q - p)

-- "Codes go out as 16 bits, two's complement.": those of a code from −32,768 to 32,767
unfoldable pub twos_complement : ℤ → ℕ
twos_complement (pos n) = n
twos_complement (negsuc n) = 65535 - n
