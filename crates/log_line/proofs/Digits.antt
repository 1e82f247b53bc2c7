-- A number's digits at powers of ten one after the other, and the last, are the digits that the line prints. Assumes nothing.
use Prim.Native.Nat.{ℕ, ◌+◌, ◌%◌, ◌≤◌, ◌<◌}
use mathlib.Core.Path.{◌≡◌, refl, ◌∙◌}
use mathlib.Core.List.{List, [], ◌∷◌, ◌++◌, append_assoc, append-nil}
use native.Mathlib.Omega.{arith}
use native.Mathlib.Numerals.{add-one}
use lib.ListN.{length, take, get_or}
use lib.Seq.{take-suc}
use Rattle.log_line.specs.Lines.{digit, high, low, decimal}

-- the digits at these powers
abbrev pub digits_at : List ℕ → ℕ → List ℕ
digits_at [] n = []
digits_at (power ∷ powers) n = digit power n ++ digits_at powers n

digits_append : (ps qs : List ℕ) (n : ℕ) → digits_at (ps ++ qs) n ≡ digits_at ps n ++ digits_at qs n
digits_append [] qs n = refl
digits_append (p ∷ ps) qs n = simp (digits_append ps qs n, append_assoc)

-- one power more
pub one_more : (a : List ℕ) {b c : List ℕ} (powers : List ℕ) (i n : ℕ) → i < length powers → b ≡ a ++ digits_at (take i powers) n
    → c ≡ b ++ digit (get_or powers i 0) n → c ≡ a ++ digits_at (take (i + 1) powers) n
one_more a powers i n h e f =
    f ∙ rw (e, add-one, take-suc powers i 0 h, digits_append, append-nil) (append_assoc a (digits_at (take i powers) n) (digit (get_or powers i 0) n))

-- and the last digit, after all of them
pub last_digit : (a : List ℕ) {b c : List ℕ} (i n : ℕ) → i ≤ 9 → 9 ≤ i
    → b ≡ a ++ digits_at (take i (1000000000 ∷ 100000000 ∷ 10000000 ∷ 1000000 ∷ 100000 ∷ 10000 ∷ 1000 ∷ 100 ∷ 10 ∷ [])) n
    → c ≡ b ++ ((48 + n % 10) ∷ []) → c ≡ a ++ decimal n
unfolding decimal high low
last_digit a i n g h e f =
    let all : i ≡ 9 = omega arith in
    let d = rw all at e in
    f ∙ rw d (simp append_assoc)
