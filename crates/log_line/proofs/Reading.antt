-- The line tells what it was printed from: each numeral ends before a space or at the line's end, and tells its number. Assumes nothing.
use Prim.Native.Nat.{ℕ, ◌<◌}
use mathlib.Core.Path.{◌≡◌, refl, sym, ap, ◌∙◌}
use mathlib.Core.List.{List, [], ◌∷◌, ◌++◌}
use native.Mathlib.Omega.{arith}
use lib.ListN.{drop}
use Rattle.tally.specs.declared.Counts.{Counts}
use Rattle.tally.specs.Answers.{counted, refused}
use Rattle.log_line.specs.Lines.{decimal, steps_text, refused_text, frames_text, file_text, frame_counts, log_line}
use Rattle.log_line.specs.Numerals.{read_on, Digits, SmallCounts, LineTells}
use Rattle.log_line.proofs.Numerals.{decimal_is_numeral}

-- digits up to a space
up_to_space : (s t : List ℕ) {u v : List ℕ} → Digits s → Digits t → s ++ (32 ∷ u) ≡ t ++ (32 ∷ v) → (s ≡ t) × (u ≡ v)
up_to_space [] [] p q e = (refl, cc)
up_to_space [] (b ∷ t) p q e = let z : 32 ≡ b = cc in absurd (omega arith)
up_to_space (a ∷ s) [] p q e = let z : a ≡ 32 = cc in absurd (omega arith)
up_to_space (a ∷ s) (b ∷ t) {u} {v} p q e =
    let f : s ++ (32 ∷ u) ≡ t ++ (32 ∷ v) = cc in
    let r = up_to_space s t p.2 q.2 f in
    let h : a ≡ b = cc in
    (cc r.0, r.1)

decimal_tells : (m n : ℕ) → m < 10000000000 → n < 10000000000 → decimal m ≡ decimal n → m ≡ n
decimal_tells m n k l e =
    sym (decimal_is_numeral m k).value ∙ ap (read_on 0) e ∙ (decimal_is_numeral n l).value

past : (text : List ℕ) {u v : List ℕ} → text ++ u ≡ text ++ v → u ≡ v
past [] e = e
past (a ∷ text) {u} {v} e = let f : text ++ u ≡ text ++ v = cc in past text f

-- a number, then a space and a text that both lines have
number_tells : (text : List ℕ) (m n : ℕ) {u v : List ℕ} → m < 10000000000 → n < 10000000000
    → decimal m ++ (32 ∷ (text ++ u)) ≡ decimal n ++ (32 ∷ (text ++ v)) → (m ≡ n) × (u ≡ v)
number_tells text m n k l e =
    let r = up_to_space (decimal m) (decimal n) (decimal_is_numeral m k).digits (decimal_is_numeral n l).digits e in
    (decimal_tells m n k l r.0, past text r.1)

counts_tell : (c d : Counts) → SmallCounts c → SmallCounts d → log_line (counted c) ≡ log_line (counted d) → c ≡ d
unfolding log_line frame_counts
counts_tell c d p q e =
    let r1 = number_tells (drop 1 refused_text) c.steps d.steps p.steps q.steps (past steps_text e) in
    let r2 = number_tells (drop 1 frames_text) c.refused d.refused p.refused q.refused r1.1 in
    let r3 = number_tells [] c.first d.first p.first q.first r2.1 in
    let r4 = number_tells [] c.second d.second p.second q.second r3.1 in
    let r5 = number_tells [] c.third d.third p.third q.third r4.1 in
    let r6 = decimal_tells c.fourth d.fourth p.fourth q.fourth r5.1 in
    λ i. record { steps = r1.0 i; refused = r2.0 i; first = r3.0 i; second = r4.0 i; third = r5.0 i; fourth = r6 i }

pub line_tells : LineTells
unfolding log_line
line_tells (counted c) (counted d) p q e = ap counted (counts_tell c d p q e)
line_tells (counted c) (refused k) p q e = let z : ◌≡◌ {A = ℕ} 115 102 = cc in absurd (omega arith)
line_tells (refused k) (counted d) p q e = let z : ◌≡◌ {A = ℕ} 102 115 = cc in absurd (omega arith)
line_tells (refused j) (refused k) p q e = ap refused (decimal_tells j k p q (past file_text e))
