-- `decimal n` is the decimal numeral of n. Assumes nothing.
use Prim.Native.Nat.{ℕ, ◌+◌, ◌-◌, ◌*◌, ◌/◌, ◌%◌, ◌≤◌, ◌<◌}
use mathlib.Core.Path.{◌≡◌, refl, sym, ap, subst, ◌∙◌}
use mathlib.Core.Bool.{Bool, true, false, cond}
use mathlib.Core.List.{List, [], ◌∷◌, ◌++◌, append_assoc, append-nil}
use native.Mathlib.Nat.{div-div-eq-div-mul, div-add-mod', div-eq_of_lt, le-div_iff_mul-le, mod-lt}
use native.Mathlib.Omega.{arith}
use lib.Dec.{ltb}
use borrow.Author.Tests.{ltb-true, ltb-false}
use Rattle.log_line.specs.Lines.{digit, high, low, decimal}
use Rattle.log_line.specs.Numerals.{read_on, Digits, Shortest, Numeral, DecimalIsNumeral}

read_append : (value : ℕ) (s t : List ℕ) → read_on value (s ++ t) ≡ read_on (read_on value s) t
unfolding read_on
read_append value [] t = refl
read_append value (byte ∷ s) t = read_append (value * 10 + (byte - 48)) s t

-- one more digit
read_more : (s : List ℕ) (d : ℕ) {m : ℕ} → read_on 0 s ≡ m → read_on 0 (s ++ ((48 + d) ∷ [])) ≡ m * 10 + d
unfolding read_on
read_more s d e = read_append 0 s ((48 + d) ∷ []) ∙ rw e (omega arith)

digits_more : (s : List ℕ) (d : ℕ) → d < 10 → Digits s → Digits (s ++ ((48 + d) ∷ []))
digits_more [] d h p = (omega arith, omega arith, tt)
digits_more (byte ∷ s) d h p = (p.0, p.1, digits_more s d h p.2)

-- the digits of m written so far: none of 0, and no zero in front
abbrev Leads : List ℕ → Type 0
Leads [] = Unit {0}
Leads (byte ∷ text) = 48 < byte

record Written (m : ℕ) (text : List ℕ) : Type 0 where
  value : read_on 0 text ≡ m
  digits : Digits text
  leads : Leads text
  none : m ≡ 0 → text ≡ []

leads_more : (s : List ℕ) (d : ℕ) {m : ℕ} → Written m s → 1 ≤ m * 10 + d → Leads (s ++ ((48 + d) ∷ []))
unfolding read_on
leads_more [] d w h = let e = w.value in omega arith
leads_more (byte ∷ s) d w h = w.leads

module _ (n power : ℕ) (pos : 0 < power) (s : List ℕ) (w : Written (n / (power * 10)) s) where
  quotient : n / power ≡ n / (power * 10) * 10 + n / power % 10
  quotient =
      sym (div-add-mod' (n / power) 10) ∙ ap (λ (q : ℕ). q * 10 + n / power % 10) (div-div-eq-div-mul n power 10)

  written : Written (n / power) (s ++ digit power n)
  written = go (ltb n power) refl
    where
      go : (t : Bool) → ltb n power ≡ t → Written (n / power) (s ++ cond t [] ((48 + n / power % 10) ∷ []))
      go true e =
          let z : n / power ≡ 0 = div-eq_of_lt (ltb-true n power e) in
          let q : n / (power * 10) ≡ n / power = omega (arith, quotient) in
          rw (append-nil, ← q) w
      go false e =
          let one : 1 ≤ n / power = (le-div_iff_mul-le pos).1 (let l = ltb-false n power e in omega arith) in
          let d : n / power % 10 < 10 = mod-lt (n / power) (omega arith) in
          record {
            value = read_more s (n / power % 10) w.value ∙ sym quotient;
            digits = digits_more s (n / power % 10) d w.digits;
            leads = leads_more s (n / power % 10) w (omega (arith, quotient));
            none = λ z. absurd (omega arith);
          }

-- the last digit, which is always written
shortest_more : (s : List ℕ) (d : ℕ) → Leads s → Shortest (s ++ ((48 + d) ∷ []))
shortest_more [] d p = tt
shortest_more (byte ∷ []) d p = p
shortest_more (byte ∷ (next ∷ s)) d p = p

numeral : (n : ℕ) (s : List ℕ) → Written (n / 10) s → Numeral n (s ++ ((48 + n % 10) ∷ []))
numeral n s w =
    record {
      value = read_more s (n % 10) w.value ∙ div-add-mod' n 10;
      digits = digits_more s (n % 10) (mod-lt n (omega arith)) w.digits;
      shortest = shortest_more s (n % 10) w.leads;
    }

regroup : (a b c d e f g h i j : List ℕ)
    → ((((((((a ++ b) ++ c) ++ d) ++ e) ++ f) ++ g) ++ h) ++ i) ++ j ≡ (a ++ (b ++ (c ++ (d ++ e)))) ++ (f ++ (g ++ (h ++ (i ++ j))))
regroup a b c d e f g h i j = simp append_assoc

pub decimal_is_numeral : DecimalIsNumeral
unfolding decimal high low read_on
decimal_is_numeral n h =
    let w : Written (n / 10000000000) [] =
    record { value = sym (div-eq_of_lt h); digits = tt; leads = tt; none = λ z. refl } in
    let w9 = written n 1000000000 (omega arith) [] w in
    let w8 = written n 100000000 (omega arith) _ w9 in
    let w7 = written n 10000000 (omega arith) _ w8 in
    let w6 = written n 1000000 (omega arith) _ w7 in
    let w5 = written n 100000 (omega arith) _ w6 in
    let w4 = written n 10000 (omega arith) _ w5 in
    let w3 = written n 1000 (omega arith) _ w4 in
    let w2 = written n 100 (omega arith) _ w3 in
    let w1 = written n 10 (omega arith) _ w2 in
    subst (Numeral n)
    (regroup (digit 1000000000 n) (digit 100000000 n) (digit 10000000 n) (digit 1000000 n) (digit 100000 n) (digit 10000 n)
    (digit 1000 n) (digit 100 n) (digit 10 n) ((48 + n % 10) ∷ []))
    (numeral n _ w1)
