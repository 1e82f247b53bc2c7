-- Hexadecimal digits printed in parts, or stored from the last to the first, are the number's digits. Assumes nothing.
use Prim.Native.Nat.{ℕ, zero, suc, ◌+◌, ◌-◌, ◌/◌, ◌%◌, ◌^◌, ◌<◌, ◌≤◌}
use mathlib.Core.Path.{◌≡◌, refl, sym, ap, ◌∙◌, subst}
use mathlib.Core.List.{List, [], ◌∷◌, ◌++◌}
use native.Mathlib.Numerals.{add-one}
use native.Mathlib.Nat.{zero-add, suc-add, add_comm, div-one, div-div-eq-div-mul}
use native.Mathlib.Omega.{arith}
use lib.ListN.{length, set, drop, length-set, drop_of_length-le}
use lib.Pow.{pow-add}
use Rattle.std.proofs.Math.Nat.{pow-suc}
use Rattle.std.proofs.lemmas.List.{drop-set}
use Rattle.output.specs.declared.printer.Printer.{Printer}
use Rattle.output.specs.Blocks.{Prints}
use Rattle.output.specs.Digits.{hex_digit, hex_of}
use Rattle.output.proofs.Blocks.{both}

-- the digits above the last k, and the last k
hex_parts : (j k x : ℕ) → hex_of j (x / 16 ^ k) ++ hex_of k x ≡ hex_of (j + k) x
unfolding hex_of
hex_parts zero k x = rw zero-add
hex_parts (suc j) k x = rw (suc-add, div-div-eq-div-mul, ← pow-add 16 k j, add_comm k j, hex_parts j k x)

pub hex_both : {a b c : Printer} (j k x : ℕ) → Prints a b (hex_of j (x / 16 ^ k)) → Prints b c (hex_of k x) → Prints a c (hex_of (j + k) x)
hex_both {a} {b} {c} j k x p q = subst (λ (l : List ℕ). Prints a c l) (hex_parts j k x) (both _ _ p q)

pub hex_3 : {a b : Printer} {p q r : ℕ} (x : ℕ) → p ≡ hex_digit (x / 256 % 16) → q ≡ hex_digit (x / 16 % 16) → r ≡ hex_digit (x % 16)
    → Prints a b (p ∷ (q ∷ (r ∷ []))) → Prints a b (hex_of 3 x)
unfolding hex_of
hex_3 x p q r h = rw (div-one, ← p, ← q, ← r) h

pub hex_4 : {a b : Printer} {o p q r : ℕ} (x : ℕ) → o ≡ hex_digit (x / 4096 % 16) → p ≡ hex_digit (x / 256 % 16) → q ≡ hex_digit (x / 16 % 16)
    → r ≡ hex_digit (x % 16) → Prints a b (o ∷ (p ∷ (q ∷ (r ∷ [])))) → Prints a b (hex_of 4 x)
unfolding hex_of
hex_4 x o p q r h = rw (div-one, ← o, ← p, ← q, ← r) h

-- after some places: what is left of the number, and the digits at the end
pub record Stored (n number place rest : ℕ) (digits : List ℕ) : Type 0 where
  pub whole : length digits ≡ n
  pub left : rest ≡ number / 16 ^ place
  pub last : drop (n - place) digits ≡ hex_of place number

pub stored_more : {n number place rest : ℕ} {digits : List ℕ} (d : ℕ) → place < n → d ≡ hex_digit (rest % 16) → Stored n number place rest digits
    → Stored n number (place + 1) (rest / 16) (set digits (n - 1 - place) d)
unfolding hex_of
stored_more {n} {number} {place} {rest} {digits} d h e s =
    let here : n - (place + 1) ≡ n - 1 - place = omega arith in
    let after : n - 1 - place + 1 ≡ n - place = omega arith in
    record {
      whole = length-set digits (n - 1 - place) d ∙ s.whole;
      left = rw (s.left, div-div-eq-div-mul, add-one, pow-suc) refl;
      last =
          ap (λ (k : ℕ). drop k (set digits (n - 1 - place) d)) here
          ∙ drop-set digits (n - 1 - place) d (omega (arith, s.whole))
          ∙ ap (λ (k : ℕ). d ∷ drop k digits) after
          ∙ rw (add-one, e, s.left, s.last) refl;
    }

pub stored_whole : {n number place rest : ℕ} {digits : List ℕ} → place ≤ n → n ≤ place → Stored n number place rest digits → digits ≡ hex_of n number
stored_whole {n} {number} {place} {rest} {digits} g h s =
    let same : n ≡ place = omega arith in
    let none : n - place ≡ 0 = omega arith in
    sym (ap (λ (k : ℕ). drop k digits) none) ∙ s.last ∙ ap (λ (k : ℕ). hex_of k number) (sym same)

pub stored_none : (n number : ℕ) (digits : List ℕ) → length digits ≡ n → Stored n number 0 number digits
unfolding hex_of
stored_none n number digits whole =
    record { whole = whole; left = sym (div-one number); last = drop_of_length-le digits (omega arith) }
