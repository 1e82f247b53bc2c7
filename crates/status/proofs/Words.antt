-- Bits of a word, and the word of a list of bits: what the proofs of the functions cite. Assumes nothing.
use Prim.Native.Nat.{ℕ, suc, ◌+◌, ◌-◌, ◌*◌, ◌/◌, ◌%◌, ◌^◌, ◌<◌, ◌≤◌}
use mathlib.Core.Path.{◌≡◌, refl, sym, ap, ◌∙◌}
use mathlib.Core.List.{List, [], ◌∷◌, ◌++◌}
use mathlib.Core.Bool.{Bool, true, false}
use mir.Val.{bool_byte}
use native.Mathlib.Omega.{arith}
use native.Mathlib.Nat.{pow-suc, div-eq_of_lt}
use lib.ListN.{length, get_or, drop, length-drop, drop_of_length-le}
use lib.Dec.{eqb}
use lib.Pow.{pow_mono}
use lib.Seq.{drop-cons}
use borrow.Author.Tests.{eq-eqb, ne_eqb}
use Rattle.std.proofs.lemmas.Nat.{and_block, and_mask}
use lib.Bits.{bit_and}
use Rattle.status.specs.Bits.{bit_at, bit_of, word_of_bits}

-- a word of sixteen bits has none at 16 and above
pub bit_past : (word k : ℕ) → word < 65536 → 16 ≤ k → bit_at word k ≡ false
bit_past word k h l =
    let m : 2 ^ 16 ≤ 2 ^ k = pow_mono l in
    rw (div-eq_of_lt {n = word} {m = 2 ^ k} (omega arith))

-- a word without its D3
pub without_bit_3 : (word : ℕ) → word < 65536 → bit_and word 0xfff7 ≡ word / 16 * 16 + word % 8
without_bit_3 word h =
    let parts : word ≡ word / 16 * 2 ^ 4 + word % 16 = omega arith in
    let apart : bit_and (word / 16 * 2 ^ 4 + word % 16) (0xfff * 2 ^ 4 + 7) ≡ bit_and (word / 16) 0xfff * 2 ^ 4 + bit_and (word % 16) 7 =
    and_block 4 (word / 16) 0xfff (word % 16) 7 (omega arith) (omega arith) in
    let high : bit_and (word / 16) 0xfff ≡ word / 16 % 2 ^ 12 = and_mask (word / 16) 12 in
    let low : bit_and (word % 16) 7 ≡ word % 16 % 2 ^ 3 = and_mask (word % 16) 3 in
    ap (λ (w : ℕ). bit_and w 0xfff7) parts ∙ apart ∙ omega arith

pub bit_small : (b : Bool) → bit_of b ≤ 1
bit_small true = omega arith
bit_small false = omega arith

-- a number that is a bit tells it where it is compared with 1, as `bit_at` does
pub bit_is : (x : ℕ) (b : Bool) → x ≡ bit_of b → eqb x 1 ≡ b
bit_is x true e = eq-eqb x 1 e
bit_is x false e = ne_eqb x 1 (λ q. omega (arith, e, q))

word_below : (l : List Bool) → word_of_bits l < 2 ^ length l
unfolding word_of_bits
word_below [] = omega arith
word_below (b ∷ l) = omega (arith, pow-suc 2 (length l), word_below l, bit_small b)

-- of sixteen bits, those from k on
module _ (a : List Bool) (l : length a ≡ 16) where
  pub word_none : 0 ≡ word_of_bits (drop 16 a)
  unfolding word_of_bits
  word_none = sym (ap word_of_bits (drop_of_length-le a {i = 16} (omega arith)))

  pub word_small : (k : ℕ) → word_of_bits (drop k a) < 65536
  word_small k =
      let s : length (drop k a) ≤ 16 = rw length-drop (omega arith) in
      let m : 2 ^ length (drop k a) ≤ 65536 = pow_mono s in
      omega (arith, word_below (drop k a))

  pub word_back : (k : ℕ) → 0 < k → k ≤ 16 → bit_of (get_or a (k - 1) false) + 2 * word_of_bits (drop k a) ≡ word_of_bits (drop (k - 1) a)
  unfolding word_of_bits
  word_back k h s =
      let e : suc (k - 1) ≡ k = omega arith in
      sym (ap word_of_bits (drop-cons a (k - 1) false (omega arith)) ∙ ap (λ (j : ℕ). bit_of (get_or a (k - 1) false) + 2 * word_of_bits (drop j a)) e)

-- the word of a list of bits with those of `word` above them
pub below_word : List Bool → ℕ → ℕ
below_word [] word = word
below_word (b ∷ l) word = bit_of b + 2 * below_word l word

pub below_none : (l : List Bool) → below_word l 0 ≡ word_of_bits l
unfolding below_word word_of_bits
below_none [] = refl
below_none (b ∷ l) = ap (λ (w : ℕ). bit_of b + 2 * w) (below_none l)

-- the last of the list taken into the word
pub below_push : (l : List Bool) (b : Bool) (word : ℕ) → below_word (l ++ b ∷ []) word ≡ below_word l (bit_of b + 2 * word)
unfolding below_word
below_push [] b word = refl
below_push (c ∷ l) b word = ap (λ (w : ℕ). bit_of c + 2 * w) (below_push l b word)

pub below_end : (l : List Bool) (word : ℕ) → length l ≡ 0 → below_word l word ≡ word
unfolding below_word
below_end [] word e = refl
below_end (b ∷ l) word e = absurd (omega arith)

-- bits below a word do not make it less
pub below_more : (l : List Bool) (word : ℕ) → word ≤ below_word l word
unfolding below_word
below_more [] word = omega arith
below_more (b ∷ l) word = omega (arith, below_more l word)

-- so the word of those taken fits, as that of sixteen does
below_fits : (l bits : List Bool) (word : ℕ) → below_word l word ≡ word_of_bits bits → length bits ≡ 16 → word < 65536
below_fits l bits word e s =
    let m : 2 ^ length bits ≡ 65536 = rw s refl in
    omega (arith, e, below_more l word, word_below bits)

-- and with the last of those left
pub next_fits : (left l bits : List Bool) (b : Bool) (word : ℕ) → left ≡ l ++ b ∷ [] → below_word left word ≡ word_of_bits bits → length bits ≡ 16
    → 2 * word + bool_byte b < 65536
next_fits left l bits b word e w s =
    let h : bit_of b + 2 * word < 65536 = below_fits l bits (bit_of b + 2 * word) (sym (below_push l b word) ∙ ap (λ (m : List Bool). below_word m word) (sym e) ∙ w) s in
    let k : bool_byte b ≡ bit_of b = byte_bit b in
    omega arith
  where
    byte_bit : (b : Bool) → bool_byte b ≡ bit_of b
    byte_bit true = refl
    byte_bit false = refl
