-- The CRC of a message of any length, a bit and a byte at a time, and of the 32 middle bits of a frame. Assumes nothing.
use mathlib.Core.Path.{◌≡◌, refl, sym, ap, ◌∙◌}
use mathlib.Core.Bool.{Bool, cond}
use mathlib.Core.List.{List, [], ◌∷◌, ◌++◌}
use Prim.Native.Nat.{ℕ, zero, suc, ◌+◌, ◌*◌, ◌/◌, ◌%◌, ◌^◌, ◌≤◌, ◌<◌}
use native.Mathlib.Nat.{mod-lt, div-one}
use native.Mathlib.Numerals.{add-one}
use native.Mathlib.Omega.{arith}
use lib.Dec.{lit<, eqb}
use lib.Pow.{split, shr-shr}
use lib.Bits.{bit_xor}
use lib.ListN.{length, get_or, take}
use lib.Seq.{take-suc, take_all}
use Rattle.frame.specs.Crc.{crc_of, with_bits, of_bits, with_bytes, of_bytes, bit, bits_of, bits_in}
use Rattle.frame.specs.Frames.{middle, crc_for}
use Rattle.frame.proofs.Multiples.{one_or_none}
use Rattle.frame.proofs.Remainders.{crc_bit, crc_byte}

-- ---- bits

bits_after : (m : ℕ) (bs : List Bool) → bits_in (crc_of m) bs ≡ crc_of (with_bits m bs)
unfolding bits_in
bits_after m [] = refl
bits_after m (b ∷ bs) =
    ap (λ (r : ℕ). bits_in r bs) (sym (crc_bit m (cond b 1 0) (one_or_none b))) ∙ bits_after (m * 2 + cond b 1 0) bs

pub bit_by_bit : (bits : List Bool) → bits_in 0 bits ≡ crc_of (of_bits bits)
unfolding crc_of
bit_by_bit bits = bits_after 0 bits

-- ---- bytes as bits

odd : (x : ℕ) → x < 2 → cond (eqb x 1) 1 0 ≡ x
odd zero h = refl
odd (suc zero) h = refl
odd (suc (suc x)) h = absurd (omega arith)

-- from bit k on a number is what it is from bit k + 1 on, and then bit k
bit_more : (b k : ℕ) → b / 2 ^ k ≡ b / 2 ^ (k + 1) * 2 + cond (bit k b) 1 0
bit_more b k =
    sym (split (b / 2 ^ k) 1)
    ∙ ap (λ (x : ℕ). x * 2 + b / 2 ^ k % 2) (shr-shr b k 1)
    ∙ ap (λ (x : ℕ). b / 2 ^ (k + 1) * 2 + x) (sym (odd (b / 2 ^ k % 2) (mod-lt (b / 2 ^ k) (lit< tt))))

eight : (m b b₁ b₂ b₃ b₄ b₅ b₆ b₇ b₈ t₀ t₁ t₂ t₃ t₄ t₅ t₆ t₇ : ℕ) → b ≡ b₁ * 2 + t₀ → b₁ ≡ b₂ * 2 + t₁ → b₂ ≡ b₃ * 2 + t₂
    → b₃ ≡ b₄ * 2 + t₃ → b₄ ≡ b₅ * 2 + t₄ → b₅ ≡ b₆ * 2 + t₅ → b₆ ≡ b₇ * 2 + t₆ → b₇ ≡ b₈ * 2 + t₇ → b₈ ≡ 0
    → (((((((m * 2 + t₇) * 2 + t₆) * 2 + t₅) * 2 + t₄) * 2 + t₃) * 2 + t₂) * 2 + t₁) * 2 + t₀ ≡ m * 2 ^ 8 + b
eight m b b₁ b₂ b₃ b₄ b₅ b₆ b₇ b₈ t₀ t₁ t₂ t₃ t₄ t₅ t₆ t₇ h₀ h₁ h₂ h₃ h₄ h₅ h₆ h₇ h = omega arith

byte_bits : (m b : ℕ) → b < 2 ^ 8 → (bs : List Bool)
    → with_bits m (bit 7 b ∷ bit 6 b ∷ bit 5 b ∷ bit 4 b ∷ bit 3 b ∷ bit 2 b ∷ bit 1 b ∷ bit 0 b ∷ bs) ≡ with_bits (m * 2 ^ 8 + b) bs
byte_bits m b h bs =
    ap (λ (n : ℕ). with_bits n bs)
    (eight m b (b / 2 ^ 1) (b / 2 ^ 2) (b / 2 ^ 3) (b / 2 ^ 4) (b / 2 ^ 5) (b / 2 ^ 6) (b / 2 ^ 7) (b / 2 ^ 8) _ _ _ _ _ _ _ _ (sym (div-one b) ∙ bit_more b 0)
    (bit_more b 1) (bit_more b 2) (bit_more b 3) (bit_more b 4) (bit_more b 5) (bit_more b 6) (bit_more b 7) (omega arith))

bytes_after : (m : ℕ) (bytes : List ℕ) → ((k : ℕ) → get_or bytes k 0 < 2 ^ 8) → with_bits m (bits_of bytes) ≡ with_bytes m bytes
bytes_after m [] h = refl
bytes_after m (b ∷ bs) h = byte_bits m b (h 0) (bits_of bs) ∙ bytes_after (m * 2 ^ 8 + b) bs (λ k. h (suc k))

pub bytes_as_bits : (bytes : List ℕ) → ((k : ℕ) → get_or bytes k 0 < 2 ^ 8) → of_bits (bits_of bytes) ≡ of_bytes bytes
bytes_as_bits = bytes_after 0

-- ---- bytes

after_last : (m : ℕ) (xs : List ℕ) (y : ℕ) → with_bytes m (xs ++ (y ∷ [])) ≡ with_bytes m xs * 2 ^ 8 + y
after_last m [] y = refl
after_last m (x ∷ xs) y = after_last (m * 2 ^ 8 + x) xs y

-- the message of i + 1 bytes of s
message_more : (s : List ℕ) (i : ℕ) → i < length s → of_bytes (take (i + 1) s) ≡ of_bytes (take i s) * 2 ^ 8 + get_or s i 0
message_more s i h =
    ap (λ (n : ℕ). of_bytes (take n s)) (add-one i) ∙ ap of_bytes (take-suc s i 0 h) ∙ after_last 0 (take i s) (get_or s i 0)

pub crc_more : (s : List ℕ) (i : ℕ) → i < length s → get_or s i 0 < 2 ^ 8
    → crc_of (bit_xor (crc_of (of_bytes (take i s))) (get_or s i 0)) ≡ crc_of (of_bytes (take (i + 1) s))
crc_more s i h b = sym (crc_byte (of_bytes (take i s)) (get_or s i 0) b) ∙ ap crc_of (sym (message_more s i h))

pub crc_all : (s : List ℕ) (i : ℕ) → length s ≤ i → crc_of (of_bytes (take i s)) ≡ crc_of (of_bytes s)
crc_all s i h = ap (λ (l : List ℕ). crc_of (of_bytes l)) (take_all i s h)

-- bytes brought in one after the other, from the remainder r: each leaves the CRC of remainder and byte together
abbrev pub updated : ℕ → List ℕ → ℕ
updated r [] = r
updated r (b ∷ bs) = updated (crc_of (bit_xor r b)) bs

pub updated_crc : (m : ℕ) (bytes : List ℕ) → ((k : ℕ) → get_or bytes k 0 < 2 ^ 8) → updated (crc_of m) bytes ≡ crc_of (with_bytes m bytes)
updated_crc m [] h = refl
updated_crc m (b ∷ bs) h = ap (λ (r : ℕ). updated r bs) (sym (crc_byte m b (h 0))) ∙ updated_crc (m * 2 ^ 8 + b) bs (λ k. h (suc k))

-- ---- the middle bits of a frame

-- their bytes after the ID, high byte first
abbrev pub after_id : ℕ → ℕ → List ℕ
after_id word aux = word / 2 ^ 8 ∷ word % 2 ^ 8 ∷ aux ∷ []

pub after_id_fits : (word aux : ℕ) → word < 2 ^ 16 → aux < 2 ^ 8 → (k : ℕ) → get_or (after_id word aux) k 0 < 2 ^ 8
after_id_fits word aux hw ha zero = omega arith
after_id_fits word aux hw ha (suc zero) = mod-lt word (lit< tt)
after_id_fits word aux hw ha (suc (suc zero)) = ha
after_id_fits word aux hw ha (suc (suc (suc k))) = lit< tt

-- the CRC of the ID, updated with these, is that of the middle bits
pub crc_middle : (id word aux : ℕ) → word < 2 ^ 16 → aux < 2 ^ 8 → updated (crc_of id) (after_id word aux) ≡ crc_for id word aux
unfolding crc_for
crc_middle id word aux hw ha = updated_crc id (after_id word aux) (after_id_fits word aux hw ha) ∙ ap crc_of message
  where
    message : with_bytes id (after_id word aux) ≡ middle id word aux
    message = omega arith

-- the same, of the four bytes as a machine writes them
pub crc_bytes : (id word aux : ℕ) → word < 2 ^ 16 → crc_of (of_bytes (id ∷ word / 2 ^ 8 % 2 ^ 8 ∷ word % 2 ^ 8 ∷ aux ∷ [])) ≡ crc_for id word aux
unfolding crc_for
crc_bytes id word aux hw = ap crc_of message
  where
    message : of_bytes (id ∷ word / 2 ^ 8 % 2 ^ 8 ∷ word % 2 ^ 8 ∷ aux ∷ []) ≡ middle id word aux
    message = omega arith
