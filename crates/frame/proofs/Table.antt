-- The list of remainders by bytes, and the CRC by look-ups in it: every law of specs/Table.antt. Assumes nothing.
use mathlib.Core.Path.{◌≡◌, refl, sym, ap, ◌∙◌, subst}
use mathlib.Core.List.{List, [], ◌∷◌}
use Prim.Native.Nat.{ℕ, zero, suc, ◌*◌, ◌/◌, ◌%◌, ◌^◌, ◌<◌}
use lib.Dec.{lit<}
use lib.Bits.{bit_xor, xor_lt}
use lib.ListN.{length, get_or}
use lib.Seq.{ext_get_or}
use Rattle.tabulation.proofs.Entries.{length_of_lem, entry_of}
use Rattle.frame.specs.Polynomials.{Remainder}
use Rattle.frame.specs.Crc.{crc_of, of_bytes}
use Rattle.frame.specs.Frames.{crc_for}
use Rattle.frame.specs.Table.{remainders, bytes_in, TableLaws}
use Rattle.frame.proofs.Remainders.{remainder_unique, crc_low, crc_is}
use Rattle.frame.proofs.Messages.{updated, updated_crc, after_id, after_id_fits, crc_middle}

-- ---- the list

-- entry b is the CRC of b
pub entry : (b : ℕ) → b < 2 ^ 8 → get_or remainders b 0 ≡ crc_of b
unfolding remainders
entry b h = entry_of crc_of 256 b 0 h

length_256 : length remainders ≡ 256
unfolding remainders
length_256 = length_of_lem crc_of 256

entry_remainder : (b : ℕ) → b < 2 ^ 8 → Remainder (b * 2 ^ 8) (get_or remainders b 0)
entry_remainder b h = subst (Remainder (b * 2 ^ 8)) (sym (entry b h)) (crc_is b)

list_unique : (list : List ℕ) → length list ≡ 256 → ((b : ℕ) → b < 2 ^ 8 → Remainder (b * 2 ^ 8) (get_or list b 0)) → list ≡ remainders
list_unique list n rule =
    ext_get_or 0 list remainders (n ∙ sym length_256)
    (λ b l.
    let h : b < 2 ^ 8 = subst (λ (m : ℕ). b < m) n l in
    remainder_unique (b * 2 ^ 8) (get_or list b 0) (get_or remainders b 0) (rule b h) (entry_remainder b h))

-- ---- look-ups

-- a look-up is an update
looked_up : (r : ℕ) (bytes : List ℕ) → r < 2 ^ 8 → ((k : ℕ) → get_or bytes k 0 < 2 ^ 8) → bytes_in r bytes ≡ updated r bytes
unfolding bytes_in
looked_up r [] low h = refl
looked_up r (b ∷ bs) low h =
    ap (λ (x : ℕ). bytes_in x bs) (entry (bit_xor r b) (xor_lt 8 r b low (h 0)))
    ∙ looked_up (crc_of (bit_xor r b)) bs (crc_low (bit_xor r b)) (λ k. h (suc k))

byte_by_byte : (bytes : List ℕ) → ((k : ℕ) → get_or bytes k 0 < 2 ^ 8) → bytes_in 0 bytes ≡ crc_of (of_bytes bytes)
unfolding crc_of
byte_by_byte bytes h = looked_up 0 bytes (lit< tt) h ∙ updated_crc 0 bytes h

frame_bytes : (id word aux : ℕ) → id < 2 ^ 8 → word < 2 ^ 16 → aux < 2 ^ 8
    → bytes_in 0 (id ∷ word / 2 ^ 8 ∷ word % 2 ^ 8 ∷ aux ∷ []) ≡ crc_for id word aux
frame_bytes id word aux hi hw ha = looked_up 0 (id ∷ after_id word aux) (lit< tt) each ∙ crc_middle id word aux hw ha
  where
    each : (k : ℕ) → get_or (id ∷ after_id word aux) k 0 < 2 ^ 8
    each zero = hi
    each (suc k) = after_id_fits word aux hw ha k

pub table_laws : TableLaws
table_laws =
    record {
      length_256 = length_256;
      entry_remainder = entry_remainder;
      list_unique = list_unique;
      byte_by_byte = byte_by_byte;
      frame_bytes = frame_bytes;
    }
