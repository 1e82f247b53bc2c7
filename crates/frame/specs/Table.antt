-- Document 02, card 5: the CRC worked out "from the printed list of 256 remainders", a CRC table. The code's is `REMAINDERS` of src/remainder_table.rt;
-- `byte_crc` looks it up, and its proof compares all of it with the list that is defined here.
use Rattle.std.specs.Prelude.{◌≡◌, List, [], ◌∷◌, ℕ, ◌*◌, ◌/◌, ◌%◌, ◌^◌, ◌<◌, length, get_or}
use Rattle.std.specs.Int.Bits.{bit_xor}
use Rattle.tabulation.specs.Tabulation.{tabulated}
use Rattle.frame.specs.Polynomials.{Remainder}
use Rattle.frame.specs.Crc.{crc_of, of_bytes}
use Rattle.frame.specs.Frames.{crc_for}

-- "the printed list of 256 remainders, one for each byte value: that of the byte times x^8": the CRC of each byte by itself, from 00h to FFh
unfoldable pub remainders : List ℕ
unfolding crc_of
remainders = tabulated crc_of 256

-- "work it out from the printed list": the bytes of a message, high byte first, come in one after the other, each by one look-up, from the remainder r
unfoldable pub bytes_in : ℕ → List ℕ → ℕ
unfolding remainders
bytes_in r [] = r
bytes_in r (b ∷ bs) = bytes_in (get_or remainders (bit_xor r b) 0) bs

-- "Show this over the whole list."
pub record TableLaws : Type 0 where
  -- there are 256, and that of byte b is the remainder of b "times x^8, by document 01's polynomial"
  pub length_256 : length remainders ≡ 256
  pub entry_remainder : (b : ℕ) → b < 2 ^ 8 → Remainder (b * 2 ^ 8) (get_or remainders b 0)
  -- no other list of 256 is so
  pub list_unique : (list : List ℕ) → length list ≡ 256 → ((b : ℕ) → b < 2 ^ 8 → Remainder (b * 2 ^ 8) (get_or list b 0)) → list ≡ remainders
  -- look-ups, starting from 0, give the CRC of a message of any length
  pub byte_by_byte : (bytes : List ℕ) → ((k : ℕ) → get_or bytes k 0 < 2 ^ 8) → bytes_in 0 bytes ≡ crc_of (of_bytes bytes)
  -- four look-ups give the CRC of a frame: ID, the data's high byte, its low byte, auxiliary
  pub frame_bytes : (id word aux : ℕ) → id < 2 ^ 8 → word < 2 ^ 16 → aux < 2 ^ 8
      → bytes_in 0 (id ∷ word / 2 ^ 8 ∷ word % 2 ^ 8 ∷ aux ∷ []) ≡ crc_for id word aux
