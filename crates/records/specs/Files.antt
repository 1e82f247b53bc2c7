-- Document 01, 'Run file and log line': the file, its trailer and the part that holds the records. Bytes are numbers below 256; nothing here wraps.
use Rattle.std.specs.Prelude.{ℕ, ◌+◌, ◌-◌, ◌*◌, cond, List, [], length, take, drop, eqb, ltb}
use Rattle.refusal.specs.Refusals.{number_of}
use Rattle.refusal.specs.declared.Refusal.TheVariants as refusal
use Rattle.channel_core.specs.Answers.{Answer, unless}
use Rattle.channel_core.specs.Answers as ans
use Rattle.little_endian.specs.Numbers.{number32}

-- "a trailer of two 32-bit little-endian numbers: distance back from the file's end to the first record, and record count"
unfoldable pub distance : List ℕ → ℕ
distance file = number32 file (length file - 8)

unfoldable pub count : List ℕ → ℕ
count file = number32 file (length file - 4)

-- "A longer file, one under 8 bytes, or a distance other than 8 × count + 8 or past the file's length, is 8." (0: none)
unfoldable pub file_refusal : List ℕ → ℕ
file_refusal file =
    cond (ltb 65536 (length file)) (number_of refusal.BadTrailer)
    (cond (ltb (length file) 8) (number_of refusal.BadTrailer)
    (cond (eqb (distance file) (8 * count file + 8))
    (cond (ltb (length file) (distance file)) (number_of refusal.BadTrailer) 0)
    (number_of refusal.BadTrailer)))

-- "The reader hands back the records as a part of the file lent to it": between preamble and trailer, empty where refused
unfoldable pub records_part : List ℕ → List ℕ
records_part file =
    cond (eqb (file_refusal file) 0) (take (8 * count file) (drop (length file - distance file) file)) []

-- the call beside it: the number or the part's length in bytes
unfoldable pub records_length : List ℕ → Answer
records_length file = unless (file_refusal file) (ans.part_length (8 * count file))
