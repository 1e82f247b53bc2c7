-- Document 02, card 8: "Slow links need several calls to fetch one retired part." A download, the refusals of its portions, and the words of a portion.
use Rattle.std.specs.Prelude.{ℕ, ◌+◌, cond, List, take, drop, ltb, Option, Some, None, is_some}
use Rattle.refusal.specs.Refusals.{number_of}
use Rattle.refusal.specs.declared.Refusal.TheVariants as refusal
use Rattle.downloads.specs.declared.Download.{Download}

-- none is open: so at an opening of the board, and "Group End or reset on that channel ends the download."
abbrev pub no_download : Option Download
no_download = None

-- "Opening a download of a channel remembers the retired count"
abbrev pub download_of : (count : ℕ) → Option Download
download_of count = Some (record { count = count })

-- that count; 0 with none open
abbrev pub count_of : Option Download → ℕ
count_of None = 0
count_of (Some d) = d.count

-- 12, which document 02 calls "overtaken": "a portion with no download open; checked after the channel and before the range"; then 2: "A portion whose end
-- is past the count is refused 2." The end is a whole number, however large. "Length 0 is allowed.": it ends where it begins
abbrev pub portion_refusal : Option Download → (index size : ℕ) → ℕ
portion_refusal d index size =
    cond (is_some d) (cond (ltb (count_of d) (index + size)) (number_of refusal.OutOfRange) 0) (number_of refusal.NoDownload)

-- "Portions give a first index and a length and return those words"
abbrev pub portion_of : (part : List ℕ) (index size : ℕ) → List ℕ
portion_of part index size = take size (drop index part)
