-- Document 01, 'Run file and log line': "prints records, refusals and frames of channels 1–4 in one line, or "file 8"", as ASCII bytes.
use Rattle.std.specs.Prelude.{ℕ, ◌+◌, ◌/◌, ◌%◌, ◌≤◌, ◌≡◌, cond, List, [], ◌∷◌, ◌++◌, length, take, ltb}
use Rattle.tally.specs.declared.Counts.{Counts}
use Rattle.tally.specs.Answers.{RunAnswer, counted, refused}

-- the digit of n at a power of ten above 1: written where n comes up to it
abbrev pub digit : ℕ → ℕ → List ℕ
digit power n = cond (ltb n power) [] ((48 + n / power % 10) ∷ [])

-- its digits from 10^9 down to 10^5, and from 10^4 down; the last is always written
unfoldable pub high : ℕ → List ℕ
high n = digit 1000000000 n ++ (digit 100000000 n ++ (digit 10000000 n ++ (digit 1000000 n ++ digit 100000 n)))

unfoldable pub low : ℕ → List ℕ
low n = digit 10000 n ++ (digit 1000 n ++ (digit 100 n ++ (digit 10 n ++ ((48 + n % 10) ∷ []))))

-- n below 10^10 in decimal digits, the highest first and with no zeros in front
unfoldable pub decimal : ℕ → List ℕ
decimal n = high n ++ low n

-- `steps `, ` refused `, ` frames `, a space, `file `
abbrev pub steps_text : List ℕ
steps_text = 115 ∷ 116 ∷ 101 ∷ 112 ∷ 115 ∷ 32 ∷ []

abbrev pub refused_text : List ℕ
refused_text = 32 ∷ 114 ∷ 101 ∷ 102 ∷ 117 ∷ 115 ∷ 101 ∷ 100 ∷ 32 ∷ []

abbrev pub frames_text : List ℕ
frames_text = 32 ∷ 102 ∷ 114 ∷ 97 ∷ 109 ∷ 101 ∷ 115 ∷ 32 ∷ []

abbrev pub space : List ℕ
space = 32 ∷ []

abbrev pub file_text : List ℕ
file_text = 102 ∷ 105 ∷ 108 ∷ 101 ∷ 32 ∷ []

-- frames of channels 1 to 4
unfoldable pub frame_counts : Counts → List ℕ
frame_counts c =
    decimal c.first ++ (space ++ (decimal c.second ++ (space ++ (decimal c.third ++ (space ++ decimal c.fourth)))))

-- the line, with no line end: `steps S refused R frames A B C D`, or `file 8`
unfoldable pub log_line : RunAnswer → List ℕ
log_line (counted c) = steps_text ++ (decimal c.steps ++ (refused_text ++ (decimal c.refused ++ (frames_text ++ frame_counts c))))
log_line (refused k) = file_text ++ decimal k

-- the first `size` bytes of a buffer are the line
abbrev pub Fills : ℕ → List ℕ → List ℕ → Type 0
Fills size buffer line = (size ≤ length buffer) × (size ≡ length (take size buffer)) × (take size buffer ≡ line)
