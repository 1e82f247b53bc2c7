-- Document 01, 'Run file and log line': what the log line's counts are, against the answers that the board's calls gave along the run, for every
-- file that is not refused (proofs/Drawn.antt); and that the line tells them (proofs/Lines.antt).
use Rattle.std.specs.Prelude.{ℕ, ◌+◌, ◌≡◌, Bool, List, [], ◌∷◌}
use Rattle.status.specs.Bits.{bit_of}
use Rattle.board.specs.Answers.{BoardAnswer, refuses}
use Rattle.records.specs.Files.{count, records_part}
use Rattle.tally.specs.declared.Counts.{Counts}
use Rattle.tally.specs.Tallies.{sends}
use Rattle.run_file.specs.Runs.{start, answers_along, run_of, run_line}

-- how many answers pass a test
unfoldable pub how_many : {A : Type 0} → (A → Bool) → List A → ℕ
how_many test [] = 0
how_many test (x ∷ xs) = bit_of (test x) + how_many test xs

-- all that the calls of a file's run answered, in order; a bad record shows 9
abbrev pub answers_of : List ℕ → List BoardAnswer
answers_of file = answers_along start (records_part file) (count file)

-- "records, refusals and frames of channels 1–4"
pub record Drawn (file : List ℕ) (c : Counts) : Type 0 where
  pub steps : c.steps ≡ count file
  pub refused : c.refused ≡ how_many refuses (answers_of file)
  pub first : c.first ≡ how_many (sends 1) (answers_of file)
  pub second : c.second ≡ how_many (sends 2) (answers_of file)
  pub third : c.third ≡ how_many (sends 3) (answers_of file)
  pub fourth : c.fourth ≡ how_many (sends 4) (answers_of file)

-- two files that print the same line ran alike: the six counts, or refused
abbrev pub RunLineTells : Type 0
RunLineTells = (file file' : List ℕ) → run_line file ≡ run_line file' → run_of file ≡ run_of file'
