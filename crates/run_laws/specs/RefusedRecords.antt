-- Document 01, 'Run file and log line': "Steps counts all records; a refused one counts in both and the run goes on." Proof: proofs/RefusedRecords.antt.
use Rattle.std.specs.Prelude.{ℕ, zero, suc, ◌+◌, ◌≤◌, ◌≡◌, Bool, false, ◌||◌, List, [], ◌∷◌, length}
use Rattle.status.specs.Bits.{bit_of}
use Rattle.board.specs.Answers.{BoardAnswer, refuses}
use Rattle.board.specs.Worlds.{World}
use Rattle.records.specs.Files.{count, records_part}
use Rattle.tally.specs.declared.Counts.{Counts}
use Rattle.replay.specs.Worlds.{tick_answers, answers}
use Rattle.run_file.specs.Runs.{start, asked_at, world_after}
use Rattle.run_laws.specs.Drawn.{how_many}

-- the world before record k of a file, from 0, and what that record is answered
abbrev pub before : List ℕ → ℕ → World
before file k = world_after start (records_part file) k

abbrev pub record_answers : List ℕ → ℕ → List BoardAnswer
record_answers file k = answers (before file k) (asked_at (records_part file) k)

-- "N is 16, M is 64": depths and lent lengths, 64 × N and 8 × M, as they are at the start
pub record Sized (w : World) : Type 0 where
  pub n : w.board.n ≡ 16
  pub m : w.board.m ≡ 64
  pub setpoints : length w.setpoints ≡ 1024
  pub readbacks : length w.readbacks ≡ 512

-- a refused record: one of its answers is a refusal. A bad record's is 9
unfoldable pub refused_one : List BoardAnswer → Bool
refused_one [] = false
refused_one (x ∷ xs) = refuses x || refused_one xs

-- how many of the first k records are refused
unfoldable pub refused_records : List ℕ → ℕ → ℕ
refused_records file zero = 0
refused_records file (suc k) = refused_records file k + bit_of (refused_one (record_answers file k))

pub record RefusedRecords (file : List ℕ) (c : Counts) : Type 0 where
  -- the count is of records, not of calls
  pub refused : c.refused ≡ refused_records file (count file)
  -- "a refused one counts in both"
  pub both : c.refused ≤ c.steps
  -- though a record of b ticks makes b calls: the board keeps its depths and the memories their lengths, so no tick is refused, however many
  pub sized : (k : ℕ) → Sized (before file k)
  pub ticks : (k b : ℕ) → how_many refuses (tick_answers (before file k).board (before file k).setpoints b) ≡ 0
  -- so no record counts twice
  pub once : (k : ℕ) → how_many refuses (record_answers file k) ≤ 1
