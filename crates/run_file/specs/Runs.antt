-- Document 01, 'Run file and log line': a run is the board's own calls over the records, from the zeroed board, and its answers counted.
use Rattle.std.specs.Prelude.{ℕ, zero, suc, ◌*◌, cond, List, [], ◌++◌, take, drop, replicate, eqb}
use Rattle.board.specs.Answers.{BoardAnswer}
use Rattle.board.specs.Calls.{open_board}
use Rattle.records.specs.Files.{count, file_refusal, records_part}
use Rattle.records.specs.Requests.{Asked, asked_of}
use Rattle.tally.specs.declared.Counts.{Counts}
use Rattle.tally.specs.Tallies.{nothing_yet, tallies, stepped}
use Rattle.tally.specs.Answers.{RunAnswer, counted, refused}
use Rattle.board.specs.Worlds.{World, world}
use Rattle.replay.specs.Worlds.{after, answers}
use Rattle.log_line.specs.Lines.{log_line}

-- "N is 16, M is 64, memory zeroed."
unfoldable pub start : World
start = world (open_board 16 64 1024 512) (replicate 1024 0) (replicate 512 0)

-- what record k of the part, from 0, asks
abbrev pub asked_at : List ℕ → ℕ → Asked
asked_at part k = asked_of (take 8 (drop (8 * k) part))

-- from a world, the world after the first k records
unfoldable pub world_after : World → List ℕ → ℕ → World
world_after w part zero = w
world_after w part (suc k) = after (world_after w part k) (asked_at part k)

-- all that the board's calls answered along them, in order
unfoldable pub answers_along : World → List ℕ → ℕ → List BoardAnswer
answers_along w part zero = []
answers_along w part (suc k) = answers_along w part k ++ answers (world_after w part k) (asked_at part k)

-- and the six counts. "Steps counts all records; a refused one counts in both and the run goes on."
unfoldable pub counts_after : World → List ℕ → ℕ → Counts
counts_after w part zero = nothing_yet
counts_after w part (suc k) = stepped (tallies (counts_after w part k) (answers (world_after w part k) (asked_at part k)))

-- the run of a file: refused 8, or the six counts over all its records
unfoldable pub run_of : List ℕ → RunAnswer
run_of file =
    cond (eqb (file_refusal file) 0) (counted (counts_after start (records_part file) (count file))) (refused (file_refusal file))

-- and its line
unfoldable pub run_line : List ℕ → List ℕ
run_line file = log_line (run_of file)
