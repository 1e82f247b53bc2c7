-- Document 01, 'Run file and log line': what a run counts, by the answers that the board's calls gave and by nothing else.
use Rattle.std.specs.Prelude.{ℕ, ◌+◌, min, max, Bool, true, false, cond, List, [], ◌∷◌, ltb}
use Rattle.channel_core.specs.Answers.{is_frame}
use Rattle.board.specs.Answers.{BoardAnswer, one, each, of_four, refuses}
use Rattle.tally.specs.declared.Counts.{Counts}

-- whether a tick answered a frame for channel 1 to 4
abbrev pub sends : ℕ → BoardAnswer → Bool
sends number (one a) = false
sends number (each a b c d) = is_frame (of_four number a b c d)

-- one more where the test holds. A count stays at 2^32 − 1; no run file brings it there (`Drawn`, crate run_laws)
abbrev pub more : Bool → ℕ → ℕ
more test n = cond test (cond (ltb n 4294967295) (n + 1) n) n

-- so many more at once; `more_by_lem` of proofs/TicksCounted.antt says that they are as many single ones
abbrev pub more_by : ℕ → ℕ → ℕ
more_by k n = max n (min (n + k) 4294967295)

abbrev pub nothing_yet : Counts
nothing_yet = record { steps = 0; refused = 0; first = 0; second = 0; third = 0; fourth = 0 }

-- one answer counted
unfoldable pub tally : Counts → BoardAnswer → Counts
tally c x =
    record {
      steps = c.steps;
      refused = more (refuses x) c.refused;
      first = more (sends 1 x) c.first;
      second = more (sends 2 x) c.second;
      third = more (sends 3 x) c.third;
      fourth = more (sends 4 x) c.fourth;
    }

-- the answers of ticks in a row counted at once: so many were refused, and so many frames of channels 1 to 4
unfoldable pub tally_ticks : Counts → ℕ → ℕ → ℕ → ℕ → ℕ → Counts
tally_ticks c refused first second third fourth =
    record {
      steps = c.steps;
      refused = more_by refused c.refused;
      first = more_by first c.first;
      second = more_by second c.second;
      third = more_by third c.third;
      fourth = more_by fourth c.fourth;
    }

-- answers counted, in order
unfoldable pub tallies : Counts → List BoardAnswer → Counts
tallies c [] = c
tallies c (x ∷ xs) = tallies (tally c x) xs

-- "Steps counts all records"
unfoldable pub stepped : Counts → Counts
stepped c =
    record {
      steps = more true c.steps;
      refused = c.refused;
      first = c.first;
      second = c.second;
      third = c.third;
      fourth = c.fourth;
    }
