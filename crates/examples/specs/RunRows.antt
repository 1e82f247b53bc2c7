-- Document 01, 'Run file and log line': the whole case, from the file's 48 bytes to the line's.
use Rattle.std.specs.Prelude.{◌≡◌, List, [], ◌∷◌, ℕ}
use Rattle.run_file.specs.Runs.{run_line}

-- "setpoint channel 1, a 0, 80000005h; write 080Ah := 3; arm; write 0808h := 1; 30 ticks; trailer 48, 5"
unfoldable pub whole_file : List ℕ
whole_file =
    3 ∷ 1 ∷ 0 ∷ 0 ∷ 5 ∷ 0 ∷ 0 ∷ 0x80
    ∷ 1 ∷ 0 ∷ 0x0a ∷ 0x08 ∷ 3 ∷ 0 ∷ 0 ∷ 0
    ∷ 8 ∷ 1 ∷ 0 ∷ 0 ∷ 1 ∷ 0 ∷ 0 ∷ 0
    ∷ 1 ∷ 0 ∷ 0x08 ∷ 0x08 ∷ 1 ∷ 0 ∷ 0 ∷ 0
    ∷ 5 ∷ 0 ∷ 0 ∷ 0 ∷ 30 ∷ 0 ∷ 0 ∷ 0
    ∷ 48 ∷ 0 ∷ 0 ∷ 0 ∷ 5 ∷ 0 ∷ 0 ∷ 0
    ∷ []

-- `steps 5 refused 0 frames 3 0 0 0`
unfoldable pub whole_line : List ℕ
whole_line =
    115 ∷ 116 ∷ 101 ∷ 112 ∷ 115 ∷ 32 ∷ 53
    ∷ 32 ∷ 114 ∷ 101 ∷ 102 ∷ 117 ∷ 115 ∷ 101 ∷ 100 ∷ 32 ∷ 48
    ∷ 32 ∷ 102 ∷ 114 ∷ 97 ∷ 109 ∷ 101 ∷ 115 ∷ 32 ∷ 51 ∷ 32 ∷ 48 ∷ 32 ∷ 48 ∷ 32 ∷ 48
    ∷ []

pub record RunRows : Type 0 where
  pub whole_case : run_line whole_file ≡ whole_line
