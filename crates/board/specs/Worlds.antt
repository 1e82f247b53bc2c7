-- Document 01, 'The bench and its memory': the board with both memories lent to it, as the calls so far left them.
use Rattle.std.specs.Prelude.{ℕ, List}
use Rattle.board_state.specs.declared.Board.{Board}

pub record World : Type 0 where
  pub board : Board
  pub setpoints : List ℕ
  pub readbacks : List ℕ

abbrev pub world : Board → List ℕ → List ℕ → World
world b s r = record { board = b; setpoints = s; readbacks = r }
