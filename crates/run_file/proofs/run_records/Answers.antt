-- `run_file::run_records` meets its contract: its board is the one opened on zeroed memory. Assumes nothing.
use Rattle.std.proofs.Common.{◌∙◌, ap, ◌/◌, length, replicate}
use Rattle.board_state.specs.declared.Board.{Board}
use Rattle.board.specs.Worlds.{World, world}
use Rattle.run_file.specs.Runs.{start, world_after, counts_after}
use Rattle.run_file.proofs.Turns.{is_open, opened}
use Rattle.run_file.proofs.run_records.Goals as goal

pub unwrap-board-requires : goal.unwrap-board-requires
unwrap-board-requires c = is_open _ c.open.ensures.answer

pub returns-clause-board : goal.returns-clause-board
unfolding start
returns-clause-board c =
    let part = c.args.part.now in
    ap (λ (w : World). w.board) c.play.ensures.world
    ∙ ap (λ (b : Board). (world_after (world b (replicate 1024 0) (replicate 512 0)) part (length part / 8)).board)
    (opened c.unwrap-board.result c.unwrap-board.ensures c.open.ensures.board)

pub returns-clause-counts : goal.returns-clause-counts
unfolding start
returns-clause-counts c =
    let part = c.args.part.now in
    c.play.ensures.counts
    ∙ ap (λ (b : Board). counts_after (world b (replicate 1024 0) (replicate 512 0)) part (length part / 8))
    (opened c.unwrap-board.result c.unwrap-board.ensures c.open.ensures.board)
