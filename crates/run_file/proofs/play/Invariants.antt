-- The loop of `run_file::play`: board, memory and counts are those after so many records, and the others are left. Assumes nothing.
use Rattle.std.proofs.Common.{◌≡◌, ◌*◌, length, drop}
use Rattle.std.specs.Slice.Iter.{chunks_exact_rest, chunks_exact_size}
use Rattle.board.specs.Worlds.{world}
use Rattle.run_file.specs.Runs.{world_after, counts_after}
use Rattle.run_file.proofs.play.Given as goal

abbrev pub invariant-loop-record : goal.invariant-loop-record
invariant-loop-record l =
    record {
      size : chunks_exact_size l.record-iterator ≡ 8;
      left : chunks_exact_rest l.record-iterator ≡ drop (8 * length l.yielded) l.part;
      reached : world l.state.board l.setpoints l.readbacks ≡ world_after (world l.fn.board l.initial.setpoints l.initial.readbacks) l.part (length l.yielded);
      counts : l.state.counts ≡ counts_after (world l.fn.board l.initial.setpoints l.initial.readbacks) l.part (length l.yielded);
    }
