-- `board_ticks::ticks` meets its contract: one more channel, and its frames. Assumes nothing.
use Rattle.std.proofs.Common.{refl, length-set, arith}
use Rattle.board_ticks.proofs.Channels.{next_channel, count_one_more}
use Rattle.board_ticks.proofs.ticks.Goals as goal

pub loop-index-preserved : goal.loop-index-preserved
loop-index-preserved c =
    let i = c.loop-index.invariant in
    let b = c.args.b.now in
    let s = c.args.setpoints.now in
    let n = c.args.count in (
      i.0,
      rw (c.tick_channel.ensures.next, i.1) (next_channel b s n c.loop-index.index),
      rw length-set i.2,
      count_one_more b s n c.loop-index.frames c.loop-index.index c.tick_channel.result (omega arith) i.3 (rw (c.tick_channel.ensures.frames, i.1) refl),
    )
