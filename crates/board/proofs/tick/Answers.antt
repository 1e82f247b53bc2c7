-- `board::tick` meets its contract: one more channel, and its frame. Assumes nothing.
use Rattle.std.proofs.Common.{refl, length-set, arith}
use Rattle.board.proofs.Ticks.{next_channel, show_one_more}
use Rattle.board.proofs.tick.Goals as goal

pub loop-index-preserved : goal.loop-index-preserved
loop-index-preserved c =
    let i = c.loop-index.invariant in
    let b = c.args.b.now in
    let s = c.args.setpoints.now in (
      i.0,
      rw (c.tick_channel.ensures.next, i.1) (next_channel b s c.loop-index.index),
      rw length-set i.2,
      show_one_more b s c.loop-index.frames c.loop-index.index c.tick_channel.result (omega arith) i.3 (rw (c.tick_channel.ensures.frame, i.1) refl),
    )
