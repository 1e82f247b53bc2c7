-- `run_file::play` meets its contract: each chunk is the next record. Assumes nothing.
use Rattle.std.proofs.Common.{◌∙◌, refl, ap, length}
use Rattle.std.proofs.lemmas.List.{length_push}
use Rattle.std.specs.Slice.Iter.{chunks_exact_rest, chunks_exact_size}
use Rattle.board.specs.Worlds.{World, world}
use Rattle.run_file.specs.Runs.{world_after, counts_after}
use Rattle.run_file.proofs.Turns.{chunk, world_more, counts_more}
use Rattle.run_file.proofs.play.Goals as goal

pub loop-record-init : goal.loop-record-init
unfolding world_after counts_after
loop-record-init c =
    let items = c.into_iter-record-iterator.ensures.into_iter_gives in
    record {
      size = ap chunks_exact_size items ∙ c.chunks_exact-record-items.ensures.size;
      left = ap chunks_exact_rest items ∙ c.chunks_exact-record-items.ensures.rest;
      reached = refl;
      counts = c.nothing.ensures;
    }

pub loop-record-preserved : goal.loop-record-preserved
loop-record-preserved c =
    let part = c.args.part.now in
    let first : World = world c.args.board c.args.setpoints.now c.args.readbacks.now in
    let k = length c.loop-record.yielded in
    let known = c.loop-record.invariant in
    let step = c.in-Some.ensures.steps in
    let here = chunk part k known.left step.1.0 (step.1.1 ∙ known.size) in
    let asked = c.decode.ensures.request in
    record {
      size = step.0 ∙ known.size;
      left = rw length_push here.1;
      reached = rw length_push (world_more first part k known.reached c.apply.ensures.world asked here.0);
      counts = rw (length_push, c.step.ensures) (counts_more first part k known.reached known.counts c.apply.ensures.counts asked here.0);
    }
