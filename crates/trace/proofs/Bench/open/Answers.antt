-- `Bench::open` is safe: the opening is not refused. Assumes nothing.
use Rattle.trace.proofs.Opening.{is_open}
use Rattle.trace.proofs.Bench.open.Goals as goal

pub unwrap-requires : goal.unwrap-requires
unwrap-requires c = is_open _ c.open-opened.ensures.answer
