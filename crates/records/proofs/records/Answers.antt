-- `records::records` meets its contract. Assumes nothing.
use Rattle.std.proofs.Common.{arith, sym}
use Rattle.records.proofs.Trailers.{accepted, part_is, part_none}
use Rattle.records.proofs.records.Goals as goal

pub overflow_sub-end : goal.overflow_sub-end
overflow_sub-end c = let a = accepted c.args.file.now _ c.in-Ok.ensures in omega arith

pub overflow_sub-start : goal.overflow_sub-start
overflow_sub-start c = let a = accepted c.args.file.now _ c.in-Ok.ensures in omega arith

pub returns-in-Ok : goal.returns-in-Ok
returns-in-Ok c = part_is c.args.file.now _ c.in-Ok.ensures

pub returns-in-Err : goal.returns-in-Err
returns-in-Err c = sym (part_none c.args.file.now _ c.in-Err.ensures)
