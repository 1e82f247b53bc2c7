-- `guarded_registers::may_read` meets its contract: of a channel's register, by its number and offset. Assumes nothing.
use Rattle.guarded_registers.proofs.may_read.Goals as goal

pub returns-in-Channel : goal.returns-in-Channel
returns-in-Channel c = simp (c.in-Channel.is, c.may_read_register.ensures, c.from.ensures)
