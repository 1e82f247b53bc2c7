-- `guarded_readings::retired` meets its contract: the board's own part where the role may read the channel, else an empty one. Assumes nothing.
use mathlib.Core.Path.{sym, ◌∙◌}
use Rattle.channel.specs.OneChannel.{retired}
use Rattle.isolation.specs.Calls.{buffers}
use Rattle.access_control.proofs.Guarded.{part_shown, part_hidden}
use Rattle.guarded_readings.proofs.retired.Goals as goal

pub returns-then-may_read : goal.returns-then-may_read
returns-then-may_read c =
    let a = c.args in
    c.retired.ensures
    ∙ sym (part_shown a.g.now a.role a.number retired (buffers a.one.now a.two.now) (sym c.may_read.ensures ∙ c.if-may_read.true))

pub returns-else-may_read : goal.returns-else-may_read
returns-else-may_read c =
    let a = c.args in
    sym (part_hidden a.g.now a.role a.number retired (buffers a.one.now a.two.now) (sym c.may_read.ensures ∙ c.if-may_read.false))
