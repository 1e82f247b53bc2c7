-- `channel::write_setpoint` meets its contract: the check passed, so the numbers are in their ranges, and the word is set at its place. Assumes nothing.
use Rattle.std.proofs.Common.{sym, arith}
use Rattle.channel.specs.Calls.{setpoint_words}
use Rattle.channel.proofs.Ranges.{accepted, buffer_place}
use Rattle.channel.proofs.write_setpoint.Goals as goal

pub overflow_sub-user : goal.overflow_sub-user
overflow_sub-user c =
    let a = c.args in
    omega (arith, accepted a.c.now a.n a.user a.buffer a.index (sym c.in_ok-check_setpoint.ensures))

pub overflow_cast-user : goal.overflow_cast-user
overflow_cast-user c =
    let a = c.args in
    omega (arith, accepted a.c.now a.n a.user a.buffer a.index (sym c.in_ok-check_setpoint.ensures))

pub returns-clause-words : goal.returns-clause-words
unfolding setpoint_words
returns-clause-words c =
    let a = c.args in
    let allowed = sym c.in_ok-check_setpoint.ensures in
    let ranges = accepted a.c.now a.n a.user a.buffer a.index allowed in
    simp (allowed, c.store.ensures, c.setpoint_place-at.ensures, buffer_place _ ranges.buffer_from ranges.buffer_to)
