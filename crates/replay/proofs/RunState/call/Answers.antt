-- `RunState::call` meets its contract: each call's answer is counted, and ticks in a row are the single ticks of the board. Assumes nothing.
use Rattle.std.proofs.Common.{refl, sym}
use Rattle.replay.specs.Worlds.{after, answers}
use Rattle.replay.proofs.Counted.{outcome_counted, read_counted, receipt_counted}
use Rattle.replay.proofs.Turns.{ticks_board_lem, ticks_counts}
use Rattle.replay.proofs.RunState.call.Goals as goal

pub returns-in-Write-clause-counts : goal.returns-in-Write-clause-counts
unfolding answers
returns-in-Write-clause-counts c = rw c.in-Write.is (outcome_counted _ _ _ _ c.count.ensures c.write_register.ensures.answer)

pub returns-in-Read-clause-counts : goal.returns-in-Read-clause-counts
unfolding answers
returns-in-Read-clause-counts c = rw c.in-Read.is (read_counted _ _ _ _ c.count-in-Read.ensures c.read_register.ensures.answer)

pub returns-in-Setpoint-clause-counts : goal.returns-in-Setpoint-clause-counts
unfolding answers
returns-in-Setpoint-clause-counts c = rw c.in-Setpoint.is (outcome_counted _ _ _ _ c.count-in-Setpoint.ensures c.write_setpoint.ensures.answer)

pub returns-in-Event-clause-counts : goal.returns-in-Event-clause-counts
unfolding answers
returns-in-Event-clause-counts c = rw c.in-Event.is (outcome_counted _ _ _ _ c.count-in-Event.ensures c.event.ensures.answer)

pub returns-in-Reply-clause-counts : goal.returns-in-Reply-clause-counts
unfolding answers
returns-in-Reply-clause-counts c = rw c.in-Reply.is (receipt_counted _ _ _ _ c.count-in-Reply.ensures c.reply.ensures.answer)

pub returns-in-User-clause-counts : goal.returns-in-User-clause-counts
unfolding answers
returns-in-User-clause-counts c = rw c.in-User.is (outcome_counted _ _ _ _ c.count-in-User.ensures c.change_user.ensures.answer)

pub returns-in-Arm-clause-counts : goal.returns-in-Arm-clause-counts
unfolding answers
returns-in-Arm-clause-counts c = rw c.in-Arm.is (outcome_counted _ _ _ _ c.count-in-Arm.ensures c.arm.ensures.answer)

pub returns-in-Disarm-clause-counts : goal.returns-in-Disarm-clause-counts
unfolding answers
returns-in-Disarm-clause-counts c = rw c.in-Disarm.is (outcome_counted _ _ _ _ c.count-in-Disarm.ensures c.disarm.ensures.answer)

pub returns-in-Ticks-clause-world : goal.returns-in-Ticks-clause-world
unfolding after
returns-in-Ticks-clause-world c = rw (c.in-Ticks.is, c.ticks-ticked.ensures.board, ticks_board_lem) refl

pub returns-in-Ticks-clause-counts : goal.returns-in-Ticks-clause-counts
unfolding answers
returns-in-Ticks-clause-counts c =
    let w = c.ticks-ticked.ensures in
    rw c.in-Ticks.is (simp (c.count_ticks.ensures, w.refused, w.frames) (sym (ticks_counts _ _ _ _)))
