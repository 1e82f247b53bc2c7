-- `channel_ticks::setpoint_ticks` meets its contract. The loop's invariant: what the ticks done come to, their frames, and what the last of them did.
-- Assumes nothing.
use Rattle.std.proofs.Common.{◌≡◌, ◌+◌, ◌<◌, refl, sym, ◌∙◌, arith}
use Rattle.channel_ticks.proofs.TicksInRow.{Held, held_none, held_tick, held_quiet, held_few, held_after, held_ticks}
use Rattle.channel_ticks.proofs.setpoint_ticks.Goals as goal

pub loop-done-init : goal.loop-done-init
loop-done-init c =
    let e = c.begin-progress.ensures in
    (omega arith, rw (e.sequencer, e.frames) (held_none _ _ _ _ _), e.outcome)

pub tick-requires : goal.tick-requires
tick-requires c =
    let a = c.args in
    let l = c.loop-done in
    let x = c.skip in
    let p = x.new.self in
    let below : l.done + c.min-quiet.result < a.count = omega (arith, c.min-quiet.ensures, c.from.ensures) in
    let skipped : Held a.setpoints.now a.n a.user a.c.now a.captured.now (l.done + c.min-quiet.result) p.sequencer p.frames l.captured
    = held_quiet _ _ _ _ _ _ _ l.invariant.1 c.requires (omega (arith, c.min-quiet.ensures, c.quiet_ticks.ensures))
    x.ensures.sequencer x.ensures.frames in
    omega (arith, held_few _ _ _ skipped, below, c.ranges)

pub loop-done-preserved : goal.loop-done-preserved
loop-done-preserved c =
    let a = c.args in
    let l = c.loop-done in
    let x = c.skip in
    let p = x.new.self in
    let e = c.tick.ensures in
    let below : l.done + c.min-quiet.result < a.count = omega (arith, c.min-quiet.ensures, c.from.ensures) in
    let skipped : Held a.setpoints.now a.n a.user a.c.now a.captured.now (l.done + c.min-quiet.result) p.sequencer p.frames l.captured
    = held_quiet _ _ _ _ _ _ _ l.invariant.1 c.requires (omega (arith, c.min-quiet.ensures, c.quiet_ticks.ensures))
    x.ensures.sequencer x.ensures.frames in
    let h = held_tick _ _ _ _ _ _ _ _ _ skipped c.requires
    (simp (c.word_at.ensures, c.setpoint_place-place.ensures, c.second_active-second.ensures, c.zero_based-at.ensures))
    c.period-period.ensures refl e.sequencer e.frames e.captured in
    (omega (arith, below), h.0, e.outcome ∙ h.1)

pub returns-clause-channel : goal.returns-clause-channel
returns-clause-channel c =
    let l = c.loop-done in
    let e : l.done ≡ c.args.count = omega (arith, c.loop-done-test.false, l.invariant.0) in
    c.finish.ensures.next ∙ sym (held_ticks _ _ _ (rw e at l.invariant.1) (rw e at l.invariant.2) c.finish.ensures.fits)

pub returns-clause-frames : goal.returns-clause-frames
returns-clause-frames c =
    let l = c.loop-done in
    let e : l.done ≡ c.args.count = omega (arith, c.loop-done-test.false, l.invariant.0) in
    sym (held_after _ _ _ (rw e at l.invariant.1) c.finish.ensures.fits).frames_are

pub returns-clause-captured : goal.returns-clause-captured
returns-clause-captured c =
    let l = c.loop-done in
    let e : l.done ≡ c.args.count = omega (arith, c.loop-done-test.false, l.invariant.0) in
    sym (held_after _ _ _ (rw e at l.invariant.1) c.finish.ensures.fits).captured_is
