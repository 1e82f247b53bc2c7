-- `channel_ticks::ticks` meets its contract: a command frame first, if one leaves, then the ticks. Assumes nothing.
use Rattle.std.proofs.Common.{ℕ, suc, Bool, true, false, cond, ◌≡◌, ◌+◌, ◌-◌, List, sym, ap, subst, ◌∙◌, refl, arith}
use mir.Val.{bool_byte}
use Rattle.command_frames.specs.Commanding.{is_due}
use Rattle.channel_core.specs.declared.Channel.{Channel}
use Rattle.channel_ticks.specs.Ticks.{ticks_of, frames_in, frames_at, command_first, command_leaves, command_frames_first, with_command_frame, sent_if}
use Rattle.channel_ticks.proofs.TicksInRow.{After, advanced, first_none, after_command, ticks_command, after_few}
use Rattle.channel_ticks.proofs.ticks.Goals as goal

-- whether it left, as a number
byte_of : (b : Bool) → bool_byte b ≡ cond b 1 0
byte_of true = refl
byte_of false = refl

-- what a command frame, which left or not, and the ticks after it come to
after_both : (s : List ℕ) (n user : ℕ) (c d : Channel) (l m : List ℕ) (count f g : ℕ) (left : Bool) → (count ≡ 0 → ⊥)
    → d ≡ command_first c → left ≡ command_leaves c → f ≡ bool_byte left → m ≡ with_command_frame c l → g ≡ frames_in d s n user count
    → After s n user c l count (advanced s n user d count) (f + g) (frames_at d s n user count m)
after_both s n user c d l m count f g left some a leaves number b e =
    rw (e, a, number, byte_of left, leaves, b)
    (let k : suc (count - 1) ≡ count = omega arith in
    subst
    (λ (j : ℕ).
    After s n user c l j (advanced s n user (command_first c) j) (command_frames_first c + frames_in (command_first c) s n user j)
    (frames_at (command_first c) s n user j (with_command_frame c l)))
    k (after_command s n user c l (count - 1)))

-- the channel that they come to
ticks_both : (s : List ℕ) (n user : ℕ) (c d : Channel) (count f : ℕ) → (count ≡ 0 → ⊥)
    → d ≡ command_first c → f ≡ command_frames_first c → ticks_of c s n user count ≡ sent_if (ticks_of d s n user count) f count
ticks_both s n user c d count f some a b =
    rw (a, b)
    (let k : suc (count - 1) ≡ count = omega arith in
    subst (λ (j : ℕ). ticks_of c s n user j ≡ sent_if (ticks_of (command_first c) s n user j) (command_frames_first c) j) k
    (ticks_command s n user c (count - 1)))

pub setpoint_ticks-frames-requires : goal.setpoint_ticks-frames-requires
setpoint_ticks-frames-requires c =
    let a = c.args in
    ap (λ (d : Channel). is_due d.commands.waiting) c.command_first-left.ensures.next ∙ first_none a.setpoints.now a.n a.user a.c.now

pub overflow_add-result : goal.overflow_add-result
overflow_add-result c =
    let a = c.args in
    let e = c.command_first-left.ensures in
    let x = after_both a.setpoints.now a.n a.user a.c.now _ a.captured.now _ a.count _ _ _ c.if-count-eq0.false e.next e.left c.from.ensures e.captured c.setpoint_ticks-frames.ensures.frames in
    omega (arith, after_few _ _ _ x, c.ranges)

pub returns-clause-channel : goal.returns-clause-channel
returns-clause-channel c =
    let a = c.args in
    let e = c.command_first-left.ensures in
    c.say_sent.ensures
    ∙ ap (λ (b : Bool). sent_if c.setpoint_ticks-frames.new.c (cond b 1 0) a.count) e.left
    ∙ ap (λ (d : Channel). sent_if d (command_frames_first a.c.now) a.count) c.setpoint_ticks-frames.ensures.channel
    ∙ sym (ticks_both a.setpoints.now a.n a.user a.c.now _ a.count _ c.if-count-eq0.false e.next refl)

pub returns-clause-frames : goal.returns-clause-frames
returns-clause-frames c =
    let a = c.args in
    let e = c.command_first-left.ensures in
    let x = after_both a.setpoints.now a.n a.user a.c.now _ a.captured.now _ a.count _ _ _ c.if-count-eq0.false e.next e.left c.from.ensures e.captured c.setpoint_ticks-frames.ensures.frames in
    sym x.frames_are

pub returns-clause-captured : goal.returns-clause-captured
returns-clause-captured c =
    let a = c.args in
    let e = c.command_first-left.ensures in
    let x = after_both a.setpoints.now a.n a.user a.c.now _ a.captured.now _ a.count _ _ _ c.if-count-eq0.false e.next e.left c.from.ensures e.captured c.setpoint_ticks-frames.ensures.frames in
    c.setpoint_ticks-frames.ensures.captured ∙ sym x.captured_is
