-- Of every channel that calls lead to from its opening: where it is not idle, ticks to its next send are left; with a function under way no command frame
-- leaves. Assumes nothing.
use Prim.Native.Nat.{ℕ, ◌≤◌}
use mathlib.Core.Path.{◌≡◌, refl, sym}
use mathlib.Core.Bool.{Bool, true, false}
use mathlib.Core.List.{List, [], ◌∷◌}
use Rattle.sequencer.specs.declared.Stage.{Stage}
use Rattle.sequencer.specs.declared.Stage.TheVariants as stage
use Rattle.sequencer.specs.Playing.{is_idle, is_starting}
use Rattle.command_frames.specs.Commanding.{is_due}
use Rattle.channel_core.specs.declared.Channel.{Channel}
use Rattle.channel_core.specs.Answers as ans
use Rattle.channel_core.specs.State.{opened}
use Rattle.channel.specs.OneChannel.{OneChannel, ChannelCall, transition, transitions, one_channel}
use Rattle.channel.proofs.Cases.{clash}
use Rattle.histories.specs.Ranges.{CountdownInRange, Countdown, ApartAt}
use Rattle.histories.proofs.Calls.{steps}
use Rattle.histories.proofs.Ranges.{Ordered, ordered_opened, ordered_step, ordered_from}
use Rattle.timing.specs.Ticking.{between}
use Rattle.timing.proofs.Bridge.{between_none}
use Rattle.timing.specs.Timing as the

some_left : (g : Stage) (left resume : ℕ) → CountdownInRange g left resume → is_idle g ≡ false → 1 ≤ left
some_left stage.Idle left resume c busy = clash (sym busy)
some_left stage.Starting left resume c busy = c
some_left stage.Running left resume c busy = c
some_left (stage.Paused k) left resume c busy = c.0
some_left stage.Resuming left resume c busy = c.0
some_left stage.Ended left resume c busy = c

countdown_kept : (o : OneChannel) (ks : List ChannelCall) → Ordered o.channel → Countdown o.channel.sequencer
    → Countdown (transitions o ks).channel.sequencer
countdown_kept o [] a h = h
countdown_kept o (k ∷ ks) a h = countdown_kept (transition o k) ks (ordered_step o k a) ((steps o k a.apart).countdown_step h)

pub loaded : the.Loaded
unfolding opened
loaded n m s r ks =
    let q = (transitions (one_channel n m s r) ks).channel.sequencer in
    some_left q.stage q.left q.resume (countdown_kept (one_channel n m s r) ks ordered_opened tt)

-- with a command frame due the channel is idle or starting
waits_idle : (g : Stage) (left : ℕ) → is_idle g ≡ false → is_starting g ≡ false → ApartAt g left → ⊥
waits_idle stage.Idle left i t a = clash (sym i)
waits_idle stage.Starting left i t a = clash (sym t)
waits_idle stage.Running left i t a = a
waits_idle (stage.Paused k) left i t a = a
waits_idle stage.Resuming left i t a = a
waits_idle stage.Ended left i t a = a

pub only_setpoints : the.OnlySetpoints
only_setpoints n m s r ks idle starting j = go (is_due c.commands.waiting) refl
  where
    c : Channel
    c = (transitions (one_channel n m s r) ks).channel

    go : (b : Bool) → is_due c.commands.waiting ≡ b → between (transitions (one_channel n m s r) ks) j ≡ ans.none
    go true e =
        absurd (waits_idle c.sequencer.stage c.sequencer.left idle starting ((ordered_from (one_channel n m s r) ks ordered_opened).apart.due e))
    go false e = between_none (transitions (one_channel n m s r) ks) j e
