-- After any list of calls, what was sent since idle and the replies after it are as the answers tell. Assumes nothing.
use Prim.Native.Nat.{ℕ, ◌≤◌}
use mathlib.Core.Path.{◌≡◌, refl, sym, ◌∙◌, ap}
use mathlib.Core.List.{List, [], ◌∷◌}
use native.Mathlib.Omega.{arith}
use Rattle.sequencer.specs.Playing.{send_of}
use Rattle.command_frames.specs.declared.CommandFrames.{CommandFrames}
use Rattle.channel_core.specs.State as state
use Rattle.channel.specs.OneChannel.{one_channel, ChannelCall, OneChannel, transition, transitions}
use Rattle.histories.specs.History.{told, told_of}
use Rattle.histories.specs.Windows.{Window, closed, window_after, window_since}
use Rattle.histories.specs.Commands.{NoSetpointMeanwhile}
use Rattle.histories.specs.Replying.{WindowHeld}
use Rattle.histories.specs.Ranges.{ChannelInRange}
use Rattle.histories.proofs.Buffered.{told_at}
use Rattle.histories.proofs.Ticks.{window_of}
use Rattle.histories.proofs.Parts.{opened_range}
use Rattle.histories.proofs.Calls.{steps}
use Rattle.histories.proofs.Ranges.{channel_step, Ordered, ordered_opened, ordered_step, ordered_from}
use Rattle.histories.proofs.Commands.{told_from, told_next, commands_told}

window_from : (o : OneChannel) (ks : List ChannelCall) (w : Window) → Ordered o.channel → ChannelInRange o.m o.channel
    → window_of o.channel.sequencer ≡ w
    → window_of (transitions o ks).channel.sequencer ≡ window_since w (told_from o ks)
unfolding window_since told
window_from o [] w g r h = h
window_from o (k ∷ ks) w g r h =
    let t = told_at o k in
    window_from (transition o k) ks (window_after w t) (ordered_step o k g) (channel_step o k r)
    ((steps o k g.apart).window_step r.registers.id ∙ ap (λ (x : Window). window_after x t) h)
    ∙ ap (window_since w) (sym (told_next o k ks g.apart))

few_replies : (o : OneChannel) (ks : List ChannelCall) → Ordered o.channel → (send_of o.channel.sequencer.last).replies ≤ 6
    → (send_of (transitions o ks).channel.sequencer.last).replies ≤ 6
few_replies o [] g h = h
few_replies o (k ∷ ks) g h = few_replies (transition o k) ks (ordered_step o k g) ((steps o k g.apart).replies_step h)

module _ (n m : ℕ) (setpoints readbacks : List ℕ) (ks : List ChannelCall) where
  pub window_is : window_of (transitions (one_channel n m setpoints readbacks) ks).channel.sequencer
      ≡ window_since closed (told_of (one_channel n m setpoints readbacks) ks)
  unfolding state.opened
  window_is = window_from (one_channel n m setpoints readbacks) ks closed ordered_opened (opened_range m) refl

pub window_held : WindowHeld
unfolding state.opened
window_held n m setpoints readbacks ks =
    let e = window_is n m setpoints readbacks ks in
    let r = ap (λ (w : Window). w.replies) e in
    record {
      sent = ap (λ (w : Window). w.sent) e;
      id = ap (λ (w : Window). w.id) e;
      replies = r;
      at_most_six = rw r at (few_replies (one_channel n m setpoints readbacks) ks ordered_opened (omega arith));
    }

pub no_setpoint_meanwhile : NoSetpointMeanwhile
no_setpoint_meanwhile n m setpoints readbacks ks on =
    sym (ap (λ (w : Window). w.sent) (window_is n m setpoints readbacks ks))
    ∙ (ordered_from (one_channel n m setpoints readbacks) ks ordered_opened).apart.receiving_unsent (ap (λ (f : CommandFrames). f.receiving) (commands_told n m setpoints readbacks ks) ∙ on)
