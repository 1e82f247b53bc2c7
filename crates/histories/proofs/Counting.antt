-- After any list of calls the setpoint count is the number of setpoints sent since the last Group End, reset or opening. Assumes nothing.
use Prim.Native.Nat.{ℕ, ◌+◌, min}
use mathlib.Core.Path.{◌≡◌, refl, sym, ◌∙◌, ap}
use mathlib.Core.Bool.{Bool, true, false, cond, ◌||◌}
use mathlib.Core.List.{List, [], ◌∷◌}
use native.Mathlib.Omega.{arith}
use Rattle.sequencer.specs.Playing.{counted}
use Rattle.sequencer.specs.Transmissions as transmission
use Rattle.sequencer.proofs.Moves.{counted_with}
use Rattle.channel_core.specs.State as state
use Rattle.channel.specs.OneChannel.{ChannelCall, OneChannel, one_channel, transition, transitions}
use Rattle.histories.specs.History.{entry, ends_group, resets, Told, told, sends_setpoint, sends_since}
use Rattle.histories.specs.Counting.{most_counted, CountsSends}
use Rattle.histories.proofs.Buffered.{told_at}
use Rattle.histories.proofs.Calls.{steps}
use Rattle.histories.proofs.Ranges.{Ordered, ordered_opened, ordered_step}
use Rattle.histories.proofs.Commands.{told_from, told_next}

-- one entry more, cleared or not, with a frame or not
counted_more : (clears sends : Bool) (c j : ℕ) → c ≡ min j most_counted
    → cond clears 0 (cond sends (counted c) c) ≡ min (cond clears 0 (cond sends (j + 1) j)) most_counted
counted_more true sends c j h = omega arith
counted_more false true c j h = omega (arith, counted_with (transmission.Word 0 0) 0 j c (omega arith))
counted_more false false c j h = h

-- from any state whose count is that of j sends
counts_sends_from : (o : OneChannel) (ks : List ChannelCall) (j : ℕ) → Ordered o.channel → o.channel.sequencer.count ≡ min j most_counted
    → (transitions o ks).channel.sequencer.count ≡ min (sends_since j (told_from o ks)) most_counted
unfolding sends_since told
counts_sends_from o [] j g h = h
counts_sends_from o (k ∷ ks) j g h =
    let e = entry o k in
    let t = told_at o k in
    let next : ℕ = cond (ends_group e || resets e) 0 (cond (sends_setpoint t) (j + 1) j) in
    counts_sends_from (transition o k) ks next (ordered_step o k g)
    ((steps o k g.apart).count_step ∙ counted_more (ends_group e || resets e) (sends_setpoint t) o.channel.sequencer.count j h)
    ∙ ap (λ (ts : List Told). min (sends_since j ts) most_counted) (sym (told_next o k ks g.apart))

pub counts_sends : CountsSends
unfolding state.opened
counts_sends n m setpoints readbacks ks = counts_sends_from (one_channel n m setpoints readbacks) ks 0 ordered_opened refl
