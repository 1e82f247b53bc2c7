-- The stored readbacks are the words of the replies that were answered kept, but for those to E4–FA, and the retired part those of the group before.
-- Assumes nothing.
use Prim.Native.Nat.{ℕ, ◌-◌, ◌*◌, ◌≤◌}
use mathlib.Core.Path.{◌≡◌, refl, sym, ◌∙◌, ap, subst, subst₂}
use mathlib.Core.Bool.{Bool, true}
use mathlib.Core.List.{List, [], ◌∷◌}
use native.Mathlib.Omega.{arith}
use lib.ListN.{length}
use lib.Dec.{eqb}
use borrow.Author.Tests.{eq-eqb}
use Rattle.registers.specs.Map.{second_active, readback_place}
use Rattle.readback.specs.declared.Readbacks.{Readbacks}
use Rattle.channel_core.specs.State as state
use Rattle.channel_core.specs.Answers.{part, part_length}
use Rattle.channel.specs.OneChannel.{ChannelCall, OneChannel, answer, transition, response, transitions, one_channel, refusal_of, retired_of}
use Rattle.channel.specs.OneChannel as call
use Rattle.histories.specs.History.{entry, Told, told, ends_group, resets}
use Rattle.histories.specs.Ranges.{ChannelInRange}
use Rattle.histories.specs.Keeping.{Kept, nothing_kept, stored_by, kept_after, kept_since, CountsKept, RetiresKept, kept_over}
use Rattle.histories.specs.EndWords.{word_written_by, with_written}
use Rattle.histories.proofs.Refusing.{accepted_response}
use Rattle.histories.proofs.Depths.{depths_step, depths_kept}
use Rattle.histories.proofs.Buffered.{told_at, active_in, next_place, buffered_step}
use Rattle.histories.proofs.Buffers.{front_retired}
use Rattle.histories.proofs.Ranges.{stays, channel_step, channel_from, Ordered, ordered_opened, ordered_step}
use Rattle.histories.proofs.Commands.{told_from, told_next}
use Rattle.histories.proofs.Parts.{opened_range}
use Rattle.histories.proofs.Holding.{Holds, HoldsIn, holds_buffered, holds_opened}

-- ---- Each call

pub holds_step : (g : Kept) (o : OneChannel) (k : ChannelCall) → ChannelInRange o.m o.channel → HoldsIn o g
    → HoldsIn (transition o k) (kept_after g (told_at o k))
holds_step g o k r h =
    let x = transition o k in
    let b = buffered_step o k in
    let words = with_written o.readbacks (next_place o.channel o.m) (word_written_by (told_at o k)) in
    let space = ((stays o k).channel r).readbacks.stored in
    let kept = kept_after g (told_at o k) in
    let held =
    holds_buffered o.m o.channel.readbacks o.readbacks g (active_in o.channel) (resets (entry o k)) (ends_group (entry o k)) (stored_by (told_at o k))
    b.few (subst (λ (c : Readbacks). c.stored ≤ o.m - 1) b.counts space) r.readbacks.retired h in
    subst (λ (m : ℕ). Holds m (active_in x.channel) x.channel.readbacks x.readbacks kept) (sym (depths_step o k).1)
    (subst (λ (s : List ℕ). Holds o.m (active_in x.channel) x.channel.readbacks s kept) (sym b.written)
    (subst₂ (λ (second : Bool) (c : Readbacks). Holds o.m second c words kept) (sym (b.active r.registers)) (sym b.counts) held))

-- ---- Lists of calls

holds_from : (o : OneChannel) (ks : List ChannelCall) (g : Kept) → Ordered o.channel → ChannelInRange o.m o.channel → HoldsIn o g
    → HoldsIn (transitions o ks) (kept_since g (told_from o ks))
unfolding kept_since told
holds_from o [] g a r h = h
holds_from o (k ∷ ks) g a r h =
    subst (λ (ts : List Told). HoldsIn (transitions (transition o k) ks) (kept_since g ts)) (sym (told_next o k ks a.apart))
    (holds_from (transition o k) ks (kept_after g (told_at o k)) (ordered_step o k a) (channel_step o k r) (holds_step g o k r h))

pub holds_over : (n m : ℕ) (setpoints readbacks : List ℕ) (ks : List ChannelCall)
    → HoldsIn (transitions (one_channel n m setpoints readbacks) ks) (kept_over n m setpoints readbacks ks)
unfolding state.opened
holds_over n m setpoints readbacks ks =
    holds_from (one_channel n m setpoints readbacks) ks nothing_kept ordered_opened (opened_range m) (holds_opened m readbacks)

pub counts_kept : CountsKept
counts_kept n m setpoints readbacks ks =
    let h = holds_over n m setpoints readbacks ks in
    (h.stored, h.retired)

pub words_long : (o : OneChannel) (ks : List ChannelCall) → length (transitions o ks).readbacks ≡ length o.readbacks
words_long o [] = refl
words_long o (k ∷ ks) = words_long (transition o k) ks ∙ (stays o k).readback_words

-- retired readbacks has the words of the group before
pub retired_held : (o : OneChannel) (m : ℕ) (g : Kept) → o.m ≡ m → length o.readbacks ≡ m * 2 → ChannelInRange o.m o.channel → HoldsIn o g
    → retired_of o ≡ g.retired
unfolding retired_of
retired_held o m g d l r h =
    let few : o.channel.readbacks.retired ≤ o.m = omega (arith, r.readbacks.retired) in
    front_retired (second_active o.channel.registers readback_place) o.m o.channel.readbacks.retired o.readbacks few
    ∙ h.inactive (l ∙ ap (λ (x : ℕ). x * 2) (sym d))

pub retires : (o : OneChannel) (m : ℕ) (g : Kept) → o.m ≡ m → length o.readbacks ≡ m * 2 → ChannelInRange o.m o.channel → HoldsIn o g
    → (response o (call.query call.retired m m) ≡ part g.retired) × (response o (call.query call.retired_length m m) ≡ part_length (length g.retired))
unfolding answer refusal_of
retires o m g d l r h =
    let fits : eqb m o.m ≡ true = eq-eqb m o.m (sym d) in
    let e = retired_held o m g d l r h in (
      accepted_response o (call.query call.retired m m) (rw fits) ∙ ap part e,
      accepted_response o (call.query call.retired_length m m) (rw fits) ∙ ap (λ (t : List ℕ). part_length (length t)) e,
    )

pub retires_kept : RetiresKept
unfolding state.opened
retires_kept n m setpoints readbacks long ks =
    let o = one_channel n m setpoints readbacks in
    retires (transitions o ks) m (kept_over n m setpoints readbacks ks) (depths_kept o ks).1 (words_long o ks ∙ long)
    (channel_from o ks (opened_range m)) (holds_over n m setpoints readbacks ks)
