-- A refused call changes nothing and answers its number; what holds of both kinds of call holds of any. Assumes nothing.
use Prim.Native.Nat.{ℕ}
use mathlib.Core.Path.{◌≡◌, refl, ap}
use mathlib.Core.Bool.{Bool, true, false, cond}
use lib.Dec.{eqb}
use Rattle.channel_core.specs.Answers.{Answer, refused, is_refusal}
use Rattle.channel.specs.OneChannel.{ChannelCall, OneChannel, refusal_of, effect, answer, transition, response}
use Rattle.histories.specs.History.{entry, asks, reads_nothing, ends_group, resets, stops, reads_at}
use Rattle.histories.specs.Refusing.{RefusedChangesNothing}
use Rattle.histories.proofs.Accepted.{accepted_answer}

pub refused_nothing : RefusedChangesNothing
unfolding transition response
refused_nothing o k h =
    (ap (λ (b : Bool). cond b (effect o k) o) h, ap (λ (b : Bool). cond b (answer o k) (refused (refusal_of o k))) h)

-- a call that is not refused has its effect and its answer; a refused one neither moves, ends a group, resets, idles nor reads
pub by_refusal : (P : OneChannel → Answer → Bool → Bool → Bool → (ℕ → Bool) → Type 0) (o : OneChannel) (k : ChannelCall)
    → (eqb (refusal_of o k) 0 ≡ true → P (effect o k) (answer o k) (asks o k).group_end (asks o k).reset (asks o k).idle (asks o k).reads)
    → P o (refused (refusal_of o k)) false false false reads_nothing
    → P (transition o k) (response o k) (ends_group (entry o k)) (resets (entry o k)) (stops (entry o k)) (λ offset. reads_at offset (entry o k))
unfolding transition response
by_refusal P o k h g = go (eqb (refusal_of o k) 0) refl
  where
    go : (b : Bool) → eqb (refusal_of o k) 0 ≡ b
        → let a = cond b (answer o k) (refused (refusal_of o k)) in
        P (cond b (effect o k) o) a (cond (is_refusal a) false (asks o k).group_end) (cond (is_refusal a) false (asks o k).reset)
        (cond (is_refusal a) false (asks o k).idle) (λ offset. cond (is_refusal a) false ((asks o k).reads offset))
    go true e = rw (accepted_answer o k e) (h e)
    go false e = g

pub accepted_transition : (o : OneChannel) (k : ChannelCall) → eqb (refusal_of o k) 0 ≡ true → transition o k ≡ effect o k
unfolding transition
accepted_transition o k h = ap (λ (b : Bool). cond b (effect o k) o) h

pub accepted_response : (o : OneChannel) (k : ChannelCall) → eqb (refusal_of o k) 0 ≡ true → response o k ≡ answer o k
unfolding response
accepted_response o k h = ap (λ (b : Bool). cond b (answer o k) (refused (refusal_of o k))) h
