-- No call changes the depths. Assumes nothing.
use Prim.Native.Nat.{ℕ}
use mathlib.Core.Path.{◌≡◌, refl, ◌∙◌}
use mathlib.Core.Bool.{Bool, true, false, cond}
use mathlib.Core.List.{List, [], ◌∷◌}
use lib.Dec.{eqb}
use Rattle.channel_core.specs.Answers.{Answer}
use Rattle.channel_core.specs.Behaviour.{user_changed}
use Rattle.channel.specs.OneChannel.{ChannelCall, OneChannel, effect, transition, transitions, with_user, with_channel}
use Rattle.channel.specs.OneChannel as call
use Rattle.histories.proofs.Refusing.{by_refusal}

abbrev SameDepths : OneChannel → OneChannel → Type 0
SameDepths o x = (x.n ≡ o.n) × (x.m ≡ o.m)

depths_effect : (o : OneChannel) (k : ChannelCall) → SameDepths o (effect o k)
unfolding effect
depths_effect o (call.write_register lent offset value) = (refl, refl)
depths_effect o (call.read_register offset) = (refl, refl)
depths_effect o (call.write_setpoint lent user buffer index word) = (refl, refl)
depths_effect o call.arm = (refl, refl)
depths_effect o call.disarm = (refl, refl)
depths_effect o call.open_download = (refl, refl)
depths_effect o (call.reply lent f) = (refl, refl)
depths_effect o (call.query which one two) = (refl, refl)
depths_effect o (call.tick lent) = (refl, refl)
depths_effect o (call.event lent code) = (refl, refl)
depths_effect o (call.change_user user) = go (eqb user o.user)
  where
    go : (b : Bool) → SameDepths o (cond b o (with_user (with_channel o (user_changed o.channel)) user))
    go true = (refl, refl)
    go false = (refl, refl)
depths_effect o (call.write_main lent offset value) = (refl, refl)
depths_effect o (call.read_main offset) = (refl, refl)

pub depths_step : (o : OneChannel) (k : ChannelCall) → SameDepths o (transition o k)
depths_step o k = by_refusal (λ (x : OneChannel) (a : Answer) (b c d : Bool) (r : ℕ → Bool). SameDepths o x) o k (λ e. depths_effect o k) (refl, refl)

pub depths_kept : (o : OneChannel) (ks : List ChannelCall) → SameDepths o (transitions o ks)
depths_kept o [] = (refl, refl)
depths_kept o (k ∷ ks) =
    let a = depths_kept (transition o k) ks in
    let b = depths_step o k in
    (a.0 ∙ b.0, a.1 ∙ b.1)
