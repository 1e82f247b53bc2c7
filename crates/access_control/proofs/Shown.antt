-- What stands beside demand 3 by role: the end of a list in document 01's words, ranges, other channels, lists that feed the same. Assumes nothing.
use Prim.Native.Nat.{ℕ}
use mathlib.Core.Path.{◌≡◌, refl, sym, ap, ap₂, subst, ◌∙◌}
use Rattle.channel.specs.OneChannel.{OneChannel, one_channel}
use Rattle.histories.specs.Ranges.{InRange}
use Rattle.histories.proofs.Depths.{depths_kept}
use Rattle.permissions.specs.declared.ChannelRights.{ChannelRights}
use Rattle.permissions.specs.Rights.{rights_at}
use Rattle.board.specs.Worlds.{World}
use Rattle.isolation.specs.Calls.{opening}
use Rattle.isolation.specs.Feeding.{view}
use Rattle.isolation.specs.Isolation.{one_channel_at, Shows}
use Rattle.isolation.proofs.Defaults.{defaults_unused}
use Rattle.isolation.proofs.Others.{others_untouched, unfed_untouched}
use Rattle.isolation.proofs.Shown.{shown}
use Rattle.access_control.specs.Guarding.{guarded_world_after}
use Rattle.access_control.specs.OneChannel.{guarded_transitions, guarded_responses}
use Rattle.access_control.specs.Isolation.{guarded_fed, granted_to, granted, GuardedIsolationShown, OthersUntouched, UnfedUntouched, FedTheSame, DefaultsUnused}
use Rattle.access_control.proofs.Worlds.{after_guarded}
use Rattle.access_control.proofs.Granted.{granted_calls, granted_history}
use Rattle.access_control.proofs.Isolation.{guarded_isolation}

pub guarded_isolation_shown : GuardedIsolationShown
guarded_isolation_shown r n m s t e c low high xs a =
    let u = one_channel_at c n m s t in
    let o = guarded_transitions (rights_at r c) u (guarded_fed c xs) in
    let w = guarded_world_after r (opening n m s t) xs in
    let d = depths_kept u (granted_to (rights_at r c) (guarded_fed c xs)) in
    let h = granted_history (rights_at r c) u (guarded_fed c xs) in
    subst (λ (k : ℕ). Shows k m c w o) (ap (λ (o : OneChannel). o.n) h ∙ d.0)
    (subst (λ (k : ℕ). Shows o.n k c w o) (ap (λ (o : OneChannel). o.m) h ∙ d.1)
    (shown c (record { low = low; high = high }) w o (guarded_isolation r n m s t e c low high xs a).ends))

pub guarded_others : OthersUntouched
guarded_others r w i f c low high d named other =
    after_guarded (λ (v : World). view c v ≡ view c w) r w i f refl (λ b. others_untouched w i.item b c low high d named other)

pub guarded_unfed : UnfedUntouched
guarded_unfed r w i f c low high none =
    after_guarded (λ (v : World). view c v ≡ view c w) r w i f refl (λ b. unfed_untouched w i.item b c low high none)

pub guarded_fed_the_same : FedTheSame
guarded_fed_the_same r r' n m s t s' t' e e' c low high rights p q xs ys a b same =
    let x = guarded_isolation r n m s t e c low high xs a in
    let y = guarded_isolation r' n m s' t' e' c low high ys b in (
      x.observed
          ∙ ap (λ (r : ChannelRights). guarded_responses r (one_channel_at c n m s t) (guarded_fed c xs)) rights
          ∙ ap₂ (guarded_responses (rights_at r' c)) o same
          ∙ sym y.observed,
      x.ends
          ∙ ap (λ (r : ChannelRights). guarded_transitions r (one_channel_at c n m s t) (guarded_fed c xs)) rights
          ∙ ap₂ (guarded_transitions (rights_at r' c)) o same
          ∙ sym y.ends,
    )
  where
    o : one_channel_at c n m s t ≡ one_channel_at c n m s' t'
    o = ap₂ (one_channel n m) p q

pub guarded_defaults_unused : DefaultsUnused
guarded_defaults_unused r n m s t e c low high xs a =
    let g = granted_calls r (opening n m s t) xs a in
    subst (λ (w : World). InRange (view c w)) (sym g.1) (defaults_unused n m s t e c low high (granted r xs) g.0)
