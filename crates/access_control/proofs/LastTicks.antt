-- What a role is told of a channel's last tick: the board's own answer, or 13. Assumes nothing.
use Prim.Native.Nat.{◌*◌}
use mathlib.Core.Path.{ap, subst, ◌∙◌}
use mathlib.Core.Bool.{not}
use mathlib.Core.List.{List}
use Rattle.channel.specs.OneChannel as to
use Rattle.channel.specs.OneChannel.{ChannelCall}
use Rattle.histories.specs.LastTicks.{last_tick_over}
use Rattle.board_state.specs.Parts.{own}
use Rattle.isolation.specs.Calls.{query, none, world_after, opening}
use Rattle.isolation.specs.Isolation.{Reports}
use Rattle.isolation.proofs.LastTicks.{last_tick_named}
use Rattle.isolation.proofs.Cases.{in_range}
use Rattle.permissions.specs.Rights.{rights_at}
use Rattle.access_control.specs.Guarding.{shown}
use Rattle.access_control.specs.Isolation.{guarded_fed, granted, granted_to, GuardedLastTick}
use Rattle.access_control.proofs.Laws.{answer_denied, answer_granted}
use Rattle.access_control.proofs.Granted.{granted_calls}
use Rattle.access_control.proofs.GrantedFed.{granted_fed}

pub guarded_last_tick : GuardedLastTick
guarded_last_tick r n m s t opens c low high xs a p =
    let g = granted_calls r (opening n m s t) xs a in
    let w = world_after (opening n m s t) (granted r xs) in
    let q : Reports c w (last_tick_over n m (own s (n * 16) c) (own t (m * 2) c) (granted_to (rights_at r c) (guarded_fed c xs)))
    = subst (λ (ks : List ChannelCall). Reports c w (last_tick_over n m (own s (n * 16) c) (own t (m * 2) c) ks)) (granted_fed r c low high xs)
    (last_tick_named n m s t opens c low high (granted r xs) g.0) in
    rw g.1
    (record {
      named = q.named;
      granted_answer = λ may. answer_granted r p w.board (query c to.last_tick) none (ap not may) ∙ ap (shown r p) q.answers;
      denied_answer = λ may. answer_denied r p w.board (query c to.last_tick) none (ap not may) ∙ rw (in_range c (record { low = low; high = high }));
      first_held = q.first_held;
    })
