-- What the board says of a channel's last tick: each channel is as it would be alone. Assumes nothing.
use Prim.Native.Nat.{ℕ, ◌*◌}
use mathlib.Core.Path.{◌≡◌, refl, sym, ap, subst, ◌∙◌}
use mathlib.Core.Logic.{inr}
use mathlib.Core.List.{◌∷◌, ◌++◌}
use lib.ListN.{length}
use Rattle.channel_core.specs.Answers.{Answer}
use Rattle.channel.specs.OneChannel.{OneChannel, response, transition, transitions}
use Rattle.channel.specs.OneChannel as to
use Rattle.histories.specs.History.{Entry, entry, history}
use Rattle.histories.specs.LastTicks.{LastTick, made_tick, NoTickNorReset}
use Rattle.histories.specs.LastTicks as alone
use Rattle.histories.proofs.LastTicks.{last_tick_named as named_alone, last_tick_seen as seen_alone, tick_made}
use Rattle.board_state.specs.Parts.{own}
use Rattle.board.specs.Answers.{one}
use Rattle.board.specs.Worlds.{World}
use Rattle.isolation.specs.Calls.{words, none, answer, step, world_after, opening}
use Rattle.isolation.specs.Feeding.{fed, view}
use Rattle.isolation.specs.Isolation.{one_channel_at, Reports, LastTickNamed, tick_in, seen_by, LastTickSeen}
use Rattle.isolation.proofs.Parts.{Number}
use Rattle.isolation.proofs.Observing.{observe_query, observe_tick}
use Rattle.isolation.proofs.Alone.{alone_after, called_after}

-- a world in which channel c is as `o` is alone
reports_alone : (c : ℕ) (h : Number c) (w : World) (o : OneChannel) (t : LastTick) → view c w ≡ o → alone.Reports o t → Reports c w t
unfolding answer
reports_alone c h w o t same q =
    record {
      named = q.named;
      answers =
          ap one
          (observe_query w c h to.last_tick none (inr refl) ∙ ap (λ (p : OneChannel). response p (to.query to.last_tick 0 0)) same ∙ q.answers 0 0);
      first_held = q.first_held;
    }

pub last_tick_named : LastTickNamed
last_tick_named n m s r opens c low high xs a =
    let h : Number c = record { low = low; high = high } in
    reports_alone c h (world_after (opening n m s r) xs) (transitions (one_channel_at c n m s r) (fed c xs)) _ (alone_after n m s r opens c h xs a).same
    (named_alone n m (own s (n * 16) c) (own r (m * 2) c) (fed c xs))

pub last_tick_seen : LastTickSeen
last_tick_seen n m s r opens c low high before later a quiet =
    let h : Number c = record { low = low; high = high } in
    let w = world_after (opening n m s r) before in
    let k = to.tick (length w.setpoints) in
    let x = called_after n m s r opens c h before (tick_in w) later a k refl in
    let g = x.at_call.good in
    let at = x.at_call.same in
    let called : view c (step w (tick_in w)) ≡ transition (view c w) k = x.called.same ∙ ap (λ (p : OneChannel). transition p k) (sym at) in
    let end : view c (world_after (opening n m s r) (before ++ (tick_in w ∷ later))) ≡ transitions (transition (view c w) k) (fed c later)
    = x.at_last.same ∙ ap (λ (p : OneChannel). transitions (transition p k) (fed c later)) (sym at) in
    let seen : entry (view c w) k ≡ seen_by c w
    = ap (λ (b : Answer). record { before = view c w; call = k; answer = b }) (sym (observe_tick w c h g (words w.setpoints) (inr refl))) in
    subst (λ (e : Entry). Reports c (world_after (opening n m s r) (before ++ (tick_in w ∷ later))) (made_tick e)) seen
    (reports_alone c h (world_after (opening n m s r) (before ++ (tick_in w ∷ later))) _ (made_tick (entry (view c w) k)) end
    (seen_alone (view c w) (length w.setpoints) (fed c later) (tick_made (view c w) (length w.setpoints) g.sets)
    (subst (λ (p : OneChannel). NoTickNorReset (history p (fed c later))) called quiet)))
