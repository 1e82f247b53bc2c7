-- The readings that the board answers: each channel is as it would be alone. Assumes nothing.
use Prim.Native.Nat.{◌*◌}
use mathlib.Core.Path.{refl, ap, ◌∙◌}
use mathlib.Core.Logic.{inr}
use Rattle.channel.specs.OneChannel.{OneChannel, response}
use Rattle.channel.specs.OneChannel as to
use Rattle.histories.proofs.Readings.{readings_told as told_alone}
use Rattle.board_state.specs.Parts.{own}
use Rattle.board.specs.Answers.{one}
use Rattle.isolation.specs.Calls.{none, answer, world_after, opening}
use Rattle.isolation.specs.Feeding.{fed}
use Rattle.isolation.specs.Isolation.{ReadingsTold}
use Rattle.isolation.proofs.Parts.{Number}
use Rattle.isolation.proofs.Observing.{observe_query}
use Rattle.isolation.proofs.Alone.{alone_after}

pub readings_told : ReadingsTold
unfolding answer
readings_told n m s r opens c low high xs a =
    let h : Number c = record { low = low; high = high } in
    ap one
    (observe_query (world_after (opening n m s r) xs) c h to.readings none (inr refl)
    ∙ ap (λ (p : OneChannel). response p (to.query to.readings 0 0)) (alone_after n m s r opens c h xs a).same
    ∙ told_alone n m (own s (n * 16) c) (own r (m * 2) c) (fed c xs) 0 0)
