-- D25 in the words that retired readbacks answers on the board: each channel is as it would be alone. Assumes nothing.
use Prim.Native.Nat.{◌*◌}
use mathlib.Core.Path.{refl, ap, ◌∙◌}
use Rattle.channel.specs.OneChannel.{transitions}
use Rattle.channel.specs.OneChannel as to
use Rattle.histories.proofs.Tags.{marks_retired as retired_alone}
use Rattle.board_state.specs.Parts.{own}
use Rattle.board.specs.Answers.{one}
use Rattle.isolation.specs.Calls.{world_after, opening}
use Rattle.isolation.specs.Feeding.{fed}
use Rattle.isolation.specs.Isolation.{one_channel_at, MarksRetired}
use Rattle.isolation.proofs.Parts.{Number}
use Rattle.isolation.proofs.Isolation.{open_own}
use Rattle.isolation.proofs.Alone.{alone_after, query_alone}

pub marks_retired : MarksRetired
marks_retired n m s r opens c low high xs a =
    let h : Number c = record { low = low; high = high } in
    let w = world_after (opening n m s r) xs in
    let o = transitions (one_channel_at c n m s r) (fed c xs) in
    let x = alone_after n m s r opens c h xs a in
    let p = retired_alone n m (own s (n * 16) c) (own r (m * 2) c) (open_own n m s r opens c h).1 (fed c xs) in
    record {
      words = p.words;
      answers = query_alone w o c m h x to.retired refl ∙ ap one p.answers;
      marked = p.marked;
      counted = query_alone w o c m h x to.retired_length refl ∙ ap one p.counted;
    }
