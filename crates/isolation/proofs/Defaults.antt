-- The defaults of the total definitions are never used on the board, and no tick of a channel has two frames: each channel is as it would be alone, and
-- alone it stays in range. Assumes nothing.
use Prim.Native.Nat.{◌*◌}
use mathlib.Core.Path.{sym, subst}
use Rattle.histories.specs.Ranges.{InRange}
use Rattle.histories.proofs.Ranges.{stays_in_range}
use Rattle.histories.proofs.Apart.{apart_nothing}
use Rattle.board_state.specs.Parts.{own}
use Rattle.isolation.specs.Calls.{world_after, opening}
use Rattle.isolation.specs.Feeding.{fed, view}
use Rattle.isolation.specs.Isolation.{DefaultsUnused, OneFrameATick}
use Rattle.isolation.proofs.Parts.{Number}
use Rattle.isolation.proofs.Isolation.{isolation, open_fits, open_own}

pub defaults_unused : DefaultsUnused
defaults_unused n m s r e c low high xs a =
    let h : Number c = record { low = low; high = high } in
    let f = open_fits n m s r e in
    let l = open_own n m s r e c h in
    subst InRange (sym (isolation n m s r e c low high xs a).ends)
    (stays_in_range n m (own s (n * 16) c) (own r (m * 2) c) f.0 f.1 l.0 l.1 (fed c xs))

pub one_frame_a_tick : OneFrameATick
one_frame_a_tick n m s r e c low high xs a due =
    let o = view c (world_after (opening n m s r) xs) in
    apart_nothing o.channel o.setpoints o.n o.user (defaults_unused n m s r e c low high xs a).apart due
