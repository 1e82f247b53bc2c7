-- The answers of ticks in a row, counted at once, are those answers counted one after the other. Assumes nothing.
use Prim.Native.Nat.{ℕ, ◌+◌}
use mathlib.Core.Path.{◌≡◌, refl}
use mathlib.Core.Bool.{Bool, true, false, cond}
use native.Mathlib.Omega.{arith}
use lib.Dec.{ltb}
use borrow.Author.Tests.{ltb-true, ltb-false}
use Rattle.channel_core.specs.Answers.{Answer, is_frame}
use Rattle.channel_core.specs.Answers as ans
use Rattle.board.specs.Answers.{one, each}
use Rattle.tally.specs.declared.Counts.{Counts}
use Rattle.tally.specs.Tallies.{more, more_by, tally, tally_ticks}

more_by_lem : (t : Bool) (k n : ℕ) → more t (more_by k n) ≡ more_by (k + cond t 1 0) n
more_by_lem true k n = go (ltb (more_by k n) 4294967295) refl
  where
    go : (u : Bool) → ltb (more_by k n) 4294967295 ≡ u → cond u (more_by k n + 1) (more_by k n) ≡ more_by (k + 1) n
    go true e = omega (arith, ltb-true (more_by k n) 4294967295 e)
    go false e = omega (arith, ltb-false (more_by k n) 4294967295 e)
more_by_lem false k n = omega arith

none_more : (n : ℕ) → more_by 0 n ≡ n
none_more n = omega arith

pub tally_none : (c : Counts) → tally_ticks c 0 0 0 0 0 ≡ c
unfolding tally_ticks
tally_none c =
    simp (none_more c.refused, none_more c.first, none_more c.second, none_more c.third, none_more c.fourth)

-- one more tick that is refused
pub tally_refused : (c : Counts) (r f g h i number : ℕ)
    → tally (tally_ticks c r f g h i) (one (ans.refused number)) ≡ tally_ticks c (r + 1) f g h i
unfolding tally tally_ticks
tally_refused c r f g h i number = simp (more_by_lem true r c.refused)

-- one more that is not
pub tally_each : (c : Counts) (r f g h i : ℕ) (a b d e : Answer)
    → tally (tally_ticks c r f g h i) (each a b d e)
    ≡ tally_ticks c r (f + cond (is_frame a) 1 0) (g + cond (is_frame b) 1 0) (h + cond (is_frame d) 1 0) (i + cond (is_frame e) 1 0)
unfolding tally tally_ticks
tally_each c r f g h i a b d e =
    simp (more_by_lem (is_frame a) f c.first, more_by_lem (is_frame b) g c.second, more_by_lem (is_frame d) h c.third, more_by_lem (is_frame e) i c.fourth)
