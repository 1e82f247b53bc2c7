-- A step of the world: refused, it stays; lent the memory as left, it is what the contracts say, with no test. Assumes nothing.
use Prim.Native.Nat.{ℕ, ◌*◌}
use mathlib.Core.Path.{◌≡◌, refl, sym, ap, ◌∙◌}
use mathlib.Core.Logic.{◌⊎◌, inl, inr}
use mathlib.Core.Bool.{true}
use native.Mathlib.Omega.{arith}
use lib.ListN.{length}
use lib.Dec.{eqb}
use borrow.Author.Tests.{eq-eqb}
use Rattle.channel.proofs.Cases.{by_test}
use Rattle.channel.specs.OneChannel.{Query}
use Rattle.board_state.specs.declared.Board.{Board}
use Rattle.board.specs.Worlds.{World}
use Rattle.isolation.specs.Calls.{Call, query, Lending, lends_nothing, lends_setpoints, lends_readbacks, lends_buffers, query_lending, lending, lent_from, back_to, Lent, Item, after, words_after, lent_after, refused, given, with_board, back, step, Fits}
use Rattle.isolation.proofs.Refused.{refused_changes_nothing}

pub either : (w : World) (i : Item) → Fits w i → (refused w.board i.call i.lent ≡ true) ⊎ (i.lent ≡ given w i.call)
either w i (inl f) = inl (f i.lent refl)
either w i (inr e) = inr e

pub step_refused : (w : World) (i : Item) → refused w.board i.call i.lent ≡ true → step w i ≡ w
unfolding step
step_refused w i e = rw e (ap (with_board w) (refused_changes_nothing w.board i.call i.lent e).0)

back_own : (w : World) (x : Lending) (b : Board) → back_to (with_board w b) x (lent_from w x) ≡ with_board w b
back_own w lends_nothing b = refl
back_own w lends_setpoints b = refl
back_own w lends_readbacks b = refl
back_own w (lends_buffers d) b = refl

-- the call on the memory as left: a refused one leaves what it was lent, so no test remains
abbrev pub plain : World → Call → World
plain w x = back (with_board w (after w.board x (given w x))) x (lent_after w.board x (given w x))

pub step_given : (w : World) (i : Item) → i.lent ≡ given w i.call → step w i ≡ plain w i.call
unfolding step
step_given w i e =
    ap (λ (l : Lent). step w (record { call = i.call; lent = l })) e
    ∙ by_test (λ (r : World). r ≡ plain w i.call) (refused w.board i.call (given w i.call))
    (λ t. sym (ap (back (with_board w (after w.board i.call (given w i.call))) i.call)
    (refused_changes_nothing w.board i.call (given w i.call) t).1
    ∙ back_own w (lending i.call) (after w.board i.call (given w i.call))))
    (λ t. refl)

-- one that changes nothing leaves the world as it is
pub plain_query : (w : World) (d : ℕ) (q : Query) → plain w (query d q) ≡ w
unfolding after words_after
plain_query w d q = go (query_lending d q)
  where
    go : (x : Lending) → back_to (with_board w w.board) x (lent_after w.board (query d q) (lent_from w x)) ≡ w
    go lends_nothing = refl
    go lends_setpoints = refl
    go lends_readbacks = refl
    go (lends_buffers e) = refl

-- ---- What holds from the opening on

pub record Good (w : World) : Type 0 where
  pub four : length w.board.channels ≡ 4
  pub sets : length w.setpoints ≡ w.board.n * 64
  pub reads : length w.readbacks ≡ w.board.m * 8

-- a memory is four parts
pub parted_sets : (b : Board) → b.n * 64 ≡ 4 * (b.n * 16)
parted_sets b = omega arith

pub parted_reads : (b : Board) → b.m * 8 ≡ 4 * (b.m * 2)
parted_reads b = omega arith

module _ (w : World) (g : Good w) where
  pub full_sets : eqb (length w.setpoints) (w.board.n * 64) ≡ true
  full_sets = eq-eqb (length w.setpoints) (w.board.n * 64) g.sets

  pub full_reads : eqb (length w.readbacks) (w.board.m * 8) ≡ true
  full_reads = eq-eqb (length w.readbacks) (w.board.m * 8) g.reads
