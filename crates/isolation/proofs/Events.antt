-- An event, channel by channel over four parts of one memory: each channel's view is changed once, and as it would be alone. Assumes nothing.
use Prim.Native.Nat.{ℕ, zero, suc, ◌*◌, ◌<◌, ◌≤◌}
use mathlib.Core.Path.{◌≡◌, refl, sym, ap, ap₂, subst, ◌∙◌}
use mathlib.Core.Bool.{Bool, true, false}
use mathlib.Core.List.{List}
use native.Mathlib.Omega.{arith}
use lib.ListN.{length, length-set}
use lib.Dec.{eqb}
use borrow.Author.Tests.{eqb-true, eqb-false}
use Rattle.channel_core.specs.Behaviour as core
use Rattle.channel.specs.OneChannel.{OneChannel}
use Rattle.histories.proofs.Lengths.{event_length}
use Rattle.board_state.specs.State.{channel_at}
use Rattle.board_state.specs.Parts.{own}
use Rattle.board.specs.Calls.{event_board_at, event_words_at, event_boards, event_parts}
use Rattle.board.specs.Worlds.{World}
use Rattle.isolation.specs.Feeding.{view}
use Rattle.isolation.proofs.Parts.{Number, own_length, own_mine, own_theirs, own_kept}
use Rattle.isolation.proofs.Cases.{with_channel_at_same_lem, with_channel_at_other_lem}
use Rattle.isolation.proofs.One.{with_both}
use Rattle.isolation.proofs.Worlds.{Good, parted_reads}

abbrev pub evented : OneChannel → ℕ → OneChannel
evented o k = with_both o (core.event_of o.channel o.user k) (core.event_words o.channel o.readbacks o.m k)

-- the event at channel d
abbrev partly : World → ℕ → ℕ → World
partly w k d =
    record { board = event_board_at w.board k d; setpoints = w.setpoints; readbacks = event_words_at w.board w.readbacks k d }

module _ (w : World) (g : Good w) (k d : ℕ) (low : Number d) where
  part_whole : length w.readbacks ≡ 4 * (w.board.m * 2)
  part_whole = g.reads ∙ parted_reads w.board

  abbrev part_words : List ℕ
  part_words = core.event_words (channel_at w.board d) (own w.readbacks (w.board.m * 2) d) w.board.m k

  part_same : length part_words ≡ w.board.m * 2
  part_same =
      event_length (channel_at w.board d) (own w.readbacks (w.board.m * 2) d) w.board.m k
      ∙ own_length w.readbacks (w.board.m * 2) part_whole d low

  good_part : Good (partly w k d)
  unfolding event_board_at event_words_at
  good_part =
      record {
        four = simp length-set g.four;
        sets = g.sets;
        reads = own_kept w.readbacks (w.board.m * 2) part_whole d part_words low part_same ∙ g.reads;
      }

  view_part : view d (partly w k d) ≡ evented (view d w) k
  unfolding event_board_at event_words_at
  view_part =
      ap₂ (with_both (view d w)) (with_channel_at_same_lem w.board d _ g.four low)
      (own_mine w.readbacks (w.board.m * 2) part_whole d part_words low part_same)

  other_part : (c : ℕ) → Number c → (c ≡ d → ⊥) → view c (partly w k d) ≡ view c w
  unfolding event_board_at event_words_at
  other_part c h ne =
      ap₂ (with_both (view c w)) (with_channel_at_other_lem w.board d c _ low h ne)
      (own_theirs w.readbacks (w.board.m * 2) part_whole d part_words low part_same c h ne)

-- channels 1 to j done
module _ (w : World) (g : Good w) (k : ℕ) where
  abbrev pub first_ones : ℕ → World
  first_ones j =
      record { board = event_boards w.board k j; setpoints = w.setpoints; readbacks = event_parts w.board w.readbacks k j }

  abbrev next : (j : ℕ) → j < 4 → Number (suc j)
  next j l = record { low = omega arith; high = l }

  pub good_first : (j : ℕ) → j ≤ 4 → Good (first_ones j)
  unfolding event_boards event_parts
  good_first zero l = g
  good_first (suc j) l = good_part (first_ones j) (good_first j (omega arith)) k (suc j) (next j l)

  before_it : (c : ℕ) → Number c → (j : ℕ) → j < c → view c (first_ones j) ≡ view c w
  unfolding event_boards event_parts
  before_it c h zero l = refl
  before_it c h (suc j) l =
      other_part (first_ones j) (good_first j (omega arith)) k (suc j) (next j (omega arith)) c h (λ e. omega (arith, l, e))
      ∙ before_it c h j (omega arith)

  at_it : (j : ℕ) (l : j < 4) → view (suc j) (first_ones (suc j)) ≡ evented (view (suc j) w) k
  unfolding event_boards event_parts
  at_it j l =
      view_part (first_ones j) (good_first j (omega arith)) k (suc j) (next j l)
      ∙ ap (λ (o : OneChannel). evented o k) (before_it (suc j) (next j l) j (omega arith))

  pub past_it : (c : ℕ) → Number c → (j : ℕ) → c ≤ j → j ≤ 4 → view c (first_ones j) ≡ evented (view c w) k
  unfolding event_boards event_parts
  past_it c h zero l m = absurd (omega (arith, l))
  past_it c h (suc j) l m = go (eqb c (suc j)) refl (λ less. past_it c h j less (omega arith))
    where
      go : (t : Bool) → eqb c (suc j) ≡ t → (c ≤ j → view c (first_ones j) ≡ evented (view c w) k)
          → view c (first_ones (suc j)) ≡ evented (view c w) k
      go true t ih =
          subst (λ (i : ℕ). view i (first_ones (suc j)) ≡ evented (view i w) k) (sym (eqb-true c (suc j) t)) (at_it j m)
      go false t ih =
          other_part (first_ones j) (good_first j (omega arith)) k (suc j) (next j m) c h (eqb-false c (suc j) t)
          ∙ ih (let ne = eqb-false c (suc j) t in omega (arith, l, ne))
