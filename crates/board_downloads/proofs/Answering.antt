-- What the calls of a download answer, on any board: the refusals in their order, and else the range. Assumes nothing.
use Prim.Native.Nat.{ℕ, ◌+◌, ◌≤◌}
use mathlib.Core.Path.{◌≡◌, refl, ap}
use mathlib.Core.Bool.{Bool, true, false}
use mathlib.Core.List.{List}
use lib.ListN.{length}
use lib.Dec.{eqb}
use borrow.Author.Tests.{eqb-true, eq-eqb, lt-ltb, le-ltb}
use Rattle.std.specs.declared.option.Option.TheVariants.{Some}
use Rattle.downloads.specs.declared.Download.{Download}
use Rattle.channel_core.specs.Answers.{part, part_length}
use Rattle.channel.specs.Calls as retired
use Rattle.channel.specs.Downloads as one
use Rattle.board_state.specs.declared.Board.{Board}
use Rattle.board_state.specs.State.{channel_at}
use Rattle.board_state.specs.Checks.{no_channel}
use Rattle.board_channels.specs.Calls.{retired_words}
use Rattle.board_downloads.specs.Calls.{opening_answer, portion_words, portion_answer, portion_length}
use Rattle.board_downloads.specs.Answering.{OpeningsAnswered, download_at, Fit, Refused, range, PortionAnswered, PortionsAnswered}

pub openings_answered : OpeningsAnswered
unfolding opening_answer
openings_answered b number = record { channel = λ e. rw e; counted = λ e. rw e }

module _ (b : Board) (number index size : ℕ) (s t : List ℕ) where
  short : (Fit b number index size s t → ⊥) → Refused b number index size s t 1
  unfolding portion_answer portion_length
  short misfit = go (eqb (length s) b.m) refl (eqb (length t) b.m) refl
    where
      go : (x : Bool) → eqb (length s) b.m ≡ x → (y : Bool) → eqb (length t) b.m ≡ y → Refused b number index size s t 1
      go true p true q = absurd (misfit (eqb-true (length s) b.m p, eqb-true (length t) b.m q))
      go true p false q = (rw (p, q), rw (p, q))
      go false p y q = (rw p, rw p)

  words_range : Fit b number index size s t → no_channel number ≡ false → (d : Download) → download_at b number index size s t ≡ Some d
      → index + size ≤ d.count → d.count ≡ (channel_at b number).readbacks.retired
      → portion_words b number index size s t ≡ range b number index size s t
  unfolding portion_words one.portion_words retired_words retired.retired_words
  words_range f e d o l k = rw (eq-eqb _ _ f.0, eq-eqb _ _ f.1, e, o, le-ltb _ _ l, k)

  answered : PortionAnswered b number index size s t
  unfolding portion_answer portion_length
  answered =
      record {
        lengths = short;
        channel = λ f e. let p = eq-eqb _ _ f.0 in let q = eq-eqb _ _ f.1 in (rw (p, q, e), rw (p, q, e));
        none_open = λ f e o. let p = eq-eqb _ _ f.0 in let q = eq-eqb _ _ f.1 in (rw (p, q, e, o), rw (p, q, e, o));
        past = λ f e d o l. let p = eq-eqb _ _ f.0 in let q = eq-eqb _ _ f.1 in (rw (p, q, e, o, lt-ltb _ _ l), rw (p, q, e, o, lt-ltb _ _ l));
        served =
            λ f e d o l k.
            let p = eq-eqb _ _ f.0 in
            let q = eq-eqb _ _ f.1 in
            let same = words_range f e d o l k in (
              rw (p, q, e, o, le-ltb _ _ l) (ap part same),
              rw (p, q, e, o, le-ltb _ _ l) (ap (λ (x : List ℕ). part_length (length x)) same),
            );
      }

pub portions_answered : PortionsAnswered
portions_answered b number index size s t = answered b number index size s t
