-- What a portion gives is the part of its answer, and of a channel in range the board's refusal is the channel's. Assumes nothing.
use Prim.Native.Nat.{ℕ}
use mathlib.Core.Path.{◌≡◌, ap}
use mathlib.Core.Bool.{false}
use mathlib.Core.List.{List}
use lib.ListN.{length}
use Rattle.downloads.specs.Portions as download
use Rattle.channel_core.specs.Answers.{part_of}
use Rattle.channel.specs.Calls.{then}
use Rattle.channel.specs.Downloads as one
use Rattle.board_state.specs.declared.Board.{Board}
use Rattle.board_state.specs.State.{channel_at}
use Rattle.board_state.specs.Checks.{no_channel}
use Rattle.board_channels.proofs.RetiredPart as retired
use Rattle.board_downloads.specs.Calls.{portion_refusal, portion_words, portion_answer}

module _ (b : Board) (number index size : ℕ) where
  -- the lengths `k` and `j` are those of the buffers
  pub same_refusal : (k j : ℕ) → no_channel number ≡ false
      → portion_refusal b number index size k j ≡ one.portion_refusal (channel_at b number) b.m index size k j
  same_refusal k j named =
      ap (λ (r : ℕ). then r (download.portion_refusal (channel_at b number).download index size)) (retired.same_refusal b number k j named)

  pub portion_part : (s t : List ℕ) → part_of (portion_answer b number index size s t) ≡ portion_words b number index size s t
  unfolding portion_answer portion_words one.portion_words
  portion_part s t =
      retired.numbered_part number (portion_refusal b number index size (length s) (length t))
      (one.portion_refusal (channel_at b number) b.m index size (length s) (length t))
      (one.portion_words (channel_at b number) b.m index size s t) (same_refusal (length s) (length t)) (λ r. rw r)
