-- Document 02, card 8: what the calls of a download answer, on any board and lent any two buffers. "(12 "overtaken": a portion with no download open; checked
-- after the channel and before the range.)", with what comes before and after it.
use Rattle.std.specs.Prelude.{ℕ, ◌+◌, ◌≤◌, ◌<◌, ◌≡◌, true, false, List, length, take, drop, Option, Some, IsNone}
use Rattle.downloads.specs.declared.Download.{Download}
use Rattle.channel_core.specs.Answers.{refused, part, part_length}
use Rattle.board_state.specs.declared.Board.{Board}
use Rattle.board_state.specs.State.{channel_at}
use Rattle.board_state.specs.Checks.{no_channel}
use Rattle.board_channels.specs.Calls.{retired_words}
use Rattle.board_downloads.specs.Calls.{opening_answer, portion_answer, portion_length}

-- opening one is refused for the channel alone, and answers the retired count
pub record OpeningAnswered (b : Board) (number : ℕ) : Type 0 where
  pub channel : no_channel number ≡ true → opening_answer b number ≡ refused 2
  pub counted : no_channel number ≡ false → opening_answer b number ≡ part_length (channel_at b number).readbacks.retired

abbrev pub OpeningsAnswered : Type 0
OpeningsAnswered = (b : Board) (number : ℕ) → OpeningAnswered b number

module _ (b : Board) (number index size : ℕ) (s t : List ℕ) where
  abbrev pub download_at : Option Download
  download_at = (channel_at b number).download

  -- both buffers have M words
  abbrev pub Fit : Type 0
  Fit = (length s ≡ b.m) × (length t ≡ b.m)

  -- refused so, the portion and the call beside it
  abbrev pub Refused : ℕ → Type 0
  Refused k = (portion_answer b number index size s t ≡ refused k) × (portion_length b number index size s t ≡ refused k)

  -- that range of what retired readbacks gives of the same two buffers, the channel's own or others
  abbrev pub range : List ℕ
  range = take size (drop index (retired_words b number s t))

  -- each line supposes that those before it are passed. The last also supposes that the count remembered is the retired count, as it is on every board that
  -- calls lead to (`InRange`, histories)
  pub record PortionAnswered : Type 0 where
    pub lengths : (Fit → ⊥) → Refused 1
    pub channel : Fit → no_channel number ≡ true → Refused 2
    pub none_open : Fit → no_channel number ≡ false → IsNone download_at → Refused 12
    pub past : Fit → no_channel number ≡ false → (d : Download) → download_at ≡ Some d → d.count < index + size → Refused 2
    pub served : Fit → no_channel number ≡ false → (d : Download) → download_at ≡ Some d → index + size ≤ d.count
        → d.count ≡ (channel_at b number).readbacks.retired
        → (portion_answer b number index size s t ≡ part range) × (portion_length b number index size s t ≡ part_length (length range))

abbrev pub PortionsAnswered : Type 0
PortionsAnswered = (b : Board) (number index size : ℕ) (s t : List ℕ) → PortionAnswered b number index size s t
