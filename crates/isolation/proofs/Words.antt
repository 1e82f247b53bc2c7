-- What a call that names a channel leaves of a lent memory: its length, that channel's part, and the others' parts. Assumes nothing.
use Prim.Native.Nat.{ℕ, ◌*◌}
use mathlib.Core.Path.{◌≡◌, refl, ◌∙◌}
use mathlib.Core.Bool.{cond}
use mathlib.Core.List.{List}
use lib.ListN.{length}
use lib.Dec.{eqb}
use borrow.Author.Tests.{eq-eqb, eqb-true}
use Rattle.address_map.specs.Addresses.{named, channel}
use Rattle.channel_replies.specs.Replying as replies
use Rattle.channel_registers.specs.Calls as channel_registers
use Rattle.channel.specs.Calls as chn
use Rattle.channel.proofs.Cases.{by_test}
use Rattle.histories.proofs.Lengths.{SameLength}
use Rattle.board_state.specs.declared.Board.{Board}
use Rattle.board_state.specs.State.{channel_at}
use Rattle.board_state.specs.Parts.{own, with_own}
use Rattle.board_state.specs.Checks.{no_channel}
use Rattle.board_channels.specs.Calls as channels
use Rattle.board_registers.specs.Calls as registers
use Rattle.isolation.proofs.Parts.{Number, own_length, own_mine, own_theirs, own_kept}
use Rattle.isolation.proofs.Cases.{in_range, range_in}

-- ---- A memory of which a call rewrites the part of the channel that it names

-- as the calls have it: the length first, then the number
abbrev pub over : List ℕ → (total size d : ℕ) → (List ℕ → List ℕ) → List ℕ
over s total size d f = cond (eqb (length s) total) (cond (no_channel d) s (with_own s size d (f (own s size d)))) s

module _ (s : List ℕ) (total size d : ℕ) (f : List ℕ → List ℕ) (parted : total ≡ 4 * size) (keeps : (p : List ℕ) → SameLength p (f p)) where
  module _ (whole : length s ≡ total) (low : Number d) where
    over_whole : length s ≡ 4 * size
    over_whole = whole ∙ parted

    over_same : length (f (own s size d)) ≡ size
    over_same = keeps (own s size d) ∙ own_length s size over_whole d low

    pub over_mine : own (over s total size d f) size d ≡ f (own s size d)
    over_mine =
        rw (eq-eqb (length s) total whole, in_range d low)
        (own_mine s size over_whole d (f (own s size d)) low over_same)

  pub over_theirs : (c : ℕ) → Number c → (c ≡ d → ⊥) → own (over s total size d f) size c ≡ own s size c
  over_theirs c h ne =
      by_test (λ (r : List ℕ). own r size c ≡ own s size c) (eqb (length s) total)
      (λ t. let whole : length s ≡ total = eqb-true (length s) total t in
      by_test (λ (r : List ℕ). own r size c ≡ own s size c) (no_channel d)
      (λ q. refl)
      (λ q. own_theirs s size (over_whole whole (range_in d q)) d (f (own s size d)) (range_in d q) (over_same whole (range_in d q)) c h ne))
      (λ t. refl)

  pub over_length : SameLength s (over s total size d f)
  over_length =
      by_test (SameLength s) (eqb (length s) total)
      (λ t. let whole : length s ≡ total = eqb-true (length s) total t in
      by_test (SameLength s) (no_channel d)
      (λ q. refl)
      (λ q. own_kept s size (over_whole whole (range_in d q)) d (f (own s size d)) (range_in d q) (over_same whole (range_in d q))))
      (λ t. refl)

-- ---- The calls' memories are such

module _ (b : Board) (s : List ℕ) (d : ℕ) where
  pub setpoints_over : (u f i x : ℕ)
      → channels.setpoint_words b s d u f i x
      ≡ over s (b.n * 64) (b.n * 16) d (λ (p : List ℕ). chn.setpoint_words (channel_at b d) p b.n u f i x)
  unfolding channels.setpoint_words
  setpoints_over u f i x = refl

  pub replies_over_lem : (f : ℕ)
      → channels.reply_words b s d f
      ≡ over s (b.m * 8) (b.m * 2) d (λ (p : List ℕ). replies.reply_words (channel_at b d) p b.m b.user f)
  unfolding channels.reply_words
  replies_over_lem f = refl

  pub writes_over : (a o v : ℕ) → named a ≡ channel d o → Number d
      → registers.write_words b s a v
      ≡ over s (b.m * 8) (b.m * 2) d (λ (p : List ℕ). channel_registers.written_words (channel_at b d) p b.m o v)
  unfolding registers.write_words
  writes_over a o v e h = rw (e, in_range d h)
