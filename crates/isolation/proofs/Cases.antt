-- Small laws: choices, refusals, and a list of four of which all are stored. Assumes nothing.
use Prim.Native.Nat.{ℕ, zero, suc, ◌-◌}
use mathlib.Core.Path.{◌≡◌, refl, ap}
use mathlib.Core.Bool.{Bool, true, false}
use mathlib.Core.List.{List, [], ◌∷◌}
use native.Mathlib.Omega.{arith}
use lib.ListN.{length, get_or, set}
use lib.Seq.{get_or-set_same, get_or-set_other, set-get_or}
use lib.Dec.{eqb}
use borrow.Author.Tests.{le-ltb}
use Rattle.address_map.specs.Addresses.{named, channel}
use Rattle.channel_core.specs.declared.Channel.{Channel}
use Rattle.channel_core.specs.State.{opened}
use Rattle.channel_core.specs.Answers.{Answer, is_refusal, unless}
use Rattle.board_state.specs.declared.Board.{Board}
use Rattle.board_state.specs.State.{channel_at, with_channel_at, with_channels}
use Rattle.board_state.specs.Checks.{no_channel}
use Rattle.address_map.proofs.Laws.{named_channel}
use Rattle.channel.proofs.Cases.{clash}
use Rattle.channel.proofs.Ranges.{inside}
use Rattle.board.specs.Answers.{of_four}
use Rattle.isolation.proofs.Parts.{Number}

-- what is refused, though its answer is none, is so by its number
pub unless_refused : (k : ℕ) (a : Answer) → is_refusal a ≡ false → is_refusal (unless k a) ≡ true → eqb k 0 ≡ false
unless_refused k a q h = go (eqb k 0) refl
  where
    go : (t : Bool) → eqb k 0 ≡ t → t ≡ false
    go true e = clash (rw (e, q) at h)
    go false e = refl

-- ---- Four channels

-- each of four stored in turn, by what stands there
pub four_stored : {A : Type 0} (f : ℕ → A → A) (l : List A) (d : A) (c : ℕ) → length l ≡ 4 → Number c
    → let a = set l 0 (f 1 (get_or l 0 d)) in
    let b = set a 1 (f 2 (get_or a 1 d)) in
    let e = set b 2 (f 3 (get_or b 2 d)) in
    get_or (set e 3 (f 4 (get_or e 3 d))) (c - 1) d ≡ f c (get_or l (c - 1) d)
four_stored f [] d c e h = absurd (omega arith)
four_stored f (x ∷ []) d c e h = absurd (omega arith)
four_stored f (x ∷ (y ∷ [])) d c e h = absurd (omega arith)
four_stored f (x ∷ (y ∷ (z ∷ []))) d c e h = absurd (omega arith)
four_stored f (x ∷ (y ∷ (z ∷ (w ∷ l)))) d zero e h = absurd (omega arith)
four_stored f (x ∷ (y ∷ (z ∷ (w ∷ l)))) d (suc zero) e h = refl
four_stored f (x ∷ (y ∷ (z ∷ (w ∷ l)))) d (suc (suc zero)) e h = refl
four_stored f (x ∷ (y ∷ (z ∷ (w ∷ l)))) d (suc (suc (suc zero))) e h = refl
four_stored f (x ∷ (y ∷ (z ∷ (w ∷ l)))) d (suc (suc (suc (suc zero)))) e h = refl
four_stored f (x ∷ (y ∷ (z ∷ (w ∷ l)))) d (suc (suc (suc (suc (suc c))))) e h = absurd (omega arith)

pub of_four_lem : {A : Type 0} (f : ℕ → A) (c : ℕ) → Number c → of_four c (f 1) (f 2) (f 3) (f 4) ≡ f c
of_four_lem f zero h = absurd (omega arith)
of_four_lem f (suc zero) h = refl
of_four_lem f (suc (suc zero)) h = refl
of_four_lem f (suc (suc (suc zero))) h = refl
of_four_lem f (suc (suc (suc (suc zero)))) h = refl
of_four_lem f (suc (suc (suc (suc (suc c))))) h = absurd (omega arith)

-- a channel after one is stored
pub with_channel_at_same_lem : (b : Board) (c : ℕ) (x : Channel) → length b.channels ≡ 4 → Number c → channel_at (with_channel_at b c x) c ≡ x
with_channel_at_same_lem b c x e h = get_or-set_same b.channels (c - 1) x opened (omega arith)

pub with_channel_at_other_lem : (b : Board) (d c : ℕ) (x : Channel) → Number d → Number c → (c ≡ d → ⊥) → channel_at (with_channel_at b d x) c ≡ channel_at b c
with_channel_at_other_lem b d c x low h ne = get_or-set_other b.channels (d - 1) (c - 1) x opened (λ e. ne (omega arith))

pub with_channel_at_own_lem : (b : Board) (d : ℕ) → with_channel_at b d (channel_at b d) ≡ b
with_channel_at_own_lem b d = ap (with_channels b) (set-get_or b.channels (d - 1) opened)

-- ---- Numbers of channels

pub in_range : (c : ℕ) → Number c → no_channel c ≡ false
in_range c h = rw (le-ltb c 1 h.low, le-ltb 4 c h.high)

pub range_in : (c : ℕ) → no_channel c ≡ false → Number c
range_in c e = let r = inside 1 4 c e in record { low = r.0; high = r.1 }

-- an address that names a channel names one of the four
pub named_number : (a d o : ℕ) → named a ≡ channel d o → Number d
named_number a d o e = let r = named_channel a e in record { low = r.0; high = r.1 }
