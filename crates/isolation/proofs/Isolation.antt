-- DEMAND 3, and what stands beside it: the proofs of the claims in specs/Isolation.antt. Assumes nothing.
use Prim.Native.Nat.{ℕ, zero, suc, ◌*◌, ◌≤◌}
use mathlib.Core.Path.{◌≡◌, refl, sym, ap, ap₂, subst, ◌∙◌}
use mathlib.Core.Logic.{◌⊎◌, inl, inr}
use mathlib.Core.Bool.{Bool, true, false}
use mathlib.Core.List.{List, [], ◌∷◌, ◌++◌}
use native.Mathlib.Omega.{arith}
use lib.ListN.{length}
use lib.Dec.{eqb}
use borrow.Author.Tests.{eqb-true}
use Rattle.channel_core.specs.State as core
use Rattle.channel_core.specs.Answers.{Answer}
use Rattle.channel_core.specs.Answers as ans
use Rattle.channel.proofs.Cases.{passed, let_on}
use Rattle.channel.proofs.Ranges.{inside}
use Rattle.channel.specs.OneChannel.{OneChannel, one_channel, with_channel, transitions, responses}
use Rattle.board_state.specs.declared.Board.{Board}
use Rattle.board_state.specs.State as state
use Rattle.board_state.specs.Parts.{own}
use Rattle.board.specs.Calls.{open_refusal, open_answer, open_board}
use Rattle.board.specs.Worlds.{World, world}
use Rattle.isolation.specs.Calls.{Item, refused, given, step, Fits, Allowed, opening}
use Rattle.isolation.specs.Feeding.{feeds, fed, view}
use Rattle.isolation.specs.Isolation.{one_channel_at, MatchesOneChannel, Isolation, FedTheSame}
use Rattle.isolation.proofs.Parts.{Number, own_length}
use Rattle.isolation.proofs.One.{transitions_append, responses_append}
use Rattle.isolation.proofs.Worlds.{Good, either, step_refused, step_given, parted_sets, parted_reads}
use Rattle.isolation.proofs.Shapes.{good_plain}
use Rattle.isolation.proofs.Items.{Holds, item}

-- ---- From any good world

pub good_step : (w : World) → Good w → (i : Item) → Fits w i → Good (step w i)
good_step w g i f = go (either w i f)
  where
    go : ((refused w.board i.call i.lent ≡ true) ⊎ (i.lent ≡ given w i.call)) → Good (step w i)
    go (inl e) = subst Good (sym (step_refused w i e)) g
    go (inr e) = subst Good (sym (step_given w i e)) (good_plain w g i.call)

pub along : (c : ℕ) → Number c → (xs : List Item) (w : World) → Good w → Allowed w xs → MatchesOneChannel c w xs (view c w)
along c h [] w g a = record { observed = refl; ends = refl }
along c h (i ∷ is) w g a =
    let s : Holds c w i = item w g c h i.lent i.call a.0 in
    let r : MatchesOneChannel c (step w i) is (view c (step w i)) = along c h is (step w i) (good_step w g i a.0) a.1 in
    record {
      observed =
          ap₂ (λ (p q : List Answer). p ++ q) s.observed (r.observed ∙ ap (λ (o : OneChannel). responses o (fed c is)) s.seen)
          ∙ sym (responses_append (view c w) (feeds c i) (fed c is));
      ends = r.ends ∙ ap (λ (o : OneChannel). transitions o (fed c is)) s.seen ∙ sym (transitions_append (view c w) (feeds c i) (fed c is));
    }

-- ---- From an opening

open_channel : (n m c : ℕ) → Number c → state.channel_at (state.opened n m) c ≡ core.opened
unfolding state.opened
open_channel n m zero h = refl
open_channel n m (suc zero) h = refl
open_channel n m (suc (suc zero)) h = refl
open_channel n m (suc (suc (suc zero))) h = refl
open_channel n m (suc (suc (suc (suc zero)))) h = refl
open_channel n m (suc (suc (suc (suc (suc c))))) h = absurd (omega arith)

module _ (n m : ℕ) (s r : List ℕ) (e : open_answer n m (length s) (length r) ≡ ans.done) where
  not_refused : open_refusal n m (length s) (length r) ≡ 0
  unfolding open_answer
  not_refused = go (eqb (open_refusal n m (length s) (length r)) 0) refl
    where
      go : (t : Bool) → eqb (open_refusal n m (length s) (length r)) 0 ≡ t → open_refusal n m (length s) (length r) ≡ 0
      go true q = eqb-true _ _ q
      go false q =
          let z : ans.refused (open_refusal n m (length s) (length r)) ≡ ans.done = rw q at e in
          let f : ◌≡◌ {A = ℕ} 0 1 = cc in absurd (omega arith)

  opened : open_board n m (length s) (length r) ≡ state.opened n m
  unfolding open_board
  opened = rw not_refused

  -- "Depth N .. is 1 to 1,048,576. Depth M .. is 1 to 8,388,608.", "lent lengths other than 64 × N and 8 × M"
  pub open_fits : (1 ≤ n) × (1 ≤ m) × (length s ≡ n * 64) × (length r ≡ m * 8)
  unfolding open_refusal
  open_fits =
      let a = passed _ _ _ refl not_refused in
      let b = passed _ _ _ refl a.1 in
      let d = let_on _ _ _ refl b.1 in
      let f = let_on _ _ _ refl d.1 in
      ((inside 1 1048576 n a.0).0, (inside 1 8388608 m b.0).0, eqb-true _ _ d.0, eqb-true _ _ f.0)

  -- the words of channel c
  pub open_own : (c : ℕ) → Number c → (length (own s (n * 16) c) ≡ n * 16) × (length (own r (m * 2) c) ≡ m * 2)
  unfolding state.opened
  open_own c h = (
    own_length s (n * 16) (open_fits.2 ∙ parted_sets (state.opened n m)) c h,
    own_length r (m * 2) (open_fits.3 ∙ parted_reads (state.opened n m)) c h,
  )

  open_world : opening n m s r ≡ world (state.opened n m) s r
  open_world = ap (λ (b : Board). world b s r) opened

  pub good_opening : Good (opening n m s r)
  unfolding state.opened
  good_opening = subst Good (sym open_world) (record { four = refl; sets = open_fits.2; reads = open_fits.3 })

  pub view_opening : (c : ℕ) → Number c → view c (opening n m s r) ≡ one_channel_at c n m s r
  unfolding state.opened
  view_opening c h =
      ap (view c) open_world ∙ ap (with_channel (one_channel_at c n m s r)) (open_channel n m c h)

pub isolation : Isolation
isolation n m s r e c low high xs a =
    let h : Number c = record { low = low; high = high } in
    subst (MatchesOneChannel c (opening n m s r) xs) (view_opening n m s r e c h)
    (along c h xs (opening n m s r) (good_opening n m s r e) a)

pub fed_the_same : FedTheSame
fed_the_same n m s r s' r' e e' c low high p q xs ys a b same =
    let x = isolation n m s r e c low high xs a in
    let y = isolation n m s' r' e' c low high ys b in
    (x.observed ∙ ap₂ responses o same ∙ sym y.observed, x.ends ∙ ap₂ transitions o same ∙ sym y.ends)
  where
    o : one_channel_at c n m s r ≡ one_channel_at c n m s' r'
    o = ap₂ (one_channel n m) p q
