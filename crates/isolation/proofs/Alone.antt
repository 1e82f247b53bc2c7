-- A channel after an allowed list is as it would be alone, in a good world, also before and after a call in the list; and so is what a query answers that
-- is lent its buffers. Assumes nothing.
use Prim.Native.Nat.{ℕ, ◌*◌}
use mathlib.Core.Path.{◌≡◌, refl, sym, ap, ap₂, subst, ◌∙◌}
use mathlib.Core.Logic.{inr}
use mathlib.Core.List.{List, [], ◌∷◌, ◌++◌}
use native.Mathlib.Omega.{arith}
use lib.ListN.{length, take, drop, length-take, length-drop}
use Rattle.channel_core.specs.Answers as ans
use Rattle.channel.specs.OneChannel.{OneChannel, ChannelCall, transition, response, transitions}
use Rattle.channel.specs.OneChannel as to
use Rattle.histories.proofs.Depths.{depths_step, depths_kept}
use Rattle.board_state.specs.Parts.{own}
use Rattle.board.specs.Answers.{one}
use Rattle.board.specs.Calls.{open_answer}
use Rattle.board.specs.Worlds.{World}
use Rattle.isolation.specs.Calls.{query, lent_from, query_lending, first, second, Item, answer, own_buffers, step, Allowed, world_after, opening}
use Rattle.isolation.specs.Feeding.{feeds, fed, view}
use Rattle.isolation.specs.Isolation.{one_channel_at}
use Rattle.isolation.proofs.Parts.{Number, own_length}
use Rattle.isolation.proofs.Worlds.{Good, parted_reads}
use Rattle.isolation.proofs.Observing.{observe_query}
use Rattle.isolation.proofs.Isolation.{along, isolation, good_step, good_opening}

pub good_after : (w : World) (xs : List Item) → Good w → Allowed w xs → Good (world_after w xs)
good_after w [] g a = g
good_after w (i ∷ xs) g a = good_after (step w i) xs (good_step w g i a.0) a.1

-- the world `w` is a good one, and in it channel c is as `o` is alone
pub record AsAlone (c m : ℕ) (w : World) (o : OneChannel) : Type 0 where
  pub good : Good w
  pub same : view c w ≡ o
  pub depth : o.m ≡ m

-- so after an allowed list
pub alone_after : (n m : ℕ) (s r : List ℕ) → open_answer n m (length s) (length r) ≡ ans.done → (c : ℕ) → Number c
    → (xs : List Item) → Allowed (opening n m s r) xs
    → AsAlone c m (world_after (opening n m s r) xs) (transitions (one_channel_at c n m s r) (fed c xs))
alone_after n m s r opens c h xs a =
    record {
      good = good_after (opening n m s r) xs (good_opening n m s r opens) a;
      same = (isolation n m s r opens c h.low h.high xs a).ends;
      depth = (depths_kept (one_channel_at c n m s r) (fed c xs)).1;
    }

-- ---- A call in the list, with what comes before and after it

world_append : (w : World) (xs ys : List Item) → world_after w (xs ++ ys) ≡ world_after (world_after w xs) ys
world_append w [] ys = refl
world_append w (i ∷ xs) ys = world_append (step w i) xs ys

allowed_append : (w : World) (xs ys : List Item) → Allowed w (xs ++ ys) → Allowed w xs × Allowed (world_after w xs) ys
allowed_append w [] ys a = (tt, a)
allowed_append w (i ∷ xs) ys a = let b = allowed_append (step w i) xs ys a.1 in ((a.0, b.0), b.1)

pub allowed_more : (w : World) (xs ys : List Item) → Allowed w xs → Allowed (world_after w xs) ys → Allowed w (xs ++ ys)
allowed_more w [] ys a b = b
allowed_more w (i ∷ xs) ys a b = (a.0, allowed_more (step w i) xs ys a.1 b)

-- the worlds before a call, after it, and at the end of the list; alone, channel c is `o` before it and is fed `k` of it, then `ks`
pub record Called (c m : ℕ) (before after last : World) (o : OneChannel) (k : ChannelCall) (ks : List ChannelCall) : Type 0 where
  pub at_call : AsAlone c m before o
  pub called : AsAlone c m after (transition o k)
  pub at_last : AsAlone c m last (transitions (transition o k) ks)

module _
    (n m : ℕ) (s r : List ℕ) (opens : open_answer n m (length s) (length r) ≡ ans.done) (c : ℕ) (h : Number c)
    (before : List Item) (i : Item) (later : List Item) (a : Allowed (opening n m s r) (before ++ (i ∷ later)))
    (k : ChannelCall) (fed_call : feeds c i ≡ k ∷ [])
  where
    abbrev w : World
    w = world_after (opening n m s r) before

    abbrev o : OneChannel
    o = transitions (one_channel_at c n m s r) (fed c before)

    pub called_after : Called c m w (step w i) (world_after (opening n m s r) (before ++ (i ∷ later))) o k (fed c later)
    called_after =
        let cut = allowed_append (opening n m s r) before (i ∷ later) a in
        let x = alone_after n m s r opens c h before cut.0 in
        let y : AsAlone c m (step w i) (transition o k) =
        record {
          good = good_step w x.good i cut.1.0;
          same =
              (along c h (i ∷ []) w x.good (cut.1.0, tt)).ends ∙ ap (λ (ks : List ChannelCall). transitions (view c w) (ks ++ [])) fed_call
              ∙ ap (λ (p : OneChannel). transition p k) x.same;
          depth = (depths_step o k).1 ∙ x.depth;
        }
        in
        record {
          at_call = x;
          called = y;
          at_last =
              subst (λ (p : World). AsAlone c m p (transitions (transition o k) (fed c later))) (sym (world_append (opening n m s r) before (i ∷ later)))
              (record {
                good = good_after (step w i) later y.good cut.1.1;
                same = (along c h later (step w i) y.good cut.1.1).ends ∙ ap (λ (p : OneChannel). transitions p (fed c later)) y.same;
                depth = (depths_kept (transition o k) (fed c later)).1 ∙ y.depth;
              });
        }

-- ---- Queries

halves : (k : ℕ) (l : List ℕ) → length l ≡ k * 2 → (length (take k l) ≡ k) × (length (take k (drop k l)) ≡ k)
halves k l e = (simp length-take (omega arith), simp (length-take, length-drop) (omega arith))

-- each of the channel's buffers has M words
buffers_long : (w : World) (c : ℕ) → Number c → Good w
    → (length (first (own_buffers w c)) ≡ w.board.m) × (length (second (own_buffers w c)) ≡ w.board.m)
buffers_long w c h g =
    halves w.board.m (own w.readbacks (w.board.m * 2) c) (own_length w.readbacks (w.board.m * 2) (g.reads ∙ parted_reads w.board) c h)

-- what a query answers that is lent them
pub query_alone : (w : World) (o : OneChannel) (c m : ℕ) → Number c → AsAlone c m w o
    → (which : to.Query) → own_buffers w c ≡ lent_from w (query_lending c which)
    → answer w.board (query c which) (own_buffers w c) ≡ one (response o (to.query which m m))
unfolding answer
query_alone w o c m h a which lent =
    let l = buffers_long w c h a.good in
    let d = ap (λ (x : OneChannel). x.m) a.same ∙ a.depth in
    ap one
    (observe_query w c h which (own_buffers w c) (inr lent)
    ∙ ap₂ (λ (x y : ℕ). response (view c w) (to.query which x y)) (l.0 ∙ d) (l.1 ∙ d)
    ∙ ap (λ (x : OneChannel). response x (to.query which m m)) a.same)
