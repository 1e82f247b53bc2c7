-- The end word stands in the board's memory: each channel is as it would be alone, and alone its end word stands in its own words. Assumes nothing.
use Prim.Native.Nat.{ℕ, ◌+◌, ◌-◌, ◌*◌, ◌<◌}
use mathlib.Core.Path.{◌≡◌, refl, sym, ap, subst, ◌∙◌}
use mathlib.Core.Logic.{inr}
use mathlib.Core.Bool.{Bool, true, false, not, not-not}
use mathlib.Core.List.{List, [], ◌∷◌, ◌++◌}
use native.Mathlib.Nat.{add-mul, mul_assoc, mul_comm}
use native.Mathlib.Omega.{arith}
use lib.ListN.{get_or, drop}
use lib.Seq.{get_or-take, get_or-drop}
use borrow.Author.Tests.{eq-eqb}
use Rattle.address_map.proofs.Laws.{channel_named}
use Rattle.status.specs.Bits.{bit_of}
use Rattle.readback.specs.Storing.{place_of}
use Rattle.channel.specs.OneChannel.{OneChannel, refusal_of, transition, response, transitions}
use Rattle.channel.specs.OneChannel as to
use Rattle.histories.specs.History.{entry, history, ends_group}
use Rattle.histories.specs.EndWords.{second_active_over, StaysRetired}
use Rattle.histories.specs.EndWords as alone
use Rattle.histories.proofs.EndWords.{end_word_stands as stands_alone, end_word_stays as stays_alone, group_end_accepted as accepted_alone}
use Rattle.board_state.specs.Parts.{own}
use Rattle.board.specs.Answers.{one}
use Rattle.board.specs.Worlds.{World}
use Rattle.isolation.specs.Calls.{step, world_after, opening}
use Rattle.isolation.specs.Feeding.{fed, view}
use Rattle.isolation.specs.Isolation.{one_channel_at, EndWord, EndWordStands, EndWordStays, group_end_of, group_end_to, GroupEndAccepted}
use Rattle.isolation.proofs.Parts.{Number}
use Rattle.isolation.proofs.Isolation.{good_opening, open_fits, open_own}
use Rattle.isolation.proofs.Shown.{register_shown}
use Rattle.isolation.proofs.Alone.{good_after, allowed_more, AsAlone, alone_after, called_after, query_alone}

-- ---- A word of a channel's readback buffer, in the memory

place_start : (p m : ℕ) (b : Bool) (i : ℕ) → p * (m * 2) + place_of b m i ≡ (p * 2 + bit_of b) * m + i
place_start p m b i = go b (add-mul (p * 2) (bit_of b) m) (mul_assoc p 2 m ∙ ap (λ (x : ℕ). p * x) (mul_comm 2 m))
  where
    go : (b : Bool) → (p * 2 + bit_of b) * m ≡ p * 2 * m + bit_of b * m → p * 2 * m ≡ p * (m * 2)
        → p * (m * 2) + place_of b m i ≡ (p * 2 + bit_of b) * m + i
    go true d e = omega (arith, d, e)
    go false d e = omega (arith, d, e)

place_within : (m : ℕ) (b : Bool) (i : ℕ) → i < m → place_of b m i < m * 2
place_within m true i h = omega arith
place_within m false i h = omega arith

own_word : (s : List ℕ) (c m : ℕ) (b : Bool) (i : ℕ) → i < m
    → get_or (own s (m * 2) c) (place_of b m i) 0 ≡ get_or s (((c - 1) * 2 + bit_of b) * m + i) 0
own_word s c m b i within =
    get_or-take (m * 2) (drop ((c - 1) * (m * 2)) s) (place_of b m i) 0 (place_within m b i within)
    ∙ get_or-drop ((c - 1) * (m * 2)) s (place_of b m i) 0
    ∙ ap (λ (k : ℕ). get_or s k 0) (place_start (c - 1) m b i)

-- a channel's word in the memory, by the channel alone
word_alone : (w : World) (o : OneChannel) (c m : ℕ) (b : Bool) (i : ℕ) → AsAlone c m w o → i < m
    → get_or w.readbacks (((c - 1) * 2 + bit_of b) * m + i) 0 ≡ get_or o.readbacks (place_of b m i) 0
word_alone w o c m b i a within =
    let depth = ap (λ (x : OneChannel). x.m) a.same ∙ a.depth in
    sym (own_word w.readbacks c m b i within)
    ∙ ap (λ (x : ℕ). get_or (own w.readbacks (x * 2) c) (place_of b m i) 0) (sym depth)
    ∙ ap (λ (x : OneChannel). get_or x.readbacks (place_of b m i) 0) a.same

-- two worlds in which channel c is as these are alone: its end word
found_alone : (c m : ℕ) (h : Number c) (ended now : World) (x y : OneChannel) → AsAlone c m ended x → AsAlone c m now y
    → alone.EndWord x y m → EndWord c m ended now
found_alone c m h ended now x y a b q =
    record {
      register = q.active.word;
      active = register_shown c h ended 0x0e (omega arith) ∙ ap (λ (z : OneChannel). response z (to.read_register 0x0e)) a.same ∙ q.active.answers;
      count = q.count;
      counted = query_alone ended x c m h a to.retired_length refl ∙ ap one q.counted;
      within = q.within;
      word =
          ap (λ (b : Bool). get_or now.readbacks (((c - 1) * 2 + bit_of (not b)) * m + q.count) 0) q.active.bit_is
          ∙ ap (λ (b : Bool). get_or now.readbacks (((c - 1) * 2 + bit_of b) * m + q.count) 0) (not-not q.second)
          ∙ word_alone now y c m q.second q.count b q.within ∙ q.word;
    }

pub end_word_stands : EndWordStands
end_word_stands n m s r opens c low high xs a retired =
    let h : Number c = record { low = low; high = high } in
    let f = open_fits n m s r opens in
    let w = world_after (opening n m s r) xs in
    let o = transitions (one_channel_at c n m s r) (fed c xs) in
    let x = alone_after n m s r opens c h xs a in
    found_alone c m h w w o o x x
    (stands_alone n m (own s (n * 16) c) (own r (m * 2) c) f.1 (open_own n m s r opens c h).1 (fed c xs) retired)

-- ---- A Group End, and what comes after it

pub end_word_stays : EndWordStays
end_word_stays n m s r opens c low high before group_end later a k fed_end ends retired =
    let h : Number c = record { low = low; high = high } in
    let f = open_fits n m s r opens in
    let w = world_after (opening n m s r) before in
    let o = transitions (one_channel_at c n m s r) (fed c before) in
    let x = called_after n m s r opens c h before group_end later a k fed_end in
    let second = second_active_over n m (own s (n * 16) c) (own r (m * 2) c) (fed c before) in
    found_alone c m h (step w group_end) (world_after (opening n m s r) (before ++ (group_end ∷ later))) (transition o k)
    (transitions (transition o k) (fed c later)) x.called x.at_last
    (stays_alone n m (own s (n * 16) c) (own r (m * 2) c) f.1 (open_own n m s r opens c h).1 (fed c before) k (fed c later)
    (subst (λ (p : OneChannel). ends_group (entry p k) ≡ true) x.at_call.same ends)
    (subst (λ (p : OneChannel). StaysRetired second (history p (fed c later))) x.called.same retired))

-- ---- There are such Group Ends

pub group_end_accepted : GroupEndAccepted
unfolding response to.answer
group_end_accepted n m s r opens c low high before a =
    let w = world_after (opening n m s r) before in
    let g = good_after (opening n m s r) before (good_opening n m s r opens) a in
    let accepted : refusal_of (view c w) (group_end_to w) ≡ 0 =
    ap (λ (x : ℕ). refusal_of (view c w) (to.write_register x 0x08 4)) g.reads ∙ (accepted_alone (view c w) 0 4).1 in (
      allowed_more (opening n m s r) before (group_end_of c w ∷ []) a (inr refl, tt),
      rw (channel_named c 0x08 low high (omega arith), eq-eqb c c refl),
      rw accepted,
    )
