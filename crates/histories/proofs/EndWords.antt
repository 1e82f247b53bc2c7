-- Which readback buffer is active and what each call writes to it, told by answers; the end word stands behind the retired readbacks, and it stays until
-- that buffer is active again. Assumes nothing.
use Prim.Native.Nat.{ℕ, ◌*◌, ◌≤◌, ◌<◌}
use mathlib.Core.Path.{◌≡◌, refl, sym, ◌∙◌, ap, ap₂, subst, subst₂}
use mathlib.Core.Bool.{Bool, true, false, cond, not, not-not}
use mathlib.Core.List.{List, [], ◌∷◌}
use native.Mathlib.Omega.{arith}
use lib.ListN.{length, get_or}
use lib.Dec.{eqb}
use lib.Seq.{get_or-set_other}
use borrow.Author.Tests.{eq-eqb}
use Rattle.status.specs.Bits.{word_of_bits}
use Rattle.status.proofs.Laws.{word_bit}
use Rattle.register_map.specs.AccessRule.{channel_access}
use Rattle.registers.specs.Map.{readback_place, loaded}
use Rattle.readback.specs.declared.Readbacks.{Readbacks}
use Rattle.readback.specs.Storing.{place_of}
use Rattle.readback.specs.Storing as rb
use Rattle.readback.proofs.Laws.{end_after_stored}
use Rattle.command_frames.specs.declared.CommandFrames.{CommandFrames}
use Rattle.channel_core.specs.State as state
use Rattle.channel_core.specs.Answers.{part_length}
use Rattle.channel_registers.specs.Calls.{register_refusal, read_value}
use Rattle.channel.specs.OneChannel.{ChannelCall, OneChannel, one_channel, refusal_of, answer, transition, response, transitions}
use Rattle.channel.proofs.Cases.{clash}
use Rattle.histories.specs.History.{entry, history, Told, told, ends_group, resets}
use Rattle.histories.specs.Keeping.{Kept, nothing_kept, switched, kept_with, stored_by, kept_after, kept_since, kept_over}
use Rattle.histories.specs.Statuses.{ReadsBit}
use Rattle.histories.specs.Ranges.{ChannelInRange}
use Rattle.histories.specs.EndWords.{second_active_after, second_active_since, second_active_over, ActiveTold, word_written_by, with_written, WordsTold, InactiveUnchanged, GroupEndAccepted, group_retired_after, group_retired_since, EndWordStands, StaysRetired, EndWordStays}
use Rattle.histories.proofs.Depths.{depths_step, depths_kept}
use Rattle.histories.proofs.Buffered.{told_at, active_in, next_place, grown, buffered_step}
use Rattle.histories.proofs.Parts.{opened_range}
use Rattle.histories.proofs.Ranges.{stays, channel_step, channel_from, Ordered, ordered_opened, ordered_step}
use Rattle.histories.proofs.Commands.{told_from, told_next, commands_told}
use Rattle.histories.proofs.Holding.{HoldsIn, holds_opened}
use Rattle.histories.proofs.Keeping.{holds_step, holds_over, words_long, retires, retires_kept}

-- ---- Which buffer is active

active_from : (o : OneChannel) (ks : List ChannelCall) → ChannelInRange o.m o.channel
    → active_in (transitions o ks).channel ≡ second_active_since (active_in o.channel) (history o ks)
unfolding second_active_since
active_from o [] r = refl
active_from o (k ∷ ks) r =
    active_from (transition o k) ks (channel_step o k r)
    ∙ ap (λ (b : Bool). second_active_since b (history (transition o k) ks)) ((buffered_step o k).active r.registers)

active_over : (n m : ℕ) (setpoints readbacks : List ℕ) (ks : List ChannelCall)
    → active_in (transitions (one_channel n m setpoints readbacks) ks).channel ≡ second_active_over n m setpoints readbacks ks
unfolding state.opened
active_over n m setpoints readbacks ks = active_from (one_channel n m setpoints readbacks) ks (opened_range m)

reads_active : (o : OneChannel) {second : Bool} → active_in o.channel ≡ second → ReadsBit 8 o 0x0e second
unfolding channel_access response refusal_of answer read_value loaded
reads_active o e =
    record {
      word = word_of_bits o.channel.registers.active;
      answers = refl;
      bit_is = word_bit o.channel.registers.active readback_place ∙ e;
    }

pub active_told : ActiveTold
active_told n m setpoints readbacks ks = reads_active (transitions (one_channel n m setpoints readbacks) ks) (active_over n m setpoints readbacks ks)

-- ---- What a call writes

pub words_told : WordsTold
words_told n m setpoints readbacks ks k =
    let start = one_channel n m setpoints readbacks in
    let o = transitions start ks in
    let by : Bool → ℕ → ℕ → CommandFrames → List ℕ =
    λ second depth count f. with_written o.readbacks (place_of second depth count) (word_written_by (record { entry = entry o k; commands = f })) in
    (buffered_step o k).written
    ∙ ap (λ (b : Bool). by b o.m o.channel.readbacks.stored o.channel.commands) (active_over n m setpoints readbacks ks)
    ∙ ap (λ (x : ℕ). by (second_active_over n m setpoints readbacks ks) x o.channel.readbacks.stored o.channel.commands) (depths_kept start ks).1
    ∙ ap (λ (x : ℕ). by (second_active_over n m setpoints readbacks ks) m x o.channel.commands) (holds_over n m setpoints readbacks ks).stored
    ∙ ap (by (second_active_over n m setpoints readbacks ks) m (length (kept_over n m setpoints readbacks ks).current)) (commands_told n m setpoints readbacks ks)

-- a place of one buffer is none of the other's
other_place : (second : Bool) (m i k : ℕ) → i < m → k < m → place_of second m i ≡ place_of (not second) m k → ⊥
other_place true m i k a b e = absurd (omega arith)
other_place false m i k a b e = absurd (omega arith)

written_other : (s words : List ℕ) (place at : ℕ) → (at ≡ place → ⊥) → get_or (with_written s place words) at 0 ≡ get_or s at 0
written_other s [] place at ne = refl
written_other s (word ∷ words) place at ne = get_or-set_other s place at word 0 ne

module _ (m : ℕ) (deep : 1 ≤ m) where
  few_stored : (o : OneChannel) → o.m ≡ m → ChannelInRange o.m o.channel → o.channel.readbacks.stored < m
  few_stored o d r = omega (arith, d, deep, r.readbacks.stored)

  inactive_step : (o : OneChannel) (k : ChannelCall) (second : Bool) (index : ℕ) → o.m ≡ m → ChannelInRange o.m o.channel
      → active_in o.channel ≡ not second → index < m
      → get_or (transition o k).readbacks (place_of second m index) 0 ≡ get_or o.readbacks (place_of second m index) 0
  inactive_step o k second index d r a within =
      let stored = o.channel.readbacks.stored in
      let words = word_written_by (told_at o k) in
      let same = ap (λ (b : Bool). place_of b o.m stored) a ∙ ap (λ (x : ℕ). place_of (not second) x stored) d in
      ap (λ (s : List ℕ). get_or s (place_of second m index) 0) (buffered_step o k).written
      ∙ written_other o.readbacks words (next_place o.channel o.m) (place_of second m index)
      (λ e. other_place second m index stored within (few_stored o d r) (e ∙ same))

pub inactive_unchanged : InactiveUnchanged
inactive_unchanged o k index h within =
    inactive_step o.m h.readback_depth o k (not (active_in o.channel)) index refl h.channel (sym (not-not (active_in o.channel))) within

-- ---- A Group End

pub group_end_accepted : GroupEndAccepted
unfolding refusal_of register_refusal channel_access
group_end_accepted o code word =
    let fits : eqb (o.m * 8) (o.m * 8) ≡ true = eq-eqb (o.m * 8) (o.m * 8) refl in
    (rw fits, rw fits)

module _ (m : ℕ) (deep : 1 ≤ m) (o : OneChannel) (k : ChannelCall) (d : o.m ≡ m) (long : length o.readbacks ≡ m * 2)
    (r : ChannelInRange o.m o.channel) (ends : ends_group (entry o k) ≡ true)
  where
    end_word_lem : get_or (transition o k).readbacks (place_of (active_in o.channel) m o.channel.readbacks.stored) 0 ≡ 0x2000000
    end_word_lem =
        let place = next_place o.channel o.m in
        ap (λ (x : ℕ). get_or (transition o k).readbacks (place_of (active_in o.channel) x o.channel.readbacks.stored) 0) (sym d)
        ∙ ap (λ (s : List ℕ). get_or s place 0)
        ((buffered_step o k).written ∙ ap (λ (b : Bool). with_written o.readbacks place (cond b (0x2000000 ∷ []) (stored_by (told_at o k)))) ends)
        ∙ end_after_stored o.channel.readbacks o.readbacks (active_in o.channel) o.m (omega (arith, d, deep)) (omega (arith, d, long))
        r.readbacks.stored

-- ---- Behind the retired part

module _ (m : ℕ) (deep : 1 ≤ m) where
  -- at the index of the number of words that have retired, in the buffer that is not active
  abbrev Behind : OneChannel → Kept → Type 0
  Behind o g = get_or o.readbacks (place_of (not (active_in o.channel)) m (length g.retired)) 0 ≡ 0x2000000

  behind_step : (o : OneChannel) (k : ChannelCall) (g : Kept) (retired : Bool) → o.m ≡ m → length o.readbacks ≡ m * 2
      → ChannelInRange o.m o.channel → HoldsIn o g → (retired ≡ true → Behind o g)
      → group_retired_after retired (entry o k) ≡ true → Behind (transition o k) (kept_after g (told_at o k))
  behind_step o k g retired d long r h behind = go (resets (entry o k)) (ends_group (entry o k)) refl refl
    where
      active : (again ends : Bool) → resets (entry o k) ≡ again → ends_group (entry o k) ≡ ends
          → active_in (transition o k).channel ≡ cond again false (cond ends (not (active_in o.channel)) (active_in o.channel))
      active again ends p q =
          (buffered_step o k).active r.registers
          ∙ ap₂ (λ (x y : Bool). cond x false (cond y (not (active_in o.channel)) (active_in o.channel))) p q

      -- the places by the channel's own counts
      by : OneChannel → Bool → ℕ → Type 0
      by x second count = get_or x.readbacks (place_of second m count) 0 ≡ 0x2000000

      go : (again ends : Bool) → resets (entry o k) ≡ again → ends_group (entry o k) ≡ ends → cond again false (cond ends true retired) ≡ true
          → Behind (transition o k) (cond again nothing_kept (cond ends (switched g) (kept_with g (stored_by (told_at o k)))))
      go true ends p q e = clash e
      go false true p q e =
          let second = ap not (active false true p q) ∙ not-not (active_in o.channel) in
          subst₂ (by (transition o k)) (sym second) h.stored (end_word_lem m deep o k d long r q)
      go false false p q e =
          let few : length g.retired < m = omega (arith, d, deep, r.readbacks.retired, sym h.retired) in
          subst₂ (by (transition o k)) (sym (ap not (active false false p q))) refl
          (inactive_step m deep o k (not (active_in o.channel)) (length g.retired) d r (sym (not-not (active_in o.channel))) few ∙ behind e)

  behind_from : (o : OneChannel) (ks : List ChannelCall) (g : Kept) (retired : Bool) → o.m ≡ m → length o.readbacks ≡ m * 2
      → Ordered o.channel → ChannelInRange o.m o.channel → HoldsIn o g → (retired ≡ true → Behind o g)
      → group_retired_since retired (history o ks) ≡ true → Behind (transitions o ks) (kept_since g (told_from o ks))
  unfolding group_retired_since kept_since told
  behind_from o [] g retired d long a r h behind e = behind e
  behind_from o (k ∷ ks) g retired d long a r h behind e =
      subst (λ (ts : List Told). Behind (transitions (transition o k) ks) (kept_since g ts)) (sym (told_next o k ks a.apart))
      (behind_from (transition o k) ks (kept_after g (told_at o k)) (group_retired_after retired (entry o k)) ((depths_step o k).1 ∙ d)
      ((stays o k).readback_words ∙ long) (ordered_step o k a) (channel_step o k r) (holds_step g o k r h)
      (behind_step o k g retired d long r h behind) e)

pub end_word_stands : EndWordStands
unfolding state.opened
end_word_stands n m setpoints readbacks deep long ks retired =
    let start = one_channel n m setpoints readbacks in
    let o = transitions start ks in
    let g = kept_over n m setpoints readbacks ks in
    let r = channel_from start ks (opened_range m) in
    let behind = behind_from m deep start ks nothing_kept false refl long ordered_opened (opened_range m) (holds_opened m readbacks) (λ e. clash e) retired in
    record {
      second = not (active_in o.channel);
      active = reads_active o (sym (not-not (active_in o.channel)));
      count = length g.retired;
      counted = (retires_kept n m setpoints readbacks long ks).1;
      within = omega (arith, deep, (depths_kept start ks).1, r.readbacks.retired, sym (holds_over n m setpoints readbacks ks).retired);
      word = behind;
    }

-- ---- Until that buffer is active again

retired_stays : (m : ℕ) (deep : 1 ≤ m) (second : Bool) (index : ℕ) → index < m → (o : OneChannel) (ks : List ChannelCall)
    → o.m ≡ m → ChannelInRange o.m o.channel → active_in o.channel ≡ not second → StaysRetired second (history o ks)
    → get_or (transitions o ks).readbacks (place_of second m index) 0 ≡ get_or o.readbacks (place_of second m index) 0
retired_stays m deep second index within o [] d r a s = refl
retired_stays m deep second index within o (k ∷ ks) d r a s =
    retired_stays m deep second index within (transition o k) ks ((depths_step o k).1 ∙ d) (channel_step o k r)
    ((buffered_step o k).active r.registers ∙ ap (λ (b : Bool). second_active_after b (entry o k)) a ∙ s.0) s.1
    ∙ inactive_step m deep o k second index d r a within

pub end_word_stays : EndWordStays
end_word_stays n m setpoints readbacks deep long before group_end later ends retired =
    let start = one_channel n m setpoints readbacks in
    let o = transitions start before in
    let second = second_active_over n m setpoints readbacks before in
    let d = (depths_kept start before).1 in
    let r = channel_from start before (opened_range m) in
    let a = active_over n m setpoints readbacks before in
    let g = kept_over n m setpoints readbacks before in
    let h = holds_over n m setpoints readbacks before in
    let few : length g.current < m = omega (arith, sym h.stored, few_stored m deep o d r) in
    let full = words_long start before ∙ long in
    let d' = (depths_step o group_end).1 ∙ d in
    let b = buffered_step o group_end in
    let old = o.channel.readbacks in
    let words = stored_by (told_at o group_end) in
    let switched =
    b.active r.registers ∙ ap₂ (λ (x y : Bool). cond x false (cond y (not (active_in o.channel)) (active_in o.channel))) (b.once ends) ends
    ∙ ap not a in
    let counts = b.counts ∙ ap₂ (λ (x y : Bool). cond x rb.opened (cond y (rb.group_ended old) (grown old words))) (b.once ends) ends in
    let kept = holds_step g o group_end r h in
    record {
      second = second;
      active = reads_active (transition o group_end) switched;
      count = length g.current;
      counted =
          (retires (transition o group_end) m _ d' ((stays o group_end).readback_words ∙ full) (channel_step o group_end r) kept).1
          ∙ ap part_length (sym kept.retired ∙ ap (λ (c : Readbacks). c.retired) counts ∙ h.stored);
      within = few;
      word =
          retired_stays m deep second (length g.current) few (transition o group_end) later d' (channel_step o group_end r) switched retired
          ∙ ap₂ (λ (b : Bool) (x : ℕ). get_or (transition o group_end).readbacks (place_of b m x) 0) (sym a) (sym h.stored)
          ∙ end_word_lem m deep o group_end d full r ends;
    }
