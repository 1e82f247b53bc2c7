-- Which word leaves: the next one a period after a plain word; the kept one on the beat where it is held. Assumes nothing.
use Prim.Native.Nat.{ℕ, zero, suc, ◌+◌, ◌*◌, ◌≤◌, ◌<◌}
use mathlib.Core.Path.{◌≡◌, refl, sym, ap, ap₂, subst, subst₂, ◌∙◌}
use mathlib.Core.Bool.{true}
use lib.Dec.{leb}
use borrow.Author.Tests.{leb-false}
use native.Mathlib.Omega.{arith}
use native.Mathlib.Nat.{add-zero, zero-mul, suc-mul}
use Rattle.registers.specs.declared.Registers.{Registers}
use Rattle.registers.specs.Map.{period_of}
use Rattle.sequencer.specs.declared.Kind.TheVariants as kind
use Rattle.sequencer.specs.Words.{kind_of, at_end}
use Rattle.sequencer.specs.declared.Sequencer.{Sequencer}
use Rattle.sequencer.specs.Transmissions.{Ticked}
use Rattle.sequencer.specs.Playing.{repeating, repeated}
use Rattle.sequencer.specs.Runs.{ticks, kind_at, holds}
use Rattle.sequencer.proofs.Steps.{hold_turn, repeating_same}
use Rattle.sequencer.proofs.Laws as laws
use Rattle.channel.specs.OneChannel.{OneChannel}
use Rattle.channel.proofs.Cases.{by_test}
use Rattle.histories.proofs.Calls as clock
use Rattle.timing.specs.Ticking.{after, word_at, period, frame_of, played, Keeps, Sent, NextSetpoint, Still}
use Rattle.timing.specs.Timing as the
use Rattle.timing.proofs.Bridge.{next_setpoint, repeat, after_keeps, after_add, on_tick_add, between_add, after_with}

pub period_some : (o : OneChannel) → 1 ≤ period o
period_some o = clock.period_some o.channel.registers.clock

pub plain_next : the.PlainNext
plain_next o i sent plain =
    let some = period_some o in
    next_setpoint o (period o) (i + 1) some
    (laws.plain_next (word_at o) o.n (period o) o.channel.registers.id i o.channel.sequencer sent plain some)

pub countdown : the.Countdown
countdown o h some =
    let q = o.channel.sequencer in
    next_setpoint o q.left q.index some (laws.countdown (word_at o) o.n (period o) o.channel.registers.id q h some)

-- what is kept keeps words, period and frames
module _ {o p : OneChannel} (k : Keeps o p) where
  pub same_word : (i : ℕ) → word_at p i ≡ word_at o i
  same_word i = cc

  pub same_period : period p ≡ period o
  same_period = ap (λ (r : Registers). period_of r.clock) k.same_registers

  pub same_frame : (i : ℕ) → frame_of p (word_at p i) ≡ frame_of o (word_at o i)
  same_frame i = cc

  pub same_kind : (i : ℕ) → kind_at (word_at p) p.n i ≡ kind_at (word_at o) o.n i
  same_kind i = ap₂ (λ (w n : ℕ). kind_of w (at_end n i)) (same_word i) k.same_n

-- the next of plain words, x ticks from now
next_at : (o : OneChannel) (i x : ℕ) → Sent (after o x) i → kind_at (word_at o) o.n i ≡ kind.Plain
    → NextSetpoint (after o x) (period o) (i + 1)
next_at o i x sent plain =
    let k = after_keeps o x in
    subst (λ (p : ℕ). NextSetpoint (after o x) p (i + 1)) (same_period k)
    (plain_next (after o x) i sent (same_kind k i ∙ plain))

-- h plain words later
sent_later : (o : OneChannel) (i h : ℕ) → Sent o i → ((g : ℕ) → g < h → kind_at (word_at o) o.n (i + g) ≡ kind.Plain)
    → Sent (after o (h * period o)) (i + h)
unfolding after
sent_later o i zero sent plain =
    subst₂ (λ (k j : ℕ). Sent (after o k) j) (sym (zero-mul (period o))) (sym (add-zero i)) sent
sent_later o i (suc h) sent plain =
    let x = h * period o in
    let q = sent_later o i h sent (λ g less. plain g (omega arith)) in
    let n = next_at o (i + h) x q (plain h (omega arith)) in
    let e : i + h + 1 ≡ i + suc h = omega arith in
    subst₂ Sent (sym (after_add o x (period o)) ∙ ap (after o) (sym (suc-mul h (period o)))) e n.done

pub series : the.Series
series o i h sent plain =
    let x = h * period o in
    let q = sent_later o i h sent (λ g less. plain g (omega arith)) in
    let n = next_at o (i + h) x q (plain h (omega arith)) in (
      λ d a b. on_tick_add o x d a ∙ n.silent d a b ∙ between_add o x d a,
      on_tick_add o x (period o) (period_some o) ∙ n.sent ∙ same_frame (after_keeps o x) (i + h + 1),
    )

pub held : the.Held
held o h loaded j some =
    let q = o.channel.sequencer in
    repeat o o q.word q.left j some refl refl (laws.hold (word_at o) o.n (period o) o.channel.registers.id q h loaded (period_some o) j)

-- after a tick that counts down, or repeats on its last count, ticks are left
left_repeating : (s : Sequencer) (p id : ℕ) → 1 ≤ p → 1 ≤ (repeating s p id).sequencer.left
unfolding repeating repeated
left_repeating s p id some =
    by_test (λ (t : Ticked). 1 ≤ t.sequencer.left) (leb s.left 1) (λ e. some) (λ e. omega (arith, leb-false s.left 1 e))

still : (o : OneChannel) → holds o.channel.sequencer.stage ≡ true → 1 ≤ o.channel.sequencer.left → (j : ℕ)
    → (s : Sequencer) → s ≡ played o j
    → (s.stage ≡ o.channel.sequencer.stage) × (s.index ≡ o.channel.sequencer.index)
    × (s.word ≡ o.channel.sequencer.word) × (1 ≤ s.left)
unfolding ticks
still o h loaded zero s e = rw e (refl, refl, refl, loaded)
still o h loaded (suc j) s e =
    let p = period o in
    let id = o.channel.registers.id in
    let q = played o j in
    let k = still o h loaded j q refl in
    let t = hold_turn (word_at o) o.n p id q (ap holds k.0 ∙ h) in
    let v = repeating_same q p id in
    rw (e ∙ ap (λ (x : Ticked). x.sequencer) t) (
      v.stage_same ∙ k.0,
      v.index_same ∙ k.1,
      v.word_same ∙ k.2,
      left_repeating q p id (period_some o),
    )

pub held_stays : the.HeldStays
held_stays o h loaded j =
    let s = still o h loaded j (played o j) refl in
    subst (Still o) (sym (after_with o j))
    record { same_stage = s.0; same_index = s.1; same_kept = s.2; some_left = s.3 }

pub held_word : the.HeldWord
held_word o i sent stay j some =
    repeat o o (word_at o i) (period o) j some refl refl
    (laws.pause_repeats (word_at o) o.n (period o) o.channel.registers.id i o.channel.sequencer sent stay (period_some o) j)
