-- The rows of resume delays, by the laws of crate `timing`. Assumes nothing.
use Prim.Native.Nat.{ℕ, ◌+◌, ◌-◌, ◌≤◌, ◌<◌}
use mathlib.Core.Path.{◌≡◌, refl, sym, ap, subst, subst₂, ◌∙◌}
use mathlib.Core.Bool.{Bool, true, false}
use lib.Dec.{leb}
use native.Mathlib.Omega.{arith}
use borrow.Author.Tests.{le-leb, lt-leb, leb-true, leb-false}
use Rattle.registers.specs.declared.Registers.{Registers}
use Rattle.registers.specs.Map.{period_of, triggers_of, start_event, group_end_event}
use Rattle.sequencer.specs.declared.Kind.{Kind}
use Rattle.sequencer.specs.declared.Kind.TheVariants as kind
use Rattle.sequencer.specs.Words.{stage_after, index_after}
use Rattle.sequencer.specs.Runs.{kind_at, Beat}
use Rattle.channel.specs.OneChannel.{OneChannel}
use Rattle.timing.specs.Ticking.{after, on_tick, word_at, period, between, frame_of, Keeps, NextSetpoint, Resumes}
use Rattle.timing.specs.Timing.{triggered_by, delay}
use Rattle.timing.proofs.Bridge.{after_keeps, keeps_on, between_add}
use Rattle.timing.proofs.Series.{same_period, same_frame, same_kind}
use Rattle.timing.proofs.Timing.{timing}
use Rattle.examples.specs.Starred.{PauseOne, started, resumed, tick_of, Resume25, Resume0}

-- the channel after tick 10
abbrev paused : OneChannel → OneChannel
paused o = after (started o) 10

module _ (o : OneChannel) (code : ℕ) (h : PauseOne o code) where
  starts : NextSetpoint (started o) 10 0
  starts = timing.start_by_command o 1 h.armed refl

  start_kept : Keeps o (started o)
  start_kept = (timing.start_keeps o).0 1 refl

  kept : Keeps o (paused o)
  kept = keeps_on start_kept (after_keeps (started o) 10)

  -- its word was just sent, and is pause 1
  pause_kind : kind_at (word_at (paused o)) (paused o).n 0 ≡ kind.Pause 1
  pause_kind = same_kind kept 0 ∙ simp (lt-leb o.n 1 (omega (arith, h.deep)), h.last_bit, h.pause_bit_lem)

  ten : period (paused o) ≡ 10
  ten = same_period kept ∙ ap period_of h.clock_code

  left_ten : (paused o).channel.sequencer.left ≡ 10
  left_ten = starts.done.left_is ∙ ten

  same_triggered_by_lem : (k : ℕ) → triggered_by (paused o) k code ≡ triggered_by o k code
  same_triggered_by_lem k = ap (λ (r : Registers). triggers_of r k code) kept.same_registers

  same_delay : delay (paused o) 1 ≡ delay o 1
  same_delay = let k = kept in cc

  loaded : (d : ℕ) → delay o 1 ≡ d → Resumes (paused o) (resumed o code) d
  loaded d e =
      subst (Resumes (paused o) (resumed o code)) (same_delay ∙ e)
      (timing.resume_by_event (paused o) code 1
      (same_triggered_by_lem group_end_event ∙ h.neither_ends_nor_starts.0, same_triggered_by_lem start_event ∙ h.neither_ends_nor_starts.1)
      (omega arith) (omega arith)
      (same_triggered_by_lem 1 ∙ h.resume_1)
      (starts.done.stage_is ∙ ap stage_after pause_kind)
      (omega (arith, left_ten)))

  -- the frame of tick 10, its repeats, and the next
  frame_0 : on_tick (started o) 10 ≡ frame_of o (word_at o 0)
  frame_0 = starts.sent ∙ same_frame start_kept 0

  repeated : frame_of (paused o) (paused o).channel.sequencer.word ≡ frame_of o (word_at o 0)
  repeated = ap (frame_of (paused o)) starts.done.word_is ∙ same_frame kept 0

  frame_1 : frame_of (paused o) (word_at (paused o) (paused o).channel.sequencer.index) ≡ frame_of o (word_at o 1)
  frame_1 =
      ap (λ (i : ℕ). frame_of (paused o) (word_at (paused o) i))
      (starts.done.index_is ∙ ap (λ (k : Kind). index_after k 0) pause_kind)
      ∙ same_frame kept 1

  on_beat : (d j : ℕ) → delay o 1 ≡ d → 1 ≤ j → j ≤ d → Beat 10 10 j → on_tick (resumed o code) j ≡ frame_of o (word_at o 0)
  on_beat d j e a b x =
      ((loaded d e).repeats j a b).on (subst₂ (λ (l p : ℕ). Beat l p j) (sym left_ten) (sym ten) x) ∙ repeated

  off_beat : (d j : ℕ) → delay o 1 ≡ d → 1 ≤ j → j ≤ d → (Beat 10 10 j → ⊥) → on_tick (resumed o code) j ≡ between (paused o) j
  off_beat d j e a b x = ((loaded d e).repeats j a b).off (λ y. x (subst₂ (λ (l p : ℕ). Beat l p j) left_ten ten y))

  -- no setpoint on ticks 1 to 9; later ticks are those after the event
  early : (t : ℕ) → 1 ≤ t → t < 10 → tick_of o code t ≡ between (started o) t
  early t a b = rw (le-leb t 10 (omega arith)) (starts.silent t a b)

  late : (t : ℕ) → 10 < t → tick_of o code t ≡ on_tick (resumed o code) (t - 10)
  late t a = rw (lt-leb t 10 a)

  otherwise : (t : ℕ) → 1 ≤ t → (t ≡ 10 → ⊥) → (10 < t → on_tick (resumed o code) (t - 10) ≡ between (paused o) (t - 10))
      → tick_of o code t ≡ between (started o) t
  otherwise t a b f = go (leb t 10) refl
    where
      go : (x : Bool) → leb t 10 ≡ x → tick_of o code t ≡ between (started o) t
      go true e = early t a (omega (arith, leb-true t 10 e))
      go false e =
          let later = leb-false t 10 e in
          let whole : 10 + (t - 10) ≡ t = omega arith in
          late t later ∙ f later ∙ between_add (started o) 10 (t - 10) (omega arith) ∙ ap (between (started o)) whole

  pub resume_25 : delay o 1 ≡ 25 → Resume25 o code
  resume_25 e =
      record {
        on_10 = frame_0;
        on_20 = on_beat 25 10 e (omega arith) (omega arith) (0, refl);
        on_30 = on_beat 25 20 e (omega arith) (omega arith) (1, refl);
        on_45 = (loaded 25 e).sent ∙ frame_1;
        others = λ t a b n10 n20 n30. otherwise t a n10 (λ c. silent t b n20 n30 c (leb t 35) refl);
      }
    where
      silent : (t : ℕ) → t < 45 → (t ≡ 20 → ⊥) → (t ≡ 30 → ⊥) → 10 < t → (x : Bool) → leb t 35 ≡ x
          → on_tick (resumed o code) (t - 10) ≡ between (paused o) (t - 10)
      silent t b n20 n30 c true f =
          off_beat 25 (t - 10) e (omega arith) (omega (arith, leb-true t 35 f)) (λ (y : Beat 10 10 (t - 10)). omega (arith, y.1, leb-true t 35 f))
      silent t b n20 n30 c false f = (loaded 25 e).silent (t - 10) (omega (arith, leb-false t 35 f)) (omega arith)

  pub resume_0 : delay o 1 ≡ 0 → Resume0 o code
  resume_0 e =
      record {
        on_10 = frame_0;
        on_20 = (loaded 0 e).sent ∙ frame_1;
        others = λ t a b n10. otherwise t a n10 (λ c. (loaded 0 e).silent (t - 10) (omega arith) (omega arith));
      }
