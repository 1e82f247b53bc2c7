-- What the last tick reports, tick by tick: the sequencer just before each, and whether it answered a frame. Assumes nothing.
use Prim.Native.Nat.{ℕ, zero, suc, ◌+◌, ◌-◌, ◌*◌, ◌≤◌, ◌<◌}
use mathlib.Core.Path.{◌≡◌, refl, sym, ap, subst, ◌∙◌}
use mathlib.Core.Bool.{Bool, true, false, cond}
use native.Mathlib.Omega.{arith}
use native.Mathlib.Nat.{sub-zero}
use lib.Dec.{leb}
use borrow.Author.Tests.{le-leb, lt-leb}
use Rattle.status.specs.Bits.{bit_at}
use Rattle.registers.specs.Map.{group_end_event, tag_event}
use Rattle.sequencer.specs.declared.Stage.{Stage}
use Rattle.sequencer.specs.declared.Stage.TheVariants as stage
use Rattle.sequencer.specs.declared.Sequencer.{Sequencer}
use Rattle.sequencer.specs.Transmissions.{Ticked}
use Rattle.sequencer.specs.Transmissions as transmission
use Rattle.sequencer.specs.Playing.{with_left, is_idle, ticked, ticked_at, quiet}
use Rattle.sequencer.specs.Playing as seq
use Rattle.sequencer.specs.Runs.{next, ticks, sends, advances, holds}
use Rattle.sequencer.proofs.Steps.{advances_wait}
use Rattle.sequencer.proofs.Moves.{moved}
use Rattle.tick_outcome.specs.declared.TickOutcome.{TickOutcome}
use Rattle.tick_outcome.specs.declared.TickOutcome.TheVariants as tick
use Rattle.tick_outcome.specs.Outcomes.{silence, silence_at, outcome}
use Rattle.command_frames.specs.declared.CommandFrames.{CommandFrames}
use Rattle.command_frames.specs.Commanding.{is_due}
use Rattle.channel_core.specs.Results as reason
use Rattle.channel_core.specs.Answers.{Answer, is_frame, reason_of}
use Rattle.channel_core.specs.Answers as ans
use Rattle.channel_core.specs.Behaviour.{ended_if, tick_of, tick_outcome_of}
use Rattle.channel.specs.OneChannel.{OneChannel, transition, response, refusal_of, answer, query, last_tick}
use Rattle.channel.specs.OneChannel as call
use Rattle.channel.proofs.Cases.{clash}
use Rattle.timing.specs.Ticking.{one_tick, after, on_tick, word_at, period, between, answer_on, frame_of, played, plays, NextSetpoint, Resumes}
use Rattle.timing.specs.Timing.{command, event_call, triggered_by, delay}
use Rattle.timing.specs.Outcomes.{Reports, NoneDue, Armed, StartReports, ResumeReports}
use Rattle.timing.specs.Outcomes as the
use Rattle.timing.proofs.Bridge.{tick_transition, tick_response, after_suc, after_with, between_none, on_tick_lem}
use Rattle.timing.proofs.Calls.{tag_if, ended_armed}
use Rattle.timing.proofs.Starts.{start_by_command, start_by_event, command_started, event_started}
use Rattle.timing.proofs.Series.{countdown, held, held_stays}
use Rattle.timing.proofs.Resuming.{Taken, event_taken, vme_taken}

-- ---- One tick

-- what is said right after a tick
told_next : (p : OneChannel) (lent : ℕ) → lent ≡ p.n * 64
    → response (transition p (call.tick lent)) (query last_tick 0 0) ≡ ans.last_tick (reason_of (outcome (is_frame (response p (call.tick lent))) p.channel.sequencer))
unfolding response refusal_of answer tick_of tick_outcome_of
told_next p lent e =
    ap (λ (q : OneChannel). ans.last_tick (reason_of q.channel.outcome)) (tick_transition p lent e)
    ∙ ap (λ (a : Answer). ans.last_tick (reason_of (outcome (is_frame a) p.channel.sequencer))) (sym (tick_response p lent e))

told_after : (o : OneChannel) (k : ℕ)
    → response (after o (suc k)) (query last_tick 0 0) ≡ ans.last_tick (reason_of (outcome (is_frame (response (after o k) (one_tick o))) (after o k).channel.sequencer))
told_after o k =
    ap (λ (p : OneChannel). response p (query last_tick 0 0)) (after_suc o k)
    ∙ told_next (after o k) (o.n * 64) (ap (λ (p : OneChannel). p.n * 64) (sym (after_with o k)))

-- so after tick k: by what it answered and the sequencer before it
reports : (o : OneChannel) (k : ℕ) (x : TickOutcome) → 1 ≤ k → outcome (is_frame (on_tick o k)) (played o (k - 1)) ≡ x → Reports o k (reason_of x)
unfolding on_tick
reports o k x some e =
    let same : suc (k - 1) ≡ k = omega arith in
    subst (λ (j : ℕ). Reports o j (reason_of x)) same
    (told_after o (k - 1)
    ∙ ap (λ (p : OneChannel). ans.last_tick (reason_of (outcome (is_frame (on_tick o k)) p.channel.sequencer))) (after_with o (k - 1))
    ∙ ap (λ (y : TickOutcome). ans.last_tick (reason_of y)) e)

pub frame_sent : the.FrameSent
unfolding outcome
frame_sent o k some e = reports o k tick.Sent some (rw e)

-- a tick that sends no setpoint is silent, where no command frame is due
reports_silent : (o : OneChannel) (k : ℕ) (x : TickOutcome) → 1 ≤ k → NoneDue o → on_tick o k ≡ between o k → silence (played o (k - 1)) ≡ x → Reports o k (reason_of x)
unfolding outcome
reports_silent o k x some none e s =
    reports o k x some (ap (λ (a : Answer). outcome (is_frame a) (played o (k - 1))) (e ∙ between_none o k none) ∙ s)

reports_sent : (o : OneChannel) (k : ℕ) → 1 ≤ k → (p : OneChannel) (word : ℕ) → on_tick o k ≡ frame_of p word → Reports o k reason.sent
reports_sent o k some p word e = frame_sent o k some (ap is_frame e)

-- silent and armed: by the stage
silence_at_lem : (s : Sequencer) (x : Stage) → s.armed ≡ true → s.stage ≡ x → silence s ≡ silence_at x s
unfolding silence
silence_at_lem s x armed at = ap (λ (b : Bool). cond b (silence_at s.stage s) tick.Disarmed) armed ∙ ap (λ (y : Stage). silence_at y s) at

-- ---- The sequencer before each tick

module _ (words : ℕ → ℕ) (n p id : ℕ) where
  armed_stays : (s : Sequencer) (k : ℕ) → (ticks words n p id s k).armed ≡ s.armed
  unfolding ticks
  armed_stays s zero = refl
  armed_stays s (suc k) =
      let t = ticks words n p id s k in
      (moved t (words t.index) n p id).armed ∙ armed_stays s k

  -- starting or running: the countdown alone goes down
  counts_down : (s : Sequencer) → advances s.stage ≡ true → (k : ℕ) → k < s.left → ticks words n p id s k ≡ with_left s (s.left - k)
  unfolding ticks
  counts_down s h zero less = rw (sub-zero s.left)
  counts_down s h (suc k) less =
      let e : s.left - k ≡ suc (s.left - suc k) = omega arith in
      ap (λ (t : Sequencer). (next words n p id t).sequencer) (counts_down s h k (omega arith) ∙ ap (with_left s) e)
      ∙ ap (λ (t : Ticked). t.sequencer) (advances_wait words n p id s h (s.left - suc k) (omega arith))

-- of a channel
armed_kept : (o : OneChannel) (k : ℕ) → (played o k).armed ≡ o.channel.sequencer.armed
armed_kept o k = armed_stays (word_at o) o.n (period o) o.channel.registers.id o.channel.sequencer k

counted : (o : OneChannel) → advances o.channel.sequencer.stage ≡ true → (k : ℕ) → k < o.channel.sequencer.left
    → played o k ≡ with_left o.channel.sequencer (o.channel.sequencer.left - k)
counted o h k less = counts_down (word_at o) o.n (period o) o.channel.registers.id o.channel.sequencer h k less

-- ---- Start

module _ (o : OneChannel) (s : Sequencer) (d : ℕ) (e : o.channel.sequencer ≡ seq.started s d) (armed : Armed o) (none : NoneDue o)
    (setpoint : NextSetpoint o (d + 10) 0) where
  left_is : o.channel.sequencer.left ≡ d + 10
  unfolding seq.started
  left_is = ap (λ (q : Sequencer). q.left) e

  at_start : o.channel.sequencer.stage ≡ stage.Starting
  unfolding seq.started
  at_start = ap (λ (q : Sequencer). q.stage) e

  -- the tick k, with so many left before it
  start_silent : (k : ℕ) → 1 ≤ k → k < d + 10 → (few : Bool) → leb (d + 10 - (k - 1)) 10 ≡ few → Reports o k (reason_of (cond few tick.StartGap tick.StartDelay))
  start_silent k some less few h =
      let c = counted o (ap advances at_start) (k - 1) (omega (arith, left_is)) in
      reports_silent o k (cond few tick.StartGap tick.StartDelay) some none (setpoint.silent k some less)
      (silence_at_lem (played o (k - 1)) stage.Starting (armed_kept o (k - 1) ∙ armed) (ap (λ (t : Sequencer). t.stage) c ∙ at_start)
      ∙ ap (λ (l : ℕ). cond (leb l 10) tick.StartGap tick.StartDelay) (ap (λ (t : Sequencer). t.left) c ∙ ap (λ (l : ℕ). l - (k - 1)) left_is)
      ∙ ap (λ (b : Bool). cond b tick.StartGap tick.StartDelay) h)

  start_reports : StartReports o d
  start_reports =
      record {
        delayed = λ k some few. start_silent k some (omega arith) false (lt-leb (d + 10 - (k - 1)) 10 (omega arith));
        gap = λ k past less. start_silent k (omega arith) less true (le-leb (d + 10 - (k - 1)) 10 (omega arith));
        sent = reports_sent o (d + 10) (omega arith) o (word_at o 0) setpoint.sent;
      }

pub start_by_command_reports : the.StartByCommandReports
unfolding seq.started
start_by_command_reports o value armed on none =
    let e = command_started o value armed on in
    start_reports (transition o (command o value)) (tag_if (bit_at value 3) (ended_if (bit_at value 2) o.channel).sequencer) 0 e (ap (λ (q : Sequencer). q.armed) e ∙ ended_armed (bit_at value 2) o.channel ∙ armed) none
    (start_by_command o value armed on)

pub start_by_event_reports : the.StartByEventReports
unfolding seq.started
start_by_event_reports o code armed on none =
    let e = event_started o code armed on in
    start_reports (transition o (event_call o code))
    (tag_if (triggered_by o tag_event code) (ended_if (triggered_by o group_end_event code) o.channel).sequencer) (delay o 0) e
    (ap (λ (q : Sequencer). q.armed) e ∙ ended_armed (triggered_by o group_end_event code) o.channel ∙ armed) none
    (start_by_event o code armed on)

-- ---- Resume

module _ (o r : OneChannel) (d : ℕ) (t : Taken o r d) (armed : Armed o) (none : NoneDue o) where
  h : Resumes o r d
  h = t.resumes

  same : NoneDue r
  same = ap (λ (f : CommandFrames). is_due f.waiting) t.same_commands ∙ none

  -- silent on tick k, with so many of the resume left before it
  resume_silent : (k : ℕ) → 1 ≤ k → k < d + 10 → on_tick r k ≡ between o k → (few : Bool) → leb (d + 10 - (k - 1)) 10 ≡ few
      → Reports r k (reason_of (cond few tick.ResumeGap tick.BetweenEdges))
  resume_silent k some less e few f =
      let is = after_with r (k - 1) in
      reports_silent r k (cond few tick.ResumeGap tick.BetweenEdges) some same (e ∙ between_none o k none ∙ sym (between_none r k same))
      (silence_at_lem (played r (k - 1)) stage.Resuming (armed_kept r (k - 1) ∙ t.same_armed ∙ armed)
      (ap (λ (p : OneChannel). p.channel.sequencer.stage) (sym is) ∙ h.under_way (k - 1) (omega arith))
      ∙ ap (λ (l : ℕ). cond (leb l 10) tick.ResumeGap tick.BetweenEdges)
      (ap (λ (p : OneChannel). p.channel.sequencer.resume) (sym is) ∙ t.counts (k - 1) (omega arith))
      ∙ ap (λ (b : Bool). cond b tick.ResumeGap tick.BetweenEdges) f)

  resume_reports : ResumeReports o r d
  resume_reports =
      record {
        repeated = λ k some few beat. reports_sent r k some o _ ((h.repeats k some few).on beat);
        between = λ k some few off.
            resume_silent k some (omega arith) ((h.repeats k some few).off off) false (lt-leb (d + 10 - (k - 1)) 10 (omega arith));
        gap = λ k past less. resume_silent k (omega arith) less (h.silent k past less) true (le-leb (d + 10 - (k - 1)) 10 (omega arith));
        sent = reports_sent r (d + 10) (omega arith) o _ h.sent;
      }

pub resume_by_event_reports : the.ResumeByEventReports
resume_by_event_reports o code k only low high on at some armed none =
    resume_reports o (transition o (event_call o code)) (delay o k) (event_taken o code k only low high on at some) armed none

pub resume_by_command_reports : the.ResumeByCommandReports
resume_by_command_reports o value only on at some armed none =
    resume_reports o (transition o (command o value)) 0 (vme_taken o value only on at some) armed none

-- ---- Running, held, idle

pub running_reports : the.RunningReports
running_reports o at armed none = (
  λ k some less.
      let c = counted o (ap advances at) (k - 1) (omega arith) in
      reports_silent o k tick.BetweenEdges some none ((countdown o (ap advances at) (omega arith)).silent k some less)
      (silence_at_lem (played o (k - 1)) stage.Running (armed_kept o (k - 1) ∙ armed) (ap (λ (t : Sequencer). t.stage) c ∙ at)),
  λ some. reports_sent o o.channel.sequencer.left some o _ (countdown o (ap advances at) some).sent,
)

pub held_reports : the.HeldReports
held_reports o at some armed none k first =
    let r = held o at some k first in (
      λ beat. reports_sent o k first o _ (r.on beat),
      λ off.
          let same = ap (λ (p : OneChannel). p.channel.sequencer.stage) (sym (after_with o (k - 1))) ∙ (held_stays o at some (k - 1)).same_stage in
          reports_silent o k tick.BetweenEdges first none (r.off off)
          (silence_at_lem (played o (k - 1)) o.channel.sequencer.stage (armed_kept o (k - 1) ∙ armed) same
          ∙ held_silence o.channel.sequencer.stage (played o (k - 1)) at),
    )
  where
    held_silence : (x : Stage) (s : Sequencer) → holds x ≡ true → silence_at x s ≡ tick.BetweenEdges
    held_silence stage.Idle s h = clash h
    held_silence stage.Starting s h = clash h
    held_silence stage.Running s h = clash h
    held_silence (stage.Paused k) s h = refl
    held_silence stage.Resuming s h = clash h
    held_silence stage.Ended s h = refl

-- an idle channel's ticks move nothing
idle_stays : (o : OneChannel) → o.channel.sequencer.stage ≡ stage.Idle → (k : ℕ)
    → (played o k ≡ o.channel.sequencer) × (plays o (suc k) ≡ transmission.Nothing)
unfolding ticks sends ticked
idle_stays o at zero =
    let q = o.channel.sequencer in
    (refl, ap (λ (x : Stage). (ticked_at x q (word_at o q.index) o.n (period o) o.channel.registers.id).transmission) at)
idle_stays o at (suc k) =
    let q = o.channel.sequencer in
    let words = word_at o in
    let h = (idle_stays o at k).0 in
    let e : (t : Sequencer) → t ≡ q → next words o.n (period o) o.channel.registers.id t ≡ quiet q
    = λ t same. ap (λ (s : Sequencer). next words o.n (period o) o.channel.registers.id s) same
    ∙ ap (λ (x : Stage). ticked_at x q (words q.index) o.n (period o) o.channel.registers.id) at in
    let moved = ap (λ (t : Ticked). t.sequencer) (e (played o k) h) in
    (moved, ap (λ (t : Ticked). t.transmission) (e (played o (suc k)) moved))

is_idle_lem : (x : Stage) → is_idle x ≡ true → x ≡ stage.Idle
is_idle_lem stage.Idle h = refl
is_idle_lem stage.Starting h = clash h
is_idle_lem stage.Running h = clash h
is_idle_lem (stage.Paused k) h = clash h
is_idle_lem stage.Resuming h = clash h
is_idle_lem stage.Ended h = clash h

pub idle_reports : the.IdleReports
unfolding silence
idle_reports o h none k some =
    let q = o.channel.sequencer in
    let at = is_idle_lem q.stage h in
    let s : suc (k - 1) ≡ k = omega arith in
    let quiet_on : on_tick o k ≡ between o k
    = on_tick_lem o k some ∙ ap (answer_on o k) (subst (λ (j : ℕ). plays o j ≡ transmission.Nothing) s (idle_stays o at (k - 1)).1) in
    let same = (idle_stays o at (k - 1)).0 in (
      λ armed.
          reports_silent o k tick.Idle some none quiet_on (ap silence same ∙ silence_at_lem q stage.Idle armed at),
      λ off.
          reports_silent o k tick.Disarmed some none quiet_on
          (ap silence same ∙ ap (λ (b : Bool). cond b (silence_at q.stage q) tick.Disarmed) off),
    )

pub outcome_laws : the.OutcomeLaws
outcome_laws =
    record {
      frame_sent = frame_sent;
      start_by_event = start_by_event_reports;
      start_by_command = start_by_command_reports;
      resume_by_event = resume_by_event_reports;
      resume_by_command = resume_by_command_reports;
      running = running_reports;
      held = held_reports;
      idle = idle_reports;
    }
