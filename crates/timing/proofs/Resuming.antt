-- Resume: which one is taken, which changes nothing, and what ticks answer after it. Assumes nothing.
use Prim.Native.Nat.{ℕ, zero, suc, ◌+◌, ◌-◌, ◌≤◌, ◌<◌}
use mathlib.Core.Path.{◌≡◌, refl, sym, ap, subst, ◌∙◌}
use mathlib.Core.Bool.{Bool, true, false, cond}
use native.Mathlib.Omega.{arith}
use lib.Dec.{leb}
use borrow.Author.Tests.{lt-leb}
use Rattle.status.specs.Bits.{bit_at}
use Rattle.registers.specs.declared.Registers.{Registers}
use Rattle.registers.specs.Map.{triggers_of, delay_of, tag_event}
use Rattle.sequencer.specs.declared.Stage.{Stage}
use Rattle.sequencer.specs.declared.Stage.TheVariants as stage
use Rattle.sequencer.specs.declared.Sequencer.{Sequencer}
use Rattle.sequencer.specs.Transmissions.{Ticked}
use Rattle.sequencer.specs.Playing.{resumed, loaded_resume, with_resume, with_tag, quiet, repeating, resuming, sent_next, ticked, ticked_at}
use Rattle.sequencer.specs.Runs.{next, ticks}
use Rattle.sequencer.proofs.Steps.{repeating_same}
use Rattle.sequencer.proofs.Laws as laws
use Rattle.sequencer.proofs.Moves.{resume_taken}
use Rattle.channel_core.specs.declared.Channel.{Channel}
use Rattle.channel_core.specs.State.{with_sequencer}
use Rattle.channel_core.specs.Behaviour.{ended_if, ended_words, started_if, resumed_if, tagged_if, resumed_on, event_of, event_words, commanded, command_words}
use Rattle.channel.specs.OneChannel.{OneChannel, transition, with_channel}
use Rattle.timing.specs.Ticking.{after, word_at, period, answer_on, Resumes}
use Rattle.timing.specs.Timing.{command, event_call, triggered_by, delay, NeitherEndsNorStarts, NeitherD2NorD0}
use Rattle.timing.specs.Timing as the
use Rattle.timing.proofs.Bridge.{after_with, on_tick_lem, sent_after, repeat}
use Rattle.timing.proofs.Calls.{command_transition, event_transition, resume_nothing, resumes_nothing, tag_if, tagged_channel}
use Rattle.timing.proofs.Series.{period_some}

-- ---- An event or command that neither ends nor starts

event_resumes : (o : OneChannel) (code : ℕ) → NeitherEndsNorStarts o code
    → transition o (event_call o code)
    ≡ with_channel o (tagged_if (triggered_by o tag_event code) (resumed_on o.channel.registers o.channel o.user code))
unfolding event_of event_words ended_if ended_words started_if
event_resumes o code only = event_transition o code ∙ rw only.0 (rw only.1)

command_resumes : (o : OneChannel) (value : ℕ) → NeitherD2NorD0 value
    → transition o (command o value) ≡ with_channel o (tagged_if (bit_at value 3) (resumed_if (bit_at value 1) o.channel 0 0))
unfolding commanded command_words ended_if ended_words started_if
command_resumes o value only = command_transition o value ∙ rw only.0 (rw only.1)

-- ---- Resumes that change nothing

-- two stages that a resume tells apart
apart : {A : Type 0} {g : Stage} (j k : ℕ) → g ≡ stage.Paused j → g ≡ stage.Paused k → (j ≡ k → ⊥) → A
apart j k a b differ = absurd (differ (cc))

not_resuming : {A : Type 0} {g : Stage} (k : ℕ) → g ≡ stage.Resuming → g ≡ stage.Paused k → A
not_resuming k a b = absurd (let z : ◌≡◌ {A = ℕ} 0 1 = cc in omega arith)

pub event_ignored : the.EventIgnored
event_ignored o code only h =
    event_resumes o code only
    ∙ ap (λ (c : Channel). with_channel o (tagged_if (triggered_by o tag_event code) c)) (resumes_nothing o.channel.registers o.channel o.user code h)

pub command_ignored : the.CommandIgnored
command_ignored o value only h =
    command_resumes o value only
    ∙ ap (λ (c : Channel). with_channel o (tagged_if (bit_at value 3) c)) (resume_nothing (bit_at value 1) o.channel 0 0 h)

pub other_pause : the.OtherPause
other_pause o code j only at off =
    event_ignored o code only
    (λ k some few e.
    let same : k ≡ j = cc in
    ap (λ (x : ℕ). triggered_by o x code) same ∙ off (omega arith) (omega arith))

pub vme_pause : the.VmePause
vme_pause o code only at = other_pause o code 0 only at (λ some few. absurd (omega arith))

pub not_by_d1 : the.NotByD1
not_by_d1 o value j only at some = command_ignored o value only (λ e. apart j 0 at e (omega arith))

pub meanwhile : the.Meanwhile
meanwhile o at =
    (λ code only. event_ignored o code only (λ k some few e. not_resuming k at e), λ value only. command_ignored o value only (λ e. not_resuming 0 at e))

-- ---- The resume that is taken

-- the channel with resume k loaded
abbrev loaded : Channel → ℕ → ℕ → Channel
loaded c k d = with_sequencer c (resumed c.sequencer k d)

-- resume k with its code on, in pause k; resume j before it, and resume j after it
module _ (r : Registers) (c : Channel) (user code k : ℕ) (on : triggers_of r k code ≡ true)
    (at : c.sequencer.stage ≡ stage.Paused k) where
  itself : resumed_if (triggers_of r k code) c k (delay_of r k user) ≡ loaded c k (delay_of r k user)
  unfolding resumed_if
  itself = rw on

  before : (j : ℕ) → (j ≡ k → ⊥) → resumed_if (triggers_of r j code) c j (delay_of r j user) ≡ c
  before j differ = resume_nothing (triggers_of r j code) c j (delay_of r j user) (λ a. apart j k a at differ)

  later : (j : ℕ)
      → resumed_if (triggers_of r j code) (loaded c k (delay_of r k user)) j (delay_of r j user) ≡ loaded c k (delay_of r k user)
  later j =
      resume_nothing (triggers_of r j code) (loaded c k (delay_of r k user)) j (delay_of r j user)
      (λ a. not_resuming j (ap (λ s. s.stage) (resume_taken c.sequencer k (delay_of r k user) at)) a)

taken : (r : Registers) (c : Channel) (user code k : ℕ) → 1 ≤ k → k ≤ 4 → triggers_of r k code ≡ true
    → c.sequencer.stage ≡ stage.Paused k → resumed_on r c user code ≡ loaded c k (delay_of r k user)
unfolding resumed_on
taken r c user code zero some few on at = absurd (omega arith)
taken r c user code (suc zero) some few on at =
    rw (itself r c user code 1 on at, later r c user code 1 on at 2, later r c user code 1 on at 3) (later r c user code 1 on at 4)
taken r c user code (suc (suc zero)) some few on at =
    rw (before r c user code 2 on at 1 (omega arith), itself r c user code 2 on at, later r c user code 2 on at 3)
    (later r c user code 2 on at 4)
taken r c user code (suc (suc (suc zero))) some few on at =
    rw (before r c user code 3 on at 1 (omega arith), before r c user code 3 on at 2 (omega arith), itself r c user code 3 on at)
    (later r c user code 3 on at 4)
taken r c user code (suc (suc (suc (suc zero)))) some few on at =
    rw (before r c user code 4 on at 1 (omega arith), before r c user code 4 on at 2 (omega arith), before r c user code 4 on at 3 (omega arith))
    (itself r c user code 4 on at)
taken r c user code (suc (suc (suc (suc (suc k))))) some few on at = absurd (omega arith)

command_taken : (c : Channel) (on : Bool) → on ≡ true → resumed_if on c 0 0 ≡ loaded c 0 0
unfolding resumed_if
command_taken c on h = rw h

-- the resume counts down in its stage to the tick that sends
module _ (words : ℕ → ℕ) (n p id : ℕ) where
  way_at : (t : Sequencer) (x : Bool)
      → ((cond x (quiet t) (repeating t p id)).sequencer.stage ≡ t.stage)
      × ((cond x (quiet t) (repeating t p id)).sequencer.resume ≡ t.resume)
  way_at t true = (refl, refl)
  way_at t false = ((repeating_same t p id).stage_same, (repeating_same t p id).resume_same)

  way_turn : (s : Sequencer) → s.stage ≡ stage.Resuming → 1 < s.resume
      → next words n p id s
      ≡ cond (leb s.resume 10) (quiet (with_resume s (s.resume - 1))) (repeating (with_resume s (s.resume - 1)) p id)
  unfolding ticked resuming
  way_turn s at more =
      ap (λ (g : Stage). ticked_at g s (words s.index) n p id) at
      ∙ ap
      (λ (e : Bool).
      cond e (sent_next s (words s.index) n p id)
      (cond (leb s.resume 10) (quiet (with_resume s (s.resume - 1))) (repeating (with_resume s (s.resume - 1)) p id)))
      (lt-leb s.resume 1 more)

  way : (s : Sequencer) (d j : ℕ) → j < d + 10
      → ((ticks words n p id (loaded_resume s d) j).stage ≡ stage.Resuming)
      × ((ticks words n p id (loaded_resume s d) j).resume ≡ d + 10 - j)
  unfolding ticks
  way s d zero h = (refl, omega arith)
  way s d (suc j) h =
      let t = ticks words n p id (loaded_resume s d) j in
      let k = way s d j (omega arith) in
      let e = way_turn t k.0 (omega (arith, k.1)) in
      let v = way_at (with_resume t (t.resume - 1)) (leb t.resume 10) in
      let f : t.resume - 1 ≡ d + 10 - suc j = omega (arith, k.1) in
      (ap (λ (x : Ticked). x.sequencer.stage) e ∙ v.0 ∙ k.0, ap (λ (x : Ticked). x.sequencer.resume) e ∙ v.1 ∙ f)

-- what a resume that is taken comes to; its countdown, and what it leaves of the channel
pub record Taken (o r : OneChannel) (delay : ℕ) : Type 0 where
  pub resumes : Resumes o r delay
  pub counts : (j : ℕ) → j < delay + 10 → (after r j).channel.sequencer.resume ≡ delay + 10 - j
  pub same_armed : r.channel.sequencer.armed ≡ o.channel.sequencer.armed
  pub same_commands : r.channel.commands ≡ o.channel.commands

-- whatever its tag
resumes : (o : OneChannel) (k d : ℕ) (tag : Bool) → o.channel.sequencer.stage ≡ stage.Paused k → 1 ≤ o.channel.sequencer.left
    → Taken o (with_channel o (with_sequencer o.channel (resumed (with_tag o.channel.sequencer tag) k d))) d
resumes o k d tag at some =
    let q = with_tag o.channel.sequencer tag in
    let r = with_channel o (with_sequencer o.channel (resumed q k d)) in
    let l = laws.resume (word_at o) o.n (period o) o.channel.registers.id q k d at some (period_some o) in
    let taken_at = resume_taken q k d at in
    let way_to = way (word_at o) o.n (period o) o.channel.registers.id q d in
    record {
      resumes = record {
        repeats = λ j a b. repeat o r q.word q.left j a refl refl (l.0 j b);
        silent = λ j a b. on_tick_lem r j (omega arith) ∙ ap (answer_on r j) (l.1 j a b);
        sent = on_tick_lem r (d + 10) (omega arith) ∙ ap (answer_on r (d + 10)) l.2;
        done = sent_after r (d + 10) q.index l.3;
        under_way = λ j h.
            ap (λ (x : OneChannel). x.channel.sequencer.stage) (after_with r j)
            ∙ ap (λ (s : Sequencer). (ticks (word_at o) o.n (period o) o.channel.registers.id s j).stage) taken_at
            ∙ (way_to j h).0;
      };
      counts = λ j h.
          ap (λ (x : OneChannel). x.channel.sequencer.resume) (after_with r j)
          ∙ ap (λ (s : Sequencer). (ticks (word_at o) o.n (period o) o.channel.registers.id s j).resume) taken_at
          ∙ (way_to j h).1;
      same_armed = ap (λ (s : Sequencer). s.armed) taken_at;
      same_commands = refl;
    }

-- a tag after the resume is the resume of a channel with that tag
tagged_loaded : (on : Bool) (c : Channel) (k d : ℕ) → c.sequencer.stage ≡ stage.Paused k
    → tagged_if on (loaded c k d) ≡ with_sequencer c (resumed (tag_if on c.sequencer) k d)
tagged_loaded on c k d at =
    tagged_channel on (loaded c k d)
    ∙ ap (with_sequencer c) (ap (tag_if on) (resume_taken c.sequencer k d at) ∙ sym (resume_taken (tag_if on c.sequencer) k d at))

pub event_taken : (o : OneChannel) (code k : ℕ) → NeitherEndsNorStarts o code → 1 ≤ k → k ≤ 4 → triggered_by o k code ≡ true
    → o.channel.sequencer.stage ≡ stage.Paused k → 1 ≤ o.channel.sequencer.left → Taken o (transition o (event_call o code)) (delay o k)
event_taken o code k only low high on at some =
    let r = o.channel.registers in
    let t = triggered_by o tag_event code in
    subst (λ (p : OneChannel). Taken o p (delay o k))
    (sym
    (event_resumes o code only
    ∙ ap (λ (c : Channel). with_channel o (tagged_if t c)) (taken r o.channel o.user code k low high on at)
    ∙ ap (with_channel o) (tagged_loaded t o.channel k (delay o k) at)))
    (resumes o k (delay o k) _ at some)

pub vme_taken : (o : OneChannel) (value : ℕ) → NeitherD2NorD0 value → bit_at value 1 ≡ true
    → o.channel.sequencer.stage ≡ stage.Paused 0 → 1 ≤ o.channel.sequencer.left → Taken o (transition o (command o value)) 0
vme_taken o value only on at some =
    subst (λ (p : OneChannel). Taken o p 0)
    (sym
    (command_resumes o value only
    ∙ ap (λ (c : Channel). with_channel o (tagged_if (bit_at value 3) c)) (command_taken o.channel (bit_at value 1) on)
    ∙ ap (with_channel o) (tagged_loaded (bit_at value 3) o.channel 0 0 at)))
    (resumes o 0 0 _ at some)

pub resume_by_event : the.ResumeByEvent
resume_by_event o code k only low high on at some = (event_taken o code k only low high on at some).resumes

pub resume_by_command : the.ResumeByCommand
resume_by_command o value only on at some = (vme_taken o value only on at some).resumes
