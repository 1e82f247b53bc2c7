-- Arming, Start, Resume and Tag keep both counts and the last send, idle no channel, and keep the countdowns in range. Assumes nothing.
use Prim.Native.Nat.{ℕ, ◌≤◌, ◌<◌}
use mathlib.Core.Path.{◌≡◌, refl, ◌∙◌, subst}
use mathlib.Core.Bool.{Bool, true, false}
use native.Mathlib.Omega.{arith}
use Rattle.sequencer.specs.declared.Stage.{Stage}
use Rattle.sequencer.specs.declared.Stage.TheVariants as stage
use Rattle.sequencer.specs.declared.Sequencer.{Sequencer}
use Rattle.sequencer.specs.Playing.{is_idle, armed, started, loaded_resume, resumed, tagged, with_tag}
use Rattle.sequencer.proofs.Moves.{resumed_either}
use Rattle.channel_core.specs.declared.Channel.{Channel}
use Rattle.channel_core.specs.Behaviour.{started_if, resumed_if, tagged_if, resumed_on, event_of, commanded, ended_if}
use Rattle.channel_core.specs.Behaviour as core
use Rattle.status.specs.Bits.{bit_at}
use Rattle.registers.specs.Map.{triggers_of, group_end_event}
use Rattle.channel.proofs.Cases.{clash, either}
use Rattle.histories.specs.Ranges.{CountdownInRange, Countdown}

pub record Keeps (s t : Sequencer) : Type 0 where
  pub count_kept : t.count ≡ s.count
  pub missing_kept : t.missing ≡ s.missing
  pub last_kept : t.last ≡ s.last
  pub idle_kept : is_idle t.stage ≡ true → is_idle s.stage ≡ true
  pub index_kept : (n : ℕ) → 1 ≤ n → s.index < n → t.index < n
  pub countdown_kept : Countdown s → Countdown t

pub keeps_all : (s : Sequencer) → Keeps s s
keeps_all s = record { count_kept = refl; missing_kept = refl; last_kept = refl; idle_kept = λ e. e; index_kept = λ n h i. i; countdown_kept = λ p. p }

pub keeps_both : {s t u : Sequencer} → Keeps s t → Keeps t u → Keeps s u
keeps_both a b =
    record {
      count_kept = b.count_kept ∙ a.count_kept;
      missing_kept = b.missing_kept ∙ a.missing_kept;
      last_kept = b.last_kept ∙ a.last_kept;
      idle_kept = λ e. a.idle_kept (b.idle_kept e);
      index_kept = λ n h i. b.index_kept n h (a.index_kept n h i);
      countdown_kept = λ p. b.countdown_kept (a.countdown_kept p);
    }

pub keeps_armed : (s : Sequencer) → Keeps s (armed s)
unfolding armed
keeps_armed s =
    record {
      count_kept = refl;
      missing_kept = refl;
      last_kept = refl;
      idle_kept = λ e. e;
      index_kept = λ n h i. i;
      countdown_kept = λ p. p;
    }

keeps_started : (s : Sequencer) (delay : ℕ) → Keeps s (started s delay)
unfolding started
keeps_started s delay =
    record {
      count_kept = refl;
      missing_kept = refl;
      last_kept = refl;
      idle_kept = λ e. clash e;
      index_kept = λ n h i. h;
      countdown_kept = λ p. omega arith;
    }

-- what is loaded in a pause counts on
loaded_countdown : (k left resume : ℕ) (g : Stage) → g ≡ stage.Paused k → CountdownInRange g left resume → 1 ≤ left
loaded_countdown k left resume g e p = (subst (λ (x : Stage). CountdownInRange x left resume) e p).0

keeps_loaded : (s : Sequencer) (k delay : ℕ) → s.stage ≡ stage.Paused k → Keeps s (loaded_resume s delay)
keeps_loaded s k delay e =
    record {
      count_kept = refl;
      missing_kept = refl;
      last_kept = refl;
      idle_kept = λ f. clash f;
      index_kept = λ n h i. i;
      countdown_kept = λ p. (loaded_countdown k s.left s.resume s.stage e p, omega arith);
    }

keeps_resumed : (s : Sequencer) (pause delay : ℕ) → Keeps s (resumed s pause delay)
keeps_resumed s pause delay = resumed_either (Keeps s) s pause delay (keeps_loaded s pause delay) (keeps_all s)

keeps_channel_started : (c : Channel) (delay : ℕ) → Keeps c.sequencer (core.started c delay).sequencer
unfolding core.started
keeps_channel_started c delay =
    either (λ (x : Channel). Keeps c.sequencer x.sequencer) c.sequencer.armed (keeps_started c.sequencer delay) (keeps_all c.sequencer)

keeps_started_if : (on : Bool) (c : Channel) (delay : ℕ) → Keeps c.sequencer (started_if on c delay).sequencer
unfolding started_if
keeps_started_if true c delay = keeps_channel_started c delay
keeps_started_if false c delay = keeps_all c.sequencer

keeps_resumed_if : (on : Bool) (c : Channel) (pause delay : ℕ) → Keeps c.sequencer (resumed_if on c pause delay).sequencer
unfolding resumed_if
keeps_resumed_if true c pause delay = keeps_resumed c.sequencer pause delay
keeps_resumed_if false c pause delay = keeps_all c.sequencer

keeps_tag : (s : Sequencer) → Keeps s (with_tag s true)
keeps_tag s =
    record { count_kept = refl; missing_kept = refl; last_kept = refl; idle_kept = λ e. e; index_kept = λ n h i. i; countdown_kept = λ p. p }

keeps_tagged_if : (on : Bool) (c : Channel) → Keeps c.sequencer (tagged_if on c).sequencer
unfolding tagged_if tagged
keeps_tagged_if true c = either (Keeps c.sequencer) c.sequencer.armed (keeps_tag c.sequencer) (keeps_all c.sequencer)
keeps_tagged_if false c = keeps_all c.sequencer

-- Start, Resume, then Tag: what one event or command does after its Group End, if any
pub keeps_event : (c : Channel) (user code : ℕ)
    → Keeps (ended_if (triggers_of c.registers group_end_event code) c).sequencer (event_of c user code).sequencer
unfolding event_of resumed_on
keeps_event c user code =
    keeps_both (keeps_started_if _ _ _)
    (keeps_both (keeps_resumed_if _ _ _ _)
    (keeps_both (keeps_resumed_if _ _ _ _)
    (keeps_both (keeps_resumed_if _ _ _ _) (keeps_both (keeps_resumed_if _ _ _ _) (keeps_tagged_if _ _)))))

pub keeps_command : (c : Channel) (value : ℕ) → Keeps (ended_if (bit_at value 2) c).sequencer (commanded c value).sequencer
unfolding commanded
keeps_command c value = keeps_both (keeps_started_if _ _ _) (keeps_both (keeps_resumed_if _ _ _ _) (keeps_tagged_if _ _))
