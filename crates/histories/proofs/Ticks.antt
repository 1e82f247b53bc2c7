-- A tick: what it sends is the last send, it idles nothing, and it keeps the countdowns and the index due in range. Assumes nothing.
use Prim.Native.Nat.{ℕ, ◌+◌, ◌-◌, ◌≤◌, ◌<◌}
use mathlib.Core.Path.{◌≡◌, refl, sym, ◌∙◌, ap}
use mathlib.Core.Logic.{◌⊎◌, inl, inr}
use mathlib.Core.Bool.{Bool, true, false}
use native.Mathlib.Omega.{arith}
use lib.Dec.{leb}
use borrow.Author.Tests.{leb-false}
use Rattle.status.specs.Bits.{bit_at}
use Rattle.sequencer.specs.Words.{at_end, kind_of, stage_after, index_after, condition_of}
use Rattle.sequencer.specs.declared.Kind.{Kind}
use Rattle.sequencer.specs.declared.Kind.TheVariants as kind
use Rattle.sequencer.specs.declared.Stage.{Stage}
use Rattle.sequencer.specs.declared.Stage.TheVariants as stage
use Rattle.std.specs.declared.option.Option.{Option}
use Rattle.std.specs.declared.option.Option.TheVariants.{Some, None}
use Rattle.std.specs.Option.{is_some}
use Rattle.sequencer.specs.declared.LastSend.{LastSend}
use Rattle.sequencer.specs.declared.Sequencer.{Sequencer}
use Rattle.sequencer.specs.Transmissions.{Transmission}
use Rattle.sequencer.specs.Transmissions as transmission
use Rattle.sequencer.specs.Transmissions.{Ticked}
use Rattle.sequencer.specs.Playing.{is_idle, send_of, with_next_reply, quiet, with_left, with_resume, sent_as, sent_next, repeated, advancing, repeating, resuming, ticked_at, ticked}
use Rattle.channel.proofs.Cases.{clash, either, by_test}
use Rattle.histories.specs.Windows.{Window}
use Rattle.histories.specs.Ranges.{CountdownInRange, Countdown, Quiet}

-- the last send, if any, and the replies after it, as the sequencer holds them
abbrev pub send_window : Option LastSend → Window
send_window l = record { sent = is_some l; id = (send_of l).id; replies = (send_of l).replies }

abbrev pub window_of : Sequencer → Window
window_of s = send_window s.last

-- a reply makes no send of none, and leaves its mark
pub reply_leaves : (l : Option LastSend)
    → (is_some (with_next_reply l) ≡ is_some l) × ((send_of (with_next_reply l)).tagged ≡ (send_of l).tagged)
reply_leaves None = (refl, refl)
reply_leaves (Some l) = (refl, refl)

abbrev pub window_sent : ℕ → Transmission → Window → Window
window_sent id transmission.Nothing w = w
window_sent id (transmission.Word word condition) w = record { sent = true; id = id; replies = 0 }

-- what a word latches, if anything: one of D15–D7
abbrev pub Latching : Transmission → Type 0
Latching transmission.Nothing = Unit {0}
Latching (transmission.Word word condition) = (condition ≡ 0) ⊎ ((7 ≤ condition) × (condition ≤ 15))

pub record Plays (n p id : ℕ) (s : Sequencer) (t : Ticked) : Type 0 where
  pub window : window_of t.sequencer ≡ window_sent id t.transmission (window_of s)
  pub latches : Latching t.transmission
  pub stays_quiet : Quiet s → Quiet t.sequencer
  pub index_due : s.index < n → t.sequencer.index < n
  pub countdown : 1 ≤ p → Countdown s → Countdown t.sequencer

countdown_left : (g : Stage) (left resume l : ℕ) → 1 ≤ l → CountdownInRange g left resume → CountdownInRange g l resume
countdown_left stage.Idle left resume l h c = c
countdown_left stage.Starting left resume l h c = h
countdown_left stage.Running left resume l h c = h
countdown_left (stage.Paused k) left resume l h c = (h, c.1)
countdown_left stage.Resuming left resume l h c = (h, c.1)
countdown_left stage.Ended left resume l h c = h

countdown_resume : (g : Stage) (left resume r : ℕ) → 1 ≤ r → CountdownInRange g left resume → CountdownInRange g left r
countdown_resume stage.Idle left resume r h c = c
countdown_resume stage.Starting left resume r h c = c
countdown_resume stage.Running left resume r h c = c
countdown_resume (stage.Paused k) left resume r h c = c
countdown_resume stage.Resuming left resume r h c = (c.0, h)
countdown_resume stage.Ended left resume r h c = c

-- ---- Sending the word due

after_busy : (k : Kind) → is_idle (stage_after k) ≡ false
after_busy kind.Plain = refl
after_busy (kind.Pause k) = refl
after_busy kind.Last = refl

-- what a word may ask for where the end of the buffer is at hand or not: pauses 0 to 4, and another word only before the end
abbrev Asks : Bool → Kind → Type 0
Asks end kind.Plain = end ≡ false
Asks end (kind.Pause k) = (end ≡ false) × (k ≤ 4)
Asks end kind.Last = Unit {0}

asks : (word : ℕ) (end : Bool) → Asks end (kind_of word end)
asks word true = tt
asks word false =
    either (Asks false) (bit_at word 31) tt
    (either (Asks false) (bit_at word 16) (refl, omega arith)
    (either (Asks false) (bit_at word 17) (refl, omega arith)
    (either (Asks false) (bit_at word 18) (refl, omega arith)
    (either (Asks false) (bit_at word 19) (refl, omega arith)
    (either (Asks false) (bit_at word 20) (refl, omega arith) refl)))))

sent_index : (n index : ℕ) (k : Kind) → Asks (at_end n index) k → index < n → index_after k index < n
sent_index n index kind.Plain a h = omega (arith, leb-false n (index + 1) a)
sent_index n index (kind.Pause k) a h = omega (arith, leb-false n (index + 1) a.0)
sent_index n index kind.Last a h = h

sent_countdown : (end : Bool) (p : ℕ) (k : Kind) → Asks end k → 1 ≤ p → CountdownInRange (stage_after k) p 0
sent_countdown end p kind.Plain a h = h
sent_countdown end p (kind.Pause k) a h = (h, a.1)
sent_countdown end p kind.Last a h = h

sent_latches : (end : Bool) (k : Kind) → Asks end k → (condition_of k ≡ 0) ⊎ ((7 ≤ condition_of k) × (condition_of k ≤ 15))
sent_latches end kind.Plain a = inl refl
sent_latches end (kind.Pause k) a = inr (omega arith, omega (arith, a.1))
sent_latches end kind.Last a = inr (omega arith, omega arith)

plays_sent : (s : Sequencer) (due n p id : ℕ) → Plays n p id s (sent_next s due n p id)
unfolding sent_next sent_as
plays_sent s due n p id =
    let k = kind_of due (at_end n s.index) in
    let a = asks due (at_end n s.index) in
    record {
      window = refl;
      latches = sent_latches (at_end n s.index) k a;
      stays_quiet = λ q e. clash (sym (after_busy k) ∙ e);
      index_due = sent_index n s.index k a;
      countdown = λ h c. sent_countdown (at_end n s.index) p k a h;
    }

-- ---- Waiting, repeating, resuming

plays_wait : (s : Sequencer) (n p id l : ℕ) → 1 ≤ l → Plays n p id s (quiet (with_left s l))
plays_wait s n p id l h =
    record {
      window = refl;
      latches = tt;
      stays_quiet = λ q. q;
      index_due = λ i. i;
      countdown = λ g. countdown_left s.stage s.left s.resume l h;
    }

plays_advancing : (s : Sequencer) (due n p id : ℕ) → Plays n p id s (advancing s due n p id)
unfolding advancing
plays_advancing s due n p id =
    by_test (Plays n p id s) (leb s.left 1)
    (λ e. plays_sent s due n p id)
    (λ e. plays_wait s n p id (s.left - 1) (omega (arith, leb-false s.left 1 e)))

plays_repeating : (s : Sequencer) (n p id : ℕ) → is_idle s.stage ≡ false → Plays n p id s (repeating s p id)
unfolding repeating repeated
plays_repeating s n p id busy =
    by_test (Plays n p id s) (leb s.left 1)
    (λ e.
    record {
      window = refl;
      latches = inl refl;
      stays_quiet = λ q i. clash (sym busy ∙ i);
      index_due = λ i. i;
      countdown = λ g. countdown_left s.stage s.left s.resume p g;
    })
    (λ e. plays_wait s n p id (s.left - 1) (omega (arith, leb-false s.left 1 e)))

-- a tick less to the end of the resume, then what the tick does
plays_resume : (s : Sequencer) (n p id r : ℕ) (t : Ticked) → 1 ≤ r → Plays n p id (with_resume s r) t → Plays n p id s t
plays_resume s n p id r t h a =
    record {
      window = a.window;
      latches = a.latches;
      stays_quiet = a.stays_quiet;
      index_due = a.index_due;
      countdown = λ g c. a.countdown g (countdown_resume s.stage s.left s.resume r h c);
    }

plays_quiet : (s : Sequencer) (n p id : ℕ) → Plays n p id s (quiet s)
plays_quiet s n p id = record { window = refl; latches = tt; stays_quiet = λ q. q; index_due = λ i. i; countdown = λ g c. c }

plays_resuming : (s : Sequencer) (due n p id : ℕ) → is_idle s.stage ≡ false → Plays n p id s (resuming s due n p id)
unfolding resuming
plays_resuming s due n p id busy =
    let u = with_resume s (s.resume - 1) in
    by_test (Plays n p id s) (leb s.resume 1)
    (λ e. plays_sent s due n p id)
    (λ e.
    let more : 1 ≤ s.resume - 1 = omega (arith, leb-false s.resume 1 e) in
    by_test (Plays n p id s) (leb s.resume 10)
    (λ f. plays_resume s n p id (s.resume - 1) (quiet u) more (plays_quiet u n p id))
    (λ f. plays_resume s n p id (s.resume - 1) (repeating u p id) more (plays_repeating u n p id busy)))

pub plays_ticked : (s : Sequencer) (due n p id : ℕ) → Plays n p id s (ticked s due n p id)
unfolding ticked
plays_ticked s due n p id = go s.stage refl
  where
    go : (g : Stage) → s.stage ≡ g → Plays n p id s (ticked_at g s due n p id)
    go stage.Idle e = plays_quiet s n p id
    go stage.Starting e = plays_advancing s due n p id
    go stage.Running e = plays_advancing s due n p id
    go (stage.Paused k) e = plays_repeating s n p id (ap is_idle e)
    go stage.Resuming e = plays_resuming s due n p id (ap is_idle e)
    go stage.Ended e = plays_repeating s n p id (ap is_idle e)
