-- Ticks in a row of a channel, of any memory, depth and user: a quiet tick only counts down and answers no frame, and so do as many as are quiet.
-- Assumes nothing.
use Prim.Native.Nat.{ℕ, zero, suc, ◌+◌, ◌-◌, ◌≤◌, ◌<◌}
use mathlib.Core.Path.{◌≡◌, refl, sym, ap, subst, ◌∙◌}
use mathlib.Core.Bool.{Bool, true, false, cond, ◌&&◌, and-false, and-eq-true_iff}
use mathlib.Core.List.{List, []}
use native.Mathlib.Omega.{arith}
use native.Mathlib.Nat.{zero-add, add-zero, add-suc, add_assoc}
use native.Mathlib.Numerals.{add-one}
use lib.ListN.{get_or, set}
use lib.Dec.{eqb}
use borrow.Author.Tests.{lt-ltb, ne_eqb, not-true}
use Rattle.status.specs.Bits.{bit_of}
use Rattle.registers.specs.Map.{period_of, second_active}
use Rattle.sequencer.specs.declared.Stage.{Stage}
use Rattle.sequencer.specs.declared.Sequencer.{Sequencer}
use Rattle.sequencer.specs.Transmissions.{Transmission}
use Rattle.sequencer.specs.Transmissions as transmission
use Rattle.sequencer.specs.Playing.{ticked, with_missing, missing_with}
use Rattle.sequencer.specs.Runs.{holds, as_number, missing_after}
use Rattle.sequencer.proofs.Moves.{moved}
use Rattle.tick_outcome.specs.declared.TickOutcome.{TickOutcome}
use Rattle.tick_outcome.specs.declared.TickOutcome.TheVariants as tick
use Rattle.tick_outcome.specs.Outcomes.{outcome}
use Rattle.tick_outcome.proofs.Laws.{outcome_by}
use Rattle.channel_core.specs.declared.Channel.{Channel}
use Rattle.channel_core.specs.Answers.{Answer, is_frame}
use Rattle.channel_core.specs.Answers as ans
use Rattle.channel_core.specs.State.{with_status, with_sequencer, with_outcome, with_commands}
use Rattle.channel_core.specs.Behaviour.{setpoint_place, due_of, played_of, latched_by, send_status, is_setpoint, send_frame, tick_line, advanced_of, tick_outcome_of, tick_of, tick_answer}
use Rattle.command_frames.specs.declared.CommandFrames.{CommandFrames}
use Rattle.command_frames.specs.Commanding.{is_due, with_receiving, command_frame}
use Rattle.command_frames.specs.Commanding as cmd
use Rattle.command_frames.proofs.Laws.{ticked_idle, ticked_due}
use Rattle.channel_core.proofs.Laws.{line_none}
use Rattle.channel_ticks.specs.Quiet.{quiet_ticks, channel_quiet_ticks, after_quiet}
use Rattle.channel_ticks.specs.Ticks.{condition_between, ticks_of, answer_after, frames_in, frames_at, with_frame, sends_next, command_first, command_leaves, command_frames_first, with_command_frame, receiving_after, after_ticks, sent_if}
use Rattle.channel_ticks.proofs.QuietTicks as sequencer
use Rattle.channel_ticks.proofs.Conditions.{condition_after, Repeats, between_same, alone_between, repeats_next, condition_next}
use Rattle.channel_ticks.proofs.Once.{latched_next, missing_next, ticked_counting, quiet_counting, quiet_keeps, quiet_same}

-- a channel after k quiet ticks: its sequencer's countdowns lowered
abbrev pub waited : Channel → ℕ → Channel
waited c k = with_sequencer c (after_quiet c.sequencer k)

-- no command frame leaves on the next tick
abbrev pub NoneDue : Channel → Type 0
NoneDue c = is_due c.commands.waiting ≡ false

-- Replies go to E4–FA until a setpoint leaves.
pub receiving_next : (on : Bool) (f f' : ℕ) (x : Transmission) → f' ≡ f + as_number x
    → receiving_after on f' ≡ cond (is_setpoint x) false (receiving_after on f)
receiving_next on f f' transmission.Nothing e =
    let same : f' ≡ f = omega arith in ap (receiving_after on) same
receiving_next on f f' (transmission.Word word k) e = rw (lt-ltb 0 f' (omega arith))

-- the condition of the words of ticks in a row
abbrev pub between : Channel → Sequencer → ℕ
between c q = condition_between c.sequencer.stage q.stage

module _ (s : List ℕ) (n user : ℕ) where
  -- The channel after k ticks, but for what is said of them: that says nothing of the next.
  unfoldable pub advanced : Channel → ℕ → Channel
  advanced c zero = c
  advanced c (suc k) = advanced_of (advanced c k) s n user

  -- what the last of k ticks did; of none, what is said before them
  abbrev pub last_outcome : Channel → ℕ → TickOutcome
  last_outcome c zero = c.outcome
  last_outcome c (suc k) = tick_outcome_of (advanced c k) s n user

  -- What is said of the tick before changes no tick.
  module _ (c : Channel) (x : TickOutcome) where
    answer_same : tick_answer (with_outcome c x) s n user ≡ tick_answer c s n user
    unfolding tick_answer due_of
    answer_same = refl

    tick_same : tick_of (with_outcome c x) s n user ≡ with_outcome (advanced_of c s n user) (tick_outcome_of c s n user)
    unfolding tick_of tick_outcome_of tick_answer due_of
    tick_same = refl

  -- So single ticks come to the channel after them, with what the last did.
  pub ticks_are : (c : Channel) (k : ℕ) → ticks_of c s n user k ≡ with_outcome (advanced c k) (last_outcome c k)
  unfolding ticks_of advanced
  ticks_are c zero = refl
  ticks_are c (suc k) =
      ap (λ (d : Channel). tick_of d s n user) (ticks_are c k) ∙ tick_same (advanced c k) (last_outcome c k)

  pub answer_is : (c : Channel) (k : ℕ) → tick_answer (ticks_of c s n user k) s n user ≡ tick_answer (advanced c k) s n user
  answer_is c k = ap (λ (d : Channel). tick_answer d s n user) (ticks_are c k) ∙ answer_same (advanced c k) (last_outcome c k)

  -- After k quiet ticks, one more is quiet too: it answers no frame and gives the channel after k + 1 of them.
  pub quiet_next : (c : Channel) (k : ℕ) → NoneDue c → k < quiet_ticks c.sequencer
      → (advanced_of (waited c k) s n user ≡ waited c (suc k)) × (tick_answer (waited c k) s n user ≡ ans.none)
  unfolding tick_answer
  quiet_next c k none h =
      let e = sequencer.quiet_next c.sequencer (due_of (waited c k) s n user) n (period_of c.registers.clock) c.registers.id k h in (
        ap
            (λ (y : transmission.Ticked).
            with_commands (with_sequencer (with_status c (send_status c.status (waited c k).sequencer.last y.transmission)) y.sequencer)
            (cmd.ticked c.commands (is_setpoint y.transmission))) e
            ∙ ap (with_commands (waited c (suc k))) (ticked_idle c.commands false none),
        ap (λ (y : transmission.Ticked). tick_line c.registers.id c.commands y.transmission) e
            ∙ line_none c.registers.id c.commands none transmission.Nothing,
      )

  -- What k ticks of a channel come to: the channel after them, how many answered a frame, and a list with these frames in their places.
  pub record After (c : Channel) (l : List ℕ) (k : ℕ) (d : Channel) (f : ℕ) (m : List ℕ) : Type 0 where
    pub channel_is : advanced c k ≡ d
    pub frames_are : frames_in c s n user k ≡ f
    pub captured_is : frames_at c s n user k l ≡ m

  module _ (c : Channel) (l : List ℕ) where
    pub after_none : After c l 0 c 0 l
    unfolding advanced frames_in frames_at
    after_none = record { channel_is = refl; frames_are = refl; captured_is = refl }

    -- one tick more
    pub after_next : (k : ℕ) {d e : Channel} {a : Answer} {f : ℕ} {m : List ℕ} → After c l k d f m
        → advanced_of d s n user ≡ e → tick_answer d s n user ≡ a → After c l (suc k) e (f + cond (is_frame a) 1 0) (with_frame a k m)
    unfolding advanced frames_in frames_at
    after_next k {f} {m} x p q =
        let answer = answer_is c k ∙ ap (λ (d : Channel). tick_answer d s n user) x.channel_is ∙ q in
        record {
          channel_is = ap (λ (d : Channel). advanced_of d s n user) x.channel_is ∙ p;
          frames_are = simp (answer, x.frames_are);
          captured_is = simp (answer, x.captured_is);
        }

    -- j quiet ones more
    after_quiet_lem : (k : ℕ) {d : Channel} {f : ℕ} {m : List ℕ} → After c l k d f m → NoneDue d → (j : ℕ)
        → j ≤ quiet_ticks d.sequencer → After c l (k + j) (waited d j) f m
    after_quiet_lem k {d} x none zero h = rw (add-zero k, sequencer.quiet_none d.sequencer) x
    after_quiet_lem k {d} {f} x none (suc j) h =
        let q = quiet_next d j none (omega arith) in
        rw (add-suc k j, ← add-zero f) (after_next (k + j) (after_quiet_lem k x none j (omega arith)) q.0 q.1)

  -- As many ticks as are quiet give the channel with its countdowns lowered at once, and none of them answers a frame.
  pub quiet_run : (c : Channel) (k : ℕ) → k ≤ channel_quiet_ticks c
      → (advanced c k ≡ waited c k) × (frames_in c s n user k ≡ 0)
  unfolding channel_quiet_ticks
  quiet_run c k = go (is_due c.commands.waiting) refl
    where
      after : (j : ℕ) → After c [] j (waited c j) 0 [] → (advanced c j ≡ waited c j) × (frames_in c s n user j ≡ 0)
      after j x = (x.channel_is, x.frames_are)

      go : (due : Bool) → is_due c.commands.waiting ≡ due → k ≤ channel_quiet_ticks c
          → (advanced c k ≡ waited c k) × (frames_in c s n user k ≡ 0)
      go true e h =
          let few = rw e at h in
          let z : k ≡ 0 = omega (arith, few) in
          rw z (after 0 (rw (sequencer.quiet_none c.sequencer) (after_none c [])))
      go false e h = after k (rw zero-add at (after_quiet_lem c [] 0 (after_none c []) e k (rw e at h)))

  module _ (c : Channel) where
    -- No tick answers more than one frame.
    frames_few : (k : ℕ) → frames_in c s n user k ≤ k
    unfolding frames_in
    frames_few zero = omega arith
    frames_few (suc k) = go (is_frame (answer_after c s n user k)) (frames_few k)
      where
        go : (b : Bool) {f : ℕ} → f ≤ k → f + cond b 1 0 ≤ suc k
        go true h = omega arith
        go false h = omega arith

  -- the channel before any of them: itself, as its count is at most 255
  abbrev first : Channel → Channel
  first c = after_ticks c 0 (with_missing c.sequencer 0) 0

  first_same : (c : Channel) → c.sequencer.missing ≤ 255 → first c ≡ c
  first_same c few =
      ap (λ (x : ℕ). with_sequencer c (with_missing c.sequencer x)) (let e : missing_with c.sequencer.missing 0 ≡ c.sequencer.missing = omega arith in e)

  -- After k ticks with no command frame due, what the loop over them holds: their sequencer, which counts what they found missing, and whose stage
  -- tells the condition of their words, their frames, and the list.
  pub record Held (c : Channel) (l : List ℕ) (k : ℕ) (q : Sequencer) (f : ℕ) (m : List ℕ) : Type 0 where
    pub after : After (first c) l k (after_ticks c (between c q) q f) f m
    pub repeats : Repeats c.sequencer.stage q

  -- what the last of them did
  abbrev pub Said : Channel → ℕ → TickOutcome → Type 0
  Said c k x = x ≡ last_outcome (first c) k

  pub held_none : (c : Channel) (l : List ℕ) → Held c l 0 (with_missing c.sequencer 0) 0 l
  held_none c l =
      record {
        after =
            subst (λ (j : ℕ). After (first c) l 0 (after_ticks c j (with_missing c.sequencer 0) 0) 0 l) (sym (between_same c.sequencer.stage))
            (after_none (first c) l);
        repeats = λ e. e;
      }

  pub held_after : {c : Channel} {l : List ℕ} {k : ℕ} {q : Sequencer} {f : ℕ} {m : List ℕ} → Held c l k q f m
      → c.sequencer.missing ≤ 255 → After c l k (after_ticks c (between c q) q f) f m
  held_after {c} {l} {k} {q} {f} {m} x few =
      subst (λ (b : Channel). After b l k (after_ticks c (between c q) q f) f m) (first_same c few) x.after

  -- the channel that single ticks come to, with what the last of them did
  pub held_ticks : {c : Channel} {l : List ℕ} {k : ℕ} {q : Sequencer} {f : ℕ} {m : List ℕ} {x : TickOutcome} → Held c l k q f m
      → Said c k x
      → c.sequencer.missing ≤ 255 → ticks_of c s n user k ≡ with_outcome (after_ticks c (between c q) q f) x
  held_ticks {c} {l} {k} {q} {f} {m} {x} h e few =
      ticks_are c k
      ∙ ap (λ (d : Channel). with_outcome d (last_outcome c k)) (held_after h few).channel_is
      ∙ ap (with_outcome (after_ticks c (between c q) q f)) (sym (e ∙ ap (λ (d : Channel). last_outcome d k) (first_same c few)))

  pub after_few : {c d : Channel} {l : List ℕ} {k f : ℕ} {m : List ℕ} → After c l k d f m → f ≤ k
  after_few {c} {d} {l} {k} x = omega (arith, x.frames_are, frames_few c k)

  pub held_few : {c : Channel} {l : List ℕ} {k : ℕ} {q : Sequencer} {f : ℕ} {m : List ℕ} → Held c l k q f m → f ≤ k
  held_few x = after_few x.after

  -- j quiet ones more
  pub held_quiet : (c : Channel) (l : List ℕ) (k j : ℕ) {q q' : Sequencer} {f f' : ℕ} {m : List ℕ}
      → Held c l k q f m → NoneDue c → j ≤ quiet_ticks q → q' ≡ after_quiet q j → f' ≡ f → Held c l (k + j) q' f' m
  held_quiet c l k j {q} {q'} {f} {f'} {m} x none h b g =
      let condition = between c q in
      let count = missing_with c.sequencer.missing q.missing in
      let kept = quiet_keeps q count j in
      let same : waited (after_ticks c condition q f) j ≡ after_ticks c condition (after_quiet q j) f
      = ap (with_sequencer (after_ticks c condition q f)) (quiet_counting q count j)
      ∙ ap
      (λ (i : ℕ).
      with_commands
      (with_sequencer (with_status c (latched_by c.status i condition)) (with_missing (after_quiet q j) (missing_with c.sequencer.missing i)))
      (with_receiving c.commands (receiving_after c.commands.receiving f)))
      (sym kept.0) in
      rw (b, g)
      (record {
        after =
            subst (λ (d : Channel). After (first c) l (k + j) d f m)
            (same ∙ ap (λ (g : Stage). after_ticks c (condition_between c.sequencer.stage g) (after_quiet q j) f) (sym kept.1))
            (after_quiet_lem (first c) l k x.after none j (subst (λ (i : ℕ). j ≤ i) (sym (quiet_same q count j)) h));
        repeats = λ e. ap holds kept.1 ∙ x.repeats e;
      })

  frame_setpoint : (id : ℕ) (x : Transmission) → is_frame (send_frame id x) ≡ is_setpoint x
  frame_setpoint id transmission.Nothing = refl
  frame_setpoint id (transmission.Word word k) = refl

  number : (id : ℕ) (x : Transmission) → cond (is_frame (send_frame id x)) 1 0 ≡ as_number x
  number id transmission.Nothing = refl
  number id (transmission.Word word k) = refl

  -- the next tick, by the sequencer that the loop holds
  module _ (c : Channel) (condition : ℕ) (q : Sequencer) (f due p id : ℕ)
      (none : NoneDue c)
      (d : due ≡ get_or s (setpoint_place (user - 1) (bit_of (second_active c.registers (user - 1))) n q.index) 0)
      (e : p ≡ period_of c.registers.clock)
      (i : id ≡ c.registers.id)
    where
      abbrev next : transmission.Ticked
      next = ticked q due n p id

      next_is : played_of (after_ticks c condition q f) s n user
          ≡ record {
            sequencer = with_missing next.sequencer (missing_after next.transmission q.last (missing_with c.sequencer.missing q.missing));
            transmission = next.transmission;
          }
      unfolding due_of
      next_is = sym (simp (d, e, i)) ∙ ticked_counting q (missing_with c.sequencer.missing q.missing) due n p id

      next_answer : tick_answer (after_ticks c condition q f) s n user ≡ send_frame c.registers.id next.transmission
      unfolding tick_answer
      next_answer =
          let w = with_receiving c.commands (receiving_after c.commands.receiving f) in
          ap (λ (z : transmission.Ticked). tick_line c.registers.id w z.transmission) next_is ∙ line_none c.registers.id w none next.transmission

      -- what it does
      next_outcome : tick_outcome_of (after_ticks c condition q f) s n user ≡ outcome (is_setpoint next.transmission) q
      unfolding tick_outcome_of
      next_outcome =
          ap (λ (a : Answer). outcome (is_frame a) (after_ticks c condition q f).sequencer) next_answer
          ∙ ap (λ (b : Bool). outcome b (after_ticks c condition q f).sequencer) (frame_setpoint c.registers.id next.transmission)
          ∙ outcome_by (is_setpoint next.transmission) q (after_ticks c condition q f).sequencer refl refl refl refl

  -- one more, whatever it sends
  pub held_tick : (c : Channel) (l : List ℕ) (k : ℕ) {q q' : Sequencer} {f f' : ℕ} {m m' : List ℕ} (due p id : ℕ)
      → Held c l k q f m
      → NoneDue c
      → due ≡ get_or s (setpoint_place (user - 1) (bit_of (second_active c.registers (user - 1))) n q.index) 0
      → p ≡ period_of c.registers.clock
      → id ≡ c.registers.id
      → q' ≡ (ticked q due n p id).sequencer
      → f' ≡ f + as_number (ticked q due n p id).transmission
      → m' ≡ with_frame (send_frame id (ticked q due n p id).transmission) k m
      → Held c l (k + 1) q' f' m'
      × Said c (k + 1) (outcome (is_setpoint (ticked q due n p id).transmission) q)
  held_tick c l k {q} {q'} {f} {f'} {m} {m'} due p id x none d e i b g h =
      let condition = between c q in
      let condition' = between c q' in
      let before = c.sequencer.missing in
      let on = receiving_after c.commands.receiving f in
      let sent = (ticked q due n p id).transmission in
      let w = with_receiving c.commands on in
      let r = receiving_next c.commands.receiving f f' sent g in
      let a : condition' ≡ condition_after sent condition
      = ap (λ (z : Sequencer). between c z) b ∙ sym (condition_next q due n p id c.sequencer.stage x.repeats) in
      let missing : q'.missing ≡ missing_after sent q.last q.missing = ap (λ (z : Sequencer). z.missing) b ∙ (moved q due n p id).missing in
      let status : send_status (latched_by c.status q.missing condition) q.last sent ≡ latched_by c.status q'.missing condition'
      = latched_next c.status q.missing condition q.last sent (alone_between q due n p id c.sequencer.stage) ∙ simp (missing, a) in
      let count : missing_after sent q.last (missing_with before q.missing) ≡ missing_with before q'.missing
      = missing_next before q.missing q.last sent ∙ ap (missing_with before) (sym missing) in
      let y = after_next (first c) l k {e = after_ticks c condition' q' f'} {a = send_frame c.registers.id sent} x.after
      (ap
      (λ (z : transmission.Ticked).
      with_commands (with_sequencer (with_status c (send_status (latched_by c.status q.missing condition) q.last z.transmission)) z.sequencer)
      (cmd.ticked w (is_setpoint z.transmission)))
      (next_is c condition q f due p id none d e i)
      ∙ simp (ticked_idle w (is_setpoint sent) none, status, count, sym b, r))
      (next_answer c condition q f due p id none d e i) in
      let f_is : f' ≡ f + cond (is_frame (send_frame c.registers.id sent)) 1 0 = g ∙ ap (λ (z : ℕ). f + z) (sym (number c.registers.id sent)) in
      let m_is : m' ≡ with_frame (send_frame c.registers.id sent) k m = h ∙ ap (λ (z : ℕ). with_frame (send_frame z sent) k m) i in
      rw add-one (
        record {
          after = record { channel_is = y.channel_is; frames_are = y.frames_are ∙ sym f_is; captured_is = y.captured_is ∙ sym m_is };
          repeats = rw b (repeats_next q due n p id c.sequencer.stage x.repeats);
        },
        sym (ap (λ (z : Channel). tick_outcome_of z s n user) x.after.channel_is ∙ next_outcome c condition q f due p id none d e i),
      )

  -- ---- With a command frame due

  -- The next tick comes to the same, its share of the command frames done first; it answers the command frame where that leaves, else as then.
  module _ (c : Channel) where
    sends_next_lem : sends_next c ≡ is_setpoint (played_of c s n user).transmission
    sends_next_lem = sequencer.sends_next_lem c.sequencer (due_of c s n user) n (period_of c.registers.clock) c.registers.id

    twice : (f : CommandFrames) (on : Bool) → cmd.ticked (cmd.ticked f on) on ≡ cmd.ticked f on
    unfolding cmd.ticked
    twice f on = ticked_idle (cmd.ticked f on) on (ticked_due f on) ∙ go on
      where
        go : (b : Bool) → with_receiving (cmd.ticked f b) (cond b false (cmd.ticked f b).receiving) ≡ cmd.ticked f b
        go true = refl
        go false = refl

    -- none is due then
    pub first_none : NoneDue (command_first c)
    first_none = go (is_due c.commands.waiting) refl
      where
        go : (b : Bool) → is_due c.commands.waiting ≡ b → NoneDue (cond b (with_commands c (cmd.ticked c.commands (sends_next c))) c)
        go true e = ticked_due c.commands (sends_next c)
        go false e = e

    pub command_first_lem : advanced_of (command_first c) s n user ≡ advanced_of c s n user
    unfolding due_of
    command_first_lem = go (is_due c.commands.waiting)
      where
        x : transmission.Ticked
        x = played_of c s n user

        d : Channel
        d = with_sequencer (with_status c (send_status c.status c.sequencer.last x.transmission)) x.sequencer

        go : (b : Bool) → advanced_of (cond b (with_commands c (cmd.ticked c.commands (sends_next c))) c) s n user ≡ advanced_of c s n user
        go true =
            ap (λ (e : Bool). with_commands d (cmd.ticked (cmd.ticked c.commands e) (is_setpoint x.transmission))) sends_next_lem
            ∙ ap (with_commands d) (twice c.commands (is_setpoint x.transmission))
        go false = refl

    -- what the rest of the tick answers
    first_answer : tick_answer (command_first c) s n user ≡ send_frame c.registers.id (played_of c s n user).transmission
    unfolding tick_answer due_of
    first_answer = go (is_due c.commands.waiting) refl
      where
        go : (b : Bool) → is_due c.commands.waiting ≡ b
            → tick_answer (cond b (with_commands c (cmd.ticked c.commands (sends_next c))) c) s n user
            ≡ send_frame c.registers.id (played_of c s n user).transmission
        go true e =
            line_none c.registers.id (cmd.ticked c.commands (sends_next c)) (ticked_due c.commands (sends_next c)) (played_of c s n user).transmission
        go false e = line_none c.registers.id c.commands e (played_of c s n user).transmission

    pub command_answer_lem : tick_answer c s n user ≡ cond (command_leaves c) (ans.frame (command_frame c.commands)) (tick_answer (command_first c) s n user)
    unfolding tick_answer
    command_answer_lem =
        go (played_of c s n user).transmission sends_next_lem
        ∙ ap (λ (a : Answer). cond (command_leaves c) (ans.frame (command_frame c.commands)) a) (sym first_answer)
      where
        nothing : (b : Bool) → cond b (ans.frame (command_frame c.commands)) ans.none ≡ cond (b && true) (ans.frame (command_frame c.commands)) ans.none
        nothing true = refl
        nothing false = refl

        go : (x : Transmission) → sends_next c ≡ is_setpoint x
            → tick_line c.registers.id c.commands x
            ≡ cond (command_leaves c) (ans.frame (command_frame c.commands)) (send_frame c.registers.id x)
        go transmission.Nothing e = rw e (nothing (is_due c.commands.waiting))
        go (transmission.Word word k) e = rw (e, and-false)

    -- where the command frame leaves, the rest of the tick answers none
    silent_first : command_leaves c ≡ true → tick_answer (command_first c) s n user ≡ ans.none
    silent_first e =
        first_answer
        ∙ go (played_of c s n user).transmission (sym sends_next_lem ∙ not-true (sends_next c) ((and-eq-true_iff (is_due c.commands.waiting) _).0 e).1)
      where
        go : (x : Transmission) → is_setpoint x ≡ false → send_frame c.registers.id x ≡ ans.none
        go transmission.Nothing d = refl
        go (transmission.Word word k) d = let z : ◌≡◌ {A = ℕ} 0 1 = cc in absurd (omega arith)

    first_frames : (b : Bool) → command_leaves c ≡ b
        → (cond (is_frame (cond b (ans.frame (command_frame c.commands)) (tick_answer (command_first c) s n user))) 1 0
        ≡ cond b 1 0 + cond (is_frame (tick_answer (command_first c) s n user)) 1 0)
        × ((l : List ℕ)
        → with_frame (cond b (ans.frame (command_frame c.commands)) (tick_answer (command_first c) s n user)) 0 l
        ≡ with_frame (tick_answer (command_first c) s n user) 0 (cond b (set l 0 (command_frame c.commands)) l))
    first_frames true e = (rw (silent_first e), λ l. rw (silent_first e))
    first_frames false e = (sym (zero-add _), λ l. refl)

    -- Ticks in a row come to the same too, with the command frame beside theirs.
    pub after_command : (l : List ℕ) (k : ℕ)
        → After c l (suc k) (advanced (command_first c) (suc k)) (command_frames_first c + frames_in (command_first c) s n user (suc k))
        (frames_at (command_first c) s n user (suc k) (with_command_frame c l))
    unfolding advanced ticks_of frames_in frames_at
    after_command l zero =
        let x = after_next c l 0 (after_none c l) (sym command_first_lem) command_answer_lem in
        let f = first_frames (command_leaves c) refl in
        record {
          channel_is = x.channel_is;
          frames_are = x.frames_are ∙ rw (zero-add, zero-add) f.0;
          captured_is = x.captured_is ∙ f.1 l;
        }
    after_command l (suc k) =
        let x = after_next c l (suc k) (after_command l k) refl (sym (answer_is (command_first c) (suc k))) in
        record { channel_is = x.channel_is; frames_are = x.frames_are ∙ add_assoc _ _ _; captured_is = x.captured_is }

    -- what the last of them did
    outcome_first : tick_outcome_of c s n user ≡ cond (command_leaves c) tick.Sent (tick_outcome_of (command_first c) s n user)
    unfolding tick_outcome_of outcome
    outcome_first =
        ap (λ (a : Answer). outcome (is_frame a) c.sequencer) command_answer_lem
        ∙ go (command_leaves c) ∙ ap (λ (q : Sequencer). cond (command_leaves c) tick.Sent (outcome (is_frame (tick_answer (command_first c) s n user)) q)) same
      where
        go : (b : Bool)
            → outcome (is_frame (cond b (ans.frame (command_frame c.commands)) (tick_answer (command_first c) s n user))) c.sequencer
            ≡ cond b tick.Sent (outcome (is_frame (tick_answer (command_first c) s n user)) c.sequencer)
        go true = refl
        go false = refl

        at : (b : Bool) → c.sequencer ≡ (cond b (with_commands c (cmd.ticked c.commands (sends_next c))) c).sequencer
        at true = refl
        at false = refl

        same : c.sequencer ≡ (command_first c).sequencer
        same = at (is_due c.commands.waiting)

    outcome_last : (k : ℕ) (b : Bool) → command_leaves c ≡ b
        → with_outcome (advanced (command_first c) (suc k)) (last_outcome c (suc k))
        ≡ sent_if (with_outcome (advanced (command_first c) (suc k)) (last_outcome (command_first c) (suc k))) (cond b 1 0) (suc k)
    unfolding advanced
    outcome_last zero true e = ap (with_outcome (advanced (command_first c) 1)) (outcome_first ∙ rw e)
    outcome_last zero false e = ap (with_outcome (advanced (command_first c) 1)) (outcome_first ∙ rw e)
    outcome_last (suc k) b e =
        ap (λ (d : Channel). with_outcome (advanced (command_first c) (suc (suc k))) (tick_outcome_of d s n user)) (after_command [] k).channel_is
        ∙ go b (eqb (suc (suc k)) 1) (ne_eqb (suc (suc k)) 1 (λ h. omega (arith, h)))
      where
        d : Channel
        d = with_outcome (advanced (command_first c) (suc (suc k))) (last_outcome (command_first c) (suc (suc k)))

        go : (b later : Bool) → later ≡ false → d ≡ cond (eqb (cond b 1 0) 1 && later) (with_outcome d tick.Sent) d
        go true later h = rw h
        go false later h = refl

    -- So ticks in a row come to the same, and say that they sent where the command frame left on the last of them.
    pub ticks_command : (k : ℕ)
        → ticks_of c s n user (suc k) ≡ sent_if (ticks_of (command_first c) s n user (suc k)) (command_frames_first c) (suc k)
    ticks_command k =
        ticks_are c (suc k)
        ∙ ap (λ (d : Channel). with_outcome d (last_outcome c (suc k))) (after_command [] k).channel_is
        ∙ outcome_last k (command_leaves c) refl
        ∙ ap (λ (d : Channel). sent_if d (command_frames_first c) (suc k)) (sym (ticks_are (command_first c) (suc k)))
