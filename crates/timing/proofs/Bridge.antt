-- k ticks of the channel are k ticks of its sequencer, and a tick answers what the sequencer transmits, or a command frame. Assumes nothing.
use Prim.Native.Nat.{ℕ, zero, suc, ◌+◌, ◌-◌, ◌*◌, ◌≤◌}
use mathlib.Core.Path.{◌≡◌, refl, sym, ap, subst, ◌∙◌}
use mathlib.Core.Bool.{false, cond}
use lib.ListN.{replicate}
use native.Mathlib.Omega.{arith}
use native.Mathlib.Nat.{add-zero, add-suc, zero-add}
use lib.Dec.{eqb}
use borrow.Author.Tests.{eq-eqb, ne_eqb}
use Rattle.status.specs.declared.Status.{Status}
use Rattle.registers.specs.declared.Registers.{Registers}
use Rattle.sequencer.specs.declared.Sequencer.{Sequencer}
use Rattle.sequencer.specs.Runs.{next, ticks, sends, JustSent, Leaves, Repeats}
use Rattle.sequencer.specs.Transmissions.{Transmission}
use Rattle.sequencer.specs.Transmissions as transmission
use Rattle.tick_outcome.specs.declared.TickOutcome.{TickOutcome}
use Rattle.command_frames.specs.declared.CommandFrames.{CommandFrames}
use Rattle.command_frames.specs.Commanding.{is_due}
use Rattle.command_frames.specs.Commanding as cmd
use Rattle.command_frames.proofs.Laws.{ticked_due, ticked_registers}
use Rattle.channel_core.specs.Answers.{Answer}
use Rattle.channel_core.specs.Answers as ans
use Rattle.channel_core.specs.State.{with_status, with_sequencer, with_outcome, with_commands}
use Rattle.channel_core.specs.Behaviour.{due_of, tick_of, tick_outcome_of, tick_answer, send_status, is_setpoint, command_answer, send_frame, tick_line}
use Rattle.channel_core.proofs.Laws.{line_none}
use Rattle.channel.proofs.Cases.{either}
use Rattle.channel.specs.OneChannel.{OneChannel, ChannelCall, tick, refusal_of, effect, answer, transition, response, transitions, with_channel}
use Rattle.timing.specs.Ticking.{one_tick, after, on_tick, word_at, period, between, answer_on, played, plays, Keeps, Sent, NextSetpoint, Repeat}
use Rattle.timing.specs.Timing as the

-- a tick lent the right length is not refused
pub tick_transition : (o : OneChannel) (lent : ℕ) → lent ≡ o.n * 64
    → transition o (tick lent) ≡ with_channel o (tick_of o.channel o.setpoints o.n o.user)
unfolding transition refusal_of effect
tick_transition o lent e = rw (eq-eqb lent (o.n * 64) e)

pub tick_response : (o : OneChannel) (lent : ℕ) → lent ≡ o.n * 64
    → response o (tick lent) ≡ tick_answer o.channel o.setpoints o.n o.user
unfolding response refusal_of answer
tick_response o lent e = rw (eq-eqb lent (o.n * 64) e)

-- one more call of the same kind, at the end
transitions_more : (o : OneChannel) (c : ChannelCall) (k : ℕ) → transitions o (replicate (suc k) c) ≡ transition (transitions o (replicate k c)) c
transitions_more o c zero = refl
transitions_more o c (suc k) = transitions_more (transition o c) c k

-- the channel with another status, sequencer, last tick and command frames
abbrev with : OneChannel → Status → Sequencer → TickOutcome → CommandFrames → OneChannel
with o s q x f = with_channel o (with_commands (with_outcome (with_sequencer (with_status o.channel s) q) x) f)

-- one tick of such a channel
tick_with : (o : OneChannel) (s : Status) (q : Sequencer) (y : TickOutcome) (f : CommandFrames)
    → let x = next (word_at o) o.n (period o) o.channel.registers.id q in
    transition (with o s q y f) (one_tick o)
    ≡ with o (send_status s q.last x.transmission) x.sequencer (tick_outcome_of (with o s q y f).channel o.setpoints o.n o.user)
    (cmd.ticked f (is_setpoint x.transmission))
unfolding tick_of due_of
tick_with o s q y f = tick_transition (with o s q y f) (o.n * 64) refl

response_with : (o : OneChannel) (s : Status) (q : Sequencer) (y : TickOutcome) (f : CommandFrames)
    → response (with o s q y f) (one_tick o) ≡ tick_line o.channel.registers.id f (next (word_at o) o.n (period o) o.channel.registers.id q).transmission
unfolding tick_answer due_of
response_with o s q y f = tick_response (with o s q y f) (o.n * 64) refl

pub after_suc : (o : OneChannel) (k : ℕ) → after o (suc k) ≡ transition (after o k) (one_tick o)
unfolding after
after_suc o k = transitions_more o (one_tick o) k

-- status, sequencer, last tick and command frames alone change
abbrev AfterWith : OneChannel → ℕ → Type 0
AfterWith o k = after o k ≡ with o (after o k).channel.status (played o k) (after o k).channel.outcome (after o k).channel.commands

-- what a tick more makes of the sequencer and the command frames
after_next : (o : OneChannel) (k : ℕ) → AfterWith o k
    → let d = (after o (suc k)).channel in
    (after o (suc k) ≡ with o d.status (played o (suc k)) d.outcome d.commands)
    × (d.commands ≡ cmd.ticked (after o k).channel.commands (is_setpoint (plays o (suc k))))
unfolding ticks sends
after_next o k e =
    let p = after o k in
    let c = p.channel in
    let x = next (word_at o) o.n (period o) o.channel.registers.id (played o k) in
    let y = tick_outcome_of (with o c.status (played o k) c.outcome c.commands).channel o.setpoints o.n o.user in
    let s = send_status c.status (played o k).last x.transmission in
    let f = cmd.ticked c.commands (is_setpoint x.transmission) in
    let n : after o (suc k) ≡ with o s x.sequencer y f
    = after_suc o k ∙ ap (λ (p : OneChannel). transition p (one_tick o)) e ∙ tick_with o c.status (played o k) c.outcome c.commands in
    (rw n refl, ap (λ (p : OneChannel). p.channel.commands) n)

pub after_with : (o : OneChannel) (k : ℕ) → AfterWith o k
unfolding after ticks
after_with o zero = refl
after_with o (suc k) = (after_next o k (after_with o k)).0

-- one more tick of the command frames
pub after_commands : (o : OneChannel) (k : ℕ)
    → (after o (suc k)).channel.commands ≡ cmd.ticked (after o k).channel.commands (is_setpoint (plays o (suc k)))
after_commands o k = (after_next o k (after_with o k)).1

-- after a tick no command frame is due
due_later : (o : OneChannel) (k : ℕ) → is_due (after o (suc k)).channel.commands.waiting ≡ false
due_later o k =
    ap (λ (f : CommandFrames). is_due f.waiting) (after_commands o k)
    ∙ ticked_due (after o k).channel.commands (is_setpoint (plays o (suc k)))

response_after : (o : OneChannel) (k : ℕ)
    → response (after o k) (one_tick o) ≡ tick_line o.channel.registers.id (after o k).channel.commands (plays o (suc k))
unfolding sends
response_after o k =
    ap (λ (p : OneChannel). response p (one_tick o)) (after_with o k)
    ∙ response_with o (after o k).channel.status (played o k) (after o k).channel.outcome (after o k).channel.commands

-- past the next tick nothing but setpoints leaves
pub between_past : (o : OneChannel) (j : ℕ) → 2 ≤ j → between o j ≡ ans.none
between_past o j h = rw (ne_eqb j 1 (λ e. omega arith))

past : (o : OneChannel) (j : ℕ) → 2 ≤ j → (x : Transmission) → send_frame o.channel.registers.id x ≡ answer_on o j x
past o j h transmission.Nothing = sym (between_past o j h)
past o j h (transmission.Word word k) = refl

line_on : (o : OneChannel) (k : ℕ) (x : Transmission)
    → tick_line o.channel.registers.id (after o k).channel.commands x ≡ answer_on o (suc k) x
unfolding after
line_on o zero transmission.Nothing = refl
line_on o zero (transmission.Word word k) = refl
line_on o (suc k) x =
    line_none o.channel.registers.id (after o (suc k)).channel.commands (due_later o k) x ∙ past o (suc (suc k)) (omega arith) x

-- tick j answers the frame of what the sequencer transmits, or what leaves between setpoints
pub on_tick_lem : (o : OneChannel) (j : ℕ) → 1 ≤ j → on_tick o j ≡ answer_on o j (plays o j)
unfolding on_tick
on_tick_lem o j h =
    let e : suc (j - 1) ≡ j = omega arith in
    response_after o (j - 1) ∙ line_on o (j - 1) (plays o (suc (j - 1))) ∙ ap (λ (k : ℕ). answer_on o k (plays o k)) e

pub bridge : the.Bridge
bridge o k = (after_with o k, on_tick_lem o (k + 1) (omega arith))

-- ---- Ticks after ticks

-- E0, E2 and E4–FA stay
commands_keep : (o : OneChannel) (k : ℕ)
    → ((after o k).channel.commands.header ≡ o.channel.commands.header)
    × ((after o k).channel.commands.word ≡ o.channel.commands.word)
    × ((after o k).channel.commands.replies ≡ o.channel.commands.replies)
unfolding after
commands_keep o zero = (refl, refl, refl)
commands_keep o (suc k) =
    let f = (after o k).channel.commands in
    let e = after_commands o k in
    let t = ticked_registers f (is_setpoint (plays o (suc k))) in
    let r = commands_keep o k in (
      ap (λ (g : CommandFrames). g.header) e ∙ t.0 ∙ r.0,
      ap (λ (g : CommandFrames). g.word) e ∙ t.1 ∙ r.1,
      ap (λ (g : CommandFrames). g.replies) e ∙ t.2 ∙ r.2,
    )

pub after_keeps : (o : OneChannel) (k : ℕ) → Keeps o (after o k)
after_keeps o k =
    let c = commands_keep o k in
    let a = after_with o k in
    record {
      same_n = ap (λ (p : OneChannel). p.n) a;
      same_m = ap (λ (p : OneChannel). p.m) a;
      same_user = ap (λ (p : OneChannel). p.user) a;
      same_registers = ap (λ (p : OneChannel). p.channel.registers) a;
      same_header = c.0;
      same_word = c.1;
      same_replies = c.2;
      same_setpoints = ap (λ (p : OneChannel). p.setpoints) a;
    }

pub keeps_on : {o p q : OneChannel} → Keeps o p → Keeps p q → Keeps o q
keeps_on a b =
    record {
      same_n = b.same_n ∙ a.same_n;
      same_m = b.same_m ∙ a.same_m;
      same_user = b.same_user ∙ a.same_user;
      same_registers = b.same_registers ∙ a.same_registers;
      same_header = b.same_header ∙ a.same_header;
      same_word = b.same_word ∙ a.same_word;
      same_replies = b.same_replies ∙ a.same_replies;
      same_setpoints = b.same_setpoints ∙ a.same_setpoints;
    }

pub same_tick : (o : OneChannel) (k : ℕ) → one_tick (after o k) ≡ one_tick o
same_tick o k = ap (λ (n : ℕ). tick (n * 64)) (after_keeps o k).same_n

pub after_add : (o : OneChannel) (k j : ℕ) → after o (k + j) ≡ after (after o k) j
unfolding after
after_add o k zero = ap (after o) (add-zero k)
after_add o k (suc j) =
    ap (after o) (add-suc k j)
    ∙ after_suc o (k + j)
    ∙ ap (λ (p : OneChannel). transition p (one_tick o)) (after_add o k j)
    ∙ ap (transition (after (after o k) j)) (sym (same_tick o k))
    ∙ sym (after_suc (after o k) j)

pub on_tick_add : (o : OneChannel) (k j : ℕ) → 1 ≤ j → on_tick o (k + j) ≡ on_tick (after o k) j
unfolding on_tick
on_tick_add o k j h =
    let e : k + j - 1 ≡ k + (j - 1) = omega arith in
    ap (λ (x : ℕ). response (after o x) (one_tick o)) e
    ∙ ap (λ (p : OneChannel). response p (one_tick o)) (after_add o k (j - 1))
    ∙ ap (response (after (after o k) (j - 1))) (sym (same_tick o k))

-- with no command frame due, none leaves
pub between_none : (o : OneChannel) (j : ℕ) → is_due o.channel.commands.waiting ≡ false → between o j ≡ ans.none
between_none o j e = rw e (either (λ (a : Answer). a ≡ ans.none) (eqb j 1) refl refl)

-- what leaves between setpoints, d ticks after k
pub between_add : (o : OneChannel) (k d : ℕ) → 1 ≤ d → between (after o k) d ≡ between o (k + d)
unfolding after
between_add o zero d h = sym (ap (between o) (zero-add d))
between_add o (suc k) d h =
    between_none (after o (suc k)) d (due_later o k) ∙ sym (between_past o (suc k + d) (omega arith))

pub later_ticks : the.LaterTicks
later_ticks o k = (after_keeps o k, on_tick_add o k)

-- ---- Laws of the sequencer, as answers

pub sent_after : (o : OneChannel) (k i : ℕ) → JustSent (word_at o) o.n (period o) i (played o k) → Sent (after o k) i
sent_after o k i s = subst (λ (p : OneChannel). Sent p i) (sym (after_with o k)) s

-- what leaves on tick k of the sequencer leaves so on the channel
pub next_setpoint : (o : OneChannel) (k i : ℕ) → 1 ≤ k → Leaves (word_at o) o.n (period o) o.channel.registers.id o.channel.sequencer k i → NextSetpoint o k i
next_setpoint o k i some l =
    record {
      silent = λ j a b. on_tick_lem o j a ∙ ap (answer_on o j) (l.silent j b);
      sent = on_tick_lem o k some ∙ ap (answer_on o k) l.sent;
      done = sent_after o k i l.after;
    }

-- the same answers, where registers and command frames are the same
pub same_answers : (o p : OneChannel) (j : ℕ) → p.channel.registers ≡ o.channel.registers → p.channel.commands ≡ o.channel.commands
    → (x : Transmission) → answer_on p j x ≡ answer_on o j x
same_answers o p j same same_commands transmission.Nothing =
    ap (λ (f : CommandFrames). cond (eqb j 1) (command_answer f) ans.none) same_commands
same_answers o p j same same_commands (transmission.Word word k) =
    ap (λ (r : Registers). send_frame r.id (transmission.Word word k)) same

-- and what it repeats is repeated
pub repeat : (o p : OneChannel) (word left j : ℕ) → 1 ≤ j → p.channel.registers ≡ o.channel.registers → p.channel.commands ≡ o.channel.commands
    → Repeats word left (period o) j (plays p j) → Repeat o word left j (on_tick p j)
repeat o p word left j some same same_commands r =
    let e = on_tick_lem p j some ∙ same_answers o p j same same_commands (plays p j) in
    record {
      on = λ b. e ∙ ap (answer_on o j) (r.on b);
      off = λ b. e ∙ ap (answer_on o j) (r.off b);
    }
