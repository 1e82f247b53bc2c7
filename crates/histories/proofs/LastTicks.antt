-- What each call makes of what the last tick did, from any state: a tick names the first condition that held, a reset forgets, and no other call touches
-- it. So after any list of calls the answer is the first condition that held of the last tick. Assumes nothing.
use Prim.Native.Nat.{ℕ, ◌-◌, ◌*◌, ◌≤◌, ◌<◌}
use mathlib.Core.Path.{◌≡◌, refl, sym, ◌∙◌, ap, subst}
use mathlib.Core.Bool.{Bool, true, false, cond, not, ◌&&◌, or-true}
use mathlib.Core.List.{List, [], ◌∷◌}
use native.Mathlib.Omega.{arith}
use lib.Dec.{eqb, leb, ltb}
use borrow.Author.Tests.{eq-eqb, leb-true, leb-false, le-leb, ltb-true, ltb-false, lt-ltb, le-ltb}
use Rattle.status.specs.Bits.{bit_at}
use Rattle.registers.specs.Map.{triggers_of, group_end_event, period_of}
use Rattle.sequencer.specs.declared.Stage.{Stage}
use Rattle.sequencer.specs.declared.Stage.TheVariants as stage
use Rattle.sequencer.specs.declared.Sequencer.{Sequencer}
use Rattle.sequencer.specs.Transmissions.{Transmission}
use Rattle.sequencer.specs.Transmissions as transmission
use Rattle.sequencer.specs.Transmissions.{Ticked}
use Rattle.sequencer.specs.Playing.{ticked, ticked_at, advancing, repeating, resuming, sent_next, sent_as, repeated, quiet, with_left, with_resume, is_idle, is_starting}
use Rattle.tick_outcome.specs.declared.TickOutcome.{TickOutcome}
use Rattle.tick_outcome.specs.declared.TickOutcome.TheVariants as tick
use Rattle.tick_outcome.specs.Outcomes.{silence, silence_at, outcome}
use Rattle.command_frames.specs.declared.CommandFrames.{CommandFrames}
use Rattle.channel_core.specs.declared.Channel.{Channel}
use Rattle.channel_core.specs.Results.{TickReason}
use Rattle.channel_core.specs.Results as reason
use Rattle.channel_core.specs.Answers.{is_refusal, is_frame, reason_of}
use Rattle.channel_core.specs.Answers as ans
use Rattle.channel_core.specs.State.{opened, reset}
use Rattle.channel_core.specs.Behaviour.{group_ended, ended_if, user_changed, due_of, played_of, is_setpoint, tick_line, tick_of, tick_outcome_of, tick_answer}
use Rattle.channel_registers.specs.Calls.{register_effect}
use Rattle.channel.specs.Calls.{armed_of, disarmed_of}
use Rattle.channel.specs.Downloads.{download_opened}
use Rattle.channel.specs.OneChannel.{ChannelCall, OneChannel, one_channel, refusal_of, effect, answer, transition, response, transitions, query, last_tick}
use Rattle.channel.specs.OneChannel as call
use Rattle.channel.proofs.Cases.{either, clash}
use Rattle.histories.specs.History.{Entry, entry, history, asks, resets, makes_tick}
use Rattle.histories.specs.LastTicks.{LastTick, no_tick, made_tick, last_tick_after, last_tick_since, is_disarmed, in_start_delay, in_start_gap, in_resume_gap, is_clocked, condition_at, place, FirstHeld, OneFirstHeld, LastTickNamed, NoTickNorReset, LastTickStays, LastTickSeen, ResetForgets}
use Rattle.histories.proofs.Accepted.{accepted_answer}
use Rattle.histories.proofs.Cases.{by_offset}
use Rattle.histories.proofs.Refusing.{accepted_response}
use Rattle.histories.proofs.Leaves.{leaves_event, leaves_command, leaves_read, leaves_main, leaves_reply}

-- ---- A tick that sends nothing

-- what is left then, by what is under way
abbrev QuietAt : Stage → Sequencer → Type 0
QuietAt stage.Idle s = Unit {0}
QuietAt stage.Starting s = 2 ≤ s.left
QuietAt stage.Running s = 2 ≤ s.left
QuietAt (stage.Paused k) s = 2 ≤ s.left
QuietAt stage.Resuming s = (2 ≤ s.resume) × (10 < s.resume → 2 ≤ s.left)
QuietAt stage.Ended s = 2 ≤ s.left

-- a countdown that sends at 1
countdown_quiet : (s : Sequencer) (t : Ticked) → is_setpoint t.transmission ≡ true
    → is_setpoint (cond (leb s.left 1) t (quiet (with_left s (s.left - 1)))).transmission ≡ false → 2 ≤ s.left
countdown_quiet s t sends = go (leb s.left 1) refl
  where
    go : (b : Bool) → leb s.left 1 ≡ b → is_setpoint (cond b t (quiet (with_left s (s.left - 1)))).transmission ≡ false → 2 ≤ s.left
    go true e h = clash (sym h ∙ sends)
    go false e h = omega (arith, leb-false s.left 1 e)

advancing_quiet : (s : Sequencer) (due n p id : ℕ) → is_setpoint (advancing s due n p id).transmission ≡ false → 2 ≤ s.left
unfolding advancing sent_next sent_as
advancing_quiet s due n p id = countdown_quiet s (sent_next s due n p id) refl

repeating_quiet : (s : Sequencer) (p id : ℕ) → is_setpoint (repeating s p id).transmission ≡ false → 2 ≤ s.left
unfolding repeating repeated
repeating_quiet s p id = countdown_quiet s (repeated s p id) refl

module _ (s : Sequencer) (due n p id : ℕ) where
  resuming_quiet : is_setpoint (resuming s due n p id).transmission ≡ false → (2 ≤ s.resume) × (10 < s.resume → 2 ≤ s.left)
  unfolding resuming sent_next sent_as
  resuming_quiet = go (leb s.resume 1) (leb s.resume 10) refl refl
    where
      lowered : Sequencer
      lowered = with_resume s (s.resume - 1)

      go : (b few : Bool) → leb s.resume 1 ≡ b → leb s.resume 10 ≡ few
          → is_setpoint (cond b (sent_next s due n p id) (cond few (quiet lowered) (repeating lowered p id))).transmission ≡ false
          → (2 ≤ s.resume) × (10 < s.resume → 2 ≤ s.left)
      go true few e f h = clash (sym h)
      go false true e f h = (omega (arith, leb-false s.resume 1 e), λ g. absurd (omega (arith, leb-true s.resume 10 f, g)))
      go false false e f h = (omega (arith, leb-false s.resume 1 e), λ g. repeating_quiet lowered p id h)

  quiet_at : (x : Stage) → is_setpoint (ticked_at x s due n p id).transmission ≡ false → QuietAt x s
  quiet_at stage.Idle h = tt
  quiet_at stage.Starting h = advancing_quiet s due n p id h
  quiet_at stage.Running h = advancing_quiet s due n p id h
  quiet_at (stage.Paused k) h = repeating_quiet s p id h
  quiet_at stage.Resuming h = resuming_quiet h
  quiet_at stage.Ended h = repeating_quiet s p id h

line_quiet : (id : ℕ) (f : CommandFrames) (x : Transmission) → is_frame (tick_line id f x) ≡ false → is_setpoint x ≡ false
line_quiet id f transmission.Nothing h = refl
line_quiet id f (transmission.Word word k) h = clash (sym h)

tick_quiet : (c : Channel) (s : List ℕ) (n user : ℕ) → is_frame (tick_answer c s n user) ≡ false → QuietAt c.sequencer.stage c.sequencer
unfolding tick_answer ticked
tick_quiet c s n user h =
    quiet_at c.sequencer (due_of c s n user) n (period_of c.registers.clock) c.registers.id c.sequencer.stage
    (line_quiet c.registers.id c.commands (played_of c s n user).transmission h)

-- ---- The first condition that held

module _ (e : Entry) where
  abbrev before : Sequencer
  before = e.before.channel.sequencer

  -- none of the first p held, told one by one
  none_below : (p : ℕ) → p ≤ 7
      → (1 < p → is_frame e.answer ≡ false)
      → (2 < p → is_disarmed before ≡ false)
      → (3 < p → is_idle before.stage ≡ false)
      → (4 < p → in_start_delay before ≡ false)
      → (5 < p → in_start_gap before ≡ false)
      → (6 < p → in_resume_gap before ≡ false)
      → (y : TickReason) → place y < p → condition_at y e ≡ false
  none_below p few a b c d f g reason.no_tick h = refl
  none_below p few a b c d f g reason.sent h = a h
  none_below p few a b c d f g reason.disarmed h = b h
  none_below p few a b c d f g reason.idle h = c h
  none_below p few a b c d f g reason.start_delay h = d h
  none_below p few a b c d f g reason.start_gap h = f h
  none_below p few a b c d f g reason.resume_gap h = g h
  none_below p few a b c d f g reason.between_edges h = absurd (omega (arith, few, h))

  first_sent : is_frame e.answer ≡ true → FirstHeld reason.sent (made_tick e)
  first_sent sent =
      record {
        held = sent;
        none_before =
            none_below 1 (omega arith) (λ h. absurd (omega (arith, h))) (λ h. absurd (omega (arith, h))) (λ h. absurd (omega (arith, h)))
            (λ h. absurd (omega (arith, h))) (λ h. absurd (omega (arith, h))) (λ h. absurd (omega (arith, h)));
      }

  module _ (silent : is_frame e.answer ≡ false) where
    first_disarmed : before.armed ≡ false → FirstHeld reason.disarmed (made_tick e)
    first_disarmed off =
        record {
          held = ap not off;
          none_before =
              none_below 2 (omega arith) (λ h. silent) (λ h. absurd (omega (arith, h))) (λ h. absurd (omega (arith, h)))
              (λ h. absurd (omega (arith, h))) (λ h. absurd (omega (arith, h))) (λ h. absurd (omega (arith, h)));
        }

    module _ (on : before.armed ≡ true) where
      first_idle : before.stage ≡ stage.Idle → FirstHeld reason.idle (made_tick e)
      first_idle at =
          record {
            held = ap is_idle at;
            none_before =
                none_below 3 (omega arith) (λ h. silent) (λ h. ap not on) (λ h. absurd (omega (arith, h)))
                (λ h. absurd (omega (arith, h))) (λ h. absurd (omega (arith, h))) (λ h. absurd (omega (arith, h)));
          }

      first_start : before.stage ≡ stage.Starting → 2 ≤ before.left → (b : Bool) → leb before.left 10 ≡ b
          → FirstHeld (reason_of (cond b tick.StartGap tick.StartDelay)) (made_tick e)
      first_start at some true few =
          record {
            held = rw (at, le-ltb before.left 2 some, le-ltb 10 before.left (leb-true before.left 10 few));
            none_before =
                none_below 5 (omega arith) (λ h. silent) (λ h. ap not on) (λ h. ap is_idle at)
                (λ h. rw (at, le-ltb 10 before.left (leb-true before.left 10 few))) (λ h. absurd (omega (arith, h))) (λ h. absurd (omega (arith, h)));
          }
      first_start at some false many =
          record {
            held = rw (at, lt-ltb 10 before.left (leb-false before.left 10 many));
            none_before =
                none_below 4 (omega arith) (λ h. silent) (λ h. ap not on) (λ h. ap is_idle at)
                (λ h. absurd (omega (arith, h))) (λ h. absurd (omega (arith, h))) (λ h. absurd (omega (arith, h)));
          }

      first_gap : before.stage ≡ stage.Resuming → 2 ≤ before.resume → leb before.resume 10 ≡ true → FirstHeld reason.resume_gap (made_tick e)
      first_gap at some few =
          record {
            held = rw (at, le-ltb before.resume 2 some, le-ltb 10 before.resume (leb-true before.resume 10 few));
            none_before =
                none_below 6 (omega arith) (λ h. silent) (λ h. ap not on) (λ h. ap is_idle at) (λ h. rw at) (λ h. rw at)
                (λ h. absurd (omega (arith, h)));
          }

      -- the clock is under way, in any stage that is no Start
      first_between : is_idle before.stage ≡ false → is_starting before.stage ≡ false → in_resume_gap before ≡ false
          → is_clocked before.stage before.resume ≡ true → 2 ≤ before.left → FirstHeld reason.between_edges (made_tick e)
      first_between awake later gap clocked some =
          record {
            held = rw (clocked, le-leb 2 before.left some);
            none_before =
                none_below 7 (omega arith) (λ h. silent) (λ h. ap not on) (λ h. awake) (λ h. rw later) (λ h. rw later) (λ h. gap);
          }

      first_stage : (x : Stage) → before.stage ≡ x → QuietAt x before → FirstHeld (reason_of (silence_at x before)) (made_tick e)
      first_stage stage.Idle at q = first_idle at
      first_stage stage.Starting at q = first_start at q (leb before.left 10) refl
      first_stage stage.Running at q = first_between (ap is_idle at) (ap is_starting at) (rw at) (rw at) q
      first_stage (stage.Paused k) at q = first_between (ap is_idle at) (ap is_starting at) (rw at) (rw at) q
      first_stage stage.Resuming at q = go (leb before.resume 10) refl
        where
          go : (b : Bool) → leb before.resume 10 ≡ b → FirstHeld (reason_of (cond b tick.ResumeGap tick.BetweenEdges)) (made_tick e)
          go true few = first_gap at q.0 few
          go false many =
              let far = leb-false before.resume 10 many in
              first_between (ap is_idle at) (ap is_starting at) (rw (at, lt-ltb 10 before.resume far, or-true)) (rw (at, lt-ltb 10 before.resume far)) (q.1 far)
      first_stage stage.Ended at q = first_between (ap is_idle at) (ap is_starting at) (rw at) (rw at) q

  first_named : (is_frame e.answer ≡ false → QuietAt before.stage before) → FirstHeld (reason_of (outcome (is_frame e.answer) before)) (made_tick e)
  unfolding outcome silence
  first_named quiet = go (is_frame e.answer) before.armed refl refl
    where
      go : (b on : Bool) → is_frame e.answer ≡ b → before.armed ≡ on
          → FirstHeld (reason_of (cond b tick.Sent (cond on (silence_at before.stage before) tick.Disarmed))) (made_tick e)
      go true on sent is = first_sent sent
      go false true silent is = first_stage silent is before.stage refl (quiet silent)
      go false false silent is = first_disarmed silent is

-- ---- What each call makes of it

-- from c to a channel that says x of its last tick, by the entry e: a reset or not, a tick or not
abbrev Moves : (again ticks : Bool) → Channel → Entry → TickOutcome → Type 0
Moves true ticks c e x = x ≡ tick.NoTick
Moves false true c e x = FirstHeld (reason_of x) (made_tick e)
Moves false false c e x = x ≡ c.outcome

moves_plain : (again : Bool) (c : Channel) (e : Entry) (x : TickOutcome) → x ≡ cond again tick.NoTick c.outcome → Moves again false c e x
moves_plain true c e x h = h
moves_plain false c e x h = h

ended_outcome : (on : Bool) (c : Channel) → (ended_if on c).outcome ≡ c.outcome
unfolding ended_if group_ended
ended_outcome true c = refl
ended_outcome false c = refl

register_outcome : (c : Channel) (offset value : ℕ)
    → (register_effect c offset value).outcome ≡ cond (eqb offset 0x06 && bit_at value 0) tick.NoTick c.outcome
unfolding register_effect reset
register_outcome c offset value =
    by_offset (λ (x : ℕ). (register_effect c x value).outcome ≡ cond (eqb x 0x06 && bit_at value 0) tick.NoTick c.outcome) offset
    refl (reset_outcome (bit_at value 0)) ((leaves_command c value).outcome ∙ ended_outcome (bit_at value 2) c)
    (λ d e f. rw (d, e, f) (either (λ (x : Channel). x.outcome ≡ c.outcome) (leb 0xe0 offset) refl refl))
  where
    reset_outcome : (on : Bool) → (cond on (reset c) c).outcome ≡ cond on tick.NoTick c.outcome
    reset_outcome true = refl
    reset_outcome false = refl

-- an entry of a call that is not refused
abbrev accepted_as : OneChannel → ChannelCall → Entry
accepted_as o k = record { before = o; call = k; answer = answer o k }

effect_moves : (o : OneChannel) (k : ChannelCall)
    → Moves (asks o k).reset (asks o k).ticks o.channel (accepted_as o k) (effect o k).channel.outcome
unfolding effect answer armed_of disarmed_of download_opened tick_of tick_outcome_of user_changed
effect_moves o (call.write_register lent offset value) =
    moves_plain (eqb offset 0x06 && bit_at value 0) o.channel (accepted_as o (call.write_register lent offset value))
    (register_effect o.channel offset value).outcome (register_outcome o.channel offset value)
effect_moves o (call.read_register offset) = (leaves_read o.channel offset).outcome
effect_moves o (call.write_setpoint lent user buffer index word) = refl
effect_moves o call.arm = refl
effect_moves o call.disarm = refl
effect_moves o call.open_download = refl
effect_moves o (call.reply lent f) = (leaves_reply o.channel o.m f).outcome
effect_moves o (call.query which one two) = refl
effect_moves o (call.tick lent) = first_named (accepted_as o (call.tick lent)) (tick_quiet o.channel o.setpoints o.n o.user)
effect_moves o (call.event lent code) =
    (leaves_event o.channel o.user code).outcome ∙ ended_outcome (triggers_of o.channel.registers group_end_event code) o.channel
effect_moves o (call.change_user user) = either (λ (x : OneChannel). x.channel.outcome ≡ o.channel.outcome) (eqb user o.user) refl refl
effect_moves o (call.write_main lent offset value) = refl
effect_moves o (call.read_main offset) = (leaves_main o.channel offset).outcome

-- refused, a call leaves it
moves : (o : OneChannel) (k : ChannelCall)
    → Moves (resets (entry o k)) (makes_tick (entry o k)) o.channel (entry o k) (transition o k).channel.outcome
unfolding transition response
moves o k = go (eqb (refusal_of o k) 0) refl
  where
    go : (b : Bool) → eqb (refusal_of o k) 0 ≡ b
        → let a = cond b (answer o k) (ans.refused (refusal_of o k)) in
        Moves (cond (is_refusal a) false (asks o k).reset) (cond (is_refusal a) false (asks o k).ticks) o.channel
        (record { before = o; call = k; answer = a }) (cond b (effect o k) o).channel.outcome
    go true e = rw (accepted_answer o k e) (effect_moves o k)
    go false e = refl

-- ---- Over a list

first_none : FirstHeld reason.no_tick no_tick
first_none = record { held = refl; none_before = λ y below. absurd (omega (arith, below)) }

held_step : (o : OneChannel) (k : ChannelCall) (t : LastTick) → FirstHeld (reason_of o.channel.outcome) t
    → FirstHeld (reason_of (transition o k).channel.outcome) (last_tick_after t (entry o k))
held_step o k t h = go (resets (entry o k)) (makes_tick (entry o k)) (moves o k)
  where
    go : (again ticks : Bool) → Moves again ticks o.channel (entry o k) (transition o k).channel.outcome
        → FirstHeld (reason_of (transition o k).channel.outcome) (cond again no_tick (cond ticks (made_tick (entry o k)) t))
    go true ticks e = subst (λ (x : TickOutcome). FirstHeld (reason_of x) no_tick) (sym e) first_none
    go false true e = e
    go false false e = subst (λ (x : TickOutcome). FirstHeld (reason_of x) t) (sym e) h

held_from : (o : OneChannel) (t : LastTick) → FirstHeld (reason_of o.channel.outcome) t → (ks : List ChannelCall)
    → FirstHeld (reason_of (transitions o ks).channel.outcome) (last_tick_since t (history o ks))
unfolding last_tick_since
held_from o t h [] = h
held_from o t h (k ∷ ks) = held_from (transition o k) (last_tick_after t (entry o k)) (held_step o k t h) ks

-- what is answered
told : (o : OneChannel) (one two : ℕ) → response o (query last_tick one two) ≡ ans.last_tick (reason_of o.channel.outcome)
unfolding response refusal_of answer
told o one two = refl

pub last_tick_named : LastTickNamed
unfolding opened
last_tick_named n m setpoints readbacks ks =
    let o = one_channel n m setpoints readbacks in
    record {
      named = reason_of (transitions o ks).channel.outcome;
      answers = told (transitions o ks);
      first_held = held_from o no_tick first_none ks;
    }

-- no call but a tick and a reset touches it
stays_from : (o : OneChannel) (ks : List ChannelCall) → NoTickNorReset (history o ks) → (transitions o ks).channel.outcome ≡ o.channel.outcome
stays_from o [] h = refl
stays_from o (k ∷ ks) h =
    stays_from (transition o k) ks h.2 ∙ go (resets (entry o k)) (makes_tick (entry o k)) h.1 h.0 (moves o k)
  where
    go : (again ticks : Bool) → again ≡ false → ticks ≡ false → Moves again ticks o.channel (entry o k) (transition o k).channel.outcome
        → (transition o k).channel.outcome ≡ o.channel.outcome
    go true ticks e f x = clash (sym e)
    go false true e f x = clash (sym f)
    go false false e f x = x

pub last_tick_stays : LastTickStays
last_tick_stays o ks h one two = told (transitions o ks) one two ∙ ap (λ (x : TickOutcome). ans.last_tick (reason_of x)) (stays_from o ks h) ∙ sym (told o one two)

-- what a tick that takes place leaves, till the next
pub last_tick_seen : LastTickSeen
last_tick_seen o lent ks makes none =
    let p = transition o (call.tick lent) in
    let e = entry o (call.tick lent) in
    record {
      named = reason_of (transitions p ks).channel.outcome;
      answers = told (transitions p ks);
      first_held =
          subst (λ (x : TickOutcome). FirstHeld (reason_of x) (made_tick e)) (sym (stays_from p ks none))
          (go (resets e) (makes_tick e) (never_resets (is_refusal e.answer)) makes (moves o (call.tick lent)));
    }
  where
    never_resets : (b : Bool) → cond b false false ≡ false
    never_resets true = refl
    never_resets false = refl

    go : (again ticks : Bool) → again ≡ false → ticks ≡ true → Moves again ticks o.channel (entry o (call.tick lent)) (transition o (call.tick lent)).channel.outcome
        → FirstHeld (reason_of (transition o (call.tick lent)).channel.outcome) (made_tick (entry o (call.tick lent)))
    go true ticks f g x = clash (sym f)
    go false true f g x = x
    go false false f g x = clash g

-- a tick lent the right length takes place
pub tick_made : (o : OneChannel) (lent : ℕ) → lent ≡ o.n * 64 → makes_tick (entry o (call.tick lent)) ≡ true
unfolding refusal_of
tick_made o lent e =
    let fits : eqb (refusal_of o (call.tick lent)) 0 ≡ true = rw (eq-eqb lent (o.n * 64) e) in
    ap (λ (b : Bool). cond b false true) (ap is_refusal (accepted_response o (call.tick lent) fits) ∙ accepted_answer o (call.tick lent) fits)

-- what a reset leaves, till a tick
pub reset_forgets : ResetForgets
reset_forgets o k ks again none one two =
    told (transitions (transition o k) ks) one two
    ∙ ap (λ (x : TickOutcome). ans.last_tick (reason_of x)) (stays_from (transition o k) ks none ∙ go (resets (entry o k)) (makes_tick (entry o k)) again (moves o k))
  where
    go : (again ticks : Bool) → again ≡ true → Moves again ticks o.channel (entry o k) (transition o k).channel.outcome
        → (transition o k).channel.outcome ≡ tick.NoTick
    go true ticks e x = x
    go false ticks e x = clash e

-- ---- One name at most

-- the name at a place
abbrev name_at : ℕ → TickReason
name_at p =
    cond (eqb p 0) reason.no_tick (cond (eqb p 1) reason.sent (cond (eqb p 2) reason.disarmed (cond (eqb p 3) reason.idle
    (cond (eqb p 4) reason.start_delay (cond (eqb p 5) reason.start_gap (cond (eqb p 6) reason.resume_gap reason.between_edges))))))

named_at : (x : TickReason) → name_at (place x) ≡ x
named_at reason.no_tick = refl
named_at reason.sent = refl
named_at reason.disarmed = refl
named_at reason.idle = refl
named_at reason.start_delay = refl
named_at reason.start_gap = refl
named_at reason.resume_gap = refl
named_at reason.between_edges = refl

pub one_first_held : OneFirstHeld
one_first_held x y t h g = go (ltb (place x) (place y)) (ltb (place y) (place x)) refl refl
  where
    go : (less more : Bool) → ltb (place x) (place y) ≡ less → ltb (place y) (place x) ≡ more → x ≡ y
    go true more e f = clash (sym (g.none_before x (ltb-true (place x) (place y) e)) ∙ h.held)
    go false true e f = clash (sym (h.none_before y (ltb-true (place y) (place x) f)) ∙ g.held)
    go false false e f =
        let same : place x ≡ place y = omega (arith, ltb-false (place x) (place y) e, ltb-false (place y) (place x) f) in
        sym (named_at x) ∙ ap name_at same ∙ named_at y
