-- A tag moves no frame, and changes nothing else that ticks leave. Assumes nothing.
use Prim.Native.Nat.{ℕ, zero, suc, ◌-◌, ◌*◌}
use mathlib.Core.Path.{◌≡◌, refl, sym, ap, ap₂, ◌∙◌}
use mathlib.Core.Bool.{Bool, true, false, cond}
use mathlib.Core.List.{List}
use lib.Dec.{eqb}
use lib.ListN.{replicate}
use Rattle.std.specs.declared.option.Option.{Option}
use Rattle.std.specs.declared.option.Option.TheVariants.{Some, None}
use Rattle.std.specs.Option.{option_map}
use Rattle.status.specs.declared.Status.{Status}
use Rattle.registers.specs.Map.{period_of}
use Rattle.sequencer.specs.declared.LastSend.{LastSend}
use Rattle.sequencer.specs.declared.Sequencer.{Sequencer}
use Rattle.sequencer.specs.Transmissions.{Transmission}
use Rattle.sequencer.specs.Transmissions as transmission
use Rattle.sequencer.specs.Playing.{with_last, with_tag, shortfall}
use Rattle.sequencer.specs.Runs.{unmarked}
use Rattle.sequencer.specs.Runs as seq
use Rattle.sequencer.proofs.Untagged.{Alike, tick_untagged}
use Rattle.tick_outcome.specs.declared.TickOutcome.{TickOutcome}
use Rattle.tick_outcome.specs.Outcomes.{outcome}
use Rattle.tick_outcome.proofs.Laws.{outcome_by}
use Rattle.command_frames.specs.Commanding as cmd
use Rattle.channel_core.specs.declared.Channel.{Channel}
use Rattle.channel_core.specs.Answers.{Answer, refused, is_frame}
use Rattle.channel_core.specs.State.{with_status, with_sequencer, with_outcome, with_commands}
use Rattle.channel_core.specs.Behaviour.{due_of, played_of, send_status, is_setpoint, tick_line, tick_of, tick_outcome_of, tick_answer}
use Rattle.channel.specs.OneChannel.{OneChannel, tick, refusal_of, effect, answer, transition, transitions, response, with_channel}
use Rattle.timing.specs.Ticking.{after, on_tick}
use Rattle.timing.specs.Timing.{tagged_if, untagged}
use Rattle.timing.specs.Timing as the
use Rattle.timing.proofs.Calls.{tagged_channel}

-- a channel with no tag, used or not
abbrev plain : Channel → Channel
plain c = with_sequencer c (seq.untagged c.sequencer)

-- taking the mark away again changes nothing
unmarked_again : (l : Option LastSend) → option_map unmarked (option_map unmarked l) ≡ option_map unmarked l
unmarked_again None = refl
unmarked_again (Some l) = refl

untagged_again : (o : OneChannel) → untagged (untagged o) ≡ untagged o
untagged_again o =
    ap (λ (l : Option LastSend). with_channel o (with_sequencer o.channel (with_tag (with_last o.channel.sequencer l) false)))
    (unmarked_again o.channel.sequencer.last)

-- what is counted as missing goes by no tag
status_same : (s : Status) (l : Option LastSend) (x : Transmission) → send_status s (option_map unmarked l) x ≡ send_status s l x
unfolding shortfall
status_same s l transmission.Nothing = refl
status_same s None (transmission.Word word k) = refl
status_same s (Some x) (transmission.Word word k) = refl

module _ (c : Channel) (s : List ℕ) (n user : ℕ) where
  played_same : Alike (played_of (plain c) s n user) (played_of c s n user)
  unfolding due_of
  played_same = tick_untagged (due_of c s n user) n (period_of c.registers.clock) c.registers.id c.sequencer

  answer_same : tick_answer (plain c) s n user ≡ tick_answer c s n user
  unfolding tick_answer
  answer_same = ap (tick_line c.registers.id c.commands) played_same.transmission_same

  outcome_same : tick_outcome_of (plain c) s n user ≡ tick_outcome_of c s n user
  unfolding tick_outcome_of
  outcome_same =
      ap (λ (a : Answer). outcome (is_frame a) (plain c).sequencer) answer_same
      ∙ outcome_by (is_frame (tick_answer c s n user)) c.sequencer (plain c).sequencer refl refl refl refl

  tick_same : plain (tick_of (plain c) s n user) ≡ plain (tick_of c s n user)
  unfolding tick_of
  tick_same =
      let a = played_same in
      let x = played_of c s n user in
      let y = tick_outcome_of (plain c) s n user in
      ap₂
      (λ (t : Transmission) (q : Sequencer).
      with_commands (with_outcome (with_sequencer (with_status c (send_status c.status (option_map unmarked c.sequencer.last) t)) q) y) (cmd.ticked c.commands (is_setpoint t)))
      a.transmission_same a.rest_same
      ∙ ap₂
      (λ (t : Status) (z : TickOutcome).
      with_commands (with_outcome (with_sequencer (with_status c t) (seq.untagged x.sequencer)) z) (cmd.ticked c.commands (is_setpoint x.transmission)))
      (status_same c.status c.sequencer.last x.transmission) outcome_same

-- a tick, whatever it is lent
module _ (lent : ℕ) where
  transition_same : (o : OneChannel) → untagged (transition (untagged o) (tick lent)) ≡ untagged (transition o (tick lent))
  unfolding transition refusal_of effect
  transition_same o = go (eqb (refusal_of o (tick lent)) 0)
    where
      go : (b : Bool) → untagged (cond b (effect (untagged o) (tick lent)) (untagged o)) ≡ untagged (cond b (effect o (tick lent)) o)
      go true = ap (with_channel o) (tick_same o.channel o.setpoints o.n o.user)
      go false = untagged_again o

  response_same : (o : OneChannel) → response (untagged o) (tick lent) ≡ response o (tick lent)
  unfolding response refusal_of answer
  response_same o =
      let k = refusal_of o (tick lent) in
      ap (λ (a : Answer). cond (eqb k 0) a (refused k)) (answer_same o.channel o.setpoints o.n o.user)

  after_same : (o p : OneChannel) (k : ℕ) → untagged o ≡ untagged p
      → untagged (transitions o (replicate k (tick lent))) ≡ untagged (transitions p (replicate k (tick lent)))
  after_same o p zero e = e
  after_same o p (suc k) e =
      after_same (transition o (tick lent)) (transition p (tick lent)) k
      (sym (transition_same o) ∙ ap (λ (q : OneChannel). untagged (transition q (tick lent))) e ∙ transition_same p)

pub tag_leaves_ticks : the.TagLeavesTicks
unfolding after on_tick
tag_leaves_ticks o on j =
    let lent = o.n * 64 in
    let e : untagged (tagged_if on o) ≡ untagged o = ap (λ (c : Channel). untagged (with_channel o c)) (tagged_channel on o.channel) in
    let p = after (tagged_if on o) (j - 1) in
    let q = after o (j - 1) in (
      sym (response_same lent p)
          ∙ ap (λ (x : OneChannel). response x (tick lent)) (after_same lent (tagged_if on o) o (j - 1) e)
          ∙ response_same lent q,
      after_same lent (tagged_if on o) o j e,
    )
