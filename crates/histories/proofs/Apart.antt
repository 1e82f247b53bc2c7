-- Command frames and setpoints keep apart through what a channel does. Assumes nothing.
use Prim.Native.Nat.{ℕ, ◌≤◌}
use mathlib.Core.Path.{◌≡◌, refl, sym, ◌∙◌, ap, subst}
use mathlib.Core.Bool.{Bool, true, false, cond, not, ◌&&◌}
use mathlib.Core.List.{List}
use native.Mathlib.Omega.{arith}
use lib.Dec.{eqb, leb}
use borrow.Author.Tests.{lt-leb}
use Rattle.std.specs.declared.option.Option.{Option}
use Rattle.std.specs.Option.{is_some}
use Rattle.std.specs.declared.option.Option.TheVariants.{Some}
use Rattle.frame.specs.Frames.{Reading, read, crc_right}
use Rattle.frame.specs.Frames as frame
use Rattle.status.specs.Bits.{bit_at}
use Rattle.status.specs.Latching.{run}
use Rattle.registers.specs.Map.{period_of, triggers_of, group_end_event}
use Rattle.sequencer.specs.declared.LastSend.{LastSend}
use Rattle.sequencer.specs.declared.Stage.{Stage}
use Rattle.sequencer.specs.declared.Stage.TheVariants as stage
use Rattle.sequencer.specs.declared.Sequencer.{Sequencer}
use Rattle.sequencer.specs.Transmissions.{Transmission}
use Rattle.sequencer.specs.Transmissions as transmission
use Rattle.sequencer.specs.Playing.{is_idle, nothing_sent, advancing, ticked, ticked_at, loaded_resume}
use Rattle.sequencer.specs.Playing as seq
use Rattle.sequencer.proofs.Moves.{resumed_either}
use Rattle.readback.specs.declared.Disposition.{Disposition}
use Rattle.readback.specs.declared.Disposition.TheVariants as disposition
use Rattle.command_frames.specs.declared.CommandFrames.{CommandFrames}
use Rattle.command_frames.specs.declared.Trigger.TheVariants as trigger
use Rattle.command_frames.specs.Commanding.{is_due, requested, sent, takes, received}
use Rattle.command_frames.specs.Commanding as cmd
use Rattle.command_frames.proofs.Laws.{ticked_due}
use Rattle.channel_core.specs.declared.Channel.{Channel}
use Rattle.channel_core.specs.State.{opened, reset, with_sequencer, condition_latched}
use Rattle.channel_core.specs.Behaviour.{started, group_ended, ended_if, started_if, resumed_if, tagged_if, resumed_on, event_of, commanded, user_changed, due_of, played_of, is_setpoint, tick_of}
use Rattle.channel_replies.specs.Replying.{disposition_now, received_channel, reply_as, reply_of}
use Rattle.channel_registers.specs.Calls.{cannot_send, register_effect}
use Rattle.channel.specs.Calls.{armed_of, disarmed_of}
use Rattle.channel.proofs.Cases.{clash, either, by_test}
use Rattle.histories.specs.Windows.{Window}
use Rattle.histories.specs.Ranges.{ApartAt, Apart, Quiet}
use Rattle.histories.proofs.Ticks.{window_of, window_sent, reply_leaves, plays_ticked}

abbrev pub ApartIn : Channel → Type 0
ApartIn c = Apart c.commands c.sequencer

-- ---- A tick with a command frame sends no setpoint

module _ (s : Sequencer) (due n p id : ℕ) where
  starting_nothing : 2 ≤ s.left → (advancing s due n p id).transmission ≡ transmission.Nothing
  unfolding advancing
  starting_nothing h = rw (lt-leb s.left 1 (omega arith))

  pub ticked_nothing : ApartAt s.stage s.left → (ticked s due n p id).transmission ≡ transmission.Nothing
  unfolding ticked
  ticked_nothing = go s.stage
    where
      go : (g : Stage) → ApartAt g s.left → (ticked_at g s due n p id).transmission ≡ transmission.Nothing
      go stage.Idle h = refl
      go stage.Starting h = starting_nothing h
      go stage.Running h = absurd h
      go (stage.Paused k) h = absurd h
      go stage.Resuming h = absurd h
      go stage.Ended h = absurd h

pub apart_nothing : (c : Channel) (s : List ℕ) (n user : ℕ) → ApartIn c → is_due c.commands.waiting ≡ true
    → (played_of c s n user).transmission ≡ transmission.Nothing
apart_nothing c s n user p e = ticked_nothing c.sequencer (due_of c s n user) n (period_of c.registers.clock) c.registers.id (p.due e)

-- ---- What keeps them apart

pub idle_apart : (g : Stage) (left : ℕ) → is_idle g ≡ true → ApartAt g left
idle_apart stage.Idle left e = tt
idle_apart stage.Starting left e = clash e
idle_apart stage.Running left e = clash e
idle_apart (stage.Paused k) left e = clash e
idle_apart stage.Resuming left e = clash e
idle_apart stage.Ended left e = clash e

-- idle, with nothing sent, whatever waits
apart_idle : (f : CommandFrames) (s : Sequencer) → s.stage ≡ stage.Idle → s.last ≡ nothing_sent → Apart f s
apart_idle f s e l =
    let unsent = ap (λ (x : Option LastSend). is_some x) l in
    record {
      due = λ d. subst (λ (g : Stage). ApartAt g s.left) (sym e) tt;
      due_unsent = λ d. unsent;
      receiving_unsent = λ d. unsent;
    }

-- nothing is due, and no reply goes to E4–FA
apart_none : (f : CommandFrames) (s : Sequencer) → is_due f.waiting ≡ false → f.receiving ≡ false → Apart f s
apart_none f s e r =
    record {
      due = λ d. clash (sym e ∙ d);
      due_unsent = λ d. clash (sym e ∙ d);
      receiving_unsent = λ d. clash (sym r ∙ d);
    }

pub apart_opened : ApartIn opened
unfolding opened
apart_opened = apart_none cmd.opened seq.opened refl refl

module _ (f : CommandFrames) (s : Sequencer) (p : Apart f s) where
  apart_started : (delay : ℕ) → Apart f (seq.started s delay)
  unfolding seq.started
  apart_started delay = record { due = λ d. omega arith; due_unsent = p.due_unsent; receiving_unsent = p.receiving_unsent }

  apart_armed : Apart f (seq.armed s)
  unfolding seq.armed
  apart_armed = record { due = p.due; due_unsent = p.due_unsent; receiving_unsent = p.receiving_unsent }

  apart_tagged : Apart f (seq.tagged s)
  unfolding seq.tagged
  apart_tagged =
      either (Apart f) s.armed (record { due = p.due; due_unsent = p.due_unsent; receiving_unsent = p.receiving_unsent }) p

  apart_answered : Apart f (seq.answered s)
  unfolding seq.answered
  apart_answered =
      let a = reply_leaves s.last in
      record { due = p.due; due_unsent = λ d. a.0 ∙ p.due_unsent d; receiving_unsent = λ r. a.0 ∙ p.receiving_unsent r }

  -- in a pause nothing is due
  apart_loaded : (k delay : ℕ) → s.stage ≡ stage.Paused k → Apart f (loaded_resume s delay)
  apart_loaded k delay e =
      record {
        due = λ d. absurd (subst (λ (g : Stage). ApartAt g s.left) e (p.due d));
        due_unsent = p.due_unsent;
        receiving_unsent = p.receiving_unsent;
      }

  apart_resumed : (pause delay : ℕ) → Apart f (seq.resumed s pause delay)
  apart_resumed pause delay = resumed_either (Apart f) s pause delay (apart_loaded pause delay) p

  -- another frame, or none, is asked for; an idle channel may ask for the next tick
  apart_requested : Quiet s → (value : ℕ) → (bit_at value 0 && not (s.armed && is_idle s.stage)) ≡ false
      → Apart (cmd.with_waiting f (requested f.waiting value)) s
  apart_requested q value = go (bit_at value 0) (bit_at value 1)
    where
      idle : (a i : Bool) → is_idle s.stage ≡ i → not (a && i) ≡ false → is_idle s.stage ≡ true
      idle true true e n = e
      idle true false e n = clash (sym n)
      idle false i e n = clash (sym n)

      go : (a b : Bool) → (a && not (s.armed && is_idle s.stage)) ≡ false
          → Apart (cmd.with_waiting f (cond a (Some trigger.NextTick) (cond b (Some trigger.GroupEnd) f.waiting))) s
      go true b n =
          let i = idle s.armed (is_idle s.stage) refl n in
          let unsent = ap (λ (x : Option LastSend). is_some x) (q i) in
          record { due = λ d. idle_apart s.stage s.left i; due_unsent = λ d. unsent; receiving_unsent = p.receiving_unsent }
      go false true n = record { due = λ d. clash d; due_unsent = λ d. clash d; receiving_unsent = p.receiving_unsent }
      go false false n = p

  -- a reply to E4–FA
  apart_received : (wrong : Bool) (id word : ℕ) → Apart (received f wrong id word) s
  unfolding received
  apart_received wrong id word =
      either (λ (g : CommandFrames). Apart g s) (takes f)
      (record { due = p.due; due_unsent = p.due_unsent; receiving_unsent = p.receiving_unsent }) p

  -- a tick: none is due after it; with no setpoint the last send stays
  apart_ticked : (due n period id : ℕ) (x : Transmission) → (ticked s due n period id).transmission ≡ x
      → Apart (cmd.ticked f (is_setpoint x)) (ticked s due n period id).sequencer
  unfolding cmd.ticked
  apart_ticked due n period id x e =
      record {
        due = λ d. clash (sym (ticked_due f (is_setpoint x)) ∙ d);
        due_unsent = λ d. clash (sym (ticked_due f (is_setpoint x)) ∙ d);
        receiving_unsent = go x e;
      }
    where
      window : window_of (ticked s due n period id).sequencer ≡ window_sent id (ticked s due n period id).transmission (window_of s)
      window = (plays_ticked s due n period id).window

      unsent : (b : Bool) → is_due f.waiting ≡ b → (cond b (sent f) f).receiving ≡ true → is_some s.last ≡ false
      unsent true d r = p.due_unsent d
      unsent false d r = p.receiving_unsent r

      go : (y : Transmission) → (ticked s due n period id).transmission ≡ y → (cmd.ticked f (is_setpoint y)).receiving ≡ true
          → is_some (ticked s due n period id).sequencer.last ≡ false
      go transmission.Nothing d r =
          ap (λ (w : Window). w.sent) (window ∙ ap (λ (z : Transmission). window_sent id z (window_of s)) d) ∙ unsent (is_due f.waiting) refl r
      go (transmission.Word word k) d r = clash r

-- ---- The channel

module _ (c : Channel) (p : ApartIn c) where
  channel_started : (delay : ℕ) → ApartIn (started c delay)
  unfolding started
  channel_started delay = go c.sequencer.armed (is_idle c.sequencer.stage)
    where
      go : (a i : Bool) → ApartIn (cond a (with_sequencer (cond i (condition_latched c run) c) (seq.started c.sequencer delay)) c)
      go true true = apart_started c.commands c.sequencer p delay
      go true false = apart_started c.commands c.sequencer p delay
      go false i = p

  channel_ended : (on : Bool) → ApartIn (ended_if on c)
  unfolding ended_if group_ended seq.group_ended seq.idled
  channel_ended true = apart_idle (cmd.group_ended c.commands) (seq.group_ended c.sequencer) refl refl
  channel_ended false = p

  channel_started_if : (on : Bool) (delay : ℕ) → ApartIn (started_if on c delay)
  unfolding started_if
  channel_started_if on delay = either ApartIn on (channel_started delay) p

  channel_resumed_if : (on : Bool) (pause delay : ℕ) → ApartIn (resumed_if on c pause delay)
  unfolding resumed_if
  channel_resumed_if on pause delay = either ApartIn on (apart_resumed c.commands c.sequencer p pause delay) p

  channel_tagged_if : (on : Bool) → ApartIn (tagged_if on c)
  unfolding tagged_if
  channel_tagged_if on = either ApartIn on (apart_tagged c.commands c.sequencer p) p

-- with a Group End, whatever came before
pub apart_ended_event : (c : Channel) (user code : ℕ) → triggers_of c.registers group_end_event code ≡ true → ApartIn (event_of c user code)
unfolding event_of resumed_on ended_if group_ended seq.group_ended seq.idled
apart_ended_event c user code on =
    channel_tagged_if _ (channel_resumed_if _ (channel_resumed_if _ (channel_resumed_if _ (channel_resumed_if _
    (channel_started_if _ (rw on (apart_idle (cmd.group_ended c.commands) (seq.group_ended c.sequencer) refl refl)) _ _) _ _ _) _ _ _) _ _ _) _ _ _) _

pub apart_ended : (c : Channel) (value : ℕ) → bit_at value 2 ≡ true → ApartIn (commanded c value)
unfolding commanded ended_if group_ended seq.group_ended seq.idled
apart_ended c value on =
    channel_tagged_if _ (channel_resumed_if _
    (channel_started_if _ (rw on (apart_idle (cmd.group_ended c.commands) (seq.group_ended c.sequencer) refl refl)) _ _) _ _ _) _

module _ (c : Channel) (p : ApartIn c) where
  pub apart_event : (user code : ℕ) → ApartIn (event_of c user code)
  unfolding event_of resumed_on
  apart_event user code =
      channel_tagged_if _ (channel_resumed_if _ (channel_resumed_if _ (channel_resumed_if _ (channel_resumed_if _
      (channel_started_if _ (channel_ended c p _) _ _) _ _ _) _ _ _) _ _ _) _ _ _) _

  apart_command : (value : ℕ) → ApartIn (commanded c value)
  unfolding commanded
  apart_command value = channel_tagged_if _ (channel_resumed_if _ (channel_started_if _ (channel_ended c p _) _ _) _ _ _) _

  pub apart_user : ApartIn (user_changed c)
  unfolding user_changed seq.idled
  apart_user = apart_idle c.commands (seq.idled c.sequencer) refl refl

  pub apart_arm : ApartIn (armed_of c)
  unfolding armed_of
  apart_arm = apart_armed c.commands c.sequencer p

  pub apart_disarm : ApartIn (disarmed_of c)
  unfolding disarmed_of seq.disarmed seq.idled
  apart_disarm = apart_idle (cmd.dropped c.commands) (seq.disarmed c.sequencer) refl refl

  pub apart_tick : (s : List ℕ) (n user : ℕ) → ApartIn (tick_of c s n user)
  unfolding tick_of
  apart_tick s n user =
      apart_ticked c.commands c.sequencer p (due_of c s n user) n (period_of c.registers.clock) c.registers.id (played_of c s n user).transmission refl

  disposition_apart : (d : Disposition) (m : ℕ) (right : Bool) (word : ℕ) → ApartIn (received_channel d c m right word)
  disposition_apart disposition.Unsolicited m right word = p
  disposition_apart disposition.Lost m right word = apart_answered c.commands c.sequencer p
  disposition_apart disposition.Kept m right word = apart_answered c.commands c.sequencer p

  pub apart_reply : (m f : ℕ) → ApartIn (reply_of c m f)
  unfolding reply_of
  apart_reply m f = go (read f)
    where
      go : (g : Reading) → ApartIn (reply_as g c m)
      go (frame.refused k) = p
      go (frame.fields id word aux crc) =
          either ApartIn (takes c.commands) (apart_received c.commands c.sequencer p (not (crc_right id word aux crc)) id word)
          (disposition_apart (disposition_now c m) m (crc_right id word aux crc) word)

  reset_apart : ApartIn (reset c)
  unfolding reset
  reset_apart = apart_none cmd.opened seq.opened refl refl

  -- E0, E2 and FC; FC asks for the next tick only where it is not refused 10
  stored_apart : Quiet c.sequencer → (offset value : ℕ) → cannot_send c offset value ≡ false
      → Apart (cmd.stored c.commands offset value) c.sequencer
  unfolding cmd.stored
  stored_apart q offset value a =
      let P : CommandFrames → Type 0 = λ f. Apart f c.sequencer in
      either P (eqb offset 0xe0) (record { due = p.due; due_unsent = p.due_unsent; receiving_unsent = p.receiving_unsent })
      (either P (eqb offset 0xe2) (record { due = p.due; due_unsent = p.due_unsent; receiving_unsent = p.receiving_unsent })
      (by_test P (eqb offset 0xfc) (λ e. apart_requested c.commands c.sequencer p q value (rw e at a)) (λ e. p)))

  pub apart_register : Quiet c.sequencer → (offset value : ℕ) → cannot_send c offset value ≡ false → ApartIn (register_effect c offset value)
  unfolding register_effect
  apart_register q offset value a =
      either ApartIn (eqb offset 0x00) p
      (either ApartIn (eqb offset 0x06) (either ApartIn (bit_at value 0) reset_apart p)
      (either ApartIn (eqb offset 0x08) (apart_command value)
      (either ApartIn (leb 0xe0 offset) (stored_apart q offset value a) p)))
