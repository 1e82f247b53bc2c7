-- Status, registers, stored readback counts and command frames stay in range through what a channel does. Assumes nothing.
use Prim.Native.Nat.{ℕ, zero, suc, ◌≤◌, ◌<◌}
use mathlib.Core.Path.{◌≡◌, refl, sym, ◌∙◌, ap}
use mathlib.Core.Logic.{◌⊎◌, inl, inr}
use mathlib.Core.Bool.{Bool, true, false, cond, not, or-true}
use mathlib.Core.List.{List, [], ◌∷◌}
use native.Mathlib.Omega.{arith}
use lib.ListN.{length, get_or, set, replicate, length-set}
use lib.Seq.{get_or-set_other}
use lib.Dec.{eqb, ltb}
use borrow.Author.Tests.{ltb-true, le-leb}
use Rattle.frame.specs.Frames.{Reading, read, framed, id_of, data_of, aux_of, crc_in, crc_right}
use Rattle.frame.specs.Frames as frame
use Rattle.status.specs.declared.Status.{Status}
use Rattle.status.specs.Latching.{latched, group_end, early_end, run, missing_readback, crc_error}
use Rattle.registers.specs.declared.Registers.{Registers}
use Rattle.registers.specs.Map.{period_of, stored, flips}
use Rattle.registers.specs.Map as reg
use Rattle.std.specs.declared.option.Option.{Option}
use Rattle.adc_words.specs.declared.AdcWord.{AdcWord}
use Rattle.adc_words.specs.declared.AdcWords.{AdcWords}
use Rattle.adc_words.specs.Positions.{adc_word, with_reply}
use Rattle.sequencer.specs.declared.LastSend.{LastSend}
use Rattle.sequencer.specs.declared.Sequencer.{Sequencer}
use Rattle.sequencer.specs.Transmissions.{Transmission}
use Rattle.sequencer.specs.Transmissions as transmission
use Rattle.sequencer.specs.Playing.{is_idle, unfinished, shortfall, send_of}
use Rattle.readback.specs.declared.Readbacks.{Readbacks}
use Rattle.readback.specs.declared.Disposition.{Disposition}
use Rattle.readback.specs.declared.Disposition.TheVariants as disposition
use Rattle.readback.specs.Storing.{kept_in, capacity}
use Rattle.command_frames.specs.declared.CommandFrames.{CommandFrames}
use Rattle.command_frames.specs.Commanding.{is_due, takes, received}
use Rattle.command_frames.specs.Commanding as cmd
use Rattle.command_frames.proofs.Laws.{taken_few}
use Rattle.tick_outcome.specs.declared.TickOutcome.{TickOutcome}
use Rattle.channel_core.specs.declared.Channel.{Channel}
use Rattle.channel_core.specs.State.{opened, reset, with_status, with_registers, with_sequencer, with_outcome, with_commands}
use Rattle.channel_core.specs.Behaviour.{started, started_if, ended_if, resumed_if, tagged_if, resumed_on, event_of, commanded, group_ended, early_ended, user_changed, condition_status, send_status, is_setpoint, due_of, played_of, tick_of}
use Rattle.channel_replies.specs.Replying.{crc_status, disposition_now, received_channel, reply_as, reply_of}
use Rattle.channel.specs.Calls.{disarmed_of}
use Rattle.channel.specs.Downloads.{download_opened}
use Rattle.channel.proofs.Cases.{clash, either, by_test}
use Rattle.histories.proofs.Ticks.{Latching, plays_ticked}
use Rattle.histories.specs.Statuses.{is_condition}
use Rattle.histories.specs.Ranges.{BitsInRange, StatusInRange, RegistersInRange, ReadbacksInRange, AdcInRange, AdcWordsInRange, CommandsInRange, ChannelInRange}

-- ---- Status

none_set : (n k : ℕ) → get_or (replicate n false) k false ≡ false
none_set zero k = refl
none_set (suc n) zero = refl
none_set (suc n) (suc k) = none_set n k

pub none_range : BitsInRange (replicate 16 false)
none_range = record { long = refl; rest = λ k e. none_set 16 k }

set_range : (l : List Bool) (bit : ℕ) → is_condition bit ≡ true → BitsInRange l → BitsInRange (set l bit true)
set_range l bit c h =
    record {
      long = simp length-set h.long;
      rest = λ k e. get_or-set_other l bit k true false (λ d. clash (sym e ∙ ap is_condition d ∙ c)) ∙ h.rest k e;
    }

latched_range : (s : Status) (bit : ℕ) → is_condition bit ≡ true → StatusInRange s → StatusInRange (latched s bit)
unfolding latched
latched_range s bit c h =
    record {
      enable = h.enable;
      interrupt = set_range s.interrupt.bits bit c h.interrupt;
      polling = set_range s.polling.bits bit c h.polling;
    }

early_range : (s : Status) (q : Sequencer) → StatusInRange s → StatusInRange (early_ended s q)
early_range s q h = either StatusInRange (unfinished q) (latched_range s early_end refl h) h

-- D15–D7 are conditions
high_condition : (k : ℕ) → 7 ≤ k → k ≤ 15 → is_condition k ≡ true
high_condition k low high = rw (le-leb 7 k low, le-leb k 15 high, or-true, or-true)

condition_range : (s : Status) (k : ℕ) → (k ≡ 0) ⊎ ((7 ≤ k) × (k ≤ 15)) → StatusInRange s → StatusInRange (condition_status s k)
condition_range s k (inl e) h = rw e h
condition_range s k (inr l) h = either StatusInRange (eqb k 0) h (latched_range s k (high_condition k l.0 l.1) h)

send_range : (s : Status) (last : Option LastSend) (x : Transmission) → Latching x → StatusInRange s → StatusInRange (send_status s last x)
send_range s last transmission.Nothing l h = h
send_range s last (transmission.Word word k) l h =
    condition_range _ k l (either StatusInRange (eqb (shortfall last) 0) h (latched_range s missing_readback refl h))

crc_range : (s : Status) (right : Bool) → StatusInRange s → StatusInRange (crc_status s right)
crc_range s true h = h
crc_range s false h = latched_range s crc_error refl h

-- ---- Registers

length_flips : (a s : List Bool) → length (flips a s) ≡ length a
unfolding flips
length_flips [] s = refl
length_flips (x ∷ a) [] = refl
length_flips (x ∷ a) (y ∷ s) = ap suc (length_flips a s)

group_registers : (r : Registers) (count : ℕ) → RegistersInRange r → RegistersInRange (reg.group_ended r count)
unfolding reg.group_ended
group_registers r count h =
    record {
      clock = h.clock;
      active = length_flips _ r.switches ∙ simp length-set h.active;
      id = h.id;
      events = h.events;
      switches = refl;
      delays = h.delays;
    }

-- a register write whose clock code was accepted
pub stored_range : (r : Registers) (offset value : ℕ) → (eqb offset 0x0a ≡ true → value ≤ 3) → RegistersInRange r
    → RegistersInRange (stored r offset value)
unfolding stored
stored_range r offset value code h =
    let P = RegistersInRange in
    by_test P (eqb offset 0x0a)
    (λ e. record { clock = code e; active = h.active; id = h.id; events = h.events; switches = h.switches; delays = h.delays })
    (λ e.
    either P (eqb offset 0x14)
    (record { clock = h.clock; active = h.active; id = omega arith; events = h.events; switches = h.switches; delays = h.delays })
    (either P (ltb offset 0x20) h
    (either P (ltb offset 0x2e)
    (record { clock = h.clock; active = h.active; id = h.id; events = simp length-set h.events; switches = h.switches; delays = h.delays })
    (either P (ltb offset 0x30) h
    (either P (ltb offset 0x40)
    (record { clock = h.clock; active = h.active; id = h.id; events = h.events; switches = simp length-set h.switches; delays = h.delays })
    (either P (ltb offset 0xe0)
    (record { clock = h.clock; active = h.active; id = h.id; events = h.events; switches = h.switches; delays = simp length-set h.delays })
    h))))))

-- ---- Command frames

group_commands : (f : CommandFrames) → CommandsInRange f → CommandsInRange (cmd.group_ended f)
unfolding cmd.group_ended
group_commands f h = record { count = h.count; replies = h.replies }

dropped_commands : (f : CommandFrames) → CommandsInRange f → CommandsInRange (cmd.dropped f)
unfolding cmd.dropped
dropped_commands f h = record { count = h.count; replies = h.replies }

ticked_commands : (f : CommandFrames) (setpoint : Bool) → CommandsInRange f → CommandsInRange (cmd.ticked f setpoint)
unfolding cmd.ticked
ticked_commands f setpoint h =
    either CommandsInRange setpoint (record { count = h.count; replies = h.replies })
    (either CommandsInRange (is_due f.waiting) (record { count = omega arith; replies = h.replies }) h)

stored_commands : (f : CommandFrames) (offset value : ℕ) → CommandsInRange f → CommandsInRange (cmd.stored f offset value)
unfolding cmd.stored
stored_commands f offset value h =
    either CommandsInRange (eqb offset 0xe0) (record { count = h.count; replies = h.replies })
    (either CommandsInRange (eqb offset 0xe2) (record { count = h.count; replies = h.replies })
    (either CommandsInRange (eqb offset 0xfc) (record { count = h.count; replies = h.replies }) h))

received_commands : (f : CommandFrames) (wrong : Bool) (id word : ℕ) → CommandsInRange f → CommandsInRange (received f wrong id word)
unfolding received
received_commands f wrong id word h =
    by_test CommandsInRange (takes f)
    (λ e. record { count = omega (arith, taken_few f e); replies = simp length-set h.replies })
    (λ e. h)

-- ---- ADC words

-- the data of a frame has 16 bits
abbrev DataInRange : Reading → Type 0
DataInRange (frame.refused k) = Unit {0}
DataInRange (frame.fields id word aux crc) = word < 65536

data_read : (f : ℕ) → DataInRange (read f)
unfolding read
data_read f = go (framed f)
  where
    go : (b : Bool) → DataInRange (cond b (frame.fields (id_of f) (data_of f) (aux_of f) (crc_in f)) (frame.refused 7))
    go true = omega arith
    go false = tt

-- one of two words
pub selected_range : (first : Bool) (a b : AdcWord) → AdcInRange a → AdcInRange b → AdcInRange (cond first a b)
selected_range true a b i j = i
selected_range false a b i j = j

replied_range : (w : AdcWords) (before : ℕ) (a : AdcWord) → AdcWordsInRange w → AdcInRange a → AdcWordsInRange (with_reply w before a)
unfolding with_reply
replied_range w before a h i =
    record {
      third = selected_range (eqb before 2) a w.third i h.third;
      fourth = selected_range (eqb before 3) a w.fourth i h.fourth;
      fifth = selected_range (eqb before 4) a w.fifth i h.fifth;
      sixth = selected_range (eqb before 5) a w.sixth i h.sixth;
    }

-- ---- The channel

module _ (m : ℕ) where
  pub with_status_lem : (c : Channel) (s : Status) → StatusInRange s → ChannelInRange m c → ChannelInRange m (with_status c s)
  with_status_lem c s h k = record { status = h; registers = k.registers; readbacks = k.readbacks; adc = k.adc; download = k.download; commands = k.commands }

  pub with_registers_lem : (c : Channel) (r : Registers) → RegistersInRange r → ChannelInRange m c → ChannelInRange m (with_registers c r)
  with_registers_lem c r h k = record { status = k.status; registers = h; readbacks = k.readbacks; adc = k.adc; download = k.download; commands = k.commands }

  pub with_sequencer_lem : (c : Channel) (s : Sequencer) → ChannelInRange m c → ChannelInRange m (with_sequencer c s)
  with_sequencer_lem c s k = record { status = k.status; registers = k.registers; readbacks = k.readbacks; adc = k.adc; download = k.download; commands = k.commands }

  with_commands_lem : (c : Channel) (f : CommandFrames) → CommandsInRange f → ChannelInRange m c → ChannelInRange m (with_commands c f)
  with_commands_lem c f h k = record { status = k.status; registers = k.registers; readbacks = k.readbacks; adc = k.adc; download = k.download; commands = h }

  with_outcome_lem : (c : Channel) (x : TickOutcome) → ChannelInRange m c → ChannelInRange m (with_outcome c x)
  with_outcome_lem c x k = record { status = k.status; registers = k.registers; readbacks = k.readbacks; adc = k.adc; download = k.download; commands = k.commands }

  pub opened_range : ChannelInRange m opened
  unfolding opened
  opened_range =
      record {
        status = record { enable = refl; interrupt = none_range; polling = none_range };
        registers = record { clock = omega arith; active = refl; id = omega arith; events = refl; switches = refl; delays = refl };
        readbacks = record { stored = omega arith; retired = omega arith };
        adc = record { third = omega arith; fourth = omega arith; fifth = omega arith; sixth = omega arith };
        download = tt;
        commands = record { count = omega arith; replies = refl };
      }

  pub reset_range : (c : Channel) → ChannelInRange m (reset c)
  unfolding opened reset
  reset_range c =
      record {
        status = record { enable = refl; interrupt = none_range; polling = none_range };
        registers = opened_range.registers;
        readbacks = opened_range.readbacks;
        adc = opened_range.adc;
        download = tt;
        commands = opened_range.commands;
      }

  started_range : (c : Channel) (delay : ℕ) → ChannelInRange m c → ChannelInRange m (started c delay)
  unfolding started
  started_range c delay h =
      either (ChannelInRange m) c.sequencer.armed
      (with_sequencer_lem _ _
      (either (ChannelInRange m) (is_idle c.sequencer.stage)
      (with_status_lem c _ (latched_range c.status run refl h.status) h) h))
      h

  group_range : (c : Channel) → ChannelInRange m c → ChannelInRange m (group_ended c)
  unfolding group_ended
  group_range c h =
      record {
        status = latched_range _ group_end refl (early_range c.status c.sequencer h.status);
        registers = group_registers c.registers c.sequencer.count h.registers;
        readbacks = record { stored = omega arith; retired = h.readbacks.stored };
        adc = h.adc;
        download = tt;
        commands = group_commands c.commands h.commands;
      }

  ended_if_range : (on : Bool) (c : Channel) → ChannelInRange m c → ChannelInRange m (ended_if on c)
  unfolding ended_if
  ended_if_range on c h = either (ChannelInRange m) on (group_range c h) h

  started_if_range : (on : Bool) (c : Channel) (delay : ℕ) → ChannelInRange m c → ChannelInRange m (started_if on c delay)
  unfolding started_if
  started_if_range on c delay h = either (ChannelInRange m) on (started_range c delay h) h

  resumed_if_range : (on : Bool) (c : Channel) (pause delay : ℕ) → ChannelInRange m c → ChannelInRange m (resumed_if on c pause delay)
  unfolding resumed_if
  resumed_if_range on c pause delay h = either (ChannelInRange m) on (with_sequencer_lem c _ h) h

  tagged_if_range : (on : Bool) (c : Channel) → ChannelInRange m c → ChannelInRange m (tagged_if on c)
  unfolding tagged_if
  tagged_if_range on c h = either (ChannelInRange m) on (with_sequencer_lem c _ h) h

  pub event_range : (c : Channel) (user code : ℕ) → ChannelInRange m c → ChannelInRange m (event_of c user code)
  unfolding event_of resumed_on
  event_range c user code h =
      tagged_if_range _ _ (resumed_if_range _ _ _ _ (resumed_if_range _ _ _ _ (resumed_if_range _ _ _ _ (resumed_if_range _ _ _ _
      (started_if_range _ _ _ (ended_if_range _ c h))))))

  pub command_range : (c : Channel) (value : ℕ) → ChannelInRange m c → ChannelInRange m (commanded c value)
  unfolding commanded
  command_range c value h = tagged_if_range _ _ (resumed_if_range _ _ _ _ (started_if_range _ _ _ (ended_if_range _ c h)))

  pub user_range : (c : Channel) → ChannelInRange m c → ChannelInRange m (user_changed c)
  unfolding user_changed
  user_range c h = with_sequencer_lem _ _ (with_status_lem c _ (early_range c.status c.sequencer h.status) h)

  pub tick_range : (c : Channel) (s : List ℕ) (n user : ℕ) → ChannelInRange m c → ChannelInRange m (tick_of c s n user)
  unfolding tick_of
  tick_range c s n user h =
      let l = (plays_ticked c.sequencer (due_of c s n user) n (period_of c.registers.clock) c.registers.id).latches in
      with_outcome_lem _ _
      (with_commands_lem _ _ (ticked_commands c.commands (is_setpoint (played_of c s n user).transmission) h.commands)
      (with_sequencer_lem _ _ (with_status_lem c _ (send_range c.status c.sequencer.last (played_of c s n user).transmission l h.status) h)))

  pub disarm_range : (c : Channel) → ChannelInRange m c → ChannelInRange m (disarmed_of c)
  unfolding disarmed_of
  disarm_range c h = with_commands_lem _ _ (dropped_commands c.commands h.commands) (with_sequencer_lem c _ h)

  pub download_range : (c : Channel) → ChannelInRange m c → ChannelInRange m (download_opened c)
  unfolding download_opened
  download_range c h =
      record { status = h.status; registers = h.registers; readbacks = h.readbacks; adc = h.adc; download = refl; commands = h.commands }

  -- E0–FE
  pub commands_range : (c : Channel) (offset value : ℕ) → ChannelInRange m c → ChannelInRange m (with_commands c (cmd.stored c.commands offset value))
  commands_range c offset value h = with_commands_lem c _ (stored_commands c.commands offset value h.commands) h

  kept_range : (r : Readbacks) → ReadbacksInRange m r → ReadbacksInRange m (kept_in r m)
  kept_range r h =
      record {
        stored =
            by_test (λ (x : ℕ). x ≤ capacity m) (ltb r.stored (capacity m))
            (λ e. omega (arith, ltb-true r.stored (capacity m) e)) (λ e. h.stored);
        retired = h.retired;
      }

  disposition_range : (d : Disposition) (c : Channel) (right : Bool) (word : ℕ) → word < 65536 → ChannelInRange m c
      → ChannelInRange m (received_channel d c m right word)
  disposition_range disposition.Unsolicited c right word fits h = h
  disposition_range disposition.Lost c right word fits h =
      record {
        status = crc_range c.status right h.status;
        registers = h.registers;
        readbacks = h.readbacks;
        adc = replied_range c.adc (send_of c.sequencer.last).replies (adc_word false right word) h.adc fits;
        download = h.download;
        commands = h.commands;
      }
  disposition_range disposition.Kept c right word fits h =
      record {
        status = crc_range c.status right h.status;
        registers = h.registers;
        readbacks = kept_range c.readbacks h.readbacks;
        adc = replied_range c.adc (send_of c.sequencer.last).replies (adc_word true right word) h.adc fits;
        download = h.download;
        commands = h.commands;
      }

  pub reply_range : (c : Channel) (f : ℕ) → ChannelInRange m c → ChannelInRange m (reply_of c m f)
  unfolding reply_of
  reply_range c f h = go (read f) (data_read f)
    where
      go : (g : Reading) → DataInRange g → ChannelInRange m (reply_as g c m)
      go (frame.refused k) fits = h
      go (frame.fields id word aux crc) fits =
          either (ChannelInRange m) (takes c.commands)
          (with_commands_lem _ _ (received_commands c.commands (not (crc_right id word aux crc)) id word h.commands)
          (with_status_lem c _ (crc_range c.status (crc_right id word aux crc) h.status) h))
          (disposition_range (disposition_now c m) c (crc_right id word aux crc) word fits h)
