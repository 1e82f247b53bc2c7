-- Document 01, 'The bench and its memory' and 'A channel's life': the ranges of what a channel holds, which it keeps to over any list of calls. So no
-- default past a list's end or below a range is ever used. Document 02, card 1: nor that of a tick on which a command frame and a setpoint would leave.
-- Card 2: the count of missing readbacks. Card 3: a place of each readback buffer is left for its end word. Card 6: 2C is a
-- seventh event register. Card 7: the data of ADC words, so that each has a code of 16 bits. Card 8: the count that a download
-- remembers, so that no portion goes past the retired part.
use Rattle.std.specs.Prelude.{ℕ, ◌-◌, ◌*◌, ◌≤◌, ◌<◌, ◌≡◌, Bool, true, false, List, length, get_or, Option, IfSome, IsNone}
use Rattle.status.specs.Bits.{bit_at}
use Rattle.status.specs.declared.Status.{Status}
use Rattle.registers.specs.declared.Registers.{Registers}
use Rattle.adc_words.specs.declared.AdcWord.{AdcWord}
use Rattle.adc_words.specs.declared.AdcWords.{AdcWords}
use Rattle.downloads.specs.declared.Download.{Download}
use Rattle.sequencer.specs.declared.Stage.{Stage}
use Rattle.sequencer.specs.declared.Stage.TheVariants as stage
use Rattle.sequencer.specs.declared.Sequencer.{Sequencer}
use Rattle.sequencer.specs.Playing.{is_idle, nothing_sent, send_of}
use Rattle.readback.specs.declared.Readbacks.{Readbacks}
use Rattle.command_frames.specs.declared.CommandFrames.{CommandFrames}
use Rattle.command_frames.specs.Commanding.{is_due}
use Rattle.channel_core.specs.declared.Channel.{Channel}
use Rattle.channel.specs.OneChannel.{ChannelCall, OneChannel, one_channel, transition, transitions}
use Rattle.histories.specs.Statuses.{is_condition}

-- the ticks to the next send, and those of a resume, while there are any to count; pauses are 0 (VME) to 4
abbrev pub CountdownInRange : Stage → ℕ → ℕ → Type 0
CountdownInRange stage.Idle left resume = Unit {0}
CountdownInRange stage.Starting left resume = 1 ≤ left
CountdownInRange stage.Running left resume = 1 ≤ left
CountdownInRange (stage.Paused k) left resume = (1 ≤ left) × (k ≤ 4)
CountdownInRange stage.Resuming left resume = (1 ≤ left) × (1 ≤ resume)
CountdownInRange stage.Ended left resume = 1 ≤ left

abbrev pub Countdown : Sequencer → Type 0
Countdown s = CountdownInRange s.stage s.left s.resume

-- a command frame is due on the next tick: idle, or two ticks and more to the first word, so that no setpoint leaves with it
abbrev pub ApartAt : Stage → ℕ → Type 0
ApartAt stage.Idle left = Unit {0}
ApartAt stage.Starting left = 2 ≤ left
ApartAt stage.Running left = ⊥
ApartAt (stage.Paused k) left = ⊥
ApartAt stage.Resuming left = ⊥
ApartAt stage.Ended left = ⊥

-- the last send is one "since idle"
abbrev pub Quiet : Sequencer → Type 0
Quiet s = is_idle s.stage ≡ true → s.last ≡ nothing_sent

pub record SequencerInRange (n : ℕ) (s : Sequencer) : Type 0 where
  pub index_due : s.index < n
  pub countdown : Countdown s
  pub replies : (send_of s.last).replies ≤ 6
  pub missing : s.missing ≤ 255
  pub quiet : Quiet s

-- one copy of the status: sixteen bits, set only where there is a condition
pub record BitsInRange (bits : List Bool) : Type 0 where
  pub long : length bits ≡ 16
  pub rest : (k : ℕ) → is_condition k ≡ false → get_or bits k false ≡ false

pub record StatusInRange (s : Status) : Type 0 where
  pub enable : bit_at s.enable 3 ≡ false
  pub interrupt : BitsInRange s.interrupt.bits
  pub polling : BitsInRange s.polling.bits

pub record RegistersInRange (r : Registers) : Type 0 where
  pub clock : r.clock ≤ 3
  pub active : length r.active ≡ 16
  pub id : r.id < 256
  pub events : length r.events ≡ 7
  pub switches : length r.switches ≡ 8
  pub delays : length r.delays ≡ 40

-- "A buffer of depth M takes M − 1 readbacks"
pub record ReadbacksInRange (m : ℕ) (r : Readbacks) : Type 0 where
  pub stored : r.stored ≤ m - 1
  pub retired : r.retired ≤ m - 1

-- the data of an ADC word has 16 bits
abbrev pub AdcInRange : AdcWord → Type 0
AdcInRange a = a.«data» < 65536

pub record AdcWordsInRange (w : AdcWords) : Type 0 where
  pub third : AdcInRange w.third
  pub fourth : AdcInRange w.fourth
  pub fifth : AdcInRange w.fifth
  pub sixth : AdcInRange w.sixth

-- the count that an open download remembers is that of the retired part, which only a Group End or a reset changes: both end it
abbrev pub DownloadInRange : Option Download → Readbacks → Type 0
DownloadInRange o r = IfSome o (λ d. d.count ≡ r.retired)

-- "six pairs", of which FE counts those that came
pub record CommandsInRange (f : CommandFrames) : Type 0 where
  pub count : f.count ≤ 6
  pub replies : length f.replies ≡ 12

-- a channel but for its sequencer
pub record ChannelInRange (m : ℕ) (c : Channel) : Type 0 where
  pub status : StatusInRange c.status
  pub registers : RegistersInRange c.registers
  pub readbacks : ReadbacksInRange m c.readbacks
  pub adc : AdcWordsInRange c.adc
  pub download : DownloadInRange c.download c.readbacks
  pub commands : CommandsInRange c.commands

-- command frames and setpoints keep apart: neither leaves with the other, and while one waits for the next tick, or replies go to E4–FA, no setpoint
-- was sent since idle
pub record Apart (f : CommandFrames) (s : Sequencer) : Type 0 where
  pub due : is_due f.waiting ≡ true → ApartAt s.stage s.left
  pub due_unsent : is_due f.waiting ≡ true → IsNone s.last
  pub receiving_unsent : f.receiving ≡ true → IsNone s.last

pub record InRange (o : OneChannel) : Type 0 where
  pub depth : 1 ≤ o.n
  pub readback_depth : 1 ≤ o.m
  pub user_from : 1 ≤ o.user
  pub user_to : o.user ≤ 8
  pub channel : ChannelInRange o.m o.channel
  pub sequencer : SequencerInRange o.n o.channel.sequencer
  pub apart : Apart o.channel.commands o.channel.sequencer
  pub setpoint_words_lem : length o.setpoints ≡ o.n * 16
  pub readback_words : length o.readbacks ≡ o.m * 2

-- one call, refused or not, from any state in range
abbrev pub CallKeepsRange : Type 0
CallKeepsRange = (o : OneChannel) (k : ChannelCall) → InRange o → InRange (transition o k)

-- from an opening of fitting lengths, after any list of calls
abbrev pub StaysInRange : Type 0
StaysInRange =
    (n m : ℕ) (setpoints readbacks : List ℕ)
    → 1 ≤ n → 1 ≤ m → length setpoints ≡ n * 16 → length readbacks ≡ m * 2
    → (ks : List ChannelCall) → InRange (transitions (one_channel n m setpoints readbacks) ks)
