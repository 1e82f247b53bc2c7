-- Document 02, card 10, in its own terms: what each tick did, while only ticks follow each other, on one channel by itself. Of any state, reachable or not;
-- "no command frame" is a premise of each law but the first.
use Rattle.std.specs.Prelude.{ℕ, ◌+◌, ◌≤◌, ◌<◌, ◌≡◌, true, false}
use Rattle.status.specs.Bits.{bit_at}
use Rattle.registers.specs.Map.{start_event}
use Rattle.sequencer.specs.declared.Stage.TheVariants as stage
use Rattle.sequencer.specs.Playing.{is_idle}
use Rattle.sequencer.specs.Runs.{Beat, holds}
use Rattle.command_frames.specs.Commanding.{is_due}
use Rattle.channel_core.specs.Results.{TickReason}
use Rattle.channel_core.specs.Results as reason
use Rattle.channel_core.specs.Answers.{is_frame}
use Rattle.channel_core.specs.Answers as ans
use Rattle.channel.specs.OneChannel.{OneChannel, transition, response, query, last_tick}
use Rattle.timing.specs.Ticking.{after, on_tick, period}
use Rattle.timing.specs.Timing.{command, event_call, triggered_by, delay, NeitherEndsNorStarts, NeitherD2NorD0}

-- asked after tick k from now what its last tick did, the channel answers this
abbrev pub Reports : OneChannel → ℕ → TickReason → Type 0
Reports o k x = response (after o k) (query last_tick 0 0) ≡ ans.last_tick x

-- no command frame is due on the next tick; while only ticks come, none is due later
abbrev pub NoneDue : OneChannel → Type 0
NoneDue o = is_due o.channel.commands.waiting ≡ false

abbrev pub Armed : OneChannel → Type 0
Armed o = o.channel.sequencer.armed ≡ true

-- a tick that answers a frame is named sent, a command frame too, armed or not
abbrev pub FrameSent : Type 0
FrameSent = (o : OneChannel) (k : ℕ) → 1 ≤ k → is_frame (on_tick o k) ≡ true → Reports o k reason.sent

-- ---- "With start delay D, no command frame and only ticks after Start, ticks 1 to D are start delay, D + 1 to D + 9 are start gap, and D + 10 is sent."

pub record StartReports (o : OneChannel) (delay : ℕ) : Type 0 where
  pub delayed : (k : ℕ) → 1 ≤ k → k ≤ delay → Reports o k reason.start_delay
  pub gap : (k : ℕ) → delay < k → k < delay + 10 → Reports o k reason.start_gap
  pub sent : Reports o (delay + 10) reason.sent

-- by its event, whatever the other event registers
abbrev pub StartByEventReports : Type 0
StartByEventReports =
    (o : OneChannel) (code : ℕ) → Armed o → triggered_by o start_event code ≡ true → NoneDue (transition o (event_call o code))
    → StartReports (transition o (event_call o code)) (delay o 0)

-- by Commands D0, whatever the other bits: its delay is 0
abbrev pub StartByCommandReports : Type 0
StartByCommandReports =
    (o : OneChannel) (value : ℕ) → Armed o → bit_at value 0 ≡ true → NoneDue (transition o (command o value))
    → StartReports (transition o (command o value)) 0

-- ---- "A resume delay between repeats counts as between edges."; then nine ticks of resume gap

-- `r` is the paused channel `o`, once a resume with this delay was loaded
pub record ResumeReports (o r : OneChannel) (delay : ℕ) : Type 0 where
  pub repeated : (k : ℕ) → 1 ≤ k → k ≤ delay → Beat o.channel.sequencer.left (period o) k → Reports r k reason.sent
  pub between : (k : ℕ) → 1 ≤ k → k ≤ delay → (Beat o.channel.sequencer.left (period o) k → ⊥) → Reports r k reason.between_edges
  pub gap : (k : ℕ) → delay < k → k < delay + 10 → Reports r k reason.resume_gap
  pub sent : Reports r (delay + 10) reason.sent

abbrev pub ResumeByEventReports : Type 0
ResumeByEventReports =
    (o : OneChannel) (code k : ℕ) → NeitherEndsNorStarts o code → 1 ≤ k → k ≤ 4 → triggered_by o k code ≡ true
    → o.channel.sequencer.stage ≡ stage.Paused k → 1 ≤ o.channel.sequencer.left → Armed o → NoneDue o
    → ResumeReports o (transition o (event_call o code)) (delay o k)

abbrev pub ResumeByCommandReports : Type 0
ResumeByCommandReports =
    (o : OneChannel) (value : ℕ) → NeitherD2NorD0 value → bit_at value 1 ≡ true
    → o.channel.sequencer.stage ≡ stage.Paused 0 → 1 ≤ o.channel.sequencer.left → Armed o → NoneDue o
    → ResumeReports o (transition o (command o value)) 0

-- ---- Between clock edges, idle, disarmed

-- after a plain word, on the ticks before that of the next one
abbrev pub RunningReports : Type 0
RunningReports =
    (o : OneChannel) → o.channel.sequencer.stage ≡ stage.Running → Armed o → NoneDue o
    → ((k : ℕ) → 1 ≤ k → k < o.channel.sequencer.left → Reports o k reason.between_edges)
    × (1 ≤ o.channel.sequencer.left → Reports o o.channel.sequencer.left reason.sent)

-- paused, or after the last word: on and off the beat of its repeats
abbrev pub HeldReports : Type 0
HeldReports =
    (o : OneChannel) → holds o.channel.sequencer.stage ≡ true → 1 ≤ o.channel.sequencer.left → Armed o → NoneDue o
    → (k : ℕ) → 1 ≤ k
    → (Beat o.channel.sequencer.left (period o) k → Reports o k reason.sent)
    × ((Beat o.channel.sequencer.left (period o) k → ⊥) → Reports o k reason.between_edges)

-- with nothing under way
abbrev pub IdleReports : Type 0
IdleReports =
    (o : OneChannel) → is_idle o.channel.sequencer.stage ≡ true → NoneDue o → (k : ℕ) → 1 ≤ k
    → (Armed o → Reports o k reason.idle) × (o.channel.sequencer.armed ≡ false → Reports o k reason.disarmed)

-- ---- All of it

pub record OutcomeLaws : Type 0 where
  pub frame_sent : FrameSent
  pub start_by_event : StartByEventReports
  pub start_by_command : StartByCommandReports
  pub resume_by_event : ResumeByEventReports
  pub resume_by_command : ResumeByCommandReports
  pub running : RunningReports
  pub held : HeldReports
  pub idle : IdleReports
