-- Document 01, 'A channel's life': when which setpoint leaves, over what ticks ANSWER on one channel by itself. Of any state `o`, reachable or not.
-- Document 02, card 1: a command frame may leave on the next tick, where no setpoint does (`between`). Card 6: an event or command may be a tag too.
use Rattle.std.specs.Prelude.{ℕ, ◌+◌, ◌*◌, ◌≤◌, ◌<◌, ◌≡◌, Bool, true, false, List}
use Rattle.status.specs.Bits.{bit_at}
use Rattle.registers.specs.Map.{triggers_of, delay_of, start_event, group_end_event, tag_event}
use Rattle.sequencer.specs.declared.Kind.TheVariants as kind
use Rattle.sequencer.specs.declared.Stage.TheVariants as stage
use Rattle.sequencer.specs.Playing.{is_idle, is_starting}
use Rattle.sequencer.specs.Runs.{kind_at, advances, holds}
use Rattle.sequencer.specs.Runs as seq
use Rattle.channel_core.specs.Answers as ans
use Rattle.channel_core.specs.State.{with_status, with_sequencer, with_outcome, with_commands}
use Rattle.channel_core.specs.Behaviour as core
use Rattle.channel.specs.OneChannel.{OneChannel, ChannelCall, write_register, event, transition, transitions, one_channel, with_channel}
use Rattle.timing.specs.Ticking.{after, on_tick, word_at, period, between, answer_on, frame_of, played, plays, Keeps, Sent, NextSetpoint, Repeat, KeptRepeat, Resumes, Still}

-- ---- The two calls that start and resume, each lent memory of the right length

abbrev pub command : OneChannel → ℕ → ChannelCall
command o value = write_register (o.m * 8) 0x08 value

abbrev pub event_call : OneChannel → ℕ → ChannelCall
event_call o code = event (o.m * 8) code

-- whether register 0 (Start), 1 to 4 (Resume), 5 (Group End) or 6 (Tag) has this code, and is active
abbrev pub triggered_by : OneChannel → ℕ → ℕ → Bool
triggered_by o register code = triggers_of o.channel.registers register code

-- the current user's start delay (0), or that of Resume 1 to 4
abbrev pub delay : OneChannel → ℕ → ℕ
delay o bank = delay_of o.channel.registers bank o.user

-- with a tag, where the event or command asks for one and the channel is armed, and otherwise as it was
abbrev pub tagged_if : Bool → OneChannel → OneChannel
tagged_if on o = with_channel o (core.tagged_if on o.channel)

-- the same channel without "a tag not yet used" and without "the mark" of its last send (card 6)
abbrev pub untagged : OneChannel → OneChannel
untagged o = with_channel o (with_sequencer o.channel (seq.untagged o.channel.sequencer))

-- ---- A. Ticks

-- k ticks change the status, the sequencer, what the last tick did and the command frames alone; the sequencer is ticked k times with the words of the
-- current user's active buffer; tick k + 1 answers the frame of the word that it transmits, and else a command frame on the next tick, if one is due,
-- and none
abbrev pub Bridge : Type 0
Bridge =
    (o : OneChannel) (k : ℕ)
    → (after o k
    ≡ with_channel o
    (with_commands (with_outcome (with_sequencer (with_status o.channel (after o k).channel.status) (played o k)) (after o k).channel.outcome)
    (after o k).channel.commands))
    × (on_tick o (k + 1) ≡ answer_on o (k + 1) (plays o (k + 1)))

-- so tick k + j from now is tick j after k ticks
abbrev pub LaterTicks : Type 0
LaterTicks =
    (o : OneChannel) (k : ℕ) → Keeps o (after o k) × ((j : ℕ) → 1 ≤ j → on_tick o (k + j) ≡ on_tick (after o k) j)

-- ---- B. Start: "It loads the current user's start delay (0 for a command) plus 10. The first setpoint leaves on the tick that brings the
-- count to 0."

-- by Commands D0, whatever the other bits
abbrev pub StartByCommand : Type 0
StartByCommand =
    (o : OneChannel) (value : ℕ) → o.channel.sequencer.armed ≡ true → bit_at value 0 ≡ true
    → NextSetpoint (transition o (command o value)) 10 0

-- by its event, whatever the other event registers
abbrev pub StartByEvent : Type 0
StartByEvent =
    (o : OneChannel) (code : ℕ) → o.channel.sequencer.armed ≡ true → triggered_by o start_event code ≡ true
    → NextSetpoint (transition o (event_call o code)) (delay o 0 + 10) 0

-- with no Group End, Frame ID and words of that frame are those from before the Start
abbrev pub StartKeeps : Type 0
StartKeeps =
    (o : OneChannel)
    → ((value : ℕ) → bit_at value 2 ≡ false → Keeps o (transition o (command o value)))
    × ((code : ℕ) → triggered_by o group_end_event code ≡ false → Keeps o (transition o (event_call o code)))

-- ---- C. Which word: "After a send the next follows one period later."

-- starting or running: the word due leaves on the tick that brings the count to 0, whatever clock loaded it
abbrev pub Countdown : Type 0
Countdown =
    (o : OneChannel) → advances o.channel.sequencer.stage ≡ true → 1 ≤ o.channel.sequencer.left
    → NextSetpoint o o.channel.sequencer.left o.channel.sequencer.index

abbrev pub PlainNext : Type 0
PlainNext = (o : OneChannel) (i : ℕ) → Sent o i → kind_at (word_at o) o.n i ≡ kind.Plain → NextSetpoint o (period o) (i + 1)

-- so where the words from index i to i + h are plain, they follow each other by one period, and no setpoint leaves between
abbrev pub Series : Type 0
Series =
    (o : OneChannel) (i h : ℕ) → Sent o i → ((g : ℕ) → g ≤ h → kind_at (word_at o) o.n (i + g) ≡ kind.Plain)
    → ((d : ℕ) → 1 ≤ d → d < period o → on_tick o (h * period o + d) ≡ between o (h * period o + d))
    × (on_tick o (h * period o + period o) ≡ frame_of o (word_at o (i + h + 1)))

-- paused, or after the last word: the kept word on the beat, and no setpoint off it
abbrev pub Held : Type 0
Held =
    (o : OneChannel) → holds o.channel.sequencer.stage ≡ true → 1 ≤ o.channel.sequencer.left
    → (j : ℕ) → 1 ≤ j → KeptRepeat o j (on_tick o j)

-- and so it stays, till another call ends it
abbrev pub HeldStays : Type 0
HeldStays =
    (o : OneChannel) → holds o.channel.sequencer.stage ≡ true → 1 ≤ o.channel.sequencer.left → (j : ℕ) → Still o (after o j)

-- so a word that was just sent and pauses, or is the last, leaves again each period
abbrev pub HeldWord : Type 0
HeldWord =
    (o : OneChannel) (i : ℕ) → Sent o i → (kind_at (word_at o) o.n i ≡ kind.Plain → ⊥)
    → (j : ℕ) → 1 ≤ j → Repeat o (word_at o i) (period o) j (on_tick o j)

-- ---- D. Resume: "Resume k (its event, for pause k) or Commands D1 (VME pause only) loads the current user's delay (0 for D1)."

-- an event that is neither Group End nor Start, a command without D2 and D0; either may be a resume, and a tag
abbrev pub NeitherEndsNorStarts : OneChannel → ℕ → Type 0
NeitherEndsNorStarts o code = (triggered_by o group_end_event code ≡ false) × (triggered_by o start_event code ≡ false)

abbrev pub NeitherD2NorD0 : ℕ → Type 0
NeitherD2NorD0 value = (bit_at value 2 ≡ false) × (bit_at value 0 ≡ false)

abbrev pub ResumeByEvent : Type 0
ResumeByEvent =
    (o : OneChannel) (code k : ℕ) → NeitherEndsNorStarts o code → 1 ≤ k → k ≤ 4 → triggered_by o k code ≡ true
    → o.channel.sequencer.stage ≡ stage.Paused k → 1 ≤ o.channel.sequencer.left
    → Resumes o (transition o (event_call o code)) (delay o k)

-- the VME pause is pause 0
abbrev pub ResumeByCommand : Type 0
ResumeByCommand =
    (o : OneChannel) (value : ℕ) → NeitherD2NorD0 value → bit_at value 1 ≡ true
    → o.channel.sequencer.stage ≡ stage.Paused 0 → 1 ≤ o.channel.sequencer.left
    → Resumes o (transition o (command o value)) 0

-- in any stage: an event that is no resume of the pause that the channel is in, if it is in one of pauses 1 to 4, changes nothing but the tag
abbrev pub EventIgnored : Type 0
EventIgnored =
    (o : OneChannel) (code : ℕ) → NeitherEndsNorStarts o code
    → ((k : ℕ) → 1 ≤ k → k ≤ 4 → o.channel.sequencer.stage ≡ stage.Paused k → triggered_by o k code ≡ false)
    → transition o (event_call o code) ≡ tagged_if (triggered_by o tag_event code) o

-- and so a command that is no resume of the VME pause, if the channel is in it
abbrev pub CommandIgnored : Type 0
CommandIgnored =
    (o : OneChannel) (value : ℕ) → NeitherD2NorD0 value → (o.channel.sequencer.stage ≡ stage.Paused 0 → bit_at value 1 ≡ false)
    → transition o (command o value) ≡ tagged_if (bit_at value 3) o

-- a tag moves no frame and changes nothing else: every tick answers as it would without it, and leaves the channel so, but for the tag and the mark
abbrev pub TagLeavesTicks : Type 0
TagLeavesTicks =
    (o : OneChannel) (on : Bool) (j : ℕ)
    → (on_tick (tagged_if on o) j ≡ on_tick o j) × (untagged (after (tagged_if on o) j) ≡ untagged (after o j))

-- an event changes nothing but the tag in a pause whose own Resume register has another code (so Resume k never ends pause j), nor in the VME pause
abbrev pub OtherPause : Type 0
OtherPause =
    (o : OneChannel) (code j : ℕ) → NeitherEndsNorStarts o code → o.channel.sequencer.stage ≡ stage.Paused j
    → (1 ≤ j → j ≤ 4 → triggered_by o j code ≡ false)
    → transition o (event_call o code) ≡ tagged_if (triggered_by o tag_event code) o

abbrev pub VmePause : Type 0
VmePause =
    (o : OneChannel) (code : ℕ) → NeitherEndsNorStarts o code → o.channel.sequencer.stage ≡ stage.Paused 0
    → transition o (event_call o code) ≡ tagged_if (triggered_by o tag_event code) o

-- D1 changes nothing in pauses 1 to 4, and the command nothing but the tag
abbrev pub NotByD1 : Type 0
NotByD1 =
    (o : OneChannel) (value j : ℕ) → NeitherD2NorD0 value → o.channel.sequencer.stage ≡ stage.Paused j → 1 ≤ j
    → transition o (command o value) ≡ tagged_if (bit_at value 3) o

-- "Further resumes are ignored meanwhile.": through the delay and the silent ticks (`under_way` of `Resumes`)
abbrev pub Meanwhile : Type 0
Meanwhile =
    (o : OneChannel) → o.channel.sequencer.stage ≡ stage.Resuming
    → ((code : ℕ) → NeitherEndsNorStarts o code → transition o (event_call o code) ≡ tagged_if (triggered_by o tag_event code) o)
    × ((value : ℕ) → NeitherD2NorD0 value → transition o (command o value) ≡ tagged_if (bit_at value 3) o)

-- ---- What the premises above ask of the countdown holds of every channel that calls lead to

abbrev pub Loaded : Type 0
Loaded =
    (n m : ℕ) (setpoints readbacks : List ℕ) (calls : List ChannelCall)
    → is_idle (transitions (one_channel n m setpoints readbacks) calls).channel.sequencer.stage ≡ false
    → 1 ≤ (transitions (one_channel n m setpoints readbacks) calls).channel.sequencer.left

-- a command frame leaves only from an idle channel, or before the first word: of every channel that calls lead to, with a function under way nothing
-- but setpoints leaves
abbrev pub OnlySetpoints : Type 0
OnlySetpoints =
    (n m : ℕ) (setpoints readbacks : List ℕ) (calls : List ChannelCall)
    → let o = transitions (one_channel n m setpoints readbacks) calls in
    is_idle o.channel.sequencer.stage ≡ false → is_starting o.channel.sequencer.stage ≡ false
    → (j : ℕ) → between o j ≡ ans.none

-- ---- All of it

pub record Timing : Type 0 where
  pub bridge : Bridge
  pub later_ticks : LaterTicks
  pub start_by_command : StartByCommand
  pub start_by_event : StartByEvent
  pub start_keeps : StartKeeps
  pub countdown : Countdown
  pub plain_next : PlainNext
  pub series : Series
  pub held : Held
  pub held_stays : HeldStays
  pub held_word : HeldWord
  pub resume_by_event : ResumeByEvent
  pub resume_by_command : ResumeByCommand
  pub event_ignored : EventIgnored
  pub command_ignored : CommandIgnored
  pub tag_leaves_ticks : TagLeavesTicks
  pub other_pause : OtherPause
  pub vme_pause : VmePause
  pub not_by_d1 : NotByD1
  pub meanwhile : Meanwhile
  pub loaded : Loaded
  pub only_setpoints : OnlySetpoints
