-- Document 02, card 1: which ticks answer a command frame, with which number, and what E0–FE read, over any history. What is told of command frames
-- (`commands_since` in specs/History) goes by calls and what they answered: the last write to E0 and to E2; an FC write that was not refused, a Group End
-- after D1, disarm, reset, and the first tick after, for what waits; frames that ticks answered and replies that were answered kept, for E4–FE.
use Rattle.std.specs.Prelude.{ℕ, ◌*◌, ◌≤◌, ◌≡◌, true, false, List}
use Rattle.register_map.specs.AccessRule.{channel_access}
use Rattle.register_map.specs.AccessRefusals.{read_refusal}
use Rattle.sequencer.specs.Transmissions as transmission
use Rattle.command_frames.specs.declared.CommandFrames.{CommandFrames}
use Rattle.command_frames.specs.Commanding.{is_due, command_frame, loaded}
use Rattle.command_frames.specs.Commanding as cmd
use Rattle.channel_core.specs.Answers.{frame, value}
use Rattle.channel_core.specs.Behaviour.{played_of, send_frame}
use Rattle.channel.specs.OneChannel.{ChannelCall, OneChannel, one_channel, response, transitions, read_register, tick}
use Rattle.histories.specs.History.{history, told_of, commands_since}
use Rattle.histories.specs.Windows.{closed, window_since}

-- what is told of command frames after an opening and a list of calls
abbrev pub commands_over : ℕ → ℕ → List ℕ → List ℕ → List ChannelCall → CommandFrames
commands_over n m setpoints readbacks ks = commands_since cmd.opened (history (one_channel n m setpoints readbacks) ks)

-- from an opening, after any list of calls: so the channel holds it
abbrev pub CommandsTold : Type 0
CommandsTold =
    (n m : ℕ) (setpoints readbacks : List ℕ) (ks : List ChannelCall)
    → (transitions (one_channel n m setpoints readbacks) ks).channel.commands ≡ commands_over n m setpoints readbacks ks

-- "Registers E0–FE": those that can be read read what is told
abbrev pub CommandsRead : Type 0
CommandsRead =
    (n m : ℕ) (setpoints readbacks : List ℕ) (ks : List ChannelCall) (offset : ℕ)
    → 0xe0 ≤ offset → read_refusal (channel_access offset) ≡ 0
    → response (transitions (one_channel n m setpoints readbacks) ks) (read_register offset)
    ≡ value (loaded (commands_over n m setpoints readbacks ks) offset)

-- a command frame and a setpoint never leave on the same tick: where one is due, the sequencer sends nothing
abbrev pub NeverTogether : Type 0
NeverTogether =
    (n m : ℕ) (setpoints readbacks : List ℕ) (ks : List ChannelCall)
    → let o = transitions (one_channel n m setpoints readbacks) ks in
    is_due (commands_over n m setpoints readbacks ks).waiting ≡ true
    → (played_of o.channel o.setpoints o.n o.user).transmission ≡ transmission.Nothing

-- a tick, lent what fits: where a command frame is due it answers that, built from E0 and E2 as they are then; elsewhere a setpoint's frame or none
pub record TickTold (o : OneChannel) (f : CommandFrames) (n : ℕ) : Type 0 where
  pub command : is_due f.waiting ≡ true → response o (tick (n * 64)) ≡ frame (command_frame f)
  pub setpoint : is_due f.waiting ≡ false
      → response o (tick (n * 64)) ≡ send_frame o.channel.registers.id (played_of o.channel o.setpoints o.n o.user).transmission

-- from an opening, after any list of calls
abbrev pub CommandTicks : Type 0
CommandTicks =
    (n m : ℕ) (setpoints readbacks : List ℕ) (ks : List ChannelCall)
    → TickTold (transitions (one_channel n m setpoints readbacks) ks) (commands_over n m setpoints readbacks ks) n

-- while replies go to E4–FA no setpoint was sent since idle: so the seventh is unsolicited, and no reply could go to both
abbrev pub NoSetpointMeanwhile : Type 0
NoSetpointMeanwhile =
    (n m : ℕ) (setpoints readbacks : List ℕ) (ks : List ChannelCall)
    → (commands_over n m setpoints readbacks ks).receiving ≡ true
    → (window_since closed (told_of (one_channel n m setpoints readbacks) ks)).sent ≡ false
