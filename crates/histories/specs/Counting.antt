-- Document 01, 'A channel's life': "The count takes every send, repeats too, and stays at FFFFFFh."
-- Stated over what calls answered: a send is a tick that answered a frame, and not a command frame (`sends_since` in specs/History). Document 02,
-- card 1: "These frames enter the log's frame counts and not the setpoint count."
use Rattle.std.specs.Prelude.{ℕ, ◌/◌, ◌%◌, min, ◌≡◌, true, List}
use Rattle.channel_core.specs.Answers.{value}
use Rattle.channel.specs.OneChannel.{ChannelCall, one_channel, transition, response, transitions, read_register}
use Rattle.histories.specs.History.{entry, told_of, ends_group, sends_since}

-- FFFFFFh
abbrev pub most_counted : ℕ
most_counted = 0xffffff

-- the setpoints sent since opening, reset or the last Group End, at most FFFFFFh
abbrev pub setpoints_sent : ℕ → ℕ → List ℕ → List ℕ → List ChannelCall → ℕ
setpoints_sent n m setpoints readbacks ks = min (sends_since 0 (told_of (one_channel n m setpoints readbacks) ks)) most_counted

-- from an opening, after any list of calls, the setpoint count is that number
abbrev pub CountsSends : Type 0
CountsSends =
    (n m : ℕ) (setpoints readbacks : List ℕ) (ks : List ChannelCall)
    → (transitions (one_channel n m setpoints readbacks) ks).channel.sequencer.count ≡ setpoints_sent n m setpoints readbacks ks

-- "the setpoint count is shown": after any list of calls and then a Group End (its event or Commands D2, not refused), registers 10 and 12
-- read that number's high byte and low word
abbrev pub ShowsSends : Type 0
ShowsSends =
    (n m : ℕ) (setpoints readbacks : List ℕ) (ks : List ChannelCall) (k : ChannelCall)
    → ends_group (entry (transitions (one_channel n m setpoints readbacks) ks) k) ≡ true
    → (response (transition (transitions (one_channel n m setpoints readbacks) ks) k) (read_register 0x10)
    ≡ value (setpoints_sent n m setpoints readbacks ks / 65536))
    × (response (transition (transitions (one_channel n m setpoints readbacks) ks) k) (read_register 0x12)
    ≡ value (setpoints_sent n m setpoints readbacks ks % 65536))
