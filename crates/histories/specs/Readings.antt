-- Document 02, card 7: of which reply each reading tells, and what it says, over any history. Told, as in specs/History, by calls and what they answered: a
-- setpoint send is a tick that answered a frame, and not a command frame; a reply's position counts those answered kept or lost, but for those to E4–FA; what
-- it is goes by its own answer and by the data and CRC of its own frame. What idles a channel is a call; which events and user changes do goes by the
-- code of the Group End event and the current user, as there.
use Rattle.std.specs.Prelude.{ℕ, ◌≤◌, ◌≡◌, Bool, true, false, cond, List, [], ◌∷◌, ◌++◌, pos, ◌*ℤ◌, Float, get_or}
use Rattle.codes.specs.Codes.{code_of}
use Rattle.codes.specs.Voltage.{IsFraction}
use Rattle.adc_words.specs.declared.AdcWord.{AdcWord}
use Rattle.adc_words.specs.Positions.{no_reply}
use Rattle.channel_core.specs.Results.{AdcReading, volts, lost, damaged}
use Rattle.channel_core.specs.Answers.{Answer}
use Rattle.channel_core.specs.Answers as ans
use Rattle.channel_readings.specs.Measuring.{measured}
use Rattle.channel.specs.OneChannel.{ChannelCall, one_channel, response, transitions, query, readings}
use Rattle.histories.specs.History.{is_kept, Told, told_of, asks, sends_setpoint, receives}
use Rattle.histories.specs.Windows.{idles, closed, window_since}

-- ---- The replies

-- a reply that was answered kept or lost: whether it was stored, by its answer, and the CRC and data of its own frame
abbrev pub becomes : Told → AdcWord
becomes t = (asks t.entry.before t.entry.call).adc (is_kept t.entry.answer)

-- the replies to the last setpoint send since idle, in order
abbrev pub replies_after : List AdcWord → Told → List AdcWord
replies_after l t = cond (idles t.entry) [] (cond (sends_setpoint t) [] (cond (receives t) (l ++ (becomes t ∷ [])) l))

unfoldable pub replies_since : List AdcWord → List Told → List AdcWord
replies_since l [] = l
replies_since l (t ∷ ts) = replies_since (replies_after l t) ts

-- of an opening and a list of calls
abbrev pub replies_over : ℕ → ℕ → List ℕ → List ℕ → List ChannelCall → List AdcWord
replies_over n m setpoints readbacks ks = replies_since [] (told_of (one_channel n m setpoints readbacks) ks)

-- ---- The readings

-- the reading of the reply at place k, from 0 on; lost where it has not come
abbrev pub reading_at : List AdcWord → (k : ℕ) → AdcReading
reading_at replies k = measured (get_or replies k no_reply)

-- "A send's third to sixth replies are its ADC words."
abbrev pub readings_by : List AdcWord → Answer
readings_by replies = ans.readings (reading_at replies 2) (reading_at replies 3) (reading_at replies 4) (reading_at replies 5)

-- from an opening, after any list of calls; the call is lent nothing, and looks at no length
abbrev pub ReadingsTold : Type 0
ReadingsTold =
    (n m : ℕ) (setpoints readbacks : List ℕ) (ks : List ChannelCall) (one two : ℕ)
    → response (transitions (one_channel n m setpoints readbacks) ks) (query readings one two) ≡ readings_by (replies_over n m setpoints readbacks ks)

-- what a reading says of a reply, stored or not, its CRC right or not, with this data: "lost when its reply wasn't stored, with a wrong CRC or not", else
-- "damaged by a wrong CRC", or a voltage, which "is exactly code × 10 / 32,768"
abbrev pub Says : (stored right : Bool) → ℕ → AdcReading → Type 0
Says false right word r = r ≡ lost
Says true false word r = r ≡ damaged
Says true true word r = (x : Float) × (r ≡ volts x) × IsFraction x (code_of word *ℤ pos 10) 32768

-- so each of the four
abbrev pub ReadingsSay : Type 0
ReadingsSay =
    (n m : ℕ) (setpoints readbacks : List ℕ) (ks : List ChannelCall) (k : ℕ) → 2 ≤ k → k ≤ 5
    → let replies = replies_over n m setpoints readbacks ks in
    let reply = get_or replies k no_reply in
    Says reply.stored reply.right reply.«data» (reading_at replies k)

-- "with none, all four are lost": no setpoint was sent since opening or the last call that idles
abbrev pub NoneLost : Type 0
NoneLost =
    (n m : ℕ) (setpoints readbacks : List ℕ) (ks : List ChannelCall) (one two : ℕ)
    → (window_since closed (told_of (one_channel n m setpoints readbacks) ks)).sent ≡ false
    → response (transitions (one_channel n m setpoints readbacks) ks) (query readings one two) ≡ ans.readings lost lost lost lost
