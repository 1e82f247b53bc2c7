-- Document 02, card 2: "After every call the count is the sum of the shortfalls since opening, reset or its last read, at most 255.", and "Each shortfall
-- latches D4 of both channel statuses." Stated over what calls answered: a setpoint send is a tick that answered a frame, and not a command frame; the
-- Frame ID of a send is the one that its frame carries; replies are those answered kept or lost, but for those to E4–FA (`window_since`).
use Rattle.std.specs.Prelude.{ℕ, ◌+◌, ◌-◌, ◌*◌, min, ◌≡◌, Bool, true, false, cond, not, ◌&&◌, ◌||◌, List, [], ◌∷◌, ◌++◌, eqb}
use Rattle.status.specs.Latching.{latched}
use Rattle.channel_core.specs.Answers.{Answer, value, bit}
use Rattle.channel_core.specs.Behaviour.{played_of, condition_status, condition_in}
use Rattle.channel.specs.OneChannel.{ChannelCall, OneChannel, one_channel, transition, response, transitions, read_register, read_main, tick}
use Rattle.histories.specs.History.{entry, Told, told_of, resets, reads_at, sends_setpoint}
use Rattle.histories.specs.Commands.{commands_over}
use Rattle.histories.specs.Statuses.{ReadsBit}
use Rattle.histories.specs.Windows.{Window, closed, window_after, window_since}

-- ---- The shortfalls that answers tell

-- "If that one carried Frame ID 15h and got fewer than six replies, the shortfall": 6 less those replies, of the setpoint send before since idle; 0 where
-- it carried another ID, got six, or there is none. The sequencer's `shortfall` says the same of what it holds.
abbrev pub shortfall_of : Window → ℕ
shortfall_of w = cond (w.sent && eqb w.id 0x15) (6 - w.replies) 0

-- "Each setpoint send first looks at the setpoint send before it since idle.": it finds a shortfall
abbrev pub finds_shortfall : Window → Told → Bool
finds_shortfall w t = sends_setpoint t && not (eqb (shortfall_of w) 0)

abbrev pub shortfall_by : Window → Told → List ℕ
shortfall_by w t = cond (finds_shortfall w t) (shortfall_of w ∷ []) []

-- "reset or its last read", of the register at this offset: "Read-only register 0C .. a read clears it"; "Reading a status clears the latched bits .. of
-- that register only."
abbrev pub clears : ℕ → Told → Bool
clears offset t = resets t.entry || reads_at offset t.entry

-- the shortfalls since then, the latest first; `l` are those before the history, and `w` is the last send before it
unfoldable pub shortfalls_since : (offset : ℕ) → Window → List ℕ → List Told → List ℕ
shortfalls_since offset w l [] = l
shortfalls_since offset w l (t ∷ ts) = shortfalls_since offset (window_after w t) (cond (clears offset t) [] (shortfall_by w t ++ l)) ts

-- "since opening", reset, or the last read of the register at this offset
abbrev pub shortfalls_over : ℕ → ℕ → List ℕ → List ℕ → List ChannelCall → (offset : ℕ) → List ℕ
shortfalls_over n m setpoints readbacks ks offset = shortfalls_since offset closed [] (told_of (one_channel n m setpoints readbacks) ks)

abbrev pub sum : List ℕ → ℕ
sum [] = 0
sum (k ∷ ks) = k + sum ks

abbrev pub is_empty : List ℕ → Bool
is_empty [] = true
is_empty (k ∷ ks) = false

-- ---- The count

-- "the sum of the shortfalls .., at most 255"
abbrev pub missing_count : List ℕ → ℕ
missing_count ks = min (sum ks) 255

-- the channel holds it, and 0C shows it
pub record Missing (o : OneChannel) (shortfalls : List ℕ) : Type 0 where
  pub held : o.channel.sequencer.missing ≡ missing_count shortfalls
  pub shown : response o (read_register 0x0c) ≡ value (missing_count shortfalls)

-- from an opening, after any list of calls
abbrev pub CountsMissing : Type 0
CountsMissing =
    (n m : ℕ) (setpoints readbacks : List ℕ) (ks : List ChannelCall)
    → Missing (transitions (one_channel n m setpoints readbacks) ks) (shortfalls_over n m setpoints readbacks ks 0x0c)

-- ---- D4

-- from an opening, after any list of calls: D4 of 02 and of 04 is set exactly where there was a shortfall since opening, reset or the last read of that
-- register, the count being at 255 or not
abbrev pub LatchesShortfalls : Type 0
LatchesShortfalls =
    (n m : ℕ) (setpoints readbacks : List ℕ) (ks : List ChannelCall)
    → let o = transitions (one_channel n m setpoints readbacks) ks in
    ReadsBit 4 o 0x02 (not (is_empty (shortfalls_over n m setpoints readbacks ks 0x02)))
    × ReadsBit 4 o 0x04 (not (is_empty (shortfalls_over n m setpoints readbacks ks 0x04)))

-- ---- A tick, lent what fits, after any list of calls from an opening

-- the tick, with what is told before it
abbrev pub tick_told : ℕ → ℕ → List ℕ → List ℕ → List ChannelCall → Told
tick_told n m setpoints readbacks ks =
    record {
      entry = entry (transitions (one_channel n m setpoints readbacks) ks) (tick (n * 64));
      commands = commands_over n m setpoints readbacks ks;
    }

-- whether it finds a shortfall, by answers
abbrev pub tick_finds : ℕ → ℕ → List ℕ → List ℕ → List ChannelCall → Bool
tick_finds n m setpoints readbacks ks =
    finds_shortfall (window_since closed (told_of (one_channel n m setpoints readbacks) ks)) (tick_told n m setpoints readbacks ks)

-- the condition of the word that it sends (0: none), which the state tells
abbrev pub tick_condition : OneChannel → ℕ
tick_condition o = condition_in (played_of o.channel o.setpoints o.n o.user).transmission

-- it latches D4 where it finds a shortfall, and the condition of its own word, and nothing else
abbrev pub TickLatches : Type 0
TickLatches =
    (n m : ℕ) (setpoints readbacks : List ℕ) (ks : List ChannelCall)
    → let o = transitions (one_channel n m setpoints readbacks) ks in
    (transition o (tick (n * 64))).channel.status
    ≡ condition_status (cond (tick_finds n m setpoints readbacks ks) (latched o.channel.status 4) o.channel.status) (tick_condition o)

-- the channel's bits of Main's statuses, as reads of 28 and of 2A answer them
pub record MainBits (o : OneChannel) (interrupt polling : Answer) : Type 0 where
  pub main_28 : response o (read_main 0x28) ≡ interrupt
  pub main_2a : response o (read_main 0x2a) ≡ polling

-- "A condition enabled in 00 as it happens sets the channel's Main bit in both.": where D4 of 00 reads 1, a tick that finds a shortfall sets both; where
-- it reads 0, and its word has no condition, both stay as they were
abbrev pub RaisesMain : Type 0
RaisesMain =
    (n m : ℕ) (setpoints readbacks : List ℕ) (ks : List ChannelCall)
    → let o = transitions (one_channel n m setpoints readbacks) ks in
    tick_finds n m setpoints readbacks ks ≡ true
    → (ReadsBit 4 o 0x00 true → MainBits (transition o (tick (n * 64))) (bit true) (bit true))
    × (ReadsBit 4 o 0x00 false → tick_condition o ≡ 0
    → MainBits (transition o (tick (n * 64))) (response o (read_main 0x28)) (response o (read_main 0x2a)))
