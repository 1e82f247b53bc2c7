-- Document 01, 'A channel's life': "A reply is kept if not idle, a setpoint was sent since idle, and fewer than six replies have followed the
-- last such send; else it is "unasked". If the buffer is full it is "lost", and counts among the six." `unsolicited` is "unasked".
-- All of it is stated over what calls answered: what was sent and replied (`window_since`), how many replies were kept (`kept_since`), and, of document
-- 02, card 1, what is told of command frames (`commands_since`).
use Rattle.std.specs.Prelude.{ℕ, ◌+◌, ◌-◌, ◌*◌, ◌≤◌, ◌≡◌, Bool, cond, not, ◌&&◌, ◌||◌, List, length, set, ltb, is_some}
use Rattle.frame.specs.Frames.{read, fields, crc_right}
use Rattle.registers.specs.Map.{second_active, readback_place}
use Rattle.sequencer.specs.Playing.{send_of}
use Rattle.sequencer.specs.declared.Sequencer.{Sequencer}
use Rattle.readback.specs.Storing.{place_of, stored_word}
use Rattle.command_frames.specs.declared.CommandFrames.{CommandFrames}
use Rattle.command_frames.specs.Commanding.{takes, received}
use Rattle.channel_core.specs.Answers.{kept, lost, unsolicited}
use Rattle.channel_replies.specs.Replying.{crc_status}
use Rattle.channel.specs.OneChannel.{ChannelCall, OneChannel, one_channel, transition, response, transitions, reply}
use Rattle.histories.specs.History.{told_of}
use Rattle.histories.specs.Commands.{commands_over}
use Rattle.histories.specs.Windows.{Window, closed, window_since}
use Rattle.histories.specs.Keeping.{Kept, kept_over}

-- a channel holds what was sent since idle, with its Frame ID, and the replies to it, which are never more than six
pub record HoldsWindow (s : Sequencer) (w : Window) : Type 0 where
  pub sent : is_some s.last ≡ w.sent
  pub id : (send_of s.last).id ≡ w.id
  pub replies : (send_of s.last).replies ≡ w.replies
  pub at_most_six : w.replies ≤ 6

-- from an opening, after any list of calls
abbrev pub WindowHeld : Type 0
WindowHeld =
    (n m : ℕ) (setpoints readbacks : List ℕ) (ks : List ChannelCall)
    → HoldsWindow (transitions (one_channel n m setpoints readbacks) ks).channel.sequencer
    (window_since closed (told_of (one_channel n m setpoints readbacks) ks))

-- a reply is due: a setpoint was sent since the last call that idles, so the channel is not idle, and fewer than six replies followed it
abbrev pub due_by_window : Window → Bool
due_by_window w = w.sent && ltb w.replies 6

-- the active readback buffer has space: fewer than M − 1 replies were kept since the last Group End, reset or opening. Document 02, card 3: "A buffer of
-- depth M takes M − 1 readbacks and the next is lost."
abbrev pub has_space : ℕ → Kept → Bool
has_space m g = ltb (length g.current) (m - 1)

-- the readback words with one stored after the others of the active buffer
abbrev pub stored_after : OneChannel → Kept → ℕ → List ℕ
stored_after o g word =
    set o.readbacks (place_of (second_active o.channel.registers readback_place) o.m (length g.current)) word

-- it goes to a buffer: it is not for a command frame, it is due, and there is space
abbrev pub stores_reply : CommandFrames → Window → ℕ → Kept → Bool
stores_reply f w m g = not (takes f) && (due_by_window w && has_space m g)

-- a reply, lent what fits: exactly where it is kept, lost or unsolicited, what is stored, what is latched, and what goes to E4–FA. `f` is what is told of command frames.
pub record Replied (o : OneChannel) (f : CommandFrames) (w : Window) (g : Kept) (m number id word aux crc : ℕ) : Type 0 where
  pub answers : response o (reply (m * 8) number)
      ≡ cond (takes f) kept (cond (due_by_window w) (cond (has_space m g) kept lost) unsolicited)
  pub count : (transition o (reply (m * 8) number)).channel.readbacks.stored
      ≡ cond (stores_reply f w m g) (length g.current + 1) (length g.current)
  pub words : (transition o (reply (m * 8) number)).readbacks
      ≡ cond (stores_reply f w m g)
      (stored_after o g (stored_word (send_of o.channel.sequencer.last) o.user (not (crc_right id word aux crc)) id word))
      o.readbacks
  -- "A wrong CRC, kept or lost, latches CRC."
  pub status : (transition o (reply (m * 8) number)).channel.status
      ≡ cond (takes f || due_by_window w) (crc_status o.channel.status (crc_right id word aux crc)) o.channel.status
  pub commands : (transition o (reply (m * 8) number)).channel.commands ≡ received f (not (crc_right id word aux crc)) id word

-- from an opening, after any list of calls, a well-framed reply
abbrev pub RepliesByWindow : Type 0
RepliesByWindow =
    (n m : ℕ) (setpoints readbacks : List ℕ) (ks : List ChannelCall) (number id word aux crc : ℕ)
    → read number ≡ fields id word aux crc
    → Replied (transitions (one_channel n m setpoints readbacks) ks) (commands_over n m setpoints readbacks ks)
    (window_since closed (told_of (one_channel n m setpoints readbacks) ks))
    (kept_over n m setpoints readbacks ks) m number id word aux crc
