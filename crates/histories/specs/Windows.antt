-- Document 01, 'A channel's life': "a setpoint was sent since idle, and fewer than six replies have followed the last such send".
-- Stated over calls and what they answered: a send is a tick that answered a frame, and not a command frame; what idles a channel is a call. Replies
-- that go to E4–FA follow no setpoint. Document 02, card 2: with the Frame ID that the last send's own frame carried.
use Rattle.std.specs.Prelude.{ℕ, ◌+◌, Bool, true, false, cond, ◌||◌, List, [], ◌∷◌}
use Rattle.histories.specs.History.{Entry, Told, ends_group, resets, stops, sent_id, sends_setpoint, receives}

-- it idles the channel, though its event or command may then start it again: a Group End, a reset ("its opening state"), or a call that idles without either
abbrev pub idles : Entry → Bool
idles e = ends_group e || (resets e || stops e)

-- whether a setpoint was sent since the last call that idles, the Frame ID of the last such send, and the replies kept or lost after it
pub record Window : Type 0 where
  pub sent : Bool
  pub id : ℕ
  pub replies : ℕ

abbrev pub closed : Window
closed = record { sent = false; id = 0; replies = 0 }

abbrev pub window_after : Window → Told → Window
window_after w t =
    cond (idles t.entry) closed
    (cond (sends_setpoint t) (record { sent = true; id = sent_id t.entry.answer; replies = 0 })
    (cond (receives t) (record { sent = w.sent; id = w.id; replies = w.replies + 1 }) w))

unfoldable pub window_since : Window → List Told → Window
window_since w [] = w
window_since w (t ∷ ts) = window_since (window_after w t) ts
