-- Document 02, card 9: "The one-channel definition takes the same seats and rights". One channel by itself, its own rights, and calls by role.
use Rattle.std.specs.Prelude.{ℕ, ◌*◌, Bool, cond, not, List, [], ◌∷◌, eqb}
use Rattle.register_map.specs.AccessRule.{channel_access, main_access}
use Rattle.channel_core.specs.Answers.{Answer, unless}
use Rattle.channel.specs.Calls.{then, retired_refusal}
use Rattle.channel.specs.OneChannel.{OneChannel, Query, retired, retired_length, readings, portion, portion_length, last_tick, ChannelCall, write_register, read_register, write_setpoint, arm, disarm, open_download, reply, query, tick, event, change_user, write_main, read_main, length_refusal, refusal_of, effect, answer}
use Rattle.permissions.specs.declared.Role.{Role}
use Rattle.permissions.specs.declared.ChannelRights.{ChannelRights}
use Rattle.permissions.specs.Rights.{may_read, may_write, may_read_register, is_examiner, may_tick}
use Rattle.access_control.specs.Guarding.{unmapped_refusal, permission_denied, shown_frame}

pub record ChannelRequest : Type 0 where
  pub role : Role
  pub call : ChannelCall

-- "right missing": of a call that names the channel by its rights, of a shared one by the role alone
abbrev pub denied_to : ChannelRights → Role → ChannelCall → Bool
denied_to r p (write_register lent offset value) = not (may_write r p)
denied_to r p (read_register offset) = not (may_read_register r p offset)
denied_to r p (write_setpoint lent user buffer index word) = not (may_write r p)
denied_to r p arm = not (may_write r p)
denied_to r p disarm = not (may_write r p)
denied_to r p open_download = not (may_read r p)
denied_to r p (reply lent frame) = not (may_write r p)
denied_to r p (query which one two) = not (may_read r p)
denied_to r p (tick lent) = not (may_tick p)
denied_to r p (event lent code) = not (may_tick p)
denied_to r p (change_user user) = not (is_examiner p)
denied_to r p (write_main lent offset value) = not (is_examiner p)
denied_to r p (read_main offset) = not (is_examiner p)

-- 1 and 3, which come before 13 (0: passed)
abbrev pub query_earlier : (m : ℕ) → Query → (one two : ℕ) → ℕ
query_earlier m retired one two = retired_refusal m one two
query_earlier m retired_length one two = retired_refusal m one two
query_earlier m readings one two = 0
query_earlier m (portion index size) one two = retired_refusal m one two
query_earlier m (portion_length index size) one two = retired_refusal m one two
query_earlier m last_tick one two = 0

abbrev pub earlier_to : OneChannel → ChannelCall → ℕ
earlier_to o (write_register lent offset value) = then (length_refusal lent (o.m * 8)) (unmapped_refusal (channel_access offset))
earlier_to o (read_register offset) = unmapped_refusal (channel_access offset)
earlier_to o (write_setpoint lent user buffer index word) = length_refusal lent (o.n * 64)
earlier_to o arm = 0
earlier_to o disarm = 0
earlier_to o open_download = 0
earlier_to o (reply lent frame) = length_refusal lent (o.m * 8)
earlier_to o (query which one two) = query_earlier o.m which one two
earlier_to o (tick lent) = length_refusal lent (o.n * 64)
earlier_to o (event lent code) = length_refusal lent (o.m * 8)
earlier_to o (change_user user) = 0
earlier_to o (write_main lent offset value) = then (length_refusal lent (o.m * 8)) (unmapped_refusal (main_access offset))
earlier_to o (read_main offset) = unmapped_refusal (main_access offset)

abbrev pub guard_refusal_to : ChannelRights → OneChannel → ChannelRequest → ℕ
guard_refusal_to r o k = then (earlier_to o k.call) (cond (denied_to r k.role k.call) permission_denied 0)

-- the refusal: 1, 3, then 13, then the rest
unfoldable pub guarded_refusal : ChannelRights → OneChannel → ChannelRequest → ℕ
guarded_refusal r o k = then (guard_refusal_to r o k) (refusal_of o k.call)

-- of a tick what the role is shown; the channel moves as it does: "a frame that a tick doesn't show still counts as sent"
abbrev pub shown_to : ChannelRights → Role → ChannelCall → Answer → Answer
shown_to r p (write_register lent offset value) a = a
shown_to r p (read_register offset) a = a
shown_to r p (write_setpoint lent user buffer index word) a = a
shown_to r p arm a = a
shown_to r p disarm a = a
shown_to r p open_download a = a
shown_to r p (reply lent frame) a = a
shown_to r p (query which one two) a = a
shown_to r p (tick lent) a = shown_frame r p a
shown_to r p (event lent code) a = a
shown_to r p (change_user user) a = a
shown_to r p (write_main lent offset value) a = a
shown_to r p (read_main offset) a = a

unfoldable pub guarded_transition : ChannelRights → OneChannel → ChannelRequest → OneChannel
guarded_transition r o k = cond (eqb (guarded_refusal r o k) 0) (effect o k.call) o

unfoldable pub guarded_response : ChannelRights → OneChannel → ChannelRequest → Answer
guarded_response r o k = unless (guarded_refusal r o k) (shown_to r k.role k.call (answer o k.call))

abbrev pub guarded_transitions : ChannelRights → OneChannel → List ChannelRequest → OneChannel
guarded_transitions r o [] = o
guarded_transitions r o (k ∷ ks) = guarded_transitions r (guarded_transition r o k) ks

abbrev pub guarded_responses : ChannelRights → OneChannel → List ChannelRequest → List Answer
guarded_responses r o [] = []
guarded_responses r o (k ∷ ks) = guarded_response r o k ∷ guarded_responses r (guarded_transition r o k) ks
