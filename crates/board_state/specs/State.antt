-- Document 01, 'The bench and its memory': the board's state, and its opening.
use Rattle.std.specs.Prelude.{ℕ, ◌-◌, true, false, List, [], ◌∷◌, get_or, set}
use Rattle.channel_core.specs.declared.Channel.{Channel}
use Rattle.channel_core.specs.State as channel
use Rattle.board_state.specs.declared.Main.{Main}
use Rattle.board_state.specs.declared.Board.{Board}

-- "all registers 0, channels disarmed, user 1, buffers 1 active, no readbacks"
unfoldable pub opened : ℕ → ℕ → Board
opened n m =
    record {
      n = n;
      m = m;
      user = 1;
      main = record { level = 0; vector = 0; enable = 0; interrupt = false; polling = false };
      channels = channel.opened ∷ channel.opened ∷ channel.opened ∷ channel.opened ∷ [];
    }

-- channel 1 to 4
abbrev pub channel_at : Board → ℕ → Channel
channel_at b number = get_or b.channels (number - 1) channel.opened

abbrev pub with_channels : Board → List Channel → Board
with_channels b cs = record { n = b.n; m = b.m; user = b.user; main = b.main; channels = cs }

abbrev pub with_channel_at : Board → ℕ → Channel → Board
with_channel_at b number c = with_channels b (set b.channels (number - 1) c)

abbrev pub with_user : Board → ℕ → Board
with_user b user = record { n = b.n; m = b.m; user = user; main = b.main; channels = b.channels }

abbrev pub with_main : Board → Main → Board
with_main b x = record { n = b.n; m = b.m; user = b.user; main = x; channels = b.channels }

-- "D3 an event came", in both statuses
abbrev pub event_came : Board → Board
event_came b =
    with_main b
    (record { level = b.main.level; vector = b.main.vector; enable = b.main.enable; interrupt = true; polling = true })
