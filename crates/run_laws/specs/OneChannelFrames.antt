-- Document 01, 'What holds it to this': "Shut out by demand 2: .. setpoint or log counts not drawn from sends". A run is a list of calls that demand 3
-- allows, so what its log line counts of a channel is what the one-channel definition sends by itself. Proof: proofs/OneChannelFrames.antt.
use Rattle.std.specs.Prelude.{ℕ, zero, suc, ◌≤◌, ◌≡◌, List, [], ◌∷◌, ◌++◌, replicate}
use Rattle.channel_core.specs.Answers.{is_frame}
use Rattle.channel.specs.OneChannel.{OneChannel, one_channel, responses}
use Rattle.board.specs.Answers.{of_four}
use Rattle.board.specs.Worlds.{World}
use Rattle.isolation.specs.Calls.{Call, write_register, read_register, write_setpoint, arm, disarm, reply, tick, event, change_user, Item, given, step, Allowed, opening}
use Rattle.isolation.specs.Calls as calls
use Rattle.isolation.specs.Feeding.{fed}
use Rattle.records.specs.Files.{count, records_part}
use Rattle.records.specs.Requests.{Asked}
use Rattle.records.specs.Requests as asked
use Rattle.tally.specs.declared.Counts.{Counts}
use Rattle.run_file.specs.Runs.{start, asked_at, world_after}
use Rattle.run_laws.specs.Drawn.{how_many}

-- the calls that a record makes: "5 b ticks" makes b, a bad record none
unfoldable pub calls_of : Asked → List Call
calls_of (asked.write address value) = write_register address value ∷ []
calls_of (asked.read address) = read_register address ∷ []
calls_of (asked.setpoint number user buffer index word) = write_setpoint number user buffer index word ∷ []
calls_of (asked.event code) = event code ∷ []
calls_of (asked.ticks k) = replicate k tick
calls_of (asked.reply number frame) = reply number frame ∷ []
calls_of (asked.user user) = change_user user ∷ []
calls_of (asked.arm number) = arm number ∷ []
calls_of (asked.disarm number) = disarm number ∷ []
calls_of asked.bad = []

-- and those of the first k records
unfoldable pub calls_along : List ℕ → ℕ → List Call
calls_along part zero = []
calls_along part (suc k) = calls_along part k ++ calls_of (asked_at part k)

-- calls one after the other, each lent the memory as those before it left it
abbrev pub lent : World → Call → Item
lent w x = record { call = x; lent = given w x }

unfoldable pub lending : World → List Call → List Item
lending w [] = []
lending w (x ∷ xs) = lent w x ∷ lending (step w (lent w x)) xs

-- the list of calls that a file makes
unfoldable pub items_of : List ℕ → List Item
items_of file = lending start (calls_along (records_part file) (count file))

-- "frames of channels 1–4"
abbrev pub frames_of_channel : Counts → ℕ → ℕ
frames_of_channel counts c = of_four c counts.first counts.second counts.third counts.fourth

-- a channel by itself, with words of its own: "N is 16, M is 64, memory zeroed."
abbrev pub zeroed_channel : OneChannel
zeroed_channel = one_channel 16 64 (replicate 256 0) (replicate 128 0)

pub record OneChannelFrames (file : List ℕ) (counts : Counts) : Type 0 where
  -- the run starts at an opening, makes a list of calls that demand 3 allows, and ends as that list does
  pub opens : start ≡ opening 16 64 (replicate 1024 0) (replicate 512 0)
  pub allowed : Allowed start (items_of file)
  pub ends : calls.world_after start (items_of file) ≡ world_after start (records_part file) (count file)
  -- the frames of channel c: those that it answers by itself, fed its own calls and the shared ones
  pub frames : (c : ℕ) → 1 ≤ c → c ≤ 4 → frames_of_channel counts c ≡ how_many is_frame (responses zeroed_channel (fed c (items_of file)))
