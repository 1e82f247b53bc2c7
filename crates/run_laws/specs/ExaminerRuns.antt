-- Document 02, card 9: "a run file's calls are the examiner's". A run is that list of calls made by the examiner, whatever rights the opening gave.
-- Proof: proofs/ExaminerRuns.antt.
use Rattle.std.specs.Prelude.{ℕ, ◌≤◌, ◌≡◌, List}
use Rattle.channel_core.specs.Answers.{is_frame}
use Rattle.permissions.specs.declared.BoardRights.{BoardRights}
use Rattle.permissions.specs.Rights.{rights_at}
use Rattle.access_control.specs.Guarding.{GuardedAllowed, guarded_world_after}
use Rattle.access_control.specs.OneChannel.{guarded_responses}
use Rattle.access_control.specs.Laws.{by_examiner, answers_along, guarded_answers}
use Rattle.access_control.specs.Isolation.{guarded_fed}
use Rattle.records.specs.Files.{count, records_part}
use Rattle.tally.specs.declared.Counts.{Counts}
use Rattle.run_file.specs.Runs.{start, world_after}
use Rattle.run_laws.specs.Drawn.{how_many}
use Rattle.run_laws.specs.OneChannelFrames.{items_of, frames_of_channel, zeroed_channel}

pub record ExaminerRun (r : BoardRights) (file : List ℕ) (counts : Counts) : Type 0 where
  -- the examiner's calls are a list that demand 3 by role allows, answer what the run's calls answer, and end where it ends
  pub allowed : GuardedAllowed r start (by_examiner (items_of file))
  pub answers : guarded_answers r start (by_examiner (items_of file)) ≡ answers_along start (items_of file)
  pub ends : guarded_world_after r start (by_examiner (items_of file)) ≡ world_after start (records_part file) (count file)
  -- the frames of channel c: those that it answers the examiner by itself
  pub frames : (c : ℕ) → 1 ≤ c → c ≤ 4
      → frames_of_channel counts c ≡ how_many is_frame (guarded_responses (rights_at r c) zeroed_channel (guarded_fed c (by_examiner (items_of file))))
