-- A run is the examiner's. Assumes nothing.
use Prim.Native.Nat.{ℕ}
use mathlib.Core.Path.{◌≡◌, sym, ap, ◌∙◌}
use mathlib.Core.List.{List}
use Rattle.channel_core.specs.Answers.{is_frame}
use Rattle.permissions.specs.declared.BoardRights.{BoardRights}
use Rattle.permissions.specs.Rights.{rights_at}
use Rattle.isolation.specs.Feeding.{fed}
use Rattle.access_control.specs.OneChannel.{guarded_responses}
use Rattle.access_control.proofs.Granted.{examiner_lists, examiner_fed, examiner_history}
use Rattle.tally.specs.declared.Counts.{Counts}
use Rattle.tally.specs.Answers.{counted}
use Rattle.run_file.specs.Runs.{start, run_of}
use Rattle.run_laws.specs.Drawn.{how_many}
use Rattle.run_laws.specs.OneChannelFrames.{items_of, zeroed_channel, OneChannelFrames}
use Rattle.run_laws.specs.ExaminerRuns.{ExaminerRun}
use Rattle.run_laws.proofs.OneChannelFrames.{one_channel_frames}

pub examiner_run : (r : BoardRights) (file : List ℕ) (counts : Counts) → run_of file ≡ counted counts → ExaminerRun r file counts
examiner_run r file counts e =
    let f : OneChannelFrames file counts = one_channel_frames file counts e in
    let x = examiner_lists r start (items_of file) in
    record {
      allowed = x.allowed f.allowed;
      answers = x.answers;
      ends = x.ends ∙ f.ends;
      frames = λ c low high.
          f.frames c low high
          ∙ ap (how_many is_frame)
          (sym (ap (guarded_responses (rights_at r c) zeroed_channel) (examiner_fed c (items_of file))
          ∙ examiner_history (rights_at r c) zeroed_channel (fed c (items_of file))));
    }
