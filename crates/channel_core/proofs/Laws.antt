-- What a tick answers, where a command frame is due and where none is; the part in an answer. Assumes nothing.
use Prim.Native.Nat.{ℕ}
use mathlib.Core.Path.{◌≡◌, refl, sym}
use mathlib.Core.Bool.{Bool, true, false, cond}
use mathlib.Core.List.{List, []}
use lib.Dec.{eqb}
use Rattle.sequencer.specs.Transmissions.{Transmission}
use Rattle.sequencer.specs.Transmissions as transmission
use Rattle.command_frames.specs.declared.CommandFrames.{CommandFrames}
use Rattle.command_frames.specs.Commanding.{is_due, command_frame}
use Rattle.channel_core.specs.Answers as ans
use Rattle.channel_core.specs.Behaviour.{send_frame, tick_line}

module _ (id : ℕ) (f : CommandFrames) where
  -- the frame of its setpoint, or none
  pub line_none : is_due f.waiting ≡ false → (x : Transmission) → tick_line id f x ≡ send_frame id x
  line_none e transmission.Nothing = rw e
  line_none e (transmission.Word word k) = refl

  -- the command frame, where no setpoint leaves
  pub line_command : is_due f.waiting ≡ true → tick_line id f transmission.Nothing ≡ ans.frame (command_frame f)
  line_command e = rw e

-- the words that a call returns are the part of its answer, where it has none when it is refused
pub part_unless : (k : ℕ) (s : List ℕ) → (eqb k 0 ≡ false → s ≡ []) → ans.part_of (ans.unless k (ans.part s)) ≡ s
part_unless k s none = go (eqb k 0) refl
  where
    go : (b : Bool) → eqb k 0 ≡ b → ans.part_of (cond b (ans.part s) (ans.refused k)) ≡ s
    go true e = refl
    go false e = sym (none e)
