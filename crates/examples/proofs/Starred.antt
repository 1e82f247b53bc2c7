-- Every starred example holds: by computation, and the rows over ticks by the laws of crate `timing`. Assumes nothing.
use Prim.Native.Nat.{ℕ, ◌+◌}
use mathlib.Core.Path.{refl, subst}
use mathlib.Core.Bool.{false}
use Rattle.frame.specs.Crc.{crc_of}
use Rattle.frame.specs.Frames.{crc_for, encoded, read, crc_right}
use Rattle.sequencer.proofs.Moves as moves
use Rattle.readback.specs.Storing.{stored_word}
use Rattle.channel.specs.OneChannel.{transition}
use Rattle.timing.specs.Ticking.{NextSetpoint}
use Rattle.timing.specs.Timing.{event_call}
use Rattle.timing.proofs.Timing.{timing}
use Rattle.examples.specs.Starred.{FrameRows, FirstSetpointOn, DelayRows, ResumeRows, WordRows, Starred}
use Rattle.examples.proofs.RunRows.{run_rows}
use Rattle.examples.proofs.Resumes.{resume_25, resume_0}

frame_rows : FrameRows
unfolding crc_of crc_for encoded read crc_right
frame_rows =
    record {
      auxiliary_0 = (refl, refl);
      auxiliary_1 = (refl, refl);
      auxiliary_2 = (refl, refl);
      auxiliary_3 = (refl, refl);
      frame_7 = (refl, refl, refl);
      frame_2 = refl;
      start_bit_1 = refl;
    }

first_frame : (d : ℕ) → FirstSetpointOn d (d + 10)
first_frame d o code armed on e =
    subst (λ (x : ℕ). NextSetpoint (transition o (event_call o code)) (x + 10) 0) e (timing.start_by_event o code armed on)

delay_rows : DelayRows
delay_rows = record { delay_0 = first_frame 0; delay_most = first_frame 0xffffff }

resume_rows : ResumeRows
resume_rows = record { delay_25 = λ o code h e. resume_25 o code h e; delay_0 = λ o code h e. resume_0 o code h e }

word_rows : WordRows
unfolding stored_word
word_rows = record { d31_with_d16 = λ word last pause. moves.last_bit word false last; stored_word_lem = λ id. refl }

pub starred : Starred
starred = record { frames = frame_rows; delays = delay_rows; resumes = resume_rows; words = word_rows; runs = run_rows }
