-- Document 01, 'Calls': what calls on the board answer, in its numbers and values.
use Rattle.std.specs.Prelude.{ℕ, zero, suc, Bool, false, List, Option, None, Result, Ok, Err, get_or}
use Rattle.refusal.specs.Refusals.{number_of}
use Rattle.refusal.specs.declared.Refusal.{Refusal}
use Rattle.channel_core.specs.Answers.{Answer, is_refusal, line_of}
use Rattle.channel_core.specs.Answers as ans

pub data BoardAnswer : Type 0 where
  -- the answer of any other call
  one : Answer → BoardAnswer
  -- a tick: the frame or none of channels 1 to 4
  each : (first second third fourth : Answer) → BoardAnswer

-- of four, that of channel 1 to 4
abbrev pub of_four : {A : Type 0} → ℕ → A → A → A → A → A
of_four zero f g h k = f
of_four (suc zero) f g h k = f
of_four (suc (suc zero)) f g h k = g
of_four (suc (suc (suc zero))) f g h k = h
of_four (suc (suc (suc (suc c)))) f g h k = k

-- the answer of a tick: the four channels' frames in a list
abbrev pub frame_at : List (Option ℕ) → ℕ → Answer
frame_at frames index = line_of (get_or frames index None)

abbrev pub frames_of : Result (List (Option ℕ)) Refusal → BoardAnswer
frames_of (Ok frames) = each (frame_at frames 0) (frame_at frames 1) (frame_at frames 2) (frame_at frames 3)
frames_of (Err k) = one (ans.refused (number_of k))

-- whether a call was refused
abbrev pub refuses : BoardAnswer → Bool
refuses (one a) = is_refusal a
refuses (each a b c d) = false
