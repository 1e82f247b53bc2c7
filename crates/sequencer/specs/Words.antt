-- Document 01, 'A channel's life': what a setpoint word asks for.
use Rattle.std.specs.Prelude.{ℕ, ◌+◌, Bool, true, false, cond, leb}
use Rattle.status.specs.Bits.{bit_at}
use Rattle.status.specs.Latching.{pause_bit, end_of_function}
use Rattle.sequencer.specs.declared.Kind.{Kind}
use Rattle.sequencer.specs.declared.Kind.TheVariants as kind
use Rattle.sequencer.specs.declared.Stage.{Stage}
use Rattle.sequencer.specs.declared.Stage.TheVariants as stage

-- "The word at index N − 1 counts as last (bench)."
abbrev pub at_end : ℕ → ℕ → Bool
at_end n index = leb n (index + 1)

-- "Word bits in order of precedence: D31 last, D16–D19 pause 1–4, D20 VME pause." The VME pause is pause 0.
abbrev pub kind_of : ℕ → Bool → Kind
kind_of word end =
    cond end kind.Last
    (cond (bit_at word 31) kind.Last
    (cond (bit_at word 16) (kind.Pause 1)
    (cond (bit_at word 17) (kind.Pause 2)
    (cond (bit_at word 18) (kind.Pause 3)
    (cond (bit_at word 19) (kind.Pause 4)
    (cond (bit_at word 20) (kind.Pause 0) kind.Plain))))))

-- the stage once such a word is sent: the next word follows, or this one is repeated
abbrev pub stage_after : Kind → Stage
stage_after kind.Plain = stage.Running
stage_after (kind.Pause k) = stage.Paused k
stage_after kind.Last = stage.Ended

-- the index due once such a word is sent
abbrev pub index_after : Kind → ℕ → ℕ
index_after kind.Plain index = index + 1
index_after (kind.Pause k) index = index + 1
index_after kind.Last index = index

-- "First sending of the last word since Start latches EOF"; "A pause latches its bit once". 0: no bit.
abbrev pub condition_of : Kind → ℕ
condition_of kind.Plain = 0
condition_of (kind.Pause k) = pause_bit k
condition_of kind.Last = end_of_function

-- "D30 paused" of a send of this kind
abbrev pub pauses : Kind → Bool
pauses kind.Plain = false
pauses (kind.Pause k) = true
pauses kind.Last = false

-- "D29 last" of a send of this kind
abbrev pub ends : Kind → Bool
ends kind.Plain = false
ends (kind.Pause k) = false
ends kind.Last = true
