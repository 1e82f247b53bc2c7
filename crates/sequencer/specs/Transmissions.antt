-- Document 01, 'A channel's life': what one tick of the sequencer gives, and what the code's answer of a tick stands for.
use Rattle.std.specs.Prelude.{ℕ, Option, Some, None}
use Rattle.status.specs.declared.Condition.{Condition}
use Rattle.status.specs.Latching.{condition_bit}
use Rattle.sequencer.specs.declared.Sequencer.{Sequencer}
use Rattle.sequencer.specs.declared.Sent.{Sent}

-- what a tick transmits: nothing, or a word, with the status bit that the word latches (0: none)
pub data Transmission : Type 0 where
  Nothing : Transmission
  Word : (word condition : ℕ) → Transmission

-- a tick: the sequencer after it, and what it transmits
pub record Ticked : Type 0 where
  pub sequencer : Sequencer
  pub transmission : Transmission

-- the status bit that a word latches; 0 is none
abbrev pub condition_number : Option Condition → ℕ
condition_number None = 0
condition_number (Some condition) = condition_bit condition

-- what the answer of a tick stands for
abbrev pub transmission_of : Option Sent → Transmission
transmission_of None = Nothing
transmission_of (Some sent) = Word sent.word (condition_number sent.condition)
