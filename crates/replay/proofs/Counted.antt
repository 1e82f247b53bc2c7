-- The answer of a call of each kind, counted: as a refusal where the code's result is an error. Assumes nothing.
use mathlib.Core.Path.{◌≡◌, refl, ap, ◌∙◌}
use mathlib.Core.List.{[], ◌∷◌}
use Prim.Native.Nat.{ℕ}
use Rattle.std.specs.Prelude.{Result, Ok, Err, is_err}
use Rattle.refusal.specs.declared.Refusal.{Refusal}
use Rattle.channel_core.specs.Answers.{Answer, is_refusal, outcome_of}
use Rattle.channel_registers.specs.Answers.{read_outcome_of}
use Rattle.channel_replies.specs.Answers.{receipt_of}
use Rattle.readback.specs.declared.Disposition.{Disposition}
use Rattle.readback.specs.declared.Disposition.TheVariants as receipt
use Rattle.board.specs.Answers.{one}
use Rattle.tally.specs.declared.Counts.{Counts}
use Rattle.tally.specs.Tallies.{tally, tallies}

-- what `Counts::count` says of an answer
abbrev pub IsCounted : {T : Type 0} → Counts → Counts → Result T Refusal → Type 0
IsCounted c d r = (a : Answer) → is_refusal a ≡ is_err r → d ≡ tally c (one a)

outcome_refused : (r : Result Unit Refusal) → is_refusal (outcome_of r) ≡ is_err r
outcome_refused (Ok u) = refl
outcome_refused (Err k) = refl

read_refused : (r : Result ℕ Refusal) → is_refusal (read_outcome_of r) ≡ is_err r
read_refused (Ok v) = refl
read_refused (Err k) = refl

receipt_refused : (r : Result Disposition Refusal) → is_refusal (receipt_of r) ≡ is_err r
receipt_refused (Ok receipt.Kept) = refl
receipt_refused (Ok receipt.Lost) = refl
receipt_refused (Ok receipt.Unsolicited) = refl
receipt_refused (Err k) = refl

pub outcome_counted : (c d : Counts) (x : Answer) (r : Result Unit Refusal) → IsCounted c d r → outcome_of r ≡ x → d ≡ tallies c (one x ∷ [])
unfolding tallies
outcome_counted c d x r counted e = counted (outcome_of r) (outcome_refused r) ∙ ap (λ (a : Answer). tally c (one a)) e

pub read_counted : (c d : Counts) (x : Answer) (r : Result ℕ Refusal) → IsCounted c d r → read_outcome_of r ≡ x → d ≡ tallies c (one x ∷ [])
unfolding tallies
read_counted c d x r counted e = counted (read_outcome_of r) (read_refused r) ∙ ap (λ (a : Answer). tally c (one a)) e

pub receipt_counted : (c d : Counts) (x : Answer) (r : Result Disposition Refusal) → IsCounted c d r → receipt_of r ≡ x → d ≡ tallies c (one x ∷ [])
unfolding tallies
receipt_counted c d x r counted e = counted (receipt_of r) (receipt_refused r) ∙ ap (λ (a : Answer). tally c (one a)) e
