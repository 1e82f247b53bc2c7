-- `ramp::write_ramp_by_value` meets its contract: the breakpoints that it lends are the first `count`, or all of them. Assumes nothing.
use mathlib.Core.Path.{◌≡◌, ap, subst, ◌∙◌}
use Prim.Native.Nat.{ℕ, min}
use native.Mathlib.Omega.{arith}
use mathlib.Core.List.{List}
use lib.ListN.{length, take}
use Rattle.std.specs.Prelude.{Result}
use Rattle.std.proofs.lemmas.List.{take_min}
use Rattle.refusal.specs.declared.Refusal.{Refusal}
use Rattle.ramp.specs.declared.Breakpoint.{Breakpoint}
use Rattle.ramp.specs.Answers.{wrote, count_of}
use Rattle.ramp.specs.Rules.{CodesInRange}
use Rattle.ramp.proofs.write_ramp_by_value.Goals as goal

-- of a part that has as many breakpoints as the first `count` are
in_front : (r : Result ℕ Refusal) (points : List Breakpoint) (k count : ℕ) → ((words : ℕ) → count_of r ≡ wrote words → CodesInRange (take k points))
    → k ≡ min count (length points) → (words : ℕ) → count_of r ≡ wrote words → CodesInRange (take count points)
in_front r points k count known e =
    subst (λ (ps : List Breakpoint). (words : ℕ) → count_of r ≡ wrote words → CodesInRange ps)
    (ap (λ (j : ℕ). take j points) e ∙ take_min count points) known

pub returns-clause-in_range : goal.returns-clause-in_range
returns-clause-in_range c = in_front c.write_ramp.result c.args.points _ c.args.count c.write_ramp.ensures.in_range (grind arith)
