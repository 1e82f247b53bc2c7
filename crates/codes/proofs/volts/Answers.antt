-- `codes::volts` meets its contract: an i32 holds the code, and an f64 the i32. Assumes nothing.
use mathlib.Core.Path.{ap, ◌∙◌}
use lib.IntN.{ℤ}
use lib.Ieee.{Float, binary64, mul, div, of_int, of_bits}
use mir.Syntax.{w32}
use mir.Val.{to_z, of_z}
use mir.ValLaws.{to_z-of_z}
use Rattle.codes.specs.Codes.{code_of}
use Rattle.codes.specs.Voltage.{ten, full_scale, voltage_of}
use Rattle.codes.proofs.Codes.{code_fits}
use Rattle.codes.proofs.volts.Goals as goal

pub returns : goal.returns
unfolding voltage_of of_bits
returns c =
    let word = c.args.word in
    ap (λ (x : Float). div binary64 (mul binary64 x ten) full_scale)
    (c.from.ensures
    ∙ ap (λ (z : ℤ). of_int binary64 z) (ap (λ (z : ℤ). to_z w32 (of_z w32 z)) c.code.ensures ∙ to_z-of_z w32 (code_of word) (code_fits word)))
