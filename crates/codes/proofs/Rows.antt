-- The voltages of document 02's codes, by computation. Assumes nothing.
use mathlib.Core.Path.{refl}
use Rattle.codes.specs.Voltage.{voltage_of, VoltageRows}

pub voltage_rows : VoltageRows
unfolding voltage_of
voltage_rows =
    record { lowest = (refl, refl); nought = (refl, refl); highest = (refl, refl); one = (refl, refl); minus_one = (refl, refl) }
