-- Which right the read of a register comes down to. Assumes nothing.
use Prim.Native.Nat.{ℕ}
use mathlib.Core.Path.{◌≡◌, refl}
use mathlib.Core.Bool.{Bool, true, false, ◌&&◌, ◌||◌}
use Rattle.permissions.specs.declared.Rights.{Rights}
use Rattle.permissions.specs.Rights.{clears, reads_register}

writes : (w : Bool) → w ≡ w || false
writes true = refl
writes false = refl

reads : (r w : Bool) → r ≡ r && (w || true)
reads true true = refl
reads true false = refl
reads false w = refl

-- one that clears: both
pub clearing : (r : Rights) (o : ℕ) → r.read ≡ true → clears o ≡ true → r.write ≡ reads_register r o
clearing r o e h = rw (e, h) (writes r.write)

-- any other: the read right
pub plain : (r : Rights) (o : ℕ) → clears o ≡ false → r.read ≡ reads_register r o
plain r o h = rw h (reads r.read r.write)
