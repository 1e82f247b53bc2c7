-- A refusal's number is never 0, which stands for no refusal. Assumes nothing.
use mathlib.Core.Path.{◌≡◌, refl}
use mathlib.Core.Bool.{false}
use lib.Dec.{eqb}
use Rattle.refusal.specs.Refusals.{number_of}
use Rattle.refusal.specs.declared.Refusal.{Refusal}
use Rattle.refusal.specs.declared.Refusal.TheVariants as refusal

pub refuses : (k : Refusal) → eqb (number_of k) 0 ≡ false
refuses refusal.SizeMismatch = refl
refuses refusal.OutOfRange = refl
refuses refusal.UnmappedRegister = refl
refuses refusal.AccessViolation = refl
refuses refusal.InvalidClock = refl
refuses refusal.ActiveBuffer = refl
refuses refusal.FramingError = refl
refuses refusal.BadTrailer = refl
refuses refusal.BadRecord = refl
refuses refusal.FunctionActive = refl
refuses refusal.InvalidRamp = refl
refuses refusal.NoDownload = refl
refuses refusal.PermissionDenied = refl
