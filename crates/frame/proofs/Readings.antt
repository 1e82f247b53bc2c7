-- An answer of `frame::decode` can be told from what it means: two that mean the same are the same. Assumes nothing.
use mathlib.Core.Path.{◌≡◌, refl, sym, ap, ◌∙◌}
use mathlib.Core.List.{[], ◌∷◌}
use Prim.Native.Nat.{ℕ, zero, suc}
use lib.ListN.{get_or}
use Rattle.std.specs.Prelude.{Result, Ok, Err}
use Rattle.refusal.specs.Refusals.{number_of}
use Rattle.refusal.specs.declared.Refusal.{Refusal}
use Rattle.refusal.specs.declared.Refusal.TheVariants as refusal
use Rattle.frame.specs.declared.Fields.{Fields}
use Rattle.frame.specs.Frames.{Reading, refused, fields, reading_of}

-- the refusal of a number from 1 on
refusal_of : ℕ → Refusal
refusal_of zero = refusal.SizeMismatch
refusal_of (suc n) =
    get_or
    (refusal.SizeMismatch ∷
    refusal.OutOfRange ∷
    refusal.UnmappedRegister ∷
    refusal.AccessViolation ∷
    refusal.InvalidClock ∷
    refusal.ActiveBuffer ∷
    refusal.FramingError ∷
    refusal.BadTrailer ∷
    refusal.BadRecord ∷
    refusal.FunctionActive ∷
    refusal.InvalidRamp ∷
    refusal.NoDownload ∷
    refusal.PermissionDenied ∷
    [])
    n refusal.SizeMismatch

number_back : (r : Refusal) → refusal_of (number_of r) ≡ r
unfolding refusal_of
number_back refusal.SizeMismatch = refl
number_back refusal.OutOfRange = refl
number_back refusal.UnmappedRegister = refl
number_back refusal.AccessViolation = refl
number_back refusal.InvalidClock = refl
number_back refusal.ActiveBuffer = refl
number_back refusal.FramingError = refl
number_back refusal.BadTrailer = refl
number_back refusal.BadRecord = refl
number_back refusal.FunctionActive = refl
number_back refusal.InvalidRamp = refl
number_back refusal.NoDownload = refl
number_back refusal.PermissionDenied = refl

answer_of : Reading → Result Fields Refusal
answer_of (refused number) = Err (refusal_of number)
answer_of (fields id word aux crc) = Ok (record { id = id; «data» = word; auxiliary = aux; crc = crc })

answer_back : (x : Result Fields Refusal) → answer_of (reading_of x) ≡ x
unfolding answer_of
answer_back (Ok f) = refl
answer_back (Err r) = ap Err (number_back r)

pub reading_one_to_one : (x y : Result Fields Refusal) → reading_of x ≡ reading_of y → x ≡ y
reading_one_to_one x y e = sym (answer_back x) ∙ ap answer_of e ∙ answer_back y
