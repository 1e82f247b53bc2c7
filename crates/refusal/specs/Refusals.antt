-- Document 01, 'Calls': the number that its table ("Number", "Trade's word", "Condition") gives each refusal, and those that requests of document 02
-- add ("Numbers that cards add join document 01's list"). The only place where they stand.
use Rattle.std.specs.Prelude.{ℕ, Result, Ok, Err}
use Rattle.refusal.specs.declared.Refusal.{Refusal}
use Rattle.refusal.specs.declared.Refusal.TheVariants as refusal

abbrev pub number_of : Refusal → ℕ
number_of refusal.SizeMismatch = 1
number_of refusal.OutOfRange = 2
number_of refusal.UnmappedRegister = 3
number_of refusal.AccessViolation = 4
number_of refusal.InvalidClock = 5
number_of refusal.ActiveBuffer = 6
number_of refusal.FramingError = 7
number_of refusal.BadTrailer = 8
number_of refusal.BadRecord = 9
number_of refusal.FunctionActive = 10
number_of refusal.InvalidRamp = 11
number_of refusal.NoDownload = 12
number_of refusal.PermissionDenied = 13

-- the number that the result of a check stands for; 0 is no refusal
abbrev pub verdict_number : Result Unit Refusal → ℕ
verdict_number (Ok done) = 0
verdict_number (Err r) = number_of r
