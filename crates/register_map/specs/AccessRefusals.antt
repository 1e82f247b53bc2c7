-- Document 01, 'Calls': the refusal that an access implies. 3, "address not in the map below"; 4, "write to a read-only register, or read of a write-only one".
-- 0 is no refusal.
use Rattle.std.specs.Prelude.{ℕ, Option, Some, None}
use Rattle.refusal.specs.declared.Refusal.TheVariants as refusal
use Rattle.refusal.specs.Refusals.{number_of}
use Rattle.register_map.specs.declared.Access.{Access}
use Rattle.register_map.specs.declared.Access.TheVariants as access

abbrev pub read_refusal : Option Access → ℕ
read_refusal None = number_of refusal.UnmappedRegister
read_refusal (Some access.ReadOnly) = 0
read_refusal (Some access.WriteOnly) = number_of refusal.AccessViolation
read_refusal (Some access.ReadWrite) = 0

abbrev pub write_refusal : Option Access → ℕ
write_refusal None = number_of refusal.UnmappedRegister
write_refusal (Some access.ReadOnly) = number_of refusal.AccessViolation
write_refusal (Some access.WriteOnly) = 0
write_refusal (Some access.ReadWrite) = 0
