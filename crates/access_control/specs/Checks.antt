-- What the check of an address answers in the code: the region that it names, whose offset is in the map, or the refusal.
use Rattle.std.specs.Prelude.{ℕ, ◌≡◌, Result, Ok, Err, Some}
use Rattle.refusal.specs.declared.Refusal.{Refusal}
use Rattle.refusal.specs.Refusals.{number_of}
use Rattle.address_map.specs.declared.Region.{Region}
use Rattle.address_map.specs.Addresses.{Named, named, named_of}
use Rattle.access_control.specs.Guarding.{address_refusal}

abbrev pub region_checked : Result Region Refusal → Named → Type 0
region_checked (Ok r) x = (named_of (Some r) ≡ x) × (address_refusal x ≡ 0)
region_checked (Err k) x = number_of k ≡ address_refusal x

abbrev pub address_checked : Result Region Refusal → (address : ℕ) → Type 0
address_checked r address = region_checked r (named address)
