-- Document 01, 'Register map': what an address names. Main or a channel (1 to 4), with the offset from its start, or neither.
use Rattle.std.specs.Prelude.{ℕ, ◌/◌, ◌%◌, cond, Option, Some, None, ltb}
use Rattle.address_map.specs.declared.Region.{Region}
use Rattle.address_map.specs.declared.Region.TheVariants as region

pub data Named : Type 0 where
  main : (offset : ℕ) → Named
  channel : (number offset : ℕ) → Named
  nothing : Named

-- "Channel c starts at 0800h × c. A register call names the channel in whose 0800h its address falls; below 0800h is Main; 2800h and above is refused 3."
unfoldable pub named : ℕ → Named
named address =
    cond (ltb address 0x800) (main address)
    (cond (ltb address 0x2800) (channel (address / 0x800) (address % 0x800)) nothing)

-- what each case of `decode_address`'s answer stands for
abbrev pub named_of : Option Region → Named
named_of (Some (region.Main offset)) = main offset
named_of (Some (region.Channel number offset)) = channel number offset
named_of None = nothing
