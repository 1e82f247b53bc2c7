-- `board_registers::write_register` meets its contract: an address that names a channel names one of four. Assumes nothing.
use Rattle.std.proofs.Common.{◌≡◌, refl, sym, ◌∙◌}
use Rattle.address_map.specs.Addresses.{channel, named}
use Rattle.address_map.proofs.Laws.{named_channel}
use Rattle.board_registers.proofs.write_register.Goals as goal

pub write_channel-requires-clause-number : goal.write_channel-requires-clause-number
write_channel-requires-clause-number c =
    let r = c.in-Some-Channel in
    let e : named c.args.address ≡ channel r.number r.offset = sym r.ensures ∙ rw r.field-0-is refl in
    (named_channel c.args.address e).1
