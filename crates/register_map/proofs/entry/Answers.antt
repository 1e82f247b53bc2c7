-- `register_map::entry` meets its contract: antt computes the rule's 133 values and compares the code's table with them, once, at `returns`. Assumes nothing.
use Rattle.std.proofs.Common.{rules}
use Rattle.register_map.specs.AccessRule.{channel_access, main_access, entry_access}
use Rattle.tabulation.proofs.Entries.{entry_of}
use Rattle.register_map.proofs.entry.Goals as goal

pub returns : goal.returns
unfolding channel_access main_access entry_access
returns c = entry_of entry_access 133 c.args.i _ (search rules)
