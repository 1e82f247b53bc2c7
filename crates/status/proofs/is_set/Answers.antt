-- `status::is_set` meets its contract: the shifted word is odd where the bit is set, and no word of sixteen bits has a bit at 16 or above. Assumes nothing.
use native.Mathlib.Omega.{arith}
use mathlib.Core.Path.{sym, ◌∙◌}
use borrow.Author.Tests.{le-ltb}
use Rattle.status.proofs.Words.{bit_past}
use Rattle.status.proofs.is_set.Goals as goal

pub returns-else-bit-lt16 : goal.returns-else-bit-lt16
returns-else-bit-lt16 c =
    le-ltb c.args.bit 16 (omega arith) ∙ sym (bit_past c.args.word c.args.bit (omega arith) (omega arith))
