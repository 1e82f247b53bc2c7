-- What printing and writing do to a printer: to the bytes that are printed and not written yet. That a write is handed these bytes, and what comes
-- of it, cannot be stated.
use Rattle.std.specs.Prelude.{ℕ, ◌+◌, ◌*◌, ◌≤◌, ◌≡◌, Bool, true, false, ◌⊎◌, List, ◌++◌, length, take}
use Rattle.output.specs.declared.printer.Printer.{Printer}

-- the bytes that are gathered, unless the printer is closed
abbrev pub gathered : Printer → List ℕ
gathered p = take p.count p.bytes

-- after a write that went well nothing is gathered any more, and one that failed closes the printer
abbrev pub Settled : Printer → Printer → Bool → Type 0
Settled before after true = (after.bytes ≡ before.bytes) × (after.count ≡ 0) × (after.is_closed ≡ false)
Settled before after false = (after.bytes ≡ before.bytes) × (after.count ≡ before.count) × (after.is_closed ≡ true)

-- these bytes are so many whole blocks, and then what is gathered
pub record InBlocks (bytes : List ℕ) (p : Printer) : Type 0 where
  pub blocks : ℕ
  pub written : List ℕ
  pub full : length written ≡ blocks * 8192
  pub rest : bytes ≡ written ++ gathered p

-- the printer is open, and there is room for the bytes
abbrev pub HasRoom : Printer → List ℕ → Type 0
HasRoom p bytes = (p.is_closed ≡ false) × (p.count + length bytes ≤ 8192)

-- what printing does to a printer
pub record Prints (before after : Printer) (bytes : List ℕ) : Type 0 where
  -- where there is room for the bytes, they are added to what is gathered
  pub stays_open : HasRoom before bytes → after.is_closed ≡ false
  pub count : HasRoom before bytes → after.count ≡ before.count + length bytes
  pub added : HasRoom before bytes → gathered after ≡ gathered before ++ bytes
  -- in any case none is lost, or the printer is closed
  pub kept : after.is_closed ≡ false → InBlocks (gathered before ++ bytes) after
  -- a closed printer stays as it is
  pub closed : before.is_closed ≡ true → after ≡ before

-- what writing all that is gathered does to a printer: it goes by whether the write went well, and a closed one stays as it is
pub record Flushed (before after : Printer) : Type 0 where
  pub went_well : Bool
  pub settles : before.is_closed ≡ false → Settled before after went_well
  pub closed : before.is_closed ≡ true → after ≡ before

-- the same where only a full block is written
abbrev pub FlushedIfFull : Printer → Printer → Type 0
FlushedIfFull before after = ((before.count ≡ 8192) × Flushed before after) ⊎ ((before.count ≡ 8192 → ⊥) × (after ≡ before))
