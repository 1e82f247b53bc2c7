-- Document 02, card 4: the rules for breakpoints, N and both lengths, one by one. The call is refused exactly where one is broken (specs/Laws).
use Rattle.std.specs.Prelude.{◌≡◌, ℕ, suc, ◌≤◌, ◌<◌, List, pos, negsuc, length, ◌≤ℤ◌}
use Rattle.ramp.specs.declared.Breakpoint.{Breakpoint}
use Rattle.ramp.specs.Ramp.{index_at, code_at, last_index}

-- "a signed code from −32,768 to 32,767"
abbrev pub CodesInRange : List Breakpoint → Type 0
CodesInRange ps = (k : ℕ) → k < length ps → (negsuc 32767 ≤ℤ code_at ps k) × (code_at ps k ≤ℤ pos 32767)

pub record Rules (ps : List Breakpoint) (n code_words remainder_words : ℕ) : Type 0 where
  -- "There are 2 to 64 of them."
  pub at_least : 2 ≤ length ps
  pub at_most : length ps ≤ 64
  -- "N, in document 01's range", which says: "Depth N (setpoints per buffer) is 1 to 1,048,576."
  pub depth_from : 1 ≤ n
  pub depth_to : n ≤ 1048576
  -- "The first index is 0, indices rise strictly, and the last is below N."
  pub first : index_at ps 0 ≡ 0
  pub increasing : (k : ℕ) → suc k < length ps → index_at ps k < index_at ps (suc k)
  pub last : last_index ps < n
  -- neither "lent buffer shorter than N"
  pub codes : n ≤ code_words
  pub remainders : n ≤ remainder_words

-- p and q have i between them or at one of them; below the largest N, so that nothing overflows
pub record Brackets (p q i : ℕ) : Type 0 where
  pub after : p ≤ i
  pub before : i ≤ q
  pub apart : p < q
  pub small : q < 1048576
