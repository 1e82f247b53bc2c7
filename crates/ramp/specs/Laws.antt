-- Document 02, card 4: what every call leaves in the two lent buffers, told by what it answered. What a ramp's words are is said here anew,
-- without specs/Interpolation and `segment_of`, so that a wrong definition there fails here.
use Rattle.std.specs.Prelude.{◌≡◌, ℕ, suc, ◌+◌, ◌-◌, ◌/◌, ◌%◌, ◌≤◌, ◌<◌, cond, ◌⊎◌, List, eqb, ℤ, pos, ◌+ℤ◌, ◌-ℤ◌, ◌*ℤ◌, length, get_or, ◌≤ℤ◌}
use Rattle.codes.specs.Codes.{code_of}
use Rattle.ramp.specs.declared.Breakpoint.{Breakpoint}
use Rattle.ramp.specs.Answers.{wrote, refused}
use Rattle.ramp.specs.Ramp.{index_at, code_at, last_index, ramp_answer, ramp_codes, ramp_remainders}
use Rattle.ramp.specs.Rules.{CodesInRange, Rules}

-- "At index i between neighbours (p, s) and (q, t)", or at one of them: they stand at k and k + 1 of the list
pub record Between (ps : List Breakpoint) (k i : ℕ) : Type 0 where
  pub neighbours : suc k < length ps
  pub from : index_at ps k ≤ i
  pub to : i ≤ index_at ps (suc k)

-- the code that a word carries: its low 16 bits, "two's complement"
abbrev pub signed : ℕ → ℤ
signed word = code_of (word % 65536)

-- "Code and remainder restore the exact fraction.", s + (t − s) × (i − p) / (q − p), here times q − p; "the remainder left over, from 0 to q − p − 1". So the code is
-- no lower than one neighbour's and no higher than the other's.
pub record Exact (p : ℕ) (s : ℤ) (q : ℕ) (t : ℤ) (i : ℕ) (code : ℤ) (remainder : ℕ) : Type 0 where
  pub restores : code *ℤ pos (q - p) +ℤ pos remainder ≡ s *ℤ pos (q - p) +ℤ (t -ℤ s) *ℤ pos (i - p)
  pub below : remainder < q - p
  pub within : ((s ≤ℤ code) × (code ≤ℤ t)) ⊎ ((t ≤ℤ code) × (code ≤ℤ s))

-- the buffers after a call that wrote so many words
pub record Written (ps : List Breakpoint) (words : ℕ) (codes remainders codes' remainders' : List ℕ) : Type 0 where
  -- "how many words it wrote to each buffer": from index 0 to the last
  pub count : words ≡ last_index ps + 1
  pub covered : (i : ℕ) → i < words → (k : ℕ) × Between ps k i
  pub exact :
      (k i : ℕ) → Between ps k i
      → Exact (index_at ps k) (code_at ps k) (index_at ps (suc k)) (code_at ps (suc k)) i (signed (get_or codes' i 0)) (get_or remainders' i 0)
  -- "At a breakpoint the remainder is 0.", and the code is its own
  pub own : (k : ℕ) → k < length ps → (signed (get_or codes' (index_at ps k) 0) ≡ code_at ps k) × (get_or remainders' (index_at ps k) 0 ≡ 0)
  -- "Codes go out as 16 bits"; "D31 marks the last word, the other high bits are 0"
  pub high : (i : ℕ) → i < words → get_or codes' i 0 / 65536 ≡ cond (eqb (suc i) words) 0x8000 0
  -- "later words stay"
  pub later_codes : (i : ℕ) → words ≤ i → get_or codes' i 0 ≡ get_or codes i 0
  pub later_remainders : (i : ℕ) → words ≤ i → get_or remainders' i 0 ≡ get_or remainders i 0
  pub same_codes : length codes' ≡ length codes
  pub same_remainders : length remainders' ≡ length remainders

-- a call that wrote kept the rules, and its words are these; its codes are in range by the contract of `write_ramp`
abbrev pub RampWritten : Type 0
RampWritten =
    (ps : List Breakpoint) (n words : ℕ) (codes remainders : List ℕ) → ramp_answer ps n (length codes) (length remainders) ≡ wrote words
    → Rules ps n (length codes) (length remainders)
    × (CodesInRange ps → Written ps words codes remainders (ramp_codes ps n codes remainders) (ramp_remainders ps n codes remainders))

-- and no others are so: what is said above fixes every word of both buffers
abbrev pub WrittenOnly : Type 0
WrittenOnly =
    (ps : List Breakpoint) (words : ℕ) (codes remainders codes' remainders' codes'' remainders'' : List ℕ) → Written ps words codes remainders codes' remainders'
    → Written ps words codes remainders codes'' remainders'' → (codes' ≡ codes'') × (remainders' ≡ remainders'')

-- one that is refused is refused 11 and broke a rule, and "nothing is written"
abbrev pub RampRefused : Type 0
RampRefused =
    (ps : List Breakpoint) (n number : ℕ) (codes remainders : List ℕ) → ramp_answer ps n (length codes) (length remainders) ≡ refused number
    → (number ≡ 11) × (Rules ps n (length codes) (length remainders) → ⊥) × (ramp_codes ps n codes remainders ≡ codes) × (ramp_remainders ps n codes remainders ≡ remainders)
