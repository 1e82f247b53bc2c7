-- Document 02, card 4: its example, and rows of each of its rules.
use Rattle.std.specs.Prelude.{◌≡◌, ℕ, zero, suc, List, [], ◌∷◌, ◌++◌, ℤ, pos, negsuc, replicate}
use Rattle.ramp.specs.declared.Breakpoint.{Breakpoint}
use Rattle.ramp.specs.Answers.{wrote, refused}
use Rattle.ramp.specs.Ramp.{ramp_answer, ramp_codes, ramp_remainders}

abbrev pub at : ℕ → ℤ → Breakpoint
at index code = record { index = index; code = code }

-- so many breakpoints, at 0, 1, 2 and so on
unfoldable pub counted : ℕ → List Breakpoint
counted zero = []
counted (suc k) = counted k ++ (at k (pos 7) ∷ [])

-- the lent words before a call: seven for codes, eight for remainders
abbrev pub old : ℕ
old = 0xa5a5a5a5

abbrev pub older : ℕ
older = 0x5a5a5a5a

abbrev pub codes : List ℕ
codes = replicate 7 old

abbrev pub remainders : List ℕ
remainders = replicate 8 older

-- "From (0, 0) to (3, −1)"
abbrev pub example : List Breakpoint
example = at 0 (pos 0) ∷ at 3 (negsuc 0) ∷ []

abbrev pub two_segments : List Breakpoint
two_segments = at 0 (pos 10) ∷ at 2 (pos 13) ∷ at 5 (negsuc 3) ∷ []

-- between the lowest code and the highest
abbrev pub full_rise : List Breakpoint
full_rise = at 0 (negsuc 32767) ∷ at 2 (pos 32767) ∷ []

abbrev pub full_fall : List Breakpoint
full_fall = at 0 (pos 32767) ∷ at 2 (negsuc 32767) ∷ []

pub record RampRows : Type 0 where
  -- "From (0, 0) to (3, −1) the codes are 0, −1, −1, −1 with remainders 0, 2, 1, 0."
  pub example_wrote : ramp_answer example 4 7 8 ≡ wrote 4
  pub example_codes : ramp_codes example 4 codes remainders ≡ 0 ∷ 0xffff ∷ 0xffff ∷ 0x8000ffff ∷ old ∷ old ∷ old ∷ []
  pub example_remainders : ramp_remainders example 4 codes remainders ≡ 0 ∷ 2 ∷ 1 ∷ 0 ∷ older ∷ older ∷ older ∷ older ∷ []
  -- 11.5 is 11; 13 − 17 / 3 is 7 and 1 / 3, 13 − 34 / 3 is 1 and 2 / 3; D31 is in the last word alone
  pub segments_wrote : ramp_answer two_segments 7 7 8 ≡ wrote 6
  pub segments_codes : ramp_codes two_segments 7 codes remainders ≡ 10 ∷ 11 ∷ 13 ∷ 7 ∷ 1 ∷ 0x8000fffc ∷ old ∷ []
  pub segments_remainders : ramp_remainders two_segments 7 codes remainders ≡ 0 ∷ 1 ∷ 0 ∷ 1 ∷ 2 ∷ 0 ∷ older ∷ older ∷ []
  -- −0.5 is −1, on the way up and down
  pub rise_codes : ramp_codes full_rise 3 codes remainders ≡ 0x8000 ∷ 0xffff ∷ 0x80007fff ∷ old ∷ old ∷ old ∷ old ∷ []
  pub rise_remainders : ramp_remainders full_rise 3 codes remainders ≡ 0 ∷ 1 ∷ 0 ∷ older ∷ older ∷ older ∷ older ∷ older ∷ []
  pub fall_codes : ramp_codes full_fall 3 codes remainders ≡ 0x7fff ∷ 0xffff ∷ 0x80008000 ∷ old ∷ old ∷ old ∷ old ∷ []
  pub fall_remainders : ramp_remainders full_fall 3 codes remainders ≡ 0 ∷ 1 ∷ 0 ∷ older ∷ older ∷ older ∷ older ∷ older ∷ []
  -- "There are 2 to 64 of them."
  pub empty_refused : ramp_answer [] 70 70 70 ≡ refused 11
  pub one_refused : ramp_answer (counted 1) 70 70 70 ≡ refused 11
  pub two_wrote : ramp_answer (counted 2) 70 70 70 ≡ wrote 2
  pub most_wrote : ramp_answer (counted 64) 70 70 70 ≡ wrote 64
  pub more_refused : ramp_answer (counted 65) 70 70 70 ≡ refused 11
  -- "N, in document 01's range", from 1 to 1,048,576; N = 0 has no index below it, and N = 1 only the first
  pub depth_zero : ramp_answer (counted 2) 0 5 5 ≡ refused 11
  pub depth_one : ramp_answer (counted 2) 1 5 5 ≡ refused 11
  pub depth_two : ramp_answer (counted 2) 2 5 5 ≡ wrote 2
  pub depth_most : ramp_answer example 1048576 1048576 1048576 ≡ wrote 4
  pub depth_more : ramp_answer example 1048577 1048577 1048577 ≡ refused 11
  -- "The first index is 0, indices rise strictly, and the last is below N."
  pub first_refused : ramp_answer (at 1 (pos 0) ∷ at 3 (pos 0) ∷ []) 4 5 5 ≡ refused 11
  pub equal_refused : ramp_answer (at 0 (pos 0) ∷ at 1 (pos 0) ∷ at 1 (pos 0) ∷ []) 4 5 5 ≡ refused 11
  pub falling_refused : ramp_answer (at 0 (pos 0) ∷ at 2 (pos 0) ∷ at 1 (pos 0) ∷ []) 4 5 5 ≡ refused 11
  pub last_refused : ramp_answer example 3 5 5 ≡ refused 11
  -- "or either lent buffer shorter than N", though the words written would fit
  pub both_fit : ramp_answer example 5 5 5 ≡ wrote 4
  pub codes_short : ramp_answer example 5 4 5 ≡ refused 11
  pub remainders_short : ramp_answer example 5 5 4 ≡ refused 11
  -- "nothing is written"
  pub codes_kept : ramp_codes example 3 codes remainders ≡ codes
  pub remainders_kept : ramp_remainders example 3 codes remainders ≡ remainders
