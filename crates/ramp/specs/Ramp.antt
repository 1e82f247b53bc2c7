-- Document 02, card 4: the rules for breakpoints and N, the words of a ramp, and the call.
use Rattle.std.specs.Prelude.{ℕ, zero, suc, ◌+◌, ◌-◌, Bool, true, cond, ◌&&◌, List, [], ◌∷◌, leb, ltb, eqb, ℤ, pos, length, get_or, set}
use Rattle.refusal.specs.Refusals.{number_of}
use Rattle.refusal.specs.declared.Refusal.TheVariants as refusal
use Rattle.ramp.specs.declared.Breakpoint.{Breakpoint}
use Rattle.ramp.specs.Answers.{Answer, wrote, refused}
use Rattle.ramp.specs.Interpolation.{code_between, remainder_between, twos_complement}

-- ---- The breakpoints: "one list of records, each an index and a signed code"

-- what is read past the end of a list
abbrev pub zero_point : Breakpoint
zero_point = record { index = 0; code = pos 0 }

-- "an index" and "a signed code": those of breakpoint k, from 0
abbrev pub index_at : List Breakpoint → ℕ → ℕ
index_at ps k = (get_or ps k zero_point).index

abbrev pub code_at : List Breakpoint → ℕ → ℤ
code_at ps k = (get_or ps k zero_point).code

-- "the last" index
abbrev pub last_index : List Breakpoint → ℕ
last_index ps = index_at ps (length ps - 1)

-- ---- The rules

-- "indices rise strictly"
unfoldable pub is_increasing : List Breakpoint → Bool
is_increasing [] = true
is_increasing (a ∷ []) = true
is_increasing (a ∷ b ∷ ps) = ltb a.index b.index && is_increasing (b ∷ ps)

-- "There are 2 to 64 of them." "N, in document 01's range". "The first index is 0, indices rise strictly, and the last is below N." Neither "lent buffer
-- shorter than N". `RampWritten` and `RampRefused` (specs/Laws) say that it is true just where `Rules` holds.
unfoldable pub is_valid : List Breakpoint → (n code_words remainder_words : ℕ) → Bool
is_valid ps n code_words remainder_words =
    leb 2 (length ps)
    && leb (length ps) 64
    && leb 1 n
    && leb n 1048576
    && eqb (index_at ps 0) 0
    && ltb (last_index ps) n
    && leb n code_words
    && leb n remainder_words
    && is_increasing ps

-- ---- The words

-- "neighbours": two that follow each other in the list
pub record Segment : Type 0 where
  pub from : Breakpoint
  pub to : Breakpoint

abbrev pub segment : Breakpoint → Breakpoint → Segment
segment a b = record { from = a; to = b }

-- the neighbours of an index: the first segment that ends at it or after it, else the last
unfoldable pub segment_from : Breakpoint → Breakpoint → List Breakpoint → ℕ → Segment
segment_from a b [] i = segment a b
segment_from a b (c ∷ ps) i = cond (leb i b.index) (segment a b) (segment_from b c ps i)

unfoldable pub segment_of : List Breakpoint → ℕ → Segment
segment_of [] i = segment zero_point zero_point
segment_of (a ∷ []) i = segment a a
segment_of (a ∷ b ∷ ps) i = segment_from a b ps i

-- "the code", and "the remainder left over", at an index of a segment
abbrev pub code_in : Segment → ℕ → ℤ
code_in g i = code_between g.from.index g.from.code g.to.index g.to.code i

abbrev pub remainder_in : Segment → ℕ → ℕ
remainder_in g i = remainder_between g.from.index g.from.code g.to.index g.to.code i

-- what goes "to one lent buffer" at an index: "D31 marks the last word, the other high bits are 0"
unfoldable pub code_word : List Breakpoint → ℕ → ℕ
code_word ps i = twos_complement (code_in (segment_of ps i) i) + cond (eqb i (last_index ps)) 0x80000000 0

-- "and the remainder left over", as it is, "to a second"
unfoldable pub remainder_word : List Breakpoint → ℕ → ℕ
remainder_word ps i = remainder_in (segment_of ps i) i

-- f's words at the first k indices; "later words stay"
unfoldable pub overwritten : (ℕ → ℕ) → ℕ → List ℕ → List ℕ
overwritten f zero words = words
overwritten f (suc k) words = set (overwritten f k words) k (f k)

-- ---- The call: its answer, and both lent buffers after it
-- (11 "bad ramp": a rule for the breakpoints or N broken, or either lent buffer shorter than N; nothing is written; checked first.)

unfoldable pub ramp_answer : List Breakpoint → (n code_words remainder_words : ℕ) → Answer
ramp_answer ps n code_words remainder_words =
    cond (is_valid ps n code_words remainder_words) (wrote (last_index ps + 1)) (refused (number_of refusal.InvalidRamp))

unfoldable pub ramp_codes : List Breakpoint → ℕ → (codes remainders : List ℕ) → List ℕ
ramp_codes ps n codes remainders =
    cond (is_valid ps n (length codes) (length remainders)) (overwritten (code_word ps) (last_index ps + 1) codes) codes

unfoldable pub ramp_remainders : List Breakpoint → ℕ → (codes remainders : List ℕ) → List ℕ
ramp_remainders ps n codes remainders =
    cond (is_valid ps n (length codes) (length remainders)) (overwritten (remainder_word ps) (last_index ps + 1) remainders) remainders
