-- The reader's part lies between preamble and trailer, the call beside it answers that part's length, and a setpoint record's `a` is read by document
-- 01's formula. Assumes nothing.
use Prim.Native.Nat.{ℕ, ◌+◌, ◌-◌, ◌*◌, ◌/◌, ◌%◌, ◌≤◌, ◌<◌}
use mathlib.Core.Path.{◌≡◌, refl, sym, ap}
use mathlib.Core.Bool.{Bool, true, false, cond}
use mathlib.Core.List.{List, ◌++◌}
use native.Mathlib.Omega.{arith}
use lib.ListN.{length, take, drop, length-take, length-drop, take-append-drop}
use lib.Seq.{drop-drop}
use lib.Dec.{eqb}
use borrow.Author.Tests.{eqb-true, le-ltb}
use Rattle.channel_core.specs.Answers.{unless}
use Rattle.channel_core.specs.Answers as ans
use Rattle.records.specs.Files.{distance, count, file_refusal, records_part, records_length}
use Rattle.records.specs.Requests.{setpoint, setpoint_asked}
use Rattle.records.proofs.Trailers.{whole}

pub part_length : (file : List ℕ) → file_refusal file ≡ 0 → length (records_part file) ≡ 8 * count file
unfolding records_part
part_length file e =
    let w = whole file e in
    rw (e, length-take, length-drop) (omega arith)

-- "a twin on the same input that answers the number or the part's length"
pub records_length_is : (file : List ℕ) → records_length file ≡ unless (file_refusal file) (ans.part_length (length (records_part file)))
unfolding records_length
records_length_is file = go (eqb (file_refusal file) 0) refl
  where
    go : (b : Bool) → eqb (file_refusal file) 0 ≡ b
        → cond b (ans.part_length (8 * count file)) (ans.refused (file_refusal file)) ≡ cond b (ans.part_length (length (records_part file))) (ans.refused (file_refusal file))
    go true p = ap ans.part_length (sym (part_length file (eqb-true _ _ p)))
    go false p = refl

-- "any preamble, 8-byte records, then a trailer"
pub between : (file : List ℕ) → file_refusal file ≡ 0
    → take (length file - distance file) file ++ (records_part file ++ drop (length file - 8) file) ≡ file
unfolding records_part
between file e =
    let w = whole file e in
    let rest = drop (length file - distance file) file in
    let s : length file - 8 ≡ length file - distance file + 8 * count file = omega arith in
    rw (e, s, ← drop-drop) (rw (take-append-drop (8 * count file) rest) (take-append-drop (length file - distance file) file))

-- "a = 32 × (user − 1) + 16 × (buffer − 1) + index"
pub setpoint_place_lem : (number user buffer index word : ℕ) → 1 ≤ user → user ≤ 8 → 1 ≤ buffer → buffer ≤ 2 → index < 16
    → setpoint_asked number (32 * (user - 1) + 16 * (buffer - 1) + index) word ≡ setpoint number user buffer index word
setpoint_place_lem number user buffer index word a b c d e =
    let x = 32 * (user - 1) + 16 * (buffer - 1) + index in
    let u : x / 32 + 1 ≡ user = omega arith in
    let f : x / 16 % 2 + 1 ≡ buffer = omega arith in
    let i : x % 16 ≡ index = omega arith in
    rw (le-ltb 255 x (omega arith), u, f, i) refl
