-- The two readback buffers: what a word laid after the stored ones of one does to the front of either. Assumes nothing.
use Prim.Native.Nat.{ℕ, ◌+◌, ◌*◌, ◌≤◌, ◌<◌}
use mathlib.Core.Path.{◌≡◌, ◌∙◌, ap}
use mathlib.Core.Bool.{Bool, true, false, cond, not}
use mathlib.Core.List.{List, [], ◌∷◌, ◌++◌}
use native.Mathlib.Omega.{arith}
use native.Mathlib.Numerals.{add-one}
use lib.ListN.{length, set, take, drop, length-drop}
use lib.Seq.{take-set-le, drop-set-lt, drop-set-add, take-suc-set, take-take}
use Rattle.readback.specs.Storing.{place_of, retired_part}

-- the first words of a buffer; `second` names buffer 2
abbrev pub front : Bool → ℕ → ℕ → List ℕ → List ℕ
front second m count s = take count (cond second (drop m s) s)

-- a word after the first k of a buffer is one more of its front
pub front_more : (second : Bool) (m k word : ℕ) (s : List ℕ) → length s ≡ m * 2 → k < m
    → front second m (k + 1) (set s (place_of second m k) word) ≡ front second m k s ++ (word ∷ [])
front_more true m k word s l h =
    let room : k < length (drop m s) = rw length-drop (omega arith) in
    ap (λ (t : List ℕ). take (k + 1) t) (drop-set-add m s k word) ∙ rw add-one (take-suc-set (drop m s) k word room)
front_more false m k word s l h =
    let room : k < length s = omega arith in
    rw add-one (take-suc-set s k word room)

-- and leaves those k
pub front_left : (second : Bool) (m k word : ℕ) (s : List ℕ) → front second m k (set s (place_of second m k) word) ≡ front second m k s
front_left true m k word s =
    ap (λ (t : List ℕ). take k t) (drop-set-add m s k word) ∙ take-set-le k (drop m s) k word (omega arith)
front_left false m k word s = take-set-le k s k word (omega arith)

-- and leaves the other buffer
pub front_other : (second : Bool) (m k j word : ℕ) (s : List ℕ) → k < m → j ≤ m
    → front (not second) m j (set s (place_of second m k) word) ≡ front (not second) m j s
front_other true m k j word s h l = take-set-le j s (m + k) word (omega arith)
front_other false m k j word s h l = ap (λ (t : List ℕ). take j t) (drop-set-lt m s k word h)

-- the retired part is the front of the inactive buffer
pub front_retired : (second : Bool) (m count : ℕ) (s : List ℕ) → count ≤ m
    → retired_part second count (take m s) (take m (drop m s)) ≡ front (not second) m count s
front_retired true m count s h = take-take count m s h
front_retired false m count s h = take-take count m (drop m s) h
