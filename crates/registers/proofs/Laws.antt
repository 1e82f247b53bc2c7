-- What the definitions of registers mean: a holding register reads back the bits that it keeps, a delay's halves are apart, and Group End
-- switches the users bidden to and the readback buffers, and no others. Assumes nothing.
use Prim.Native.Nat.{ℕ, zero, suc, ◌+◌, ◌-◌, ◌/◌, ◌%◌, ◌<◌, ◌≤◌}
use mathlib.Core.Path.{◌≡◌, refl, ◌∙◌}
use mathlib.Core.List.{List, [], ◌∷◌}
use mathlib.Core.Bool.{Bool, false, cond, not}
use native.Mathlib.Omega.{arith}
use native.Mathlib.Nat.{not-suc-le-zero, le_of_suc-le-suc}
use borrow.Author.Tests.{eq-eqb, ne_eqb}
use lib.ListN.{length, get_or, set, replicate, length-set, get_or-eq_default}
use lib.Seq.{get_or-set_same, get_or-set_other}
use Rattle.registers.specs.Map.{stored, loaded, delay_written, delay_shown, second_active, readback_place, flips, group_ended}
use Rattle.registers.specs.declared.Registers.{Registers}
use Rattle.registers.proofs.Places.{event_stored, event_loaded, delay_stored, delay_loaded}

-- 0A keeps the whole word
pub clock_back : (r : Registers) (v : ℕ) → loaded (stored r 0x0a v) 0x0a ≡ v
unfolding stored loaded
clock_back r v = refl

-- 14 keeps 8 bits
pub id_back : (r : Registers) (v : ℕ) → loaded (stored r 0x14 v) 0x14 ≡ v % 256
unfolding stored loaded
id_back r v = refl

-- an event register, 20 to 2C, keeps 9 bits
pub event_back : (r : Registers) (o v : ℕ) → length r.events ≡ 7 → 0x20 ≤ o → o < 0x2e → loaded (stored r o v) o ≡ v % 512
event_back r o v l low high =
    let h : (o - 0x20) / 2 < length r.events = omega arith in
    rw (event_stored, event_loaded, get_or-set_same)

-- what is seen of a delay at one offset after a write at another, or the same
delay_seen : (r : Registers) (p q v : ℕ) → length r.delays ≡ 40 → 0x40 ≤ p → p < 0xe0 → 0x40 ≤ q → q < 0xe0
    → (p - 0x40) / 4 ≡ (q - 0x40) / 4
    → loaded (stored r p v) q ≡ delay_shown q (delay_written p (get_or r.delays ((q - 0x40) / 4) 0) v)
delay_seen r p q v l p_low p_high q_low q_high same =
    let h : (q - 0x40) / 4 < length r.delays = omega arith in
    rw (delay_stored r p, delay_loaded, same, get_or-set_same)

-- a delay has its high byte at `o`, and its low word at o + 2
module _ (r : Registers) (o v : ℕ) (l : length r.delays ≡ 40) (low : 0x40 ≤ o) (high : o < 0xe0) (whole : o % 4 ≡ 0) where
  pub high_back : loaded (stored r o v) o ≡ v % 256
  high_back = delay_seen r o o v l low high low high refl ∙ simp (eq-eqb (o % 4) 0 whole) (omega arith)

  pub low_back : v < 65536 → loaded (stored r (o + 2) v) (o + 2) ≡ v
  low_back h =
      delay_seen r (o + 2) (o + 2) v l (omega arith) (omega arith) (omega arith) (omega arith) refl
      ∙ simp (ne_eqb ((o + 2) % 4) 0 (omega arith)) (omega arith)

  -- writing one half leaves the other as it was
  pub high_leaves_low : loaded (stored r o v) (o + 2) ≡ loaded r (o + 2)
  high_leaves_low =
      delay_seen r o (o + 2) v l low high (omega arith) (omega arith) (omega arith)
      ∙ simp (delay_loaded r (o + 2) (omega arith) (omega arith), eq-eqb (o % 4) 0 whole, ne_eqb ((o + 2) % 4) 0 (omega arith)) (omega arith)

  pub low_leaves_high : v < 65536 → loaded (stored r (o + 2) v) o ≡ loaded r o
  low_leaves_high h =
      delay_seen r (o + 2) o v l (omega arith) (omega arith) low high (omega arith)
      ∙ simp (delay_loaded r o low high, eq-eqb (o % 4) 0 whole, ne_eqb ((o + 2) % 4) 0 (omega arith)) (omega arith)

-- each bit is switched where its own switch is set, and stays where it is not
pub flips_at : (a s : List Bool) (i : ℕ) → i < length a
    → get_or (flips a s) i false ≡ cond (get_or s i false) (not (get_or a i false)) (get_or a i false)
unfolding flips
flips_at [] s i h = absurd (not-suc-le-zero h)
flips_at (x ∷ a) [] i h = refl
flips_at (x ∷ a) (y ∷ s) zero h = refl
flips_at (x ∷ a) (y ∷ s) (suc i) h = flips_at a s i (le_of_suc-le-suc h)

-- the active buffers with the readbacks' switched
abbrev turned : Registers → List Bool
turned r = set r.active readback_place (not (second_active r readback_place))

module _ (r : Registers) (count : ℕ) (l : length r.active ≡ 16) where
  -- Group End switches a user's buffers where the user's Switch is set, and leaves them where it is not
  pub group_end_switches : (place : ℕ) → place < 8
      → second_active (group_ended r count) place ≡ cond (get_or r.switches place false) (not (second_active r place)) (second_active r place)
  unfolding group_ended
  group_end_switches place h =
      let here : place < length (turned r) = rw length-set (omega arith) in
      let other : place ≡ readback_place → ⊥ = omega arith in
      rw (flips_at, get_or-set_other)

  pub group_end_leaves : (place : ℕ) → place < 8 → get_or r.switches place false ≡ false → second_active (group_ended r count) place ≡ second_active r place
  group_end_leaves place h off = group_end_switches place h ∙ rw off

  -- the readback buffers always switch
  pub readbacks_switch : length r.switches ≡ 8 → second_active (group_ended r count) readback_place ≡ not (second_active r readback_place)
  unfolding group_ended
  readbacks_switch e =
      let here : readback_place < length r.active = omega arith in
      let turns : readback_place < length (turned r) = rw length-set here in
      let past : length r.switches ≤ readback_place = omega arith in
      rw (flips_at, get_or-eq_default r.switches, get_or-set_same)

none_set : (n i : ℕ) → get_or (replicate n false) i false ≡ false
none_set zero i = refl
none_set (suc n) zero = refl
none_set (suc n) (suc i) = none_set n i

-- and then no Switch is set
pub switches_clear : (r : Registers) (count place : ℕ) → get_or (group_ended r count).switches place false ≡ false
unfolding group_ended
switches_clear r count place = none_set 8 place
