-- The laws fix every word (`WrittenOnly`, specs/Laws). Assumes nothing.
use mathlib.Core.Path.{◌≡◌, sym, ap, ◌∙◌}
use Prim.Native.Nat.{ℕ, suc, ◌-◌, ◌/◌, ◌%◌, ◌≤◌, ◌<◌}
use native.Mathlib.Nat.{mod-lt, div-add-mod'}
use native.Mathlib.Omega.{arith}
use mathlib.Core.Bool.{Bool, true, false, not}
use mathlib.Core.List.{List}
use lib.Dec.{T, ltb, ltb→lt, nltb→le, lit<}
use lib.ListN.{get_or}
use lib.Seq.{ext_get_or}
use Rattle.ramp.specs.declared.Breakpoint.{Breakpoint}
use Rattle.ramp.specs.Interpolation.{twos_complement}
use Rattle.ramp.specs.Ramp.{index_at}
use Rattle.ramp.specs.Laws.{signed, Written, WrittenOnly}
use Rattle.ramp.proofs.Rounding.{restores_only, bits_of}

-- a word is its code and its high bits
word_only : (x y : ℕ) → signed x ≡ signed y → x / 65536 ≡ y / 65536 → x ≡ y
word_only x y e h =
    let low : x % 65536 ≡ y % 65536 = sym (bits_of (x % 65536) (mod-lt x (lit< tt))) ∙ ap twos_complement e ∙ bits_of (y % 65536) (mod-lt y (lit< tt)) in
    let p = div-add-mod' x 65536 in
    let q = div-add-mod' y 65536 in
    omega arith

module _ (ps : List Breakpoint) (words : ℕ) (codes remainders codes' remainders' codes'' remainders'' : List ℕ)
    (one : Written ps words codes remainders codes' remainders') (two : Written ps words codes remainders codes'' remainders'') where
  both : (i : ℕ) → i < words → (get_or codes' i 0 ≡ get_or codes'' i 0) × (get_or remainders' i 0 ≡ get_or remainders'' i 0)
  both i l =
      let k = one.covered i l in
      let e = one.exact k.0 i k.1 in
      let f = two.exact k.0 i k.1 in
      let w = index_at ps (suc k.0) - index_at ps k.0 in
      let same = restores_only (signed (get_or codes' i 0)) (signed (get_or codes'' i 0)) w (get_or remainders' i 0) (get_or remainders'' i 0) e.below f.below (e.restores ∙ sym f.restores) in
      (word_only (get_or codes' i 0) (get_or codes'' i 0) same.0 (one.high i l ∙ sym (two.high i l)), same.1)

  at_each : (i : ℕ) → (get_or codes' i 0 ≡ get_or codes'' i 0) × (get_or remainders' i 0 ≡ get_or remainders'' i 0)
  at_each i = go (ltb i words) (ltb→lt i words) (nltb→le i words)
    where
      go : (b : Bool) → (T b → i < words) → (T (not b) → words ≤ i) → (get_or codes' i 0 ≡ get_or codes'' i 0) × (get_or remainders' i 0 ≡ get_or remainders'' i 0)
      go true lt ge = both i (lt tt)
      go false lt ge = (one.later_codes i (ge tt) ∙ sym (two.later_codes i (ge tt)), one.later_remainders i (ge tt) ∙ sym (two.later_remainders i (ge tt)))

  same : (codes' ≡ codes'') × (remainders' ≡ remainders'')
  same = (
    ext_get_or 0 codes' codes'' (one.same_codes ∙ sym two.same_codes) (λ i l. (at_each i).0),
    ext_get_or 0 remainders' remainders'' (one.same_remainders ∙ sym two.same_remainders) (λ i l. (at_each i).1),
  )

pub written_only : WrittenOnly
written_only = same
