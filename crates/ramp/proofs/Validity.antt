-- The test is of just the rules. Assumes nothing.
use mathlib.Core.Path.{◌≡◌, refl, ◌∙◌}
use Prim.Native.Nat.{ℕ, ◌≤◌, ◌<◌}
use native.Mathlib.Omega.{arith}
use mathlib.Core.Bool.{Bool, true, false, ◌&&◌}
use mathlib.Core.List.{List, []}
use lib.Dec.{leb, ltb, eqb}
use lib.ListN.{length}
use borrow.Author.Tests.{leb-true, ltb-true, eqb-true, le-leb, lt-ltb, eq-eqb}
use Rattle.ramp.specs.declared.Breakpoint.{Breakpoint}
use Rattle.ramp.specs.Ramp.{index_at, last_index, is_increasing, is_valid}
use Rattle.ramp.specs.Rules.{Rules}
use Rattle.ramp.proofs.Tests.{and_l, and_r}
use Rattle.ramp.proofs.Increasing.{increasing_all, increasing_at}

module _ (ps : List Breakpoint) (n c d : ℕ) where
  pub valid_rules : is_valid ps n c d ≡ true → Rules ps n c d
  unfolding is_valid
  valid_rules e₉ =
      let b₁ = leb 2 (length ps) in
      let b₂ = b₁ && leb (length ps) 64 in
      let b₃ = b₂ && leb 1 n in
      let b₄ = b₃ && leb n 1048576 in
      let b₅ = b₄ && eqb (index_at ps 0) 0 in
      let b₆ = b₅ && ltb (last_index ps) n in
      let b₇ = b₆ && leb n c in
      let b₈ = b₇ && leb n d in
      let e₈ = and_l b₈ (is_increasing ps) e₉ in
      let e₇ = and_l b₇ (leb n d) e₈ in
      let e₆ = and_l b₆ (leb n c) e₇ in
      let e₅ = and_l b₅ (ltb (last_index ps) n) e₆ in
      let e₄ = and_l b₄ (eqb (index_at ps 0) 0) e₅ in
      let e₃ = and_l b₃ (leb n 1048576) e₄ in
      let e₂ = and_l b₂ (leb 1 n) e₃ in
      record {
        at_least = leb-true 2 (length ps) (and_l b₁ (leb (length ps) 64) e₂);
        at_most = leb-true (length ps) 64 (and_r b₁ (leb (length ps) 64) e₂);
        depth_from = leb-true 1 n (and_r b₂ (leb 1 n) e₃);
        depth_to = leb-true n 1048576 (and_r b₃ (leb n 1048576) e₄);
        first = eqb-true (index_at ps 0) 0 (and_r b₄ (eqb (index_at ps 0) 0) e₅);
        last = ltb-true (last_index ps) n (and_r b₅ (ltb (last_index ps) n) e₆);
        codes = leb-true n c (and_r b₆ (leb n c) e₇);
        remainders = leb-true n d (and_r b₇ (leb n d) e₈);
        increasing = increasing_at ps (and_r b₈ (is_increasing ps) e₉);
      }

  -- what is left to ask once the other rules hold
  pub valid_increasing : 2 ≤ length ps → length ps ≤ 64 → 1 ≤ n → n ≤ 1048576 → index_at ps 0 ≡ 0 → last_index ps < n → n ≤ c → n ≤ d → is_valid ps n c d ≡ is_increasing ps
  unfolding is_valid
  valid_increasing h₁ h₂ h₃ h₄ h₅ h₆ h₇ h₈ = simp (
    le-leb 2 (length ps) h₁,
    le-leb (length ps) 64 h₂,
    le-leb 1 n h₃,
    le-leb n 1048576 h₄,
    eq-eqb (index_at ps 0) 0 h₅,
    lt-ltb (last_index ps) n h₆,
    le-leb n c h₇,
    le-leb n d h₈,
  )

  pub rules_valid : Rules ps n c d → is_valid ps n c d ≡ true
  rules_valid r = valid_increasing r.at_least r.at_most r.depth_from r.depth_to r.first r.last r.codes r.remainders ∙ increasing_all ps r.increasing

  pub broken : (Rules ps n c d → ⊥) → is_valid ps n c d ≡ false
  broken h = go (is_valid ps n c d) refl
    where
      go : (b : Bool) → is_valid ps n c d ≡ b → is_valid ps n c d ≡ false
      go true e = absurd (h (valid_rules e))
      go false e = e

-- a list that is too long, and an empty one, are refused alike
pub long_invalid : (ps : List Breakpoint) (n c d : ℕ) → 64 < length ps → is_valid ps n c d ≡ false
long_invalid ps n c d h = broken ps n c d (λ r. let k = r.at_most in omega arith)

pub empty_invalid : (n c d : ℕ) → is_valid [] n c d ≡ false
empty_invalid n c d = broken [] n c d (λ r. let k = r.at_least in omega arith)
