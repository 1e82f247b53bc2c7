-- What a file that is not refused shows of its trailer, and which part of it the reader hands back. Assumes nothing.
use Prim.Native.Nat.{ℕ, ◌+◌, ◌-◌, ◌*◌, ◌≤◌}
use mathlib.Core.Path.{◌≡◌, refl}
use mathlib.Core.Bool.{Bool, true, false, cond}
use mathlib.Core.List.{List, []}
use native.Mathlib.Omega.{arith}
use lib.ListN.{length, take, drop}
use lib.Dec.{eqb}
use borrow.Author.Tests.{eqb-true, ltb-false}
use Rattle.channel_core.specs.Answers as ans
use Rattle.channel.proofs.Cases.{clash, passed, let_on}
use Rattle.records.specs.Files.{distance, count, file_refusal, records_part, records_length}

pub record Whole (file : List ℕ) : Type 0 where
  pub most : length file ≤ 65536
  pub least : 8 ≤ length file
  pub back : distance file ≡ 8 * count file + 8
  pub inside : distance file ≤ length file

pub whole : (file : List ℕ) → file_refusal file ≡ 0 → Whole file
unfolding file_refusal
whole file e =
    let a = passed _ _ _ refl e in
    let b = passed _ _ _ refl a.1 in
    let d = let_on _ _ _ refl b.1 in
    let f = passed _ _ _ refl d.1 in
    record {
      most = ltb-false _ _ a.0;
      least = ltb-false _ _ b.0;
      back = eqb-true _ _ d.0;
      inside = ltb-false _ _ f.0;
    }

pub record Accepted (file : List ℕ) (k : ℕ) : Type 0 where
  pub none : file_refusal file ≡ 0
  pub long : k ≡ 8 * count file
  pub whole : Whole file

pub accepted : (file : List ℕ) (k : ℕ) → ans.part_length k ≡ records_length file → Accepted file k
unfolding records_length
accepted file k e = go (eqb (file_refusal file) 0) refl e
  where
    go : (b : Bool) → eqb (file_refusal file) 0 ≡ b
        → ans.part_length k ≡ cond b (ans.part_length (8 * count file)) (ans.refused (file_refusal file)) → Accepted file k
    go true p f =
        let z : file_refusal file ≡ 0 = eqb-true _ _ p in
        record { none = z; long = cc; whole = whole file z }
    go false p f = let z : false ≡ true = cc in clash z

pub part_is : (file : List ℕ) (k : ℕ) → ans.part_length k ≡ records_length file
    → take (length file - 8 - (length file - 8 - k)) (drop (length file - 8 - k) file) ≡ records_part file
unfolding records_part
part_is file k e =
    let a = accepted file k e in
    let s : length file - 8 - k ≡ length file - distance file = omega arith in
    let t : length file - 8 - (length file - distance file) ≡ 8 * count file = omega arith in
    rw (s, t, a.none) refl

pub part_none : (file : List ℕ) (n : ℕ) → ans.refused n ≡ records_length file → records_part file ≡ []
unfolding records_part records_length
part_none file n e = go (eqb (file_refusal file) 0) refl e
  where
    go : (b : Bool) → eqb (file_refusal file) 0 ≡ b
        → ans.refused n ≡ cond b (ans.part_length (8 * count file)) (ans.refused (file_refusal file))
        → cond b (take (8 * count file) (drop (length file - distance file) file)) [] ≡ []
    go true p f = let z : false ≡ true = cc in clash z
    go false p f = refl
