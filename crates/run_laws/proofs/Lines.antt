-- The line of a run tells the run: no number that it prints comes near 10^10. Assumes nothing.
use Prim.Native.Nat.{ℕ, ◌+◌, ◌*◌, ◌≤◌, ◌<◌}
use mathlib.Core.Path.{◌≡◌, refl}
use mathlib.Core.Bool.{Bool, true, false, cond}
use mathlib.Core.List.{List}
use native.Mathlib.Omega.{arith}
use lib.ListN.{length}
use lib.Dec.{eqb, ltb}
use borrow.Author.Tests.{eqb-true}
use Rattle.board.specs.Answers.{BoardAnswer, refuses}
use Rattle.records.specs.Files.{count, distance, file_refusal, records_part}
use Rattle.records.proofs.Trailers.{whole}
use Rattle.tally.specs.Tallies.{sends}
use Rattle.tally.specs.Answers.{counted, refused}
use Rattle.log_line.specs.Numerals.{SmallCounts, Small}
use Rattle.log_line.proofs.Reading.{line_tells}
use Rattle.run_file.specs.Runs.{start, counts_after, run_of, run_line}
use Rattle.run_laws.specs.Drawn.{how_many, answers_of, RunLineTells}
use Rattle.run_laws.proofs.Few.{along_few}
use Rattle.run_laws.proofs.Drawn.{many_le, drawn}

module _ (file : List ℕ) (e : file_refusal file ≡ 0) where
  many_small : (test : BoardAnswer → Bool) {n : ℕ} → n ≡ how_many test (answers_of file) → n < 10000000000
  many_small test p =
      let w = whole file e in
      let l = along_few start (records_part file) (count file) in
      let m = many_le test (answers_of file) in
      omega arith

  small_counts : SmallCounts (counts_after start (records_part file) (count file))
  small_counts =
      let d = drawn file e in
      let w = whole file e in
      record {
        steps = let s = d.steps in omega arith;
        refused = many_small refuses d.refused;
        first = many_small (sends 1) d.first;
        second = many_small (sends 2) d.second;
        third = many_small (sends 3) d.third;
        fourth = many_small (sends 4) d.fourth;
      }

either : (t : Bool) (x y : ℕ) → x ≤ 8 → y ≤ 8 → cond t x y ≤ 8
either true x y p q = p
either false x y p q = q

refusal_small : (file : List ℕ) → file_refusal file ≤ 8
unfolding file_refusal
refusal_small file =
    either (ltb 65536 (length file)) _ _ (omega arith)
    (either (ltb (length file) 8) _ _ (omega arith)
    (either (eqb (distance file) (8 * count file + 8)) _ _
    (either (ltb (length file) (distance file)) _ _ (omega arith) (omega arith))
    (omega arith)))

small_run : (file : List ℕ) → Small (run_of file)
unfolding run_of
small_run file = go (eqb (file_refusal file) 0) refl
  where
    go : (b : Bool) → eqb (file_refusal file) 0 ≡ b
        → Small (cond b (counted (counts_after start (records_part file) (count file))) (refused (file_refusal file)))
    go true p = small_counts file (eqb-true _ _ p)
    go false p = let h = refusal_small file in omega arith

pub run_line_tells : RunLineTells
unfolding run_line
run_line_tells file file' e = line_tells (run_of file) (run_of file') (small_run file) (small_run file') e
