-- The six counts of a run are drawn from the answers of the board's calls: steps is the record count, refused the number of refused answers
-- (a bad record shows 9), a channel's frames the ticks that answered one for it. Assumes nothing.
use Prim.Native.Nat.{ℕ, zero, suc, ◌+◌, ◌≤◌, ◌<◌}
use mathlib.Core.Path.{◌≡◌, refl, subst, ◌∙◌}
use mathlib.Core.Bool.{Bool, true, false, cond}
use mathlib.Core.List.{List, [], ◌∷◌, ◌++◌}
use native.Mathlib.Omega.{arith}
use lib.ListN.{length, length-append}
use lib.Dec.{eqb}
use borrow.Author.Tests.{lt-ltb, eqb-true}
use Rattle.status.specs.Bits.{bit_of}
use Rattle.status.proofs.Words.{bit_small}
use Rattle.board.specs.Answers.{BoardAnswer, refuses}
use Rattle.records.specs.Files.{count, file_refusal, records_part}
use Rattle.channel.proofs.Cases.{clash}
use Rattle.records.proofs.Trailers.{whole}
use Rattle.tally.specs.declared.Counts.{Counts}
use Rattle.tally.specs.Tallies.{nothing_yet, more, sends, tally, tallies, stepped}
use Rattle.tally.specs.Answers.{counted, refused}
use Rattle.board.specs.Worlds.{World}
use Rattle.replay.specs.Worlds.{answers}
use Rattle.run_file.specs.Runs.{start, asked_at, world_after, answers_along, counts_after, run_of}
use Rattle.run_laws.specs.Drawn.{how_many, answers_of, Drawn}
use Rattle.run_laws.proofs.Few.{along_few}

more_is : (test : Bool) (n : ℕ) → n < 4294967295 → more test n ≡ bit_of test + n
more_is true n h = rw (lt-ltb n 4294967295 h) (omega arith)
more_is false n h = omega arith

pub many_append : {A : Type 0} (test : A → Bool) (xs ys : List A) → how_many test (xs ++ ys) ≡ how_many test xs + how_many test ys
unfolding how_many
many_append test [] ys = omega arith
many_append test (x ∷ xs) ys = rw (many_append test xs ys) (omega arith)

pub many_le : {A : Type 0} (test : A → Bool) (xs : List A) → how_many test xs ≤ length xs
unfolding how_many
many_le test [] = omega arith
many_le test (x ∷ xs) = let e = many_le test xs in omega (arith, bit_small (test x))

-- one count, with the test that it counts by
module _ (get : Counts → ℕ) (test : BoardAnswer → Bool) (tallied : (c : Counts) (x : BoardAnswer) → get (tally c x) ≡ more (test x) (get c))
    (kept : (c : Counts) → get (stepped c) ≡ get c) where
  drawn_list : (c : Counts) (xs : List BoardAnswer) → get c + length xs ≤ 4294967295 → get (tallies c xs) ≡ get c + how_many test xs
  unfolding tallies how_many
  drawn_list c [] h = omega arith
  drawn_list c (x ∷ xs) h = drawn_list (tally c x) xs (rw e (omega (arith, bit_small (test x)))) ∙ rw e (omega arith)
    where
      e : get (tally c x) ≡ bit_of (test x) + get c
      e = tallied c x ∙ more_is (test x) (get c) (omega arith)

  drawn_more : (c : Counts) (before xs : List BoardAnswer) → get c ≡ how_many test before → length (before ++ xs) ≤ 4294967295
      → get (stepped (tallies c xs)) ≡ how_many test (before ++ xs)
  drawn_more c before xs e l =
      let m = many_le test before in
      let n : length before + length xs ≤ 4294967295 = rw length-append at l in
      kept (tallies c xs) ∙ drawn_list c xs (omega arith) ∙ rw (many_append, e) refl

  drawn_along : (o : World) (part : List ℕ) (k : ℕ) → get nothing_yet ≡ 0 → length (answers_along o part k) ≤ 4294967295
      → get (counts_after o part k) ≡ how_many test (answers_along o part k)
  unfolding answers_along counts_after how_many
  drawn_along o part zero z h = z
  drawn_along o part (suc k) z h =
      let xs = answers (world_after o part k) (asked_at part k) in
      let l : length (answers_along o part k) + length xs ≤ 4294967295 = rw length-append at h in
      drawn_more (counts_after o part k) (answers_along o part k) xs (drawn_along o part k z (omega arith)) h

tallies_steps : (c : Counts) (xs : List BoardAnswer) → (tallies c xs).steps ≡ c.steps
unfolding tallies tally
tallies_steps c [] = refl
tallies_steps c (x ∷ xs) = tallies_steps (tally c x) xs

steps_are : (o : World) (part : List ℕ) (k : ℕ) → k ≤ 4294967295 → (counts_after o part k).steps ≡ k
unfolding counts_after stepped
steps_are o part zero h = refl
steps_are o part (suc k) h =
    rw (tallies_steps, steps_are o part k (omega arith), lt-ltb k 4294967295 (omega arith)) (omega arith)

pub drawn : (file : List ℕ) → file_refusal file ≡ 0 → Drawn file (counts_after start (records_part file) (count file))
unfolding tally stepped
drawn file e =
    let w = whole file e in
    let l = along_few start (records_part file) (count file) in
    let h : length (answers_of file) ≤ 4294967295 = omega arith in
    record {
      steps = steps_are start (records_part file) (count file) (omega arith);
      refused = drawn_along (λ c. c.refused) refuses (λ c x. refl) (λ c. refl) start (records_part file) (count file) refl h;
      first = drawn_along (λ c. c.first) (sends 1) (λ c x. refl) (λ c. refl) start (records_part file) (count file) refl h;
      second = drawn_along (λ c. c.second) (sends 2) (λ c x. refl) (λ c. refl) start (records_part file) (count file) refl h;
      third = drawn_along (λ c. c.third) (sends 3) (λ c x. refl) (λ c. refl) start (records_part file) (count file) refl h;
      fourth = drawn_along (λ c. c.fourth) (sends 4) (λ c x. refl) (λ c. refl) start (records_part file) (count file) refl h;
    }

-- of what `run` answers
pub run_drawn : (file : List ℕ) (c : Counts) → run_of file ≡ counted c → Drawn file c
unfolding run_of
run_drawn file c e = go (eqb (file_refusal file) 0) refl e
  where
    go : (b : Bool) → eqb (file_refusal file) 0 ≡ b
        → cond b (counted (counts_after start (records_part file) (count file))) (refused (file_refusal file)) ≡ counted c → Drawn file c
    go true p f =
        let z : counts_after start (records_part file) (count file) ≡ c = cc in
        subst (λ (d : Counts). Drawn file d) z (drawn file (eqb-true _ _ p))
    go false p f = let z : false ≡ true = cc in clash z
