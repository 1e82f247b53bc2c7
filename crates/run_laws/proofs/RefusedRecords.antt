-- The refused count of a run is the number of its refused records: no tick of a run is refused, and any other record has one answer. Assumes nothing.
use Prim.Native.Nat.{ℕ, zero, suc, ◌+◌, ◌≤◌}
use mathlib.Core.Path.{◌≡◌, refl, ap, ap₂, ◌∙◌}
use mathlib.Core.Bool.{Bool, true, false, ◌||◌}
use mathlib.Core.List.{List, [], ◌∷◌}
use native.Mathlib.Omega.{arith}
use Rattle.status.proofs.Words.{bit_small}
use Rattle.status.specs.Bits.{bit_of}
use Rattle.board.specs.Answers.{BoardAnswer, refuses}
use Rattle.board.specs.Calls.{tick_board_answer}
use Rattle.board.specs.Worlds.{World}
use Rattle.isolation.specs.Calls.{tick}
use Rattle.isolation.specs.Calls as calls
use Rattle.isolation.proofs.Worlds.{Good, plain, full_sets}
use Rattle.isolation.proofs.Shapes.{good_plain}
use Rattle.records.specs.Files.{count, records_part}
use Rattle.records.specs.Requests.{Asked}
use Rattle.records.specs.Requests as asked
use Rattle.tally.specs.declared.Counts.{Counts}
use Rattle.tally.specs.Answers.{counted}
use Rattle.replay.specs.Worlds.{tick_answers, answers}
use Rattle.run_file.specs.Runs.{start, answers_along, run_of}
use Rattle.run_laws.specs.Drawn.{how_many}
use Rattle.run_laws.proofs.Drawn.{many_append, run_drawn}
use Rattle.run_laws.specs.RefusedRecords.{refused_one, record_answers, refused_records, RefusedRecords}
use Rattle.run_laws.proofs.Runs.{answers_first, good_along, sized_along}

-- "lent lengths other than 64 × N" is all that a tick is refused for
tick_done : (w : World) → Good w → refuses (tick_board_answer w.board w.setpoints) ≡ false
unfolding tick_board_answer
tick_done w g = rw (full_sets w g)

ticks_done : (w : World) → Good w → (b : ℕ) → how_many refuses (tick_answers w.board w.setpoints b) ≡ 0
unfolding tick_answers how_many calls.after calls.words_after
ticks_done w g zero = refl
ticks_done w g (suc b) =
    ap (how_many refuses) (answers_first w.board w.setpoints b)
    ∙ ap₂ (λ (t : Bool) (n : ℕ). bit_of t + n) (tick_done w g) (ticks_done (plain w tick) (good_plain w g tick) b)

-- ---- At most one refusal a record

one_answer : (x : BoardAnswer) → how_many refuses (x ∷ []) ≡ bit_of (refused_one (x ∷ []))
unfolding how_many refused_one
one_answer x = go (refuses x)
  where
    go : (t : Bool) → bit_of t + 0 ≡ bit_of (t || false)
    go true = refl
    go false = refl

none_refused : (xs : List BoardAnswer) → how_many refuses xs ≡ 0 → how_many refuses xs ≡ bit_of (refused_one xs)
unfolding how_many refused_one
none_refused [] e = refl
none_refused (x ∷ xs) e = go (refuses x) e (none_refused xs)
  where
    go : (t : Bool) → bit_of t + how_many refuses xs ≡ 0 → (how_many refuses xs ≡ 0 → how_many refuses xs ≡ bit_of (refused_one xs))
        → bit_of t + how_many refuses xs ≡ bit_of (t || refused_one xs)
    go true f ih = absurd (omega arith)
    go false f ih = let r = ih (omega arith) in omega arith

record_once : (w : World) → Good w → (x : Asked) → how_many refuses (answers w x) ≡ bit_of (refused_one (answers w x))
unfolding answers
record_once w g (asked.write address value) = one_answer _
record_once w g (asked.read address) = one_answer _
record_once w g (asked.setpoint number user buffer index word) = one_answer _
record_once w g (asked.event code) = one_answer _
record_once w g (asked.ticks b) = none_refused (tick_answers w.board w.setpoints b) (ticks_done w g b)
record_once w g (asked.reply number frame) = one_answer _
record_once w g (asked.user user) = one_answer _
record_once w g (asked.arm number) = one_answer _
record_once w g (asked.disarm number) = one_answer _
record_once w g asked.bad = one_answer _

-- ---- Along a run

module _ (file : List ℕ) where
  once : (k : ℕ) → how_many refuses (record_answers file k) ≡ bit_of (refused_one (record_answers file k))
  once k = record_once _ (good_along (records_part file) k) _

  along : (k : ℕ) → how_many refuses (answers_along start (records_part file) k) ≡ refused_records file k
  unfolding answers_along refused_records how_many
  along zero = refl
  along (suc k) =
      many_append refuses (answers_along start (records_part file) k) (record_answers file k)
      ∙ ap₂ (λ (m n : ℕ). m + n) (along k) (once k)

  at_most : (k : ℕ) → refused_records file k ≤ k
  unfolding refused_records
  at_most zero = omega arith
  at_most (suc k) = let h = at_most k in omega (arith, bit_small (refused_one (record_answers file k)))

pub refused_records_lem : (file : List ℕ) (c : Counts) → run_of file ≡ counted c → RefusedRecords file c
refused_records_lem file c e =
    let d = run_drawn file c e in
    let r : c.refused ≡ refused_records file (count file) = d.refused ∙ along file (count file) in
    let s = d.steps in
    record {
      refused = r;
      both = omega (arith, at_most file (count file));
      sized = sized_along (records_part file);
      ticks = λ k b. ticks_done _ (good_along (records_part file) k) b;
      once = λ k. let o = once file k in omega (arith, bit_small (refused_one (record_answers file k)));
    }
