-- One record more of a run, how many records the part of an accepted file holds, and what the run of a file answers. Assumes nothing.
use Prim.Native.Nat.{ℕ, ◌+◌, ◌*◌, ◌/◌}
use mathlib.Core.Path.{◌≡◌, refl, sym, ap, ◌∙◌}
use mathlib.Core.Bool.{Bool, true, false, cond}
use mathlib.Core.List.{List, ◌++◌}
use native.Mathlib.Omega.{arith}
use native.Mathlib.Numerals.{add-one}
use lib.ListN.{length, take, drop, length-take, length-drop}
use lib.Seq.{drop-drop}
use Rattle.std.proofs.lemmas.List.{take_at, drop_at}
use lib.Dec.{eqb}
use Rattle.channel_core.specs.Answers as ans
use Rattle.channel.proofs.Cases.{clash}
use Rattle.tally.specs.Answers.{counted, refused}
use Rattle.tally.specs.declared.Counts.{Counts}
use Rattle.records.specs.Files.{count, file_refusal, records_part, records_length}
use Rattle.records.proofs.Trailers.{whole, accepted}
use Rattle.records.specs.Requests.{Asked, asked_of}
use Rattle.tally.specs.Tallies.{stepped, tallies}
use Rattle.std.specs.Prelude.{Result, Ok, Err, IsOk}
use Rattle.std.proofs.Common.{rules}
use Rattle.refusal.specs.declared.Refusal.{Refusal}
use Rattle.board_state.specs.declared.Board.{Board}
use Rattle.board.specs.Calls.{board_of, opening_of, open_answer, open_refusal}
use Rattle.board.specs.Worlds.{World}
use Rattle.replay.specs.Worlds.{after, answers}
use Rattle.run_file.specs.Runs.{start, world_after, counts_after, run_of}

pub record_count : (file : List ℕ) → file_refusal file ≡ 0 → length (records_part file) / 8 ≡ count file
unfolding records_part
record_count file e =
    let w = whole file e in
    rw (e, length-take, length-drop) (omega arith)

pub run_counted : (file : List ℕ) (k : ℕ) {part : List ℕ} {c : Counts} → ans.part_length k ≡ records_length file → part ≡ records_part file
    → c ≡ counts_after start part (length part / 8) → counted c ≡ run_of file
unfolding run_of
run_counted file k e f g =
    let a = accepted file k e in
    simp (g, f, record_count file a.none, a.none)

pub run_refused : (file : List ℕ) (n : ℕ) → ans.refused n ≡ records_length file → refused n ≡ run_of file
unfolding run_of records_length
run_refused file n e = go (eqb (file_refusal file) 0) refl e
  where
    go : (b : Bool) → eqb (file_refusal file) 0 ≡ b
        → ans.refused n ≡ cond b (ans.part_length (8 * count file)) (ans.refused (file_refusal file))
        → refused n ≡ cond b (counted (counts_after start (records_part file) (count file))) (refused (file_refusal file))
    go true p f = let z : false ≡ true = cc in clash z
    go false p f = let z : n ≡ file_refusal file = cc in ap refused z

-- a chunk of 8 bytes is the record at its place, and the rest follows it
pub chunk : (part : List ℕ) {chunk rest next : List ℕ} (k : ℕ) → rest ≡ drop (8 * k) part → rest ≡ chunk ++ next → length chunk ≡ 8
    → (chunk ≡ take 8 (drop (8 * k) part)) × (next ≡ drop (8 * (k + 1)) part)
chunk part {chunk} {rest} {next} k e f n =
    let here : chunk ++ next ≡ drop (8 * k) part = sym f ∙ e in
    let after : 8 * k + 8 ≡ 8 * (k + 1) = omega arith in (
      sym (take_at chunk next 8 n) ∙ ap (take 8) here,
      sym (drop_at chunk next 8 n) ∙ ap (drop 8) here ∙ drop-drop 8 (8 * k) part ∙ ap (λ (i : ℕ). drop i part) after,
    )

pub world_more : (first : World) (part : List ℕ) {bytes : List ℕ} (k : ℕ) {w v : World} {q : Asked} → w ≡ world_after first part k → v ≡ after w q
    → q ≡ asked_of bytes → bytes ≡ take 8 (drop (8 * k) part) → v ≡ world_after first part (k + 1)
unfolding world_after
world_more first part k e f g h = f ∙ rw (e, g, h, add-one) refl

pub counts_more : (first : World) (part : List ℕ) {bytes : List ℕ} (k : ℕ) {w : World} {q : Asked} {c d : Counts} → w ≡ world_after first part k
    → c ≡ counts_after first part k → d ≡ tallies c (answers w q) → q ≡ asked_of bytes → bytes ≡ take 8 (drop (8 * k) part)
    → stepped d ≡ counts_after first part (k + 1)
unfolding counts_after
counts_more first part k e f g h i = rw (g, e, f, h, i, add-one) refl

-- the board of a run is opened
pub is_open : (r : Result Board Refusal) → opening_of r ≡ open_answer 16 64 1024 512 → IsOk r
unfolding open_answer open_refusal
is_open (Ok b) e = search rules
is_open (Err k) e = cc

pub opened : {r : Result Board Refusal} (b : Board) {x : Board} → r ≡ Ok b → board_of r ≡ x → b ≡ x
opened b e f = sym (ap board_of e) ∙ f
