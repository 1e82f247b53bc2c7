-- A run is the calls of its records, each lent the memory as left: the world after them, and that every world on the way is good. Assumes nothing.
use Prim.Native.Nat.{ℕ, zero, suc, ◌*◌}
use mathlib.Core.Path.{◌≡◌, refl, sym, ap, ap₂, subst, ◌∙◌}
use mathlib.Core.Logic.{inr}
use mathlib.Core.List.{List, [], ◌∷◌, ◌++◌}
use lib.ListN.{length, replicate}
use Rattle.channel_core.specs.Answers as ans
use Rattle.board_state.specs.declared.Board.{Board}
use Rattle.board.specs.Answers.{BoardAnswer}
use Rattle.board_state.specs.State.{opened}
use Rattle.board.specs.Calls.{open_board, open_answer, open_refusal, tick_board, tick_board_answer}
use Rattle.board.specs.Worlds.{World, world}
use Rattle.isolation.specs.Calls.{Call, write_register, read_register, arm, disarm, reply, tick, event, change_user, none, words, step, Allowed, opening}
use Rattle.isolation.specs.Calls as calls
use Rattle.isolation.proofs.Worlds.{Good, plain, step_given}
use Rattle.isolation.proofs.Shapes.{Shape, same, shape, good_plain}
use Rattle.isolation.proofs.Isolation.{good_opening}
use Rattle.records.specs.Requests.{Asked}
use Rattle.records.specs.Requests as asked
use Rattle.replay.specs.Worlds.{ticked, tick_answers, after}
use Rattle.run_file.specs.Runs.{start, asked_at, world_after}
use Rattle.run_laws.specs.RefusedRecords.{Sized}
use Rattle.run_laws.specs.OneChannelFrames.{calls_of, calls_along, lent, lending}

-- ---- Ticks, from the first on

pub ticked_first : (b : Board) (s : List ℕ) (k : ℕ) → ticked b s (suc k) ≡ ticked (tick_board b s) s k
unfolding ticked
ticked_first b s zero = refl
ticked_first b s (suc k) = ap (λ (x : Board). tick_board x s) (ticked_first b s k)

pub answers_first : (b : Board) (s : List ℕ) (k : ℕ) → tick_answers b s (suc k) ≡ tick_board_answer b s ∷ tick_answers (tick_board b s) s k
unfolding tick_answers ticked
answers_first b s zero = refl
answers_first b s (suc k) =
    ap₂ (λ (xs : List BoardAnswer) (x : Board). xs ++ (tick_board_answer x s ∷ [])) (answers_first b s k) (ticked_first b s k)

-- ---- Calls lent the memory

-- the world after them
abbrev pub played : World → List Call → World
played w xs = calls.world_after w (lending w xs)

pub step_lent : (w : World) (x : Call) → step w (lent w x) ≡ plain w x
step_lent w x = step_given w (lent w x) refl

pub played_append : (w : World) (xs ys : List Call) → played w (xs ++ ys) ≡ played (played w xs) ys
unfolding lending
played_append w [] ys = refl
played_append w (x ∷ xs) ys = played_append (step w (lent w x)) xs ys

pub allowed : (w : World) (xs : List Call) → Allowed w (lending w xs)
unfolding lending
allowed w [] = tt
allowed w (x ∷ xs) = (inr refl, allowed (step w (lent w x)) xs)

pub good_played : (w : World) → Good w → (xs : List Call) → Good (played w xs)
unfolding lending
good_played w g [] = g
good_played w g (x ∷ xs) = good_played (step w (lent w x)) (subst Good (sym (step_lent w x)) (good_plain w g x)) xs

-- ---- The calls of a record, and of a run

played_ticks : (w : World) (k : ℕ) → played w (replicate k tick) ≡ world (ticked w.board w.setpoints k) w.setpoints w.readbacks
unfolding lending ticked calls.after calls.words_after
played_ticks w zero = refl
played_ticks w (suc k) =
    ap (λ (x : World). played x (replicate k tick)) (step_lent w tick)
    ∙ played_ticks (plain w tick) k
    ∙ ap (λ (b : Board). world b w.setpoints w.readbacks) (sym (ticked_first w.board w.setpoints k))

pub played_record : (w : World) (x : Asked) → played w (calls_of x) ≡ after w x
unfolding calls_of lending after calls.after calls.words_after
played_record w (asked.write address value) = step_lent w _
played_record w (asked.read address) = step_lent w _
played_record w (asked.setpoint number user buffer index word) = step_lent w _
played_record w (asked.event code) = step_lent w _
played_record w (asked.ticks k) = played_ticks w k
played_record w (asked.reply number frame) = step_lent w _
played_record w (asked.user user) = step_lent w _
played_record w (asked.arm number) = step_lent w _
played_record w (asked.disarm number) = step_lent w _
played_record w asked.bad = refl

pub played_along : (w : World) (part : List ℕ) (k : ℕ) → played w (calls_along part k) ≡ world_after w part k
unfolding calls_along world_after lending
played_along w part zero = refl
played_along w part (suc k) =
    played_append w (calls_along part k) (calls_of (asked_at part k))
    ∙ ap (λ (x : World). played x (calls_of (asked_at part k))) (played_along w part k)
    ∙ played_record (world_after w part k) (asked_at part k)

-- ---- The depths

shape_trans : {a b c : Board} → Shape a b → Shape b c → Shape a c
shape_trans p q = record { n = q.n ∙ p.n; m = q.m ∙ p.m; channels = q.channels ∙ p.channels }

shape_ticks : (b : Board) (s : List ℕ) (k : ℕ) → Shape b (ticked b s k)
unfolding ticked calls.after
shape_ticks b s zero = same b
shape_ticks b s (suc k) = shape_trans (shape_ticks b s k) (shape (ticked b s k) tick (words s))

shape_record : (w : World) (x : Asked) → Shape w.board (after w x).board
unfolding after calls.after
shape_record w (asked.write address value) = shape w.board (write_register address value) (words w.readbacks)
shape_record w (asked.read address) = shape w.board (read_register address) none
shape_record w (asked.setpoint number user buffer index word) = same w.board
shape_record w (asked.event code) = shape w.board (event code) (words w.readbacks)
shape_record w (asked.ticks k) = shape_ticks w.board w.setpoints k
shape_record w (asked.reply number frame) = shape w.board (reply number frame) (words w.readbacks)
shape_record w (asked.user user) = shape w.board (change_user user) none
shape_record w (asked.arm number) = shape w.board (arm number) none
shape_record w (asked.disarm number) = shape w.board (disarm number) none
shape_record w asked.bad = same w.board

shape_along : (w : World) (part : List ℕ) (k : ℕ) → Shape w.board (world_after w part k).board
unfolding world_after
shape_along w part zero = same w.board
shape_along w part (suc k) = shape_trans (shape_along w part k) (shape_record (world_after w part k) (asked_at part k))

-- ---- From the opening

pub start_opens : start ≡ opening 16 64 (replicate 1024 0) (replicate 512 0)
unfolding start
start_opens = refl

pub not_refused : open_answer 16 64 (length (replicate {A = ℕ} 1024 0)) (length (replicate {A = ℕ} 512 0)) ≡ ans.done
unfolding open_answer open_refusal
not_refused = refl

pub good_along : (part : List ℕ) (k : ℕ) → Good (world_after start part k)
good_along part k =
    subst Good (played_along start part k)
    (good_played start
    (subst Good (sym start_opens) (good_opening 16 64 (replicate 1024 0) (replicate 512 0) not_refused))
    (calls_along part k))

start_depths : (start.board.n ≡ 16) × (start.board.m ≡ 64)
unfolding start open_board open_refusal opened
start_depths = (refl, refl)

pub sized_along : (part : List ℕ) (k : ℕ) → Sized (world_after start part k)
sized_along part k =
    let p = shape_along start part k in
    let g = good_along part k in
    let n : (world_after start part k).board.n ≡ 16 = p.n ∙ start_depths.0 in
    let m : (world_after start part k).board.m ≡ 64 = p.m ∙ start_depths.1 in
    record { n = n; m = m; setpoints = g.sets ∙ ap (λ (x : ℕ). x * 64) n; readbacks = g.reads ∙ ap (λ (x : ℕ). x * 8) m }
