-- A record makes at most 10,000 calls, so no count of a run comes near its type's end. Assumes nothing.
use Prim.Native.Nat.{ℕ, zero, suc, ◌+◌, ◌*◌, ◌/◌, ◌%◌, ◌≤◌}
use mathlib.Core.Path.{◌≡◌, refl}
use mathlib.Core.Bool.{◌||◌}
use mathlib.Core.List.{List}
use native.Mathlib.Omega.{arith}
use lib.ListN.{length, get_or, take, drop, length-append}
use lib.Dec.{eqb, ltb}
use Rattle.channel.proofs.Cases.{either, by_test}
use Rattle.channel.proofs.Ranges.{inside}
use Rattle.board_state.specs.declared.Board.{Board}
use Rattle.little_endian.specs.Numbers.{number16, number32}
use Rattle.records.specs.Requests.{Asked, ticks_asked, asked_by, asked_of}
use Rattle.records.specs.Requests as asked
use Rattle.board.specs.Worlds.{World}
use Rattle.replay.specs.Worlds.{tick_answers, answers}
use Rattle.run_file.specs.Runs.{world_after, answers_along}

-- what a record can ask. "5 b ticks (1–10,000)"
data Few : Asked → Type 0 where
  write : (address value : ℕ) → Few (asked.write address value)
  read : (address : ℕ) → Few (asked.read address)
  setpoint : (number u buffer index word : ℕ) → Few (asked.setpoint number u buffer index word)
  event : (code : ℕ) → Few (asked.event code)
  ticks : (k : ℕ) → k ≤ 10000 → Few (asked.ticks k)
  reply : (number frame : ℕ) → Few (asked.reply number frame)
  user : (u : ℕ) → Few (asked.user u)
  arm : (number : ℕ) → Few (asked.arm number)
  disarm : (number : ℕ) → Few (asked.disarm number)
  bad : Few asked.bad

ticks_few : (b : ℕ) → Few (ticks_asked b)
ticks_few b = by_test Few (ltb b 1 || ltb 10000 b) (λ e. bad) (λ e. ticks b (inside 1 10000 b e).1)

by_fields : (kind number a b : ℕ) → Few (asked_by kind number a b)
unfolding asked_by
by_fields kind number a b =
    either Few (eqb kind 1) (either Few (ltb 65535 b) bad (write a b))
    (either Few (eqb kind 2) (read a)
    (either Few (eqb kind 3) (either Few (ltb 255 a) bad (setpoint number (a / 32 + 1) (a / 16 % 2 + 1) (a % 16) b))
    (either Few (eqb kind 4) (either Few (ltb 255 b) bad (event b))
    (either Few (eqb kind 5) (ticks_few b)
    (either Few (eqb kind 6) (reply number (a * 4294967296 + b))
    (either Few (eqb kind 7) (user b)
    (either Few (eqb kind 8) (either Few (eqb b 1) (arm number) (either Few (eqb b 0) (disarm number) bad)) bad)))))))

asks_few : (s : List ℕ) → Few (asked_of s)
unfolding asked_of
asks_few s = by_fields (get_or s 0 0) (get_or s 1 0) (number16 s 2) (number32 s 4)

ticks_length : (b : Board) (s : List ℕ) (k : ℕ) → length (tick_answers b s k) ≡ k
unfolding tick_answers
ticks_length b s zero = refl
ticks_length b s (suc k) = rw (length-append, ticks_length b s k) (omega arith)

few : (w : World) {x : Asked} → Few x → length (answers w x) ≤ 10000
unfolding answers
few w (write address value) = omega arith
few w (read address) = omega arith
few w (setpoint number u buffer index word) = omega arith
few w (event code) = omega arith
few w (ticks k m) = rw (ticks_length w.board w.setpoints k) m
few w (reply number frame) = omega arith
few w (user u) = omega arith
few w (arm number) = omega arith
few w (disarm number) = omega arith
few w bad = omega arith

pub along_few : (o : World) (part : List ℕ) (k : ℕ) → length (answers_along o part k) ≤ 10000 * k
unfolding answers_along
along_few o part zero = omega arith
along_few o part (suc k) =
    let e = along_few o part k in
    let f = few (world_after o part k) (asks_few (take 8 (drop (8 * k) part))) in
    rw length-append (omega arith)
