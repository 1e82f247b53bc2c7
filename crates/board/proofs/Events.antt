-- An event goes from channel to channel: it leaves the depth, one more channel is the definition's next step, and four steps are its four. Assumes nothing.
use Prim.Native.Nat.{ℕ, zero, suc, ◌+◌}
use mathlib.Core.Path.{◌≡◌, refl}
use mathlib.Core.List.{List}
use Rattle.std.proofs.Common.{add-one}
use Rattle.board_state.specs.declared.Board.{Board}
use Rattle.board.specs.Calls.{event_board_at, event_words_at, event_boards, event_parts}

pub event_depth : (b : Board) (code number : ℕ) → (event_board_at b code number).m ≡ b.m
unfolding event_board_at
event_depth b code number = refl

pub boards_depth : (b : Board) (code k : ℕ) → (event_boards b code k).m ≡ b.m
unfolding event_boards event_board_at
boards_depth b code zero = refl
boards_depth b code (suc k) = boards_depth b code k

pub boards_none : (b : Board) (code : ℕ) → event_boards b code 0 ≡ b
unfolding event_boards
boards_none b code = refl

pub parts_none : (b : Board) (s : List ℕ) (code : ℕ) → event_parts b s code 0 ≡ s
unfolding event_parts
parts_none b s code = refl

pub boards_next : (b : Board) (code k : ℕ) → event_boards b code (k + 1) ≡ event_board_at (event_boards b code k) code (k + 1)
unfolding event_boards
boards_next b code k = rw add-one refl

pub parts_next : (b : Board) (s : List ℕ) (code k : ℕ)
    → event_parts b s code (k + 1) ≡ event_words_at (event_boards b code k) (event_parts b s code k) code (k + 1)
unfolding event_boards event_parts
parts_next b s code k = rw add-one refl

pub boards_four : (b : Board) (code : ℕ) {x y z w : Board} → x ≡ event_board_at b code 1 → y ≡ event_board_at x code 2
    → z ≡ event_board_at y code 3 → w ≡ event_board_at z code 4 → w ≡ event_boards b code 4
unfolding event_boards
boards_four b code e f g h = simp (h, g, f, e)

pub parts_four : (b : Board) (s : List ℕ) (code : ℕ) {x y z : Board} {t u v w : List ℕ} → x ≡ event_board_at b code 1
    → y ≡ event_board_at x code 2 → z ≡ event_board_at y code 3 → t ≡ event_words_at b s code 1 → u ≡ event_words_at x t code 2
    → v ≡ event_words_at y u code 3 → w ≡ event_words_at z v code 4 → w ≡ event_parts b s code 4
unfolding event_boards event_parts
parts_four b s code e f g h i j k = simp (k, j, i, h, g, f, e)
