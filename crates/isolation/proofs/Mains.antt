-- Main's statuses: each channel's bit stands at its place in the word, and a read takes each channel's once. Assumes nothing.
use Prim.Native.Nat.{ℕ, zero, suc, ◌+◌, ◌/◌, ◌%◌, ◌≤◌}
use mathlib.Core.Path.{◌≡◌}
use mathlib.Core.Bool.{Bool}
use native.Mathlib.Omega.{arith}
use lib.ListN.{length}
use Rattle.status.specs.Bits.{bit_at, bit_of}
use Rattle.status.proofs.Words.{bit_small, bit_is}
use Rattle.channel_core.specs.declared.Channel.{Channel}
use Rattle.channel_core.specs.State.{opened}
use Rattle.channel.specs.Calls.{main_bit, main_taken}
use Rattle.board_state.specs.declared.Board.{Board}
use Rattle.board_state.specs.State.{channel_at}
use Rattle.board_state.specs.Main.{main_word, main_status, event_bit, status_read, taken_at}
use Rattle.isolation.proofs.Parts.{Number}
use Rattle.isolation.proofs.Cases.{four_stored}

module _ (u : ℕ) (a b c d e : Bool) where
  small : (bit_of a ≤ 1) × (bit_of b ≤ 1) × (bit_of c ≤ 1) × (bit_of d ≤ 1) × (bit_of e ≤ 1)
  small = (bit_small a, bit_small b, bit_small c, bit_small d, bit_small e)

  bit_1 : bit_at (main_word u a b c d e) 4 ≡ a
  unfolding main_word
  bit_1 = bit_is (main_word u a b c d e / 16 % 2) a (omega (arith, small))

  bit_2 : bit_at (main_word u a b c d e) 5 ≡ b
  unfolding main_word
  bit_2 = bit_is (main_word u a b c d e / 32 % 2) b (omega (arith, small))

  bit_3 : bit_at (main_word u a b c d e) 6 ≡ c
  unfolding main_word
  bit_3 = bit_is (main_word u a b c d e / 64 % 2) c (omega (arith, small))

  bit_4 : bit_at (main_word u a b c d e) 7 ≡ d
  unfolding main_word
  bit_4 = bit_is (main_word u a b c d e / 128 % 2) d (omega (arith, small))

word_bit : (u : ℕ) (f : ℕ → Bool) (e : Bool) (c : ℕ) → Number c → bit_at (main_word u (f 1) (f 2) (f 3) (f 4) e) (3 + c) ≡ f c
word_bit u f e zero h = absurd (omega arith)
word_bit u f e (suc zero) h = bit_1 u (f 1) (f 2) (f 3) (f 4) e
word_bit u f e (suc (suc zero)) h = bit_2 u (f 1) (f 2) (f 3) (f 4) e
word_bit u f e (suc (suc (suc zero))) h = bit_3 u (f 1) (f 2) (f 3) (f 4) e
word_bit u f e (suc (suc (suc (suc zero)))) h = bit_4 u (f 1) (f 2) (f 3) (f 4) e
word_bit u f e (suc (suc (suc (suc (suc c))))) h = absurd (omega arith)

module _ (b : Board) (polling : Bool) (c : ℕ) (h : Number c) where
  pub status_bit : bit_at (main_status b polling) (3 + c) ≡ main_bit (channel_at b c) polling
  unfolding main_status
  status_bit = word_bit b.user (λ (j : ℕ). main_bit (channel_at b j) polling) (event_bit b.main polling) c h

  pub status_taken : length b.channels ≡ 4 → channel_at (status_read b polling) c ≡ main_taken (channel_at b c) polling
  unfolding status_read taken_at
  status_taken e = four_stored (λ (j : ℕ) (x : Channel). main_taken x polling) b.channels opened c e h
