-- A channel's words keep their length through every call that writes to them. Assumes nothing.
use Prim.Native.Nat.{ℕ}
use mathlib.Core.Path.{◌≡◌, refl, ◌∙◌, ap}
use mathlib.Core.Bool.{Bool, cond}
use mathlib.Core.List.{List, [], ◌∷◌}
use lib.ListN.{length, length-set}
use lib.Dec.{eqb}
use Rattle.channel_core.specs.declared.Channel.{Channel}
use Rattle.channel_core.specs.Behaviour.{event_words}
use Rattle.channel_replies.specs.Replying.{reply_words}
use Rattle.channel_registers.specs.Calls.{register_refusal, register_words, written_words}
use Rattle.channel.specs.Calls.{setpoint_refusal, setpoint_words}
use Rattle.channel.specs.OneChannel.{OneChannel}
use Rattle.channel.proofs.Cases.{either}
use Rattle.histories.specs.EndWords.{with_written}
use Rattle.histories.proofs.Buffered.{Buffered, next_place, event_buffered, register_buffered, reply_buffered}

abbrev pub SameLength : List ℕ → List ℕ → Type 0
SameLength s t = length t ≡ length s

written_same : (s words : List ℕ) (place : ℕ) → SameLength s (with_written s place words)
written_same s [] place = refl
written_same s (word ∷ words) place = length-set s place word

buffered_length : {o x : OneChannel} {ends again : Bool} {words : List ℕ} → Buffered o x ends again words → SameLength o.readbacks x.readbacks
buffered_length {o} {x} {ends} {again} {words} b =
    ap (λ (t : List ℕ). length t) b.written
    ∙ written_same o.readbacks (cond ends (0x2000000 ∷ []) words) (next_place o.channel o.m)

module _ (c : Channel) (s : List ℕ) where
  -- a channel with these readback words; its depth N and its setpoints do not matter
  abbrev over : (m user : ℕ) → OneChannel
  over m user = record { n = 0; m = m; user = user; channel = c; setpoints = []; readbacks = s }

  pub event_length : (m code : ℕ) → SameLength s (event_words c s m code)
  event_length m code = buffered_length (event_buffered (over m 1) code)

  pub register_length : (m offset value : ℕ) → SameLength s (register_words c s m offset value)
  register_length m offset value = buffered_length (register_buffered (over m 1) offset value)

  pub written_length : (m offset value : ℕ) → SameLength s (written_words c s m offset value)
  unfolding written_words
  written_length m offset value = either (SameLength s) (eqb (register_refusal c offset value) 0) (register_length m offset value) refl

  pub setpoint_length : (n user buffer index word : ℕ) → SameLength s (setpoint_words c s n user buffer index word)
  unfolding setpoint_words
  setpoint_length n user buffer index word =
      either (SameLength s) (eqb (setpoint_refusal c n user buffer index) 0) (length-set s _ _) refl

  pub reply_length : (m user f : ℕ) → SameLength s (reply_words c s m user f)
  reply_length m user f = buffered_length (reply_buffered (over m user) f)
