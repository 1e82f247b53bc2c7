-- Laws of command frames for callers. Assumes nothing.
use Prim.Native.Nat.{ℕ, ◌<◌}
use mathlib.Core.Path.{◌≡◌, refl, ap}
use mathlib.Core.Bool.{Bool, true, false, cond, ◌&&◌}
use native.Mathlib.Omega.{arith}
use lib.Dec.{ltb}
use borrow.Author.Tests.{ltb-true}
use Rattle.std.specs.declared.option.Option.{Option}
use Rattle.std.specs.declared.option.Option.TheVariants.{Some, None}
use Rattle.command_frames.specs.Commanding.{is_due, elapsed, with_receiving, with_waiting, sent, ticked, takes}
use Rattle.command_frames.specs.declared.Trigger.{Trigger}
use Rattle.command_frames.specs.declared.Trigger.TheVariants as trigger
use Rattle.command_frames.specs.declared.CommandFrames.{CommandFrames}

-- a reply that is taken finds fewer than six
pub taken_few : (f : CommandFrames) → takes f ≡ true → f.count < 6
unfolding takes
taken_few f = go f.receiving
  where
    go : (on : Bool) → (on && ltb f.count 6) ≡ true → f.count < 6
    go true e = ltb-true f.count 6 e
    go false e = let z : ◌≡◌ {A = ℕ} 0 1 = cc in absurd (omega arith)

-- where no frame is due a tick leaves what waits
elapsed_same : (w : Option Trigger) → is_due w ≡ false → elapsed w ≡ w
elapsed_same None e = refl
elapsed_same (Some trigger.NextTick) e = cc
elapsed_same (Some trigger.GroupEnd) e = refl

-- and only closes E4–FA to replies, if a setpoint leaves
pub ticked_idle : (f : CommandFrames) (on : Bool) → is_due f.waiting ≡ false → ticked f on ≡ with_receiving f (cond on false f.receiving)
unfolding ticked
ticked_idle f true e = ap (λ (w : Option Trigger). with_receiving (with_waiting f w) false) (elapsed_same f.waiting e)
ticked_idle f false e = ap (λ (b : Bool). cond b (sent f) f) e

-- after a tick no frame is due
pub ticked_due : (f : CommandFrames) (on : Bool) → is_due (ticked f on).waiting ≡ false
unfolding ticked
ticked_due f true = go f.waiting
  where
    go : (w : Option Trigger) → is_due (elapsed w) ≡ false
    go None = refl
    go (Some trigger.NextTick) = refl
    go (Some trigger.GroupEnd) = refl
ticked_due f false = go (is_due f.waiting) refl
  where
    go : (b : Bool) → is_due f.waiting ≡ b → is_due (cond b (sent f) f).waiting ≡ false
    go true e = refl
    go false e = e

-- nor does a tick change E0, E2 or E4–FA
pub ticked_registers : (f : CommandFrames) (on : Bool)
    → ((ticked f on).header ≡ f.header) × ((ticked f on).word ≡ f.word) × ((ticked f on).replies ≡ f.replies)
unfolding ticked
ticked_registers f true = (refl, refl, refl)
ticked_registers f false = go (is_due f.waiting)
  where
    go : (b : Bool)
        → ((cond b (sent f) f).header ≡ f.header) × ((cond b (sent f) f).word ≡ f.word) × ((cond b (sent f) f).replies ≡ f.replies)
    go true = (refl, refl, refl)
    go false = (refl, refl, refl)
