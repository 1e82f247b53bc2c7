-- The Resume events in their order, those before one of them. Assumes nothing.
use Prim.Native.Nat.{ℕ, zero, suc, ◌+◌, ◌≤◌}
use mathlib.Core.Path.{◌≡◌}
use native.Mathlib.Omega.{arith}
use Rattle.std.proofs.Common.{add-one}
use Rattle.registers.specs.declared.Registers.{Registers}
use Rattle.registers.specs.Map.{triggers_of, delay_of}
use Rattle.channel_core.specs.declared.Channel.{Channel}
use Rattle.channel_core.specs.Behaviour.{resumed_if}

-- the channel after each Resume event below `pause` that has this code
unfoldable pub resumed_before : Registers → Channel → (user code pause : ℕ) → Channel
resumed_before r c user code zero = c
resumed_before r c user code (suc zero) = c
resumed_before r c user code (suc (suc k)) =
    resumed_if (triggers_of r (suc k) code) (resumed_before r c user code (suc k)) (suc k) (delay_of r (suc k) user)

-- and after the next
pub one_more : (r : Registers) (c : Channel) (user code pause : ℕ) → 1 ≤ pause
    → resumed_before r c user code (pause + 1) ≡ resumed_if (triggers_of r pause code) (resumed_before r c user code pause) pause (delay_of r pause user)
unfolding resumed_before
one_more r c user code zero l = absurd (omega arith)
one_more r c user code (suc k) l = rw (add-one (suc k))
