-- The event registers 20–2C of a channel: what a write at any offset keeps there, and what a read answers. Assumes nothing.
use Prim.Native.Nat.{ℕ, zero, suc, ◌+◌, ◌-◌, ◌*◌, ◌/◌, ◌%◌, ◌<◌}
use mathlib.Core.Path.{◌≡◌, refl, sym, ◌∙◌, ap}
use mathlib.Core.Bool.{Bool, true, false, cond, ◌&&◌}
use native.Mathlib.Omega.{arith}
use lib.Dec.{eqb, leb, ltb}
use lib.ListN.{get_or, set}
use borrow.Author.Tests.{leb-true, le-leb, ltb-true, ltb-false}
use Rattle.register_map.specs.AccessRule.{channel_access}
use Rattle.registers.specs.declared.Registers.{Registers}
use Rattle.registers.specs.Map.{stored, loaded}
use Rattle.registers.proofs.Places.{event_stored}
use Rattle.channel_core.specs.Answers as ans
use Rattle.channel_registers.specs.Calls.{read_value}
use Rattle.channel.specs.OneChannel.{OneChannel, refusal_of, answer, response, read_register}
use Rattle.channel.proofs.Cases.{clash, either, by_test}

pub stored_events : (r : Registers) (offset value : ℕ)
    → (stored r offset value).events
    ≡ cond (leb 0x20 offset && ltb offset 0x2e) (set r.events ((offset - 0x20) / 2) (value % 512)) r.events
unfolding stored
stored_events r offset value = go (leb 0x20 offset) (ltb offset 0x2e) refl refl
  where
    P : Registers → Type 0
    P x = x.events ≡ r.events

    -- below 20, or from 2E on
    other : (ltb offset 0x20 ≡ false → ltb offset 0x2e ≡ false) → P (stored r offset value)
    other past =
        either P (eqb offset 0x0a) refl
        (either P (eqb offset 0x14) refl
        (by_test P (ltb offset 0x20) (λ a. refl)
        (λ a.
        by_test P (ltb offset 0x2e) (λ b. clash (sym (past a) ∙ b))
        (λ b. either P (ltb offset 0x30) refl (either P (ltb offset 0x40) refl (either P (ltb offset 0xe0) refl refl))))))

    go : (low high : Bool) → leb 0x20 offset ≡ low → ltb offset 0x2e ≡ high
        → (stored r offset value).events ≡ cond (low && high) (set r.events ((offset - 0x20) / 2) (value % 512)) r.events
    go true true d e = ap (λ (x : Registers). x.events) (event_stored r offset (leb-true 0x20 offset d) (ltb-true offset 0x2e e) value)
    go true false d e = other (λ a. e)
    go false high d e = other (λ a. clash (sym d ∙ le-leb 0x20 offset (ltb-false offset 0x20 a)))

pub reads_event : (o : OneChannel) (i : ℕ) → i < 7 → response o (read_register (0x20 + i * 2)) ≡ ans.value (get_or o.channel.registers.events i 0)
unfolding channel_access response refusal_of answer read_value loaded
reads_event o zero h = refl
reads_event o (suc zero) h = refl
reads_event o (suc (suc zero)) h = refl
reads_event o (suc (suc (suc zero))) h = refl
reads_event o (suc (suc (suc (suc zero)))) h = refl
reads_event o (suc (suc (suc (suc (suc zero))))) h = refl
reads_event o (suc (suc (suc (suc (suc (suc zero)))))) h = refl
reads_event o (suc (suc (suc (suc (suc (suc (suc i))))))) h = absurd (omega arith)
