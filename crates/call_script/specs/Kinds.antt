-- What a record does, by its first byte (tests/CALLS.md, Records).
use Rattle.std.specs.Prelude.{ℕ, cond, ◌==◌}
use Rattle.call_script.specs.declared.kind.Kind.{Kind}
use Rattle.call_script.specs.declared.kind.Kind.TheVariants as kind

-- "other: none"
unfoldable pub kind_of : (byte : ℕ) → Kind
kind_of byte =
    cond (byte == 0) kind.Open
    (cond (byte == 1) kind.WriteRegister
    (cond (byte == 2) kind.ReadRegister
    (cond (byte == 3) kind.WriteSetpoint
    (cond (byte == 4) kind.Arm
    (cond (byte == 5) kind.Disarm
    (cond (byte == 6) kind.Reply
    (cond (byte == 7) kind.Retired
    (cond (byte == 8) kind.RetiredLength
    (cond (byte == 9) kind.Ticks
    (cond (byte == 10) kind.Event
    (cond (byte == 11) kind.ChangeUser
    (cond (byte == 12) kind.InterruptLevel
    (cond (byte == 13) kind.SetWord
    (cond (byte == 14) kind.Ramp
    (cond (byte == 15) kind.LastReadings
    (cond (byte == 16) kind.OpenDownload
    (cond (byte == 17) kind.Portion
    (cond (byte == 18) kind.PortionLength
    (cond (byte == 19) kind.LastTick kind.Nothing)))))))))))))))))))
