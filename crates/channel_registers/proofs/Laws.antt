-- A status read clears its own copy alone, and no Main bit; a read of 0C neither. Assumes nothing.
use mathlib.Core.Path.{◌≡◌, refl}
use Rattle.channel_core.specs.declared.Channel.{Channel}
use Rattle.channel_registers.specs.Calls.{read_effect}

pub read_02_keeps_04 : (c : Channel) → (read_effect c 0x02).status.polling ≡ c.status.polling
unfolding read_effect
read_02_keeps_04 c = refl

pub read_04_keeps_02 : (c : Channel) → (read_effect c 0x04).status.interrupt ≡ c.status.interrupt
unfolding read_effect
read_04_keeps_02 c = refl

pub read_keeps_main : (c : Channel) → ((read_effect c 0x02).status.interrupt.main ≡ c.status.interrupt.main)
    × ((read_effect c 0x04).status.polling.main ≡ c.status.polling.main)
unfolding read_effect
read_keeps_main c = (refl, refl)

pub read_0c_keeps_status : (c : Channel) → (read_effect c 0x0c).status ≡ c.status
unfolding read_effect
read_0c_keeps_status c = refl

pub read_status_keeps_missing : (c : Channel) → ((read_effect c 0x02).sequencer.missing ≡ c.sequencer.missing)
    × ((read_effect c 0x04).sequencer.missing ≡ c.sequencer.missing)
unfolding read_effect
read_status_keeps_missing c = (refl, refl)
