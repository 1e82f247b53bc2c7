-- Document 01, 'Register map': the registers that a channel holds, with one of them changed.
use Rattle.std.specs.Prelude.{ℕ, Bool, List}
use Rattle.registers.specs.declared.Registers.{Registers}

abbrev pub with_clock : Registers → ℕ → Registers
with_clock r v = record { clock = v; active = r.active; shown = r.shown; id = r.id; events = r.events; switches = r.switches; delays = r.delays }

abbrev pub with_id : Registers → ℕ → Registers
with_id r v = record { clock = r.clock; active = r.active; shown = r.shown; id = v; events = r.events; switches = r.switches; delays = r.delays }

abbrev pub with_events : Registers → List ℕ → Registers
with_events r v = record { clock = r.clock; active = r.active; shown = r.shown; id = r.id; events = v; switches = r.switches; delays = r.delays }

abbrev pub with_switches : Registers → List Bool → Registers
with_switches r v = record { clock = r.clock; active = r.active; shown = r.shown; id = r.id; events = r.events; switches = v; delays = r.delays }

abbrev pub with_delays : Registers → List ℕ → Registers
with_delays r v = record { clock = r.clock; active = r.active; shown = r.shown; id = r.id; events = r.events; switches = r.switches; delays = v }
