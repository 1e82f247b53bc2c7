-- A write to Commands and an event, lent the right length, by their parts: Group End, Start, resumes, Tag. Assumes nothing.
use Prim.Native.Nat.{ℕ, ◌*◌, ◌≤◌}
use mathlib.Core.Path.{◌≡◌, refl, sym, ap, ◌∙◌}
use mathlib.Core.Bool.{Bool, true, false, cond, ◌&&◌, ◌||◌}
use native.Mathlib.Omega.{arith}
use borrow.Author.Tests.{eq-eqb}
use Rattle.register_map.specs.AccessRule.{channel_access}
use Rattle.status.specs.Bits.{bit_at}
use Rattle.registers.specs.declared.Registers.{Registers}
use Rattle.registers.specs.Map.{triggers_of, delay_of, start_event, group_end_event, tag_event}
use Rattle.sequencer.specs.declared.Sequencer.{Sequencer}
use Rattle.sequencer.specs.declared.Stage.TheVariants as stage
use Rattle.sequencer.specs.Playing as seq
use Rattle.sequencer.proofs.Moves.{resume_ignored}
use Rattle.channel_core.specs.declared.Channel.{Channel}
use Rattle.channel_core.specs.State.{with_sequencer}
use Rattle.channel_core.specs.Behaviour.{started, group_ended, ended_if, started_if, resumed_if, tagged_if, resumed_on, event_of, event_words, commanded, command_words}
use Rattle.channel_registers.specs.Calls.{register_refusal, register_effect, register_words}
use Rattle.channel.specs.OneChannel.{OneChannel, refusal_of, effect, transition, with_channel, with_readbacks}
use Rattle.channel.proofs.Cases.{clash}
use Rattle.histories.proofs.Leaves.{leaves_event, leaves_command}
use Rattle.timing.specs.Timing.{command, event_call}

pub command_transition : (o : OneChannel) (value : ℕ)
    → transition o (command o value)
    ≡ with_readbacks (with_channel o (commanded o.channel value)) (command_words o.channel o.readbacks o.m value)
unfolding transition refusal_of effect register_refusal register_effect register_words channel_access
command_transition o value = rw (eq-eqb (o.m * 8) (o.m * 8) refl)

pub event_transition : (o : OneChannel) (code : ℕ)
    → transition o (event_call o code)
    ≡ with_readbacks (with_channel o (event_of o.channel o.user code)) (event_words o.channel o.readbacks o.m code)
unfolding transition refusal_of effect
event_transition o code = rw (eq-eqb (o.m * 8) (o.m * 8) refl)

-- ---- Resumes

-- a resume that does not act, or is not for the stage
pub resume_nothing : (on : Bool) (c : Channel) (k delay : ℕ) → (c.sequencer.stage ≡ stage.Paused k → on ≡ false)
    → resumed_if on c k delay ≡ c
unfolding resumed_if
resume_nothing true c k delay h = ap (with_sequencer c) (resume_ignored c.sequencer k delay (λ e. clash (sym (h e))))
resume_nothing false c k delay h = refl

pub resumes_nothing : (r : Registers) (c : Channel) (user code : ℕ)
    → ((k : ℕ) → 1 ≤ k → k ≤ 4 → c.sequencer.stage ≡ stage.Paused k → triggers_of r k code ≡ false) → resumed_on r c user code ≡ c
unfolding resumed_on
resumes_nothing r c user code h =
    rw (resume_nothing (triggers_of r 1 code) c 1 (delay_of r 1 user) (h 1 (omega arith) (omega arith)))
    (rw (resume_nothing (triggers_of r 2 code) c 2 (delay_of r 2 user) (h 2 (omega arith) (omega arith)))
    (rw (resume_nothing (triggers_of r 3 code) c 3 (delay_of r 3 user) (h 3 (omega arith) (omega arith)))
    (resume_nothing (triggers_of r 4 code) c 4 (delay_of r 4 user) (h 4 (omega arith) (omega arith)))))

-- ---- Tag

-- a tag, where it is asked for: the tag alone changes, by whether the channel is armed
abbrev pub tag_if : Bool → Sequencer → Sequencer
tag_if on s = seq.with_tag s ((on && s.armed) || s.tag)

pub tagged_channel : (on : Bool) (c : Channel) → tagged_if on c ≡ with_sequencer c (tag_if on c.sequencer)
unfolding tagged_if seq.tagged
tagged_channel true c = go c.sequencer.armed
  where
    go : (b : Bool)
        → with_sequencer c (cond b (seq.with_tag c.sequencer true) c.sequencer) ≡ with_sequencer c (seq.with_tag c.sequencer (b || c.sequencer.tag))
    go true = refl
    go false = refl
tagged_channel false c = refl

-- ---- Start

pub ended_armed : (on : Bool) (c : Channel) → (ended_if on c).sequencer.armed ≡ c.sequencer.armed
unfolding ended_if group_ended seq.group_ended seq.idled
ended_armed true c = refl
ended_armed false c = refl

started_sequencer : (c : Channel) (delay : ℕ) → c.sequencer.armed ≡ true
    → (started c delay).sequencer ≡ seq.started c.sequencer delay
unfolding started
started_sequencer c delay h = rw h

started_stage : (c : Channel) (delay : ℕ) → c.sequencer.armed ≡ true → (started c delay).sequencer.stage ≡ stage.Starting
unfolding seq.started
started_stage c delay h = ap (λ s. s.stage) (started_sequencer c delay h)

not_starting : (c : Channel) (delay : ℕ) → c.sequencer.armed ≡ true
    → (on : Bool) (k : ℕ) → (started c delay).sequencer.stage ≡ stage.Paused k → on ≡ false
not_starting c delay h on k e = absurd (let s = started_stage c delay h in let z : ◌≡◌ {A = ℕ} 0 1 = cc in omega arith)

-- a command with D0, or an event that starts, of an armed channel: resumes find no pause, and the sequencer is started; Start leaves the tag, so a tag
-- after it is one before it
pub command_starts : (c : Channel) (value : ℕ) → c.sequencer.armed ≡ true → bit_at value 0 ≡ true
    → (commanded c value).sequencer ≡ seq.started (tag_if (bit_at value 3) (ended_if (bit_at value 2) c).sequencer) 0
unfolding commanded started_if seq.started
command_starts c value armed on =
    let e = ended_if (bit_at value 2) c in
    let a : e.sequencer.armed ≡ true = ended_armed (bit_at value 2) c ∙ armed in
    rw on
    (ap (λ (x : Channel). x.sequencer) (tagged_channel (bit_at value 3) _)
    ∙ ap (λ (x : Channel). tag_if (bit_at value 3) x.sequencer)
    (resume_nothing (bit_at value 1) (started e 0) 0 0 (not_starting e 0 a (bit_at value 1) 0))
    ∙ ap (tag_if (bit_at value 3)) (started_sequencer e 0 a))

pub event_starts : (c : Channel) (user code : ℕ) → c.sequencer.armed ≡ true
    → triggers_of c.registers start_event code ≡ true
    → (event_of c user code).sequencer
    ≡ seq.started (tag_if (triggers_of c.registers tag_event code) (ended_if (triggers_of c.registers group_end_event code) c).sequencer)
    (delay_of c.registers 0 user)
unfolding event_of started_if seq.started
event_starts c user code armed on =
    let r = c.registers in
    let e = ended_if (triggers_of r group_end_event code) c in
    let d = delay_of r 0 user in
    let a : e.sequencer.armed ≡ true = ended_armed (triggers_of r group_end_event code) c ∙ armed in
    let t = triggers_of r tag_event code in
    rw on
    (ap (λ (x : Channel). x.sequencer) (tagged_channel t _)
    ∙ ap (λ (x : Channel). tag_if t x.sequencer)
    (resumes_nothing r (started e d) user code (λ k some few. not_starting e d a (triggers_of r k code) k))
    ∙ ap (tag_if t) (started_sequencer e d a))

-- with no Group End the registers stay
pub command_registers : (c : Channel) (value : ℕ) → bit_at value 2 ≡ false → (commanded c value).registers ≡ c.registers
unfolding ended_if
command_registers c value off = (leaves_command c value).registers ∙ ap (λ (b : Bool). (ended_if b c).registers) off

pub event_registers : (c : Channel) (user code : ℕ) → triggers_of c.registers group_end_event code ≡ false
    → (event_of c user code).registers ≡ c.registers
unfolding ended_if
event_registers c user code off = (leaves_event c user code).registers ∙ ap (λ (b : Bool). (ended_if b c).registers) off

-- and the command frames
pub command_frames_lem : (c : Channel) (value : ℕ) → bit_at value 2 ≡ false → (commanded c value).commands ≡ c.commands
unfolding ended_if
command_frames_lem c value off = (leaves_command c value).commands ∙ ap (λ (b : Bool). (ended_if b c).commands) off

pub event_frames : (c : Channel) (user code : ℕ) → triggers_of c.registers group_end_event code ≡ false → (event_of c user code).commands ≡ c.commands
unfolding ended_if
event_frames c user code off = (leaves_event c user code).commands ∙ ap (λ (b : Bool). (ended_if b c).commands) off
