-- What a call that is not refused answers is no refusal. Assumes nothing.
use Prim.Native.Nat.{ℕ, ◌*◌}
use mathlib.Core.Path.{◌≡◌, refl, sym, ap}
use mathlib.Core.Bool.{Bool, true, false, cond}
use native.Mathlib.Omega.{arith}
use lib.Dec.{eqb}
use borrow.Author.Tests.{eqb-true, eq-eqb}
use Rattle.frame.specs.Frames.{framed, id_of, data_of, aux_of, crc_in, read}
use Rattle.frame.specs.Frames as frame
use Rattle.sequencer.specs.Transmissions.{Transmission}
use Rattle.sequencer.specs.Transmissions as transmission
use Rattle.readback.specs.declared.Disposition.{Disposition}
use Rattle.readback.specs.declared.Disposition.TheVariants as disposition
use Rattle.command_frames.specs.declared.CommandFrames.{CommandFrames}
use Rattle.command_frames.specs.Commanding.{is_due, takes}
use Rattle.channel_core.specs.declared.Channel.{Channel}
use Rattle.channel_core.specs.Answers.{Answer, is_refusal, is_frame, is_received}
use Rattle.channel_core.specs.Answers as ans
use Rattle.channel_core.specs.Behaviour.{tick_line, played_of, tick_answer}
use Rattle.channel_readings.specs.Measuring.{readings_answer}
use Rattle.channel_replies.specs.Replying.{disposition_now, receipt_answer, reply_answer_as, reply_answer}
use Rattle.channel.specs.OneChannel.{Query, ChannelCall, OneChannel, length_refusal, framing_refusal, refusal_of, query_answer, main_answer, answer}
use Rattle.channel.specs.OneChannel as call
use Rattle.channel.proofs.Cases.{either, then_passed}

abbrev pub NoRefusal : Answer → Type 0
NoRefusal a = is_refusal a ≡ false

disposition_accepted : (d : Disposition) → NoRefusal (receipt_answer d)
disposition_accepted disposition.Unsolicited = refl
disposition_accepted disposition.Lost = refl
disposition_accepted disposition.Kept = refl

-- a well-framed reply
pub received_accepted : (c : Channel) (m : ℕ) → NoRefusal (cond (takes c.commands) ans.kept (receipt_answer (disposition_now c m)))
received_accepted c m = either NoRefusal (takes c.commands) refl (disposition_accepted (disposition_now c m))

reply_accepted : (c : Channel) (m f : ℕ) → framing_refusal (read f) ≡ 0 → NoRefusal (reply_answer c m f)
unfolding read reply_answer
reply_accepted c m f = go (framed f)
  where
    go : (b : Bool) → framing_refusal (cond b (frame.fields (id_of f) (data_of f) (aux_of f) (crc_in f)) (frame.refused 7)) ≡ 0
        → NoRefusal (reply_answer_as (cond b (frame.fields (id_of f) (data_of f) (aux_of f) (crc_in f)) (frame.refused 7)) c m)
    go true e = received_accepted c m
    go false e = absurd (omega arith)

pub line_accepted : (id : ℕ) (f : CommandFrames) (x : Transmission) → NoRefusal (tick_line id f x)
line_accepted id f transmission.Nothing = either NoRefusal (is_due f.waiting) refl refl
line_accepted id f (transmission.Word word k) = refl

pub main_accepted : (c : Channel) (offset : ℕ) → NoRefusal (main_answer c offset)
main_accepted c offset = either NoRefusal (eqb offset 0x28) refl (either NoRefusal (eqb offset 0x2a) refl refl)

-- what answers a call that changes nothing is no refusal, no frame and no receipt
pub query_plain : (o : OneChannel) (which : Query)
    → NoRefusal (query_answer o which) × (is_frame (query_answer o which) ≡ false) × (is_received (query_answer o which) ≡ false)
unfolding readings_answer
query_plain o call.retired = (refl, refl, refl)
query_plain o call.retired_length = (refl, refl, refl)
query_plain o call.readings = (refl, refl, refl)
query_plain o call.last_tick = (refl, refl, refl)
query_plain o (call.portion index size) = (refl, refl, refl)
query_plain o (call.portion_length index size) = (refl, refl, refl)

-- nor is what answers a reply a frame
pub reply_plain : (c : Channel) (m f : ℕ) → is_frame (reply_answer c m f) ≡ false
unfolding reply_answer
reply_plain c m f = go (read f)
  where
    disposed : (d : Disposition) → is_frame (receipt_answer d) ≡ false
    disposed disposition.Unsolicited = refl
    disposed disposition.Lost = refl
    disposed disposition.Kept = refl

    go : (g : frame.Reading) → is_frame (reply_answer_as g c m) ≡ false
    go (frame.refused k) = refl
    go (frame.fields id word aux crc) = either (λ (a : Answer). is_frame a ≡ false) (takes c.commands) refl (disposed (disposition_now c m))

-- a well-framed reply, lent what fits, is not refused
pub framed_accepted : (o : OneChannel) (number : ℕ) {id word aux crc : ℕ} → read number ≡ frame.fields id word aux crc
    → eqb (refusal_of o (call.reply (o.m * 8) number)) 0 ≡ true
unfolding refusal_of
framed_accepted o number framed = rw (eq-eqb (o.m * 8) (o.m * 8) refl, framed)

-- nor is a tick
pub tick_accepted : (o : OneChannel) (n : ℕ) → o.n ≡ n → eqb (refusal_of o (call.tick (n * 64))) 0 ≡ true
unfolding refusal_of
tick_accepted o n e = rw (eq-eqb (n * 64) (o.n * 64) (ap (λ (x : ℕ). x * 64) (sym e)))

pub accepted_answer : (o : OneChannel) (k : ChannelCall) → eqb (refusal_of o k) 0 ≡ true → NoRefusal (answer o k)
unfolding refusal_of answer tick_answer
accepted_answer o (call.write_register lent offset value) e = refl
accepted_answer o (call.read_register offset) e = refl
accepted_answer o (call.write_setpoint lent user buffer index word) e = refl
accepted_answer o call.arm e = refl
accepted_answer o call.disarm e = refl
accepted_answer o call.open_download e = refl
accepted_answer o (call.reply lent f) e =
    reply_accepted o.channel o.m f
    (then_passed (length_refusal lent (o.m * 8)) (framing_refusal (read f)) (eqb-true (refusal_of o (call.reply lent f)) 0 e)).1
accepted_answer o (call.query which one two) e = (query_plain o which).0
accepted_answer o (call.tick lent) e =
    line_accepted o.channel.registers.id o.channel.commands (played_of o.channel o.setpoints o.n o.user).transmission
accepted_answer o (call.event lent code) e = refl
accepted_answer o (call.change_user user) e = refl
accepted_answer o (call.write_main lent offset value) e = refl
accepted_answer o (call.read_main offset) e = main_accepted o.channel offset
