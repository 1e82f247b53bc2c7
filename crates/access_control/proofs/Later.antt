-- Once 1, 3 and the channel have passed, a call is refused by one of those that come after 13, or not at all. Assumes nothing.
use Prim.Native.Nat.{ℕ, ◌+◌, ◌*◌}
use mathlib.Core.Path.{◌≡◌, refl, ap}
use mathlib.Core.Bool.{Bool, true, false, cond, ◌&&◌}
use lib.ListN.{length}
use lib.Dec.{eqb, leb, ltb}
use borrow.Author.Tests.{eqb-true}
use Rattle.address_map.specs.Addresses.{Named, named, main, channel, nothing}
use Rattle.frame.specs.Frames.{Reading, read, framed}
use Rattle.std.specs.Prelude.{Option, Some, None}
use Rattle.register_map.specs.declared.Access.{Access}
use Rattle.register_map.specs.declared.Access.TheVariants as access
use Rattle.register_map.specs.AccessRule.{channel_access, main_access}
use Rattle.register_map.specs.AccessRefusals.{read_refusal, write_refusal}
use Rattle.command_frames.specs.Commanding.{takes}
use Rattle.readback.specs.declared.Disposition.{Disposition}
use Rattle.readback.specs.declared.Disposition.TheVariants as disposition
use Rattle.std.specs.declared.option.Option.{Option}
use Rattle.std.specs.Option.{is_some}
use Rattle.downloads.specs.declared.Download.{Download}
use Rattle.downloads.specs.Portions as download
use Rattle.channel_core.specs.declared.Channel.{Channel}
use Rattle.channel_core.specs.Answers.{Answer, unless}
use Rattle.channel_core.specs.Answers as ans
use Rattle.channel_registers.specs.Calls.{register_refusal}
use Rattle.channel_registers.specs.Calls as one_registers
use Rattle.channel_replies.specs.Replying.{receipt_answer, disposition_now, reply_answer_as, reply_answer}
use Rattle.channel_readings.specs.Measuring as one_readings
use Rattle.channel.specs.Calls.{then, outside, retired_refusal, active_buffer, setpoint_refusal, setpoint_answer}
use Rattle.channel.specs.Downloads.{opening_answer}
use Rattle.channel.specs.OneChannel.{OneChannel, Query, length_refusal, framing_refusal, user_refusal, query_refusal, refusal_of}
use Rattle.channel.specs.OneChannel as to
use Rattle.channel.proofs.Cases.{clash, either}
use Rattle.board_state.specs.declared.Board.{Board}
use Rattle.board_state.specs.State.{channel_at}
use Rattle.board_state.specs.Checks.{no_channel, out_of_range, size_mismatch}
use Rattle.board.specs.Calls as board
use Rattle.board_channels.specs.Calls as channels
use Rattle.board_downloads.specs.Calls as downloads
use Rattle.board_readings.specs.Calls.{readings_answer, last_tick_answer}
use Rattle.board_registers.specs.Calls as registers
use Rattle.isolation.specs.Calls.{Call, write_register, read_register, write_setpoint, arm, disarm, open_download, reply, query, tick, event, change_user, interrupt_level, Lent, first, second, query_answer_at, answer}
use Rattle.access_control.specs.Guarding.{unmapped_refusal, address_refusal, channel_refusal, earlier_on}
use Rattle.access_control.specs.OneChannel.{query_earlier, earlier_to}
use Rattle.access_control.specs.Laws.{is_later, refusal_in, refusal_on, LaterOnly, LaterAlone}

-- ---- Refusals, one before another

abbrev Passes : ℕ → Type 0
Passes k = eqb k 0 ≡ true

record Later (k : ℕ) : Type 0 where
  is : is_later k ≡ true

-- a number, told
told : {k : ℕ} → is_later k ≡ true → Later k
told e = record { is = e }

none : (k : ℕ) → Passes k → Later k
none k h = told (ap is_later (eqb-true k 0 h))

both_pass : (k q : ℕ) → Passes (then k q) → Passes k × Passes q
both_pass k q h = go (eqb k 0) refl
  where
    go : (t : Bool) → eqb k 0 ≡ t → Passes k × Passes q
    go true e = (e, rw e at h)
    go false e = clash (rw e at (rw e at h))

-- a length that fits, a number that is a channel's
fits : (t : Bool) → Passes (cond t 0 1) → t ≡ true
fits true h = refl
fits false h = clash h

numbered : (t : Bool) → Passes (cond t 2 0) → t ≡ false
numbered true h = clash h
numbered false h = refl

then_later : (k q : ℕ) → Passes k → Later q → Later (then k q)
then_later k q h l = rw h l

unless_later : (k : ℕ) (a : Answer) → Later k → Later (refusal_in a) → Later (refusal_in (unless k a))
unless_later k a h l = either (λ (a : Answer). Later (refusal_in a)) (eqb k 0) l h

-- ---- What a channel refuses

write_later : (a : Option Access) → Passes (unmapped_refusal a) → Later (write_refusal a)
write_later None h = clash h
write_later (Some access.ReadOnly) h = told refl
write_later (Some access.WriteOnly) h = told refl
write_later (Some access.ReadWrite) h = told refl

read_later : (a : Option Access) → Passes (unmapped_refusal a) → Later (read_refusal a)
read_later None h = clash h
read_later (Some access.ReadOnly) h = told refl
read_later (Some access.WriteOnly) h = told refl
read_later (Some access.ReadWrite) h = told refl

register_later : (c : Channel) (o v : ℕ) → Passes (unmapped_refusal (channel_access o)) → Later (register_refusal c o v)
unfolding register_refusal
register_later c o v h =
    either Later (eqb (write_refusal (channel_access o)) 0)
    (either Later (one_registers.cannot_send c o v) (told refl) (either Later (eqb o 0x0a) (either Later (ltb 3 v) (told refl) (told refl)) (told refl)))
    (write_later (channel_access o) h)

setpoint_later : (c : Channel) (n u b i : ℕ) → Later (setpoint_refusal c n u b i)
unfolding setpoint_refusal
setpoint_later c n u b i =
    either Later (outside 1 8 u) (told refl)
    (either Later (outside 1 2 b) (told refl)
    (either Later (leb n i) (told refl) (either Later (c.sequencer.armed && eqb b (active_buffer c.registers u)) (told refl) (told refl))))

framing_later : (f : ℕ) → Later (framing_refusal (read f))
unfolding read
framing_later f = either (λ (r : Reading). Later (framing_refusal r)) (framed f) (told refl) (told refl)

user_later : (u : ℕ) → Later (user_refusal u)
user_later u = either Later (outside 1 8 u) (told refl) (told refl)

portion_later : (d : Option Download) (i n : ℕ) → Later (download.portion_refusal d i n)
portion_later d i n = either Later (is_some d) (either Later (ltb (download.count_of d) (i + n)) (told refl) (told refl)) (told refl)

query_later : (o : OneChannel) (q : Query) (k j : ℕ) → Passes (query_earlier o.m q k j) → Later (query_refusal o q k j)
query_later o to.retired k j h = none (retired_refusal o.m k j) h
query_later o to.retired_length k j h = none (retired_refusal o.m k j) h
query_later o to.readings k j h = told refl
query_later o to.last_tick k j h = told refl
query_later o (to.portion i n) k j h =
    then_later (retired_refusal o.m k j) (download.portion_refusal o.channel.download i n) h (portion_later o.channel.download i n)
query_later o (to.portion_length i n) k j h =
    then_later (retired_refusal o.m k j) (download.portion_refusal o.channel.download i n) h (portion_later o.channel.download i n)

refusal_later : (o : OneChannel) (k : to.ChannelCall) → Passes (earlier_to o k) → Later (refusal_of o k)
unfolding refusal_of
refusal_later o (to.write_register lent x v) h =
    let p = both_pass (length_refusal lent (o.m * 8)) (unmapped_refusal (channel_access x)) h in
    then_later (length_refusal lent (o.m * 8)) (register_refusal o.channel x v) p.0 (register_later o.channel x v p.1)
refusal_later o (to.read_register x) h = read_later (channel_access x) h
refusal_later o (to.write_setpoint lent u f i x) h =
    then_later (length_refusal lent (o.n * 64)) (setpoint_refusal o.channel o.n u f i) h (setpoint_later o.channel o.n u f i)
refusal_later o to.arm h = told refl
refusal_later o to.disarm h = told refl
refusal_later o to.open_download h = told refl
refusal_later o (to.reply lent f) h = then_later (length_refusal lent (o.m * 8)) (framing_refusal (read f)) h (framing_later f)
refusal_later o (to.query q k j) h = query_later o q k j h
refusal_later o (to.tick lent) h = none (length_refusal lent (o.n * 64)) h
refusal_later o (to.event lent x) h = none (length_refusal lent (o.m * 8)) h
refusal_later o (to.change_user u) h = user_later u
refusal_later o (to.write_main lent x v) h =
    let p = both_pass (length_refusal lent (o.m * 8)) (unmapped_refusal (main_access x)) h in
    then_later (length_refusal lent (o.m * 8)) (write_refusal (main_access x)) p.0 (write_later (main_access x) p.1)
refusal_later o (to.read_main x) h = read_later (main_access x) h

pub later_alone : LaterAlone
later_alone o k h = (refusal_later o k h).is

-- ---- What the board answers

-- of a memory that fits
fit_later : (k w : ℕ) (a : Answer) → Passes (length_refusal k w) → Later (refusal_in a) → Later (refusal_in (cond (eqb k w) a size_mismatch))
fit_later k w a h l = rw (fits (eqb k w) h) l

-- of a channel's number
range_later : (d : ℕ) (a : Answer) → Passes (channel_refusal d) → Later (refusal_in a) → Later (refusal_in (cond (no_channel d) out_of_range a))
range_later d a h l = rw (numbered (no_channel d) h) l

receipt_later : (d : Disposition) → Later (refusal_in (receipt_answer d))
receipt_later disposition.Unsolicited = told refl
receipt_later disposition.Lost = told refl
receipt_later disposition.Kept = told refl

reply_later : (c : Channel) (m f : ℕ) → Later (refusal_in (reply_answer c m f))
unfolding reply_answer read
reply_later c m f =
    either (λ (r : Reading). Later (refusal_in (reply_answer_as r c m))) (framed f)
    (either (λ (a : Answer). Later (refusal_in a)) (takes c.commands) (told refl) (receipt_later (disposition_now c m))) (told refl)

module _ (b : Board) where
  write_at : (n : Named) (v : ℕ) → Passes (address_refusal n) → Later (refusal_in (registers.write_answer_at n b v))
  unfolding one_registers.written_answer
  write_at (main o) v h = unless_later _ ans.done (write_later (main_access o) h) (told refl)
  write_at (channel d o) v h = unless_later _ ans.done (register_later _ o v h) (told refl)
  write_at nothing v h = clash h

  read_at : (n : Named) → Passes (address_refusal n) → Later (refusal_in (registers.read_answer_at n b))
  unfolding one_registers.read_answer
  read_at (main o) h = unless_later _ _ (read_later (main_access o) h) (told refl)
  read_at (channel d o) h = unless_later _ _ (read_later (channel_access o) h) (told refl)
  read_at nothing h = clash h

  -- the lengths, then the number
  abbrev asked : ℕ → Lent → ℕ
  asked d l = channels.retired_refusal b d (length (first l)) (length (second l))

  portion_asked : (d i n : ℕ) (l : Lent) → Passes (asked d l) → Later (downloads.portion_refusal b d i n (length (first l)) (length (second l)))
  portion_asked d i n l h =
      then_later (asked d l) (download.portion_refusal (channel_at b d).download i n) h (portion_later (channel_at b d).download i n)

  asked_later : (d : ℕ) (q : Query) (l : Lent) → Passes (earlier_on b (query d q) l) → Later (refusal_in (query_answer_at b d q l))
  unfolding channels.retired_answer channels.retired_length downloads.portion_answer downloads.portion_length readings_answer one_readings.readings_answer last_tick_answer
  asked_later d to.retired l h = unless_later (asked d l) _ (none (asked d l) h) (told refl)
  asked_later d to.retired_length l h = unless_later (asked d l) _ (none (asked d l) h) (told refl)
  asked_later d to.readings l h = range_later d (one_readings.readings_answer (channel_at b d)) h (told refl)
  asked_later d to.last_tick l h = range_later d (ans.last_tick (ans.reason_of (channel_at b d).outcome)) h (told refl)
  asked_later d (to.portion i n) l h = unless_later _ _ (portion_asked d i n l h) (told refl)
  asked_later d (to.portion_length i n) l h = unless_later _ _ (portion_asked d i n l h) (told refl)

answer_later : (b : Board) (x : Call) (l : Lent) → Passes (earlier_on b x l) → Later (refusal_on (answer b x l))
unfolding answer registers.write_answer registers.read_answer channels.setpoint_answer setpoint_answer channels.arm_answer downloads.opening_answer channels.reply_answer board.tick_board_answer board.event_answer board.user_answer
answer_later b (write_register a v) l h =
    let p = both_pass (length_refusal (length (first l)) (b.m * 8)) (address_refusal (named a)) h in
    fit_later (length (first l)) (b.m * 8) (registers.write_answer_at (named a) b v) p.0 (write_at b (named a) v p.1)
answer_later b (read_register a) l h = read_at b (named a) h
answer_later b (write_setpoint d u f i x) l h =
    let p = both_pass (length_refusal (length (first l)) (b.n * 64)) (channel_refusal d) h in
    let q = setpoint_answer (channel_at b d) b.n u f i in
    fit_later (length (first l)) (b.n * 64) (cond (no_channel d) out_of_range q) p.0
    (range_later d q p.1
    (unless_later (setpoint_refusal (channel_at b d) b.n u f i) ans.done (setpoint_later (channel_at b d) b.n u f i) (told refl)))
answer_later b (arm d) l h = range_later d ans.done h (told refl)
answer_later b (disarm d) l h = range_later d ans.done h (told refl)
answer_later b (open_download d) l h = range_later d (opening_answer (channel_at b d)) h (told refl)
answer_later b (reply d f) l h =
    let p = both_pass (length_refusal (length (first l)) (b.m * 8)) (channel_refusal d) h in
    let q = reply_answer (channel_at b d) b.m f in
    fit_later (length (first l)) (b.m * 8) (cond (no_channel d) out_of_range q) p.0 (range_later d q p.1 (reply_later (channel_at b d) b.m f))
answer_later b (query d q) l h = asked_later b d q l h
answer_later b tick l h =
    let p = both_pass (length_refusal (length (first l)) (b.n * 64)) 0 h in
    rw (fits (eqb (length (first l)) (b.n * 64)) p.0) (told refl)
answer_later b (event x) l h =
    let p = both_pass (length_refusal (length (first l)) (b.m * 8)) 0 h in
    fit_later (length (first l)) (b.m * 8) ans.done p.0 (told refl)
answer_later b (change_user u) l h = unless_later (user_refusal u) ans.done (user_later u) (told refl)
answer_later b interrupt_level l h = told refl

pub later_only : LaterOnly
later_only b x l h = (answer_later b x l h).is
