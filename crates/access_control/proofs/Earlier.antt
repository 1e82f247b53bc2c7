-- What comes before 13 is what the call itself is refused with, on the board and by the one-channel definition. Assumes nothing.
use Prim.Native.Nat.{ℕ, ◌*◌}
use mathlib.Core.Path.{◌≡◌, refl, sym, ap}
use mathlib.Core.Bool.{Bool, true, false, cond}
use lib.ListN.{length}
use lib.Dec.{eqb}
use Rattle.address_map.specs.Addresses.{Named, named, main, channel, nothing}
use Rattle.std.specs.Prelude.{Option, Some, None}
use Rattle.register_map.specs.declared.Access.{Access}
use Rattle.register_map.specs.declared.Access.TheVariants as access
use Rattle.register_map.specs.AccessRule.{channel_access, main_access}
use Rattle.register_map.specs.AccessRefusals.{read_refusal, write_refusal}
use Rattle.channel_core.specs.declared.Channel.{Channel}
use Rattle.channel_core.specs.Answers.{Answer, unless}
use Rattle.channel_core.specs.Answers as ans
use Rattle.channel_registers.specs.Calls.{register_refusal}
use Rattle.channel_registers.specs.Calls as one_registers
use Rattle.channel.specs.Calls.{then}
use Rattle.channel.specs.OneChannel.{OneChannel, Query, length_refusal, query_refusal, refusal_of}
use Rattle.channel.specs.OneChannel as to
use Rattle.channel.proofs.Cases.{clash}
use Rattle.board_state.specs.declared.Board.{Board}
use Rattle.board_state.specs.Checks.{no_channel, size_mismatch, out_of_range}
use Rattle.board.specs.Answers.{one}
use Rattle.board.specs.Calls as board
use Rattle.board_channels.specs.Calls as channels
use Rattle.board_downloads.specs.Calls as downloads
use Rattle.board_readings.specs.Calls.{readings_answer, last_tick_answer}
use Rattle.board_registers.specs.Calls as registers
use Rattle.isolation.specs.Calls.{write_register, read_register, write_setpoint, arm, disarm, open_download, reply, query, tick, event, change_user, interrupt_level, Lent, first, query_answer_at, answer}
use Rattle.access_control.specs.Guarding.{unmapped_refusal, address_refusal, channel_refusal, earlier_on, refused_by}
use Rattle.access_control.specs.OneChannel.{query_earlier}
use Rattle.access_control.specs.Laws.{EarlierFirst, EarlierAlone}

-- a refusal is not 0
abbrev Refuses : ℕ → Type 0
Refuses k = eqb k 0 ≡ false

-- ---- One channel

unmapped_write : (a : Option Access) → Refuses (unmapped_refusal a) → write_refusal a ≡ unmapped_refusal a
unmapped_write None h = refl
unmapped_write (Some access.ReadOnly) h = clash (sym h)
unmapped_write (Some access.WriteOnly) h = clash (sym h)
unmapped_write (Some access.ReadWrite) h = clash (sym h)

unmapped_read : (a : Option Access) → Refuses (unmapped_refusal a) → read_refusal a ≡ unmapped_refusal a
unmapped_read None h = refl
unmapped_read (Some access.ReadOnly) h = clash (sym h)
unmapped_read (Some access.WriteOnly) h = clash (sym h)
unmapped_read (Some access.ReadWrite) h = clash (sym h)

unmapped_register : (c : Channel) (o v : ℕ) → Refuses (unmapped_refusal (channel_access o)) → register_refusal c o v ≡ unmapped_refusal (channel_access o)
unfolding register_refusal
unmapped_register c o v h = rw (unmapped_write (channel_access o) h, h)

-- after 1, what comes next
then_earlier : (k q q' : ℕ) → (Refuses q → q' ≡ q) → Refuses (then k q) → then k q' ≡ then k q
then_earlier k q q' f h = go (eqb k 0) refl
  where
    go : (t : Bool) → eqb k 0 ≡ t → then k q' ≡ then k q
    go true e = rw e (f (rw e at h))
    go false e = rw e

then_left : (k q : ℕ) → Refuses k → then k q ≡ k
then_left k q h = rw h

query_earlier_lem : (o : OneChannel) (q : Query) (k j : ℕ) → Refuses (query_earlier o.m q k j) → query_refusal o q k j ≡ query_earlier o.m q k j
query_earlier_lem o to.retired k j h = refl
query_earlier_lem o to.retired_length k j h = refl
query_earlier_lem o to.readings k j h = clash (sym h)
query_earlier_lem o to.last_tick k j h = clash (sym h)
query_earlier_lem o (to.portion i n) k j h = then_left _ _ h
query_earlier_lem o (to.portion_length i n) k j h = then_left _ _ h

pub earlier_alone : EarlierAlone
unfolding refusal_of
earlier_alone o (to.write_register lent x v) h =
    then_earlier (length_refusal lent (o.m * 8)) (unmapped_refusal (channel_access x)) (register_refusal o.channel x v)
    (unmapped_register o.channel x v) h
earlier_alone o (to.read_register x) h = unmapped_read (channel_access x) h
earlier_alone o (to.write_setpoint lent u f i x) h = then_left (length_refusal lent (o.n * 64)) _ h
earlier_alone o to.arm h = clash (sym h)
earlier_alone o to.disarm h = clash (sym h)
earlier_alone o to.open_download h = clash (sym h)
earlier_alone o (to.reply lent f) h = then_left (length_refusal lent (o.m * 8)) _ h
earlier_alone o (to.query q k j) h = query_earlier_lem o q k j h
earlier_alone o (to.tick lent) h = refl
earlier_alone o (to.event lent x) h = refl
earlier_alone o (to.change_user u) h = clash (sym h)
earlier_alone o (to.write_main lent x v) h =
    then_earlier (length_refusal lent (o.m * 8)) (unmapped_refusal (main_access x)) (write_refusal (main_access x)) (unmapped_write (main_access x)) h
earlier_alone o (to.read_main x) h = unmapped_read (main_access x) h

-- ---- The board

-- a call that is refused 1, then by q, answers so
fit_earlier : (t : Bool) (q : ℕ) (a : Answer) → (Refuses q → a ≡ ans.refused q) → Refuses (then (cond t 0 1) q)
    → cond t a size_mismatch ≡ ans.refused (then (cond t 0 1) q)
fit_earlier true q a f h = f h
fit_earlier false q a f h = refl

unless_earlier : (k q : ℕ) (a : Answer) → k ≡ q → Refuses q → unless k a ≡ ans.refused q
unless_earlier k q a e h = rw (e, h)

range_earlier : (d : ℕ) (a : Answer) → Refuses (channel_refusal d) → cond (no_channel d) out_of_range a ≡ ans.refused (channel_refusal d)
range_earlier d a h = go (no_channel d) h
  where
    go : (t : Bool) → Refuses (cond t 2 0) → cond t out_of_range a ≡ ans.refused (cond t 2 0)
    go true h = refl
    go false h = clash (sym h)

-- one that has no other refusal
alone_earlier : {A : Type 0} (f : ℕ → A) (t : Bool) (a : A) → Refuses (then (cond t 0 1) 0) → cond t a (f 1) ≡ f (then (cond t 0 1) 0)
alone_earlier f true a h = clash (sym h)
alone_earlier f false a h = refl

module _ (b : Board) where
  write_earlier : (n : Named) (v : ℕ) → Refuses (address_refusal n) → registers.write_answer_at n b v ≡ ans.refused (address_refusal n)
  unfolding one_registers.written_answer
  write_earlier (main o) v h = unless_earlier _ _ ans.done (unmapped_write (main_access o) h) h
  write_earlier (channel d o) v h = unless_earlier _ _ ans.done (unmapped_register _ o v h) h
  write_earlier nothing v h = refl

  read_earlier : (n : Named) → Refuses (address_refusal n) → registers.read_answer_at n b ≡ ans.refused (address_refusal n)
  unfolding one_registers.read_answer
  read_earlier (main o) h = unless_earlier _ _ _ (unmapped_read (main_access o) h) h
  read_earlier (channel d o) h = unless_earlier _ _ _ (unmapped_read (channel_access o) h) h
  read_earlier nothing h = refl

  asked_earlier : (d : ℕ) (q : Query) (l : Lent) → Refuses (earlier_on b (query d q) l) → query_answer_at b d q l ≡ ans.refused (earlier_on b (query d q) l)
  unfolding channels.retired_answer channels.retired_length downloads.portion_answer downloads.portion_length readings_answer last_tick_answer
  asked_earlier d to.retired l h = unless_earlier _ _ _ refl h
  asked_earlier d to.retired_length l h = unless_earlier _ _ _ refl h
  asked_earlier d to.readings l h = range_earlier d _ h
  asked_earlier d to.last_tick l h = range_earlier d _ h
  asked_earlier d (to.portion i n) l h = unless_earlier _ _ _ (then_left _ _ h) h
  asked_earlier d (to.portion_length i n) l h = unless_earlier _ _ _ (then_left _ _ h) h

pub earlier_first : EarlierFirst
unfolding answer registers.write_answer registers.read_answer channels.setpoint_answer channels.arm_answer downloads.opening_answer channels.reply_answer board.tick_board_answer board.event_answer
earlier_first b (write_register a v) l h =
    ap one (fit_earlier (eqb (length (first l)) (b.m * 8)) (address_refusal (named a)) _ (write_earlier b (named a) v) h)
earlier_first b (read_register a) l h = ap one (read_earlier b (named a) h)
earlier_first b (write_setpoint d u f i x) l h =
    ap one (fit_earlier (eqb (length (first l)) (b.n * 64)) (channel_refusal d) _ (range_earlier d _) h)
earlier_first b (arm d) l h = ap one (range_earlier d ans.done h)
earlier_first b (disarm d) l h = ap one (range_earlier d ans.done h)
earlier_first b (open_download d) l h = ap one (range_earlier d _ h)
earlier_first b (reply d f) l h =
    ap one (fit_earlier (eqb (length (first l)) (b.m * 8)) (channel_refusal d) _ (range_earlier d _) h)
earlier_first b (query d q) l h = ap one (asked_earlier b d q l h)
earlier_first b tick l h = alone_earlier refused_by (eqb (length (first l)) (b.n * 64)) _ h
earlier_first b (event x) l h = ap one (alone_earlier ans.refused (eqb (length (first l)) (b.m * 8)) ans.done h)
earlier_first b (change_user u) l h = clash (sym h)
earlier_first b interrupt_level l h = clash (sym h)
