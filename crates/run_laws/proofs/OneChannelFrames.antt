-- The frames that a run counts of a channel are those that the one-channel definition answers by itself, from demand 3. Assumes nothing.
use Prim.Native.Nat.{ℕ, zero, suc, ◌+◌, ◌-◌, ◌*◌, ◌≤◌}
use mathlib.Core.Path.{◌≡◌, refl, sym, ap, ap₂, subst, ◌∙◌}
use mathlib.Core.List.{List, [], ◌∷◌, ◌++◌, append-nil}
use native.Mathlib.Omega.{arith}
use lib.ListN.{take, drop, replicate, length-replicate, replicate-append-replicate}
use lib.Seq.{take_at, drop_at}
use Rattle.channel_core.specs.Answers.{is_frame}
use Rattle.channel.specs.OneChannel.{OneChannel, one_channel, responses}
use Rattle.board.specs.Answers.{of_four}
use Rattle.board.specs.Calls.{tick_board_answer}
use Rattle.board.specs.Worlds.{World}
use Rattle.isolation.specs.Calls.{Call, write_register, read_register, write_setpoint, arm, disarm, reply, tick, event, change_user, given, step, Allowed, opening}
use Rattle.isolation.specs.Calls as calls
use Rattle.isolation.specs.Feeding.{fed, observe, observes}
use Rattle.isolation.proofs.Parts.{Number}
use Rattle.isolation.proofs.Cases.{of_four_lem}
use Rattle.isolation.proofs.Worlds.{plain}
use Rattle.isolation.proofs.Isolation.{isolation}
use Rattle.records.specs.Files.{count, records_part}
use Rattle.records.specs.Requests.{Asked}
use Rattle.records.specs.Requests as asked
use Rattle.tally.specs.declared.Counts.{Counts}
use Rattle.tally.specs.Answers.{counted}
use Rattle.replay.specs.Worlds.{tick_answers, answers}
use Rattle.tally.specs.Tallies.{sends}
use Rattle.run_file.specs.Runs.{start, asked_at, world_after, answers_along, run_of}
use Rattle.run_laws.specs.Drawn.{how_many, answers_of, Drawn}
use Rattle.run_laws.proofs.Drawn.{many_append, run_drawn}
use Rattle.run_laws.specs.OneChannelFrames.{calls_of, calls_along, lent, lending, items_of, frames_of_channel, zeroed_channel, OneChannelFrames}
use Rattle.run_laws.proofs.Runs.{answers_first, played, step_lent, allowed, played_along, start_opens, not_refused}
use Rattle.run_laws.proofs.Observed.{frames_observed}

-- ---- The counts, by a channel's number

drawn_at : (file : List ℕ) (counts : Counts) → Drawn file counts → (c : ℕ) → Number c
    → frames_of_channel counts c ≡ how_many (sends c) (answers_of file)
drawn_at file counts d c h =
    (λ i. of_four c (d.first i) (d.second i) (d.third i) (d.fourth i)) ∙ of_four_lem (λ (k : ℕ). how_many (sends k) (answers_of file)) c h

-- ---- What channel c observing of calls lent the memory

module _ (c : ℕ) where
  abbrev observing : World → List Call → ℕ
  observing w xs = how_many is_frame (observes c w (lending w xs))

  observing_append : (w : World) (xs ys : List Call) → observing w (xs ++ ys) ≡ observing w xs + observing (played w xs) ys
  unfolding lending how_many
  observing_append w [] ys = omega arith
  observing_append w (x ∷ xs) ys =
      let i = lent w x in
      let o = observe c x (calls.answer w.board x (given w x)) in
      let e = observing_append (step w i) xs ys in
      rw (many_append is_frame o (observes c (step w i) (lending (step w i) (xs ++ ys))), many_append is_frame o (observes c (step w i) (lending (step w i) xs)), e)
      (omega arith)

  observing_one : (w : World) (x : Call) → observing w (x ∷ []) ≡ how_many (sends c) (calls.answer w.board x (given w x) ∷ [])
  unfolding lending
  observing_one w x = rw append-nil (frames_observed c w.board x (given w x))

  observing_first : (w : World) (x : Call) (xs : List Call) → observing w (x ∷ xs) ≡ observing w (x ∷ []) + observing (plain w x) xs
  unfolding lending
  observing_first w x xs =
      observing_append w (x ∷ []) xs ∙ ap (λ (v : World). observing w (x ∷ []) + observing v xs) (step_lent w x)

  observing_ticks : (w : World) (k : ℕ) → observing w (replicate k tick) ≡ how_many (sends c) (tick_answers w.board w.setpoints k)
  unfolding lending how_many tick_answers calls.answer calls.after calls.words_after
  observing_ticks w zero = refl
  observing_ticks w (suc k) =
      observing_first w tick (replicate k tick)
      ∙ ap₂ (λ (m n : ℕ). m + n) (observing_one w tick) (observing_ticks (plain w tick) k)
      ∙ sym (many_append (sends c) (tick_board_answer w.board w.setpoints ∷ []) (tick_answers (plain w tick).board w.setpoints k))
      ∙ ap (how_many (sends c)) (sym (answers_first w.board w.setpoints k))

  observing_record : (w : World) (x : Asked) → observing w (calls_of x) ≡ how_many (sends c) (answers w x)
  unfolding calls_of answers calls.answer lending how_many
  observing_record w (asked.write address value) = observing_one w (write_register address value)
  observing_record w (asked.read address) = observing_one w (read_register address)
  observing_record w (asked.setpoint number user buffer index word) = observing_one w (write_setpoint number user buffer index word)
  observing_record w (asked.event code) = observing_one w (event code)
  observing_record w (asked.ticks k) = observing_ticks w k
  observing_record w (asked.reply number frame) = observing_one w (reply number frame)
  observing_record w (asked.user user) = observing_one w (change_user user)
  observing_record w (asked.arm number) = observing_one w (arm number)
  observing_record w (asked.disarm number) = observing_one w (disarm number)
  observing_record w asked.bad = refl

  observing_along : (w : World) (part : List ℕ) (k : ℕ) → observing w (calls_along part k) ≡ how_many (sends c) (answers_along w part k)
  unfolding calls_along answers_along lending how_many
  observing_along w part zero = refl
  observing_along w part (suc k) =
      observing_append w (calls_along part k) (calls_of (asked_at part k))
      ∙ ap₂ (λ (m n : ℕ). m + n) (observing_along w part k)
      (ap (λ (v : World). observing v (calls_of (asked_at part k))) (played_along w part k)
      ∙ observing_record (world_after w part k) (asked_at part k))
      ∙ sym (many_append (sends c) (answers_along w part k) (answers (world_after w part k) (asked_at part k)))

-- ---- The zeroed words of a channel

part_zeros : (a k r : ℕ) → take k (drop a (replicate {A = ℕ} (a + (k + r)) 0)) ≡ replicate k 0
part_zeros a k r =
    ap (λ (s : List ℕ). take k (drop a s)) (sym (replicate-append-replicate a (k + r) 0))
    ∙ ap (take k) (drop_at (replicate a 0) (replicate (k + r) 0) a (length-replicate a 0))
    ∙ ap (take k) (sym (replicate-append-replicate k r 0))
    ∙ take_at (replicate k 0) (replicate r 0) k (length-replicate k 0)

own_zeros : (n k c : ℕ) → 1 ≤ c → (c - 1) * k + k ≤ n → take k (drop ((c - 1) * k) (replicate {A = ℕ} n 0)) ≡ replicate k 0
own_zeros n k c l h =
    let e : n ≡ (c - 1) * k + (k + (n - ((c - 1) * k + k))) = omega arith in
    ap (λ (m : ℕ). take k (drop ((c - 1) * k) (replicate {A = ℕ} m 0))) e ∙ part_zeros ((c - 1) * k) k (n - ((c - 1) * k + k))

-- ---- The law

abbrev zeros : ℕ → List ℕ
zeros n = replicate n 0

frames_by_itself : (file : List ℕ) (c : ℕ) → 1 ≤ c → c ≤ 4
    → how_many is_frame (observes c start (items_of file)) ≡ how_many is_frame (responses zeroed_channel (fed c (items_of file)))
unfolding items_of
frames_by_itself file c l h =
    let a : Allowed (opening 16 64 (zeros 1024) (zeros 512)) (items_of file) =
    subst (λ (w : World). Allowed w (items_of file)) start_opens (allowed start (calls_along (records_part file) (count file))) in
    let m = isolation 16 64 (zeros 1024) (zeros 512) not_refused c l h (items_of file) a in
    ap (λ (w : World). how_many is_frame (observes c w (items_of file))) start_opens
    ∙ ap (how_many is_frame) m.observed
    ∙ ap (λ (o : OneChannel). how_many is_frame (responses o (fed c (items_of file))))
    (ap₂ (one_channel 16 64) (own_zeros 1024 256 c l (omega arith)) (own_zeros 512 128 c l (omega arith)))

pub one_channel_frames : (file : List ℕ) (counts : Counts) → run_of file ≡ counted counts → OneChannelFrames file counts
unfolding items_of
one_channel_frames file counts e =
    record {
      opens = start_opens;
      allowed = allowed start (calls_along (records_part file) (count file));
      ends = played_along start (records_part file) (count file);
      frames = λ c l h.
          drawn_at file counts (run_drawn file counts e) c (record { low = l; high = h })
          ∙ sym (observing_along c start (records_part file) (count file))
          ∙ frames_by_itself file c l h;
    }
