-- Demand 3 in document 01's words of the end of a list, and lists that it speaks of. Assumes nothing.
use Prim.Native.Nat.{ℕ, ◌+◌, ◌*◌, ◌<◌}
use mathlib.Core.Path.{◌≡◌, refl, sym, ap, subst, ◌∙◌}
use mathlib.Core.Logic.{inl, inr}
use mathlib.Core.Bool.{true, false}
use native.Mathlib.Omega.{arith}
use lib.ListN.{length}
use Rattle.address_map.proofs.Laws.{channel_named}
use Rattle.channel_core.specs.Answers.{Answer, is_refusal}
use Rattle.channel.specs.OneChannel.{OneChannel, response, transitions}
use Rattle.channel.specs.OneChannel as to
use Rattle.channel.proofs.Cases.{either}
use Rattle.histories.proofs.Depths.{depths_kept}
use Rattle.histories.proofs.Missing.{counts_missing}
use Rattle.board_state.specs.declared.Board.{Board}
use Rattle.board_state.specs.Checks.{setpoints_fit}
use Rattle.board_state.specs.Parts.{own}
use Rattle.board.specs.Calls.{tick_board_answer}
use Rattle.board_channels.specs.Calls.{setpoint_answer}
use Rattle.board_readings.specs.Calls.{readings_answer, last_tick_answer}
use Rattle.board_registers.specs.Calls.{read_answer}
use Rattle.board.specs.Worlds.{World}
use Rattle.isolation.specs.Calls.{write_setpoint, tick, Lent, none, words, first, answer, refused, given, world_after, opening}
use Rattle.isolation.specs.Feeding.{fed, view}
use Rattle.isolation.specs.Isolation.{one_channel_at, MatchesOneChannel, Shows, IsolationShown, MissingCounted, astray, NotVacuous}
use Rattle.isolation.proofs.Parts.{Number}
use Rattle.isolation.proofs.Worlds.{Good, step_refused, full_sets}
use Rattle.isolation.proofs.Mains.{status_bit}
use Rattle.isolation.proofs.Observing.{observe_read, observe_query}
use Rattle.isolation.proofs.Isolation.{isolation, good_opening}

module _ (c : ℕ) (h : Number c) (w : World) where
  pub register_shown : (o : ℕ) → o < 0x800 → read_answer w.board (0x800 * c + o) ≡ response (view c w) (to.read_register o)
  unfolding answer
  register_shown o l = observe_read w c h (0x800 * c + o) o none (channel_named c o h.low h.high l)

  readings_shown : readings_answer w.board c ≡ response (view c w) (to.query to.readings 0 0)
  unfolding answer
  readings_shown = observe_query w c h to.readings none (inr refl)

  last_tick_shown : last_tick_answer w.board c ≡ response (view c w) (to.query to.last_tick 0 0)
  unfolding answer
  last_tick_shown = observe_query w c h to.last_tick none (inr refl)

  view_shown : Shows w.board.n w.board.m c w (view c w)
  view_shown =
      record {
        registers = register_shown;
        switches = refl;
        waiting = refl;
        receiving = refl;
        tag = refl;
        tagged = refl;
        download = refl;
        readings = readings_shown;
        last_tick = last_tick_shown;
        interrupt_status = refl;
        polling_status = refl;
        main_interrupt = status_bit w.board false c h;
        main_polling = status_bit w.board true c h;
        setpoints = refl;
        readbacks = refl;
        both_buffers = refl;
      }

  pub shown : (o : OneChannel) → view c w ≡ o → Shows o.n o.m c w o
  shown o e = subst (λ (p : OneChannel). Shows p.n p.m c w p) e view_shown

pub isolation_shown : IsolationShown
isolation_shown n m s r e c low high xs a =
    let o = transitions (one_channel_at c n m s r) (fed c xs) in
    let d = depths_kept (one_channel_at c n m s r) (fed c xs) in
    let x : MatchesOneChannel c (opening n m s r) xs (one_channel_at c n m s r) = isolation n m s r e c low high xs a in
    subst (λ (k : ℕ). Shows k m c (world_after (opening n m s r) xs) o) d.0
    (subst (λ (k : ℕ). Shows o.n k c (world_after (opening n m s r) xs) o) d.1
    (shown c (record { low = low; high = high }) (world_after (opening n m s r) xs) o x.ends))

-- so the count of missing readbacks, on the board
pub missing_counted : MissingCounted
missing_counted n m s r e c low high xs a =
    (isolation_shown n m s r e c low high xs a).registers 0x0c (omega arith)
    ∙ (counts_missing n m (own s (n * 16) c) (own r (m * 2) c) (fed c xs)).shown

-- ---- There are such lists

astray_refused : (b : Board) (l : Lent) → refused b (write_setpoint 5 1 1 0 0) l ≡ true
unfolding answer setpoint_answer
astray_refused b l =
    either (λ (a : Answer). is_refusal a ≡ true) (setpoints_fit b (length (first l))) refl refl

tick_answered : (w : World) → Good w → refused w.board tick (words w.setpoints) ≡ false
unfolding answer tick_board_answer
tick_answered w g = rw (full_sets w g)

pub not_vacuous : NotVacuous
not_vacuous n m s r foreign e =
    let w : World = opening n m s r in
    let q : refused w.board (write_setpoint 5 1 1 0 0) (words foreign) ≡ true = astray_refused w.board (words foreign) in (
      (
        inl (λ l k. astray_refused w.board l),
        (inr (ap (λ (v : World). given v tick) (sym (step_refused w (astray foreign) q))), tt),
      ),
      tick_answered w (good_opening n m s r e),
    )
