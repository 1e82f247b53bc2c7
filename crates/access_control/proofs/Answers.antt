-- In two worlds that are the same to a role, a call of its own that is not hidden is answered the same. Assumes nothing.
use Prim.Native.Nat.{ℕ, ◌*◌}
use mathlib.Core.Path.{◌≡◌, refl, sym, ap, ap₂, ◌∙◌}
use mathlib.Core.Bool.{Bool, true, false, cond, not}
use native.Mathlib.Omega.{arith}
use lib.ListN.{length}
use lib.Dec.{eqb}
use borrow.Author.Tests.{eq-eqb, not-false}
use Rattle.address_map.specs.Addresses.{Named, named, main, channel, nothing}
use Rattle.channel_core.specs.Answers.{Answer}
use Rattle.channel_core.specs.Answers as ans
use Rattle.channel.specs.Calls.{then}
use Rattle.channel.specs.OneChannel.{length_refusal, responses}
use Rattle.permissions.specs.declared.Role.{Role}
use Rattle.permissions.specs.declared.BoardRights.{BoardRights}
use Rattle.permissions.specs.Rights.{rights_at, may_read, is_examiner}
use Rattle.board_state.specs.declared.Board.{Board}
use Rattle.board_state.specs.Main.{level_of}
use Rattle.board_state.specs.Checks.{setpoints_fit, size_mismatch}
use Rattle.board.specs.Answers.{BoardAnswer, one, each}
use Rattle.board.specs.Calls as board
use Rattle.board_registers.specs.Calls as registers
use Rattle.board.specs.Worlds.{World}
use Rattle.isolation.specs.Calls.{Call, write_register, read_register, write_setpoint, arm, disarm, open_download, reply, query, tick, event, change_user, interrupt_level, Lent, first, second, lengths, answer, Fits}
use Rattle.isolation.specs.Feeding.{only, Scope, of_one, scope, answer_for, observe_in, observe}
use Rattle.isolation.proofs.Parts.{Number}
use Rattle.isolation.proofs.Items.{item}
use Rattle.access_control.specs.Guarding.{denied, earlier, earlier_on, permission_denied, refused_by, shown_frame, shown, answer_in, GuardedFits}
use Rattle.access_control.specs.Noninterference.{hidden}
use Rattle.access_control.proofs.Earlier.{earlier_first}
use Rattle.access_control.proofs.Laws.{then_refuses, only_same, frame_shown, tick_answered, tick_refused, tick_each, answer_denied, answer_granted}
use Rattle.access_control.proofs.Worlds.{at, fits}
use Rattle.access_control.proofs.Hiding.{Reads, shown_read}
use Rattle.access_control.proofs.Same.{Same, lengths_same, by, fed_same}

each_same : {a b c d a' b' c' d' : Answer} → a ≡ a' → b ≡ b' → c ≡ c' → d ≡ d' → each a b c d ≡ each a' b' c' d'
each_same p q s t = cc

module _ (r : BoardRights) (p : Role) (w v : World) (s : Same r p w v) (l k : Lent) (e : lengths l ≡ lengths k) where
  one_length : length (first l) ≡ length (first k)
  one_length = (lengths_same l k e).0

  earlier_same : (x : Call) → earlier_on w.board x l ≡ earlier_on v.board x k
  earlier_same x =
      ap₂ (λ (n m : ℕ). earlier n m x (length (first l)) (length (second l))) s.n s.m
      ∙ ap₂ (earlier v.board.n v.board.m x) one_length (lengths_same l k e).1

  -- refused before the role is asked
  earlier_answer : (x : Call) → eqb (earlier_on w.board x l) 0 ≡ false → shown r p (answer w.board x l) ≡ shown r p (answer v.board x k)
  earlier_answer x q =
      ap (shown r p)
      (earlier_first w.board x l q
      ∙ ap refused_by (earlier_same x)
      ∙ sym (earlier_first v.board x k (ap (λ (k : ℕ). eqb k 0) (sym (earlier_same x)) ∙ q)))

  module _ (x : Call) (f : Fits w (at x l)) (g : Fits v (at x k)) where
    -- what a channel that the role may read observes of it
    observed_same : (c : ℕ) → Number c → may_read (rights_at r c) p ≡ true
        → observe c x (answer w.board x l) ≡ observe c x (answer v.board x k)
    observed_same c h t =
        (item w s.left c h l x f).observed
        ∙ ap₂ responses (s.seen c h t) (fed_same r p w v s x l k e c)
        ∙ sym (item v s.right c h k x g).observed

    -- a call that names channel d
    naming : hidden r p x ≡ false → (d : ℕ) (a b : Answer) → scope x ≡ of_one d
        → answer w.board x l ≡ one a → answer v.board x k ≡ one b
        → shown r p (answer w.board x l) ≡ shown r p (answer v.board x k)
    naming u d a b t p1 p2 =
        let h : Reads r p d = shown_read r p x u d t in
        ap (shown r p) p1
        ∙ ap one (only_same (eqb d d) (eq-eqb d d refl)
        (sym (seen a p1) ∙ observed_same d h.number h.may ∙ seen b p2))
        ∙ sym (ap (shown r p) p2)
      where
        seen : {z : BoardAnswer} (a : Answer) → z ≡ one a → observe d x z ≡ only (eqb d d) a
        seen a q = ap (observe d x) q ∙ ap (λ (s : Scope). observe_in d s (one a)) t

  -- the examiner's
  to_examiner : not (is_examiner p) ≡ false → w ≡ v
  to_examiner d = s.whole (not-false (is_examiner p) d)

  write_same : (a y : ℕ) → Fits w (at (write_register a y) l) → Fits v (at (write_register a y) k)
      → hidden r p (write_register a y) ≡ false → denied r p (write_register a y) ≡ false
      → shown r p (answer w.board (write_register a y) l) ≡ shown r p (answer v.board (write_register a y) k)
  unfolding answer registers.write_answer
  write_same a y f g u d = go (named a) refl
    where
      go : (n : Named) → named a ≡ n → shown r p (answer w.board (write_register a y) l) ≡ shown r p (answer v.board (write_register a y) k)
      go (main o) q = ap₂ (λ (b : Board) (k : ℕ). one (registers.write_answer b k a y)) (ap (λ (w : World). w.board) (to_examiner (rw q at d))) one_length
      go (channel c o) q = naming (write_register a y) f g u c _ _ (rw q) refl refl
      go nothing q = earlier_answer (write_register a y) (rw q (then_refuses (length_refusal (length (first l)) (w.board.m * 8)) 3 refl))

  read_same : (a : ℕ) → Fits w (at (read_register a) l) → Fits v (at (read_register a) k)
      → hidden r p (read_register a) ≡ false → denied r p (read_register a) ≡ false
      → shown r p (answer w.board (read_register a) l) ≡ shown r p (answer v.board (read_register a) k)
  unfolding answer
  read_same a f g u d = go (named a) refl
    where
      go : (n : Named) → named a ≡ n → shown r p (answer w.board (read_register a) l) ≡ shown r p (answer v.board (read_register a) k)
      go (main o) q = ap (λ (w : World). one (registers.read_answer w.board a)) (to_examiner (rw q at d))
      go (channel c o) q = naming (read_register a) f g u c _ _ (rw q) refl refl
      go nothing q = earlier_answer (read_register a) (rw q)

  -- "a tick's answer shows a seat only channels it may read"
  frame_same : Fits w (at tick l) → Fits v (at tick k) → (c : ℕ) → Number c
      → shown_frame (rights_at r c) p (answer_for c (answer w.board tick l)) ≡ shown_frame (rights_at r c) p (answer_for c (answer v.board tick k))
  frame_same f g c h = go (may_read (rights_at r c) p) refl
    where
      go : (t : Bool) → may_read (rights_at r c) p ≡ t
          → cond t (answer_for c (answer w.board tick l)) ans.none ≡ cond t (answer_for c (answer v.board tick k)) ans.none
      go true t = only_same true refl (observed_same tick f g c h t)
      go false t = refl

  tick_same : Fits w (at tick l) → Fits v (at tick k) → shown r p (answer w.board tick l) ≡ shown r p (answer v.board tick k)
  tick_same f g = go (setpoints_fit w.board (length (first l))) refl
    where
      -- refused in both, or in neither
      fit_same : setpoints_fit w.board (length (first l)) ≡ setpoints_fit v.board (length (first k))
      fit_same = ap₂ (λ (k n : ℕ). eqb k (n * 64)) one_length s.n

      go : (t : Bool) → setpoints_fit w.board (length (first l)) ≡ t
          → shown r p (answer w.board tick l) ≡ shown r p (answer v.board tick k)
      go true q =
          let u = sym fit_same ∙ q in
          let same : (c : ℕ) → Number c → answer_for c (shown r p (answer w.board tick l)) ≡ answer_for c (shown r p (answer v.board tick k)) =
          λ c h. frame_shown r p w.board l c h (tick_answered w.board l q)
          ∙ frame_same f g c h
          ∙ sym (frame_shown r p v.board k c h (tick_answered v.board k u)) in
          tick_each r p w.board l q
          ∙ each_same (same 1 (record { low = omega arith; high = omega arith })) (same 2 (record { low = omega arith; high = omega arith }))
          (same 3 (record { low = omega arith; high = omega arith })) (same 4 (record { low = omega arith; high = omega arith }))
          ∙ sym (tick_each r p v.board k u)
      go false q = ap (shown r p) (tick_refused w.board l q ∙ sym (tick_refused v.board k (sym fit_same ∙ q)))

  shown_same : (x : Call) → Fits w (at x l) → Fits v (at x k) → hidden r p x ≡ false → denied r p x ≡ false
      → shown r p (answer w.board x l) ≡ shown r p (answer v.board x k)
  unfolding answer board.event_answer
  shown_same (write_register a y) f g u d = write_same a y f g u d
  shown_same (read_register a) f g u d = read_same a f g u d
  shown_same (write_setpoint c z b i y) f g u d = naming (write_setpoint c z b i y) f g u c _ _ refl refl refl
  shown_same (arm c) f g u d = naming (arm c) f g u c _ _ refl refl refl
  shown_same (disarm c) f g u d = naming (disarm c) f g u c _ _ refl refl refl
  shown_same (open_download c) f g u d = naming (open_download c) f g u c _ _ refl refl refl
  shown_same (reply c y) f g u d = naming (reply c y) f g u c _ _ refl refl refl
  shown_same (query c q) f g u d = naming (query c q) f g u c _ _ refl refl refl
  shown_same tick f g u d = tick_same f g
  shown_same (event y) f g u d = ap₂ (λ (k m : ℕ). one (cond (eqb k (m * 8)) ans.done size_mismatch)) one_length s.m
  shown_same (change_user z) f g u d = refl
  shown_same interrupt_level f g u d = ap (λ (w : World). one (ans.value (level_of w.board))) (to_examiner d)

  pub answer_same : (x : Call) → GuardedFits r w (by p x l) → GuardedFits r v (by p x k) → hidden r p x ≡ false
      → answer_in r w (by p x l) ≡ answer_in r v (by p x k)
  answer_same x f g u = go (denied r p x) refl
    where
      go : (t : Bool) → denied r p x ≡ t → answer_in r w (by p x l) ≡ answer_in r v (by p x k)
      go true d =
          answer_denied r p w.board x l d
          ∙ ap (λ (k : ℕ). refused_by (then k permission_denied)) (earlier_same x)
          ∙ sym (answer_denied r p v.board x k d)
      go false d =
          answer_granted r p w.board x l d
          ∙ shown_same x (fits r w (by p x l) d f) (fits r v (by p x k) d g) u d
          ∙ sym (answer_granted r p v.board x k d)
