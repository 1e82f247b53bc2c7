-- A call that its role may not make, and one that it may: what it answers and does, on the board and by the one-channel definition. Assumes nothing.
use Prim.Native.Nat.{ℕ, ◌*◌}
use mathlib.Core.Path.{◌≡◌, refl, sym, ap, ◌∙◌}
use mathlib.Core.Bool.{Bool, true, false, cond, ◌||◌}
use mathlib.Core.List.{List}
use lib.ListN.{length}
use lib.Dec.{eqb}
use borrow.Author.Tests.{eqb-true}
use Rattle.address_map.specs.Addresses.{Named, named, main, channel, nothing}
use Rattle.std.specs.Prelude.{Option, Some, None}
use Rattle.register_map.specs.declared.Access.{Access}
use Rattle.register_map.specs.declared.Access.TheVariants as access
use Rattle.register_map.specs.AccessRule.{channel_access, main_access}
use Rattle.channel_core.specs.Answers.{Answer, unless}
use Rattle.channel_core.specs.Answers as ans
use Rattle.channel_registers.specs.Calls.{read_effect}
use Rattle.channel.specs.Calls.{then}
use Rattle.channel.specs.OneChannel.{OneChannel, ChannelCall, refusal_of, effect, transition, response}
use Rattle.channel.specs.OneChannel as to
use Rattle.channel.proofs.Cases.{clash, either}
use Rattle.permissions.specs.declared.Role.{Role}
use Rattle.permissions.specs.declared.Role.TheVariants as role
use Rattle.permissions.specs.declared.ChannelRights.{ChannelRights}
use Rattle.permissions.specs.declared.BoardRights.{BoardRights}
use Rattle.permissions.specs.Rights.{rights_at}
use Rattle.board_state.specs.declared.Board.{Board}
use Rattle.board_state.specs.Checks.{setpoints_fit, no_channel, size_mismatch}
use Rattle.board.specs.Answers.{BoardAnswer, one, each, refuses}
use Rattle.board.specs.Calls.{tick_frame, tick_board_answer}
use Rattle.board.specs.Worlds.{World}
use Rattle.isolation.specs.Calls.{Call, write_register, read_register, write_setpoint, arm, disarm, open_download, reply, query, tick, event, change_user, interrupt_level, Lending, Lent, none, words, buffers, step}
use Rattle.isolation.specs.Calls as calls
use Rattle.isolation.specs.Feeding.{only, answer_for}
use Rattle.isolation.proofs.Parts.{Number}
use Rattle.isolation.proofs.Cases.{of_four_lem}
use Rattle.isolation.proofs.Refused.{refused_changes_nothing}
use Rattle.access_control.specs.Guarding.{Request, denied_write, denied_read, denied, lent_refusal, unmapped_refusal, address_refusal, channel_refusal, target_refusal, earlier_on, permission_denied, guard_refusal, refused_by, shown_frame, shown, guarded_answer, guarded_after, guarded_words, guarded_lent_after, guarded_step}
use Rattle.access_control.specs.OneChannel.{ChannelRequest, denied_to, earlier_to, guarded_refusal, shown_to, guarded_transition, guarded_response}
use Rattle.access_control.specs.Laws.{is_later, refusal_on, Unguarded, CallsAnswered, TicksShown, GrantedAlone, OtherReadsLeave, ExaminerUnguarded, ExaminerAlone}
use Rattle.access_control.proofs.Earlier.{earlier_first, earlier_alone}
use Rattle.access_control.proofs.Later.{later_only}

-- ---- Refusals one before another

-- there is a refusal where the first or the second is one
pub then_refuses : (k q : ℕ) → eqb q 0 ≡ false → eqb (then k q) 0 ≡ false
then_refuses k q h = go (eqb k 0) refl
  where
    go : (t : Bool) → eqb k 0 ≡ t → eqb (then k q) 0 ≡ false
    go true e = rw e h
    go false e = rw e e

then_first : (k q : ℕ) → eqb k 0 ≡ false → eqb (then k q) 0 ≡ false
then_first k q h = rw h h

-- denied: there is a refusal, the earlier one or 13
then_denied : (k : ℕ) → eqb (then k permission_denied) 0 ≡ false
then_denied k = then_refuses k permission_denied refl

-- not denied: the earlier one alone
pub then_granted : (k : ℕ) → then k 0 ≡ k
then_granted k = go (eqb k 0) refl
  where
    go : (t : Bool) → eqb k 0 ≡ t → then k 0 ≡ k
    go true e = rw e (sym (eqb-true k 0 e))
    go false e = rw e

-- ---- The board: by what is checked before the call is made

module _ (r : BoardRights) (p : Role) (b : Board) (x : Call) (l : Lent) where
  -- nothing refuses it: it is the board's call
  pub passed_answer : eqb (guard_refusal r p b x l) 0 ≡ true → guarded_answer r p b x l ≡ shown r p (calls.answer b x l)
  unfolding guarded_answer
  passed_answer e = rw e

  pub passed_board : eqb (guard_refusal r p b x l) 0 ≡ true → guarded_after r p b x l ≡ calls.after b x l
  unfolding guarded_after
  passed_board e = rw e

  -- it is refused: nothing changes
  pub stopped_answer : eqb (guard_refusal r p b x l) 0 ≡ false → guarded_answer r p b x l ≡ refused_by (guard_refusal r p b x l)
  unfolding guarded_answer
  stopped_answer e = rw e

  pub stopped_board : eqb (guard_refusal r p b x l) 0 ≡ false → guarded_after r p b x l ≡ b
  unfolding guarded_after
  stopped_board e = rw e

module _ (r : BoardRights) (p : Role) (b : Board) (x : Call) where
  pub passed_words : (s : List ℕ) → eqb (guard_refusal r p b x (words s)) 0 ≡ true → guarded_words r p b x s ≡ calls.words_after b x s
  unfolding guarded_words
  passed_words s e = rw e

  pub stopped_words : (s : List ℕ) → eqb (guard_refusal r p b x (words s)) 0 ≡ false → guarded_words r p b x s ≡ s
  unfolding guarded_words
  stopped_words s e = rw e

  pub passed_lent : (l : Lent) → eqb (guard_refusal r p b x l) 0 ≡ true → guarded_lent_after r p b x l ≡ calls.lent_after b x l
  passed_lent none e = refl
  passed_lent (words s) e = ap words (passed_words s e)
  passed_lent (buffers s t) e = refl

  pub stopped_lent : (l : Lent) → eqb (guard_refusal r p b x l) 0 ≡ false → guarded_lent_after r p b x l ≡ l
  stopped_lent none e = refl
  stopped_lent (words s) e = ap words (stopped_words s e)
  stopped_lent (buffers s t) e = refl

-- what is shown is refused where the answer is
pub shown_refuses : (r : BoardRights) (p : Role) (s : BoardAnswer) → refuses (shown r p s) ≡ refuses s
shown_refuses r p (one a) = refl
shown_refuses r p (each f g h k) = refl

-- ---- By whether it is denied

module _ (r : BoardRights) (p : Role) (b : Board) (x : Call) (l : Lent) where
  guard_denied : denied r p x ≡ true → guard_refusal r p b x l ≡ then (earlier_on b x l) permission_denied
  unfolding guard_refusal
  guard_denied d = rw d

  guard_granted : denied r p x ≡ false → guard_refusal r p b x l ≡ earlier_on b x l
  unfolding guard_refusal
  guard_granted d = rw d (then_granted (earlier_on b x l))

  pub denied_stops : denied r p x ≡ true → eqb (guard_refusal r p b x l) 0 ≡ false
  denied_stops d = ap (λ (k : ℕ). eqb k 0) (guard_denied d) ∙ then_denied (earlier_on b x l)

  -- what it names is none that there is
  pub target_stops : eqb (target_refusal x) 0 ≡ false → eqb (guard_refusal r p b x l) 0 ≡ false
  unfolding guard_refusal
  target_stops h = then_first (earlier_on b x l) (cond (denied r p x) permission_denied 0)
      (then_refuses (lent_refusal b.n b.m (calls.lending x) (length (calls.first l)) (length (calls.second l))) (target_refusal x) h)

  pub answer_denied : denied r p x ≡ true → guarded_answer r p b x l ≡ refused_by (then (earlier_on b x l) permission_denied)
  answer_denied d = stopped_answer r p b x l (denied_stops d) ∙ ap refused_by (guard_denied d)

  -- granted: the board's answer, whether it is refused before the role is asked or not
  pub answer_granted : denied r p x ≡ false → guarded_answer r p b x l ≡ shown r p (calls.answer b x l)
  answer_granted d = go (eqb (guard_refusal r p b x l) 0) refl
    where
      go : (t : Bool) → eqb (guard_refusal r p b x l) 0 ≡ t → guarded_answer r p b x l ≡ shown r p (calls.answer b x l)
      go true e = passed_answer r p b x l e
      go false e =
          stopped_answer r p b x l e
          ∙ ap refused_by (guard_granted d)
          ∙ sym (ap (shown r p) (earlier_first b x l (ap (λ (k : ℕ). eqb k 0) (sym (guard_granted d)) ∙ e)))

  -- so is what is refused before the role is asked
  pub earlier_refused : denied r p x ≡ false → eqb (guard_refusal r p b x l) 0 ≡ false → calls.refused b x l ≡ true
  earlier_refused d e = ap refuses (earlier_first b x l (ap (λ (k : ℕ). eqb k 0) (sym (guard_granted d)) ∙ e))

  pub board_granted : denied r p x ≡ false → guarded_after r p b x l ≡ calls.after b x l
  board_granted d = go (eqb (guard_refusal r p b x l) 0) refl
    where
      go : (t : Bool) → eqb (guard_refusal r p b x l) 0 ≡ t → guarded_after r p b x l ≡ calls.after b x l
      go true e = passed_board r p b x l e
      go false e = stopped_board r p b x l e ∙ sym (refused_changes_nothing b x l (earlier_refused d e)).0

  pub lent_granted : denied r p x ≡ false → guarded_lent_after r p b x l ≡ calls.lent_after b x l
  lent_granted d = go (eqb (guard_refusal r p b x l) 0) refl
    where
      go : (t : Bool) → eqb (guard_refusal r p b x l) 0 ≡ t → guarded_lent_after r p b x l ≡ calls.lent_after b x l
      go true e = passed_lent r p b x l e
      go false e = stopped_lent r p b x l e ∙ sym (refused_changes_nothing b x l (earlier_refused d e)).1

unguarded : (r : BoardRights) (p : Role) (b : Board) (x : Call) (l : Lent) → denied r p x ≡ false → Unguarded r p b x l
unguarded r p b x l d =
    record { answers = answer_granted r p b x l d; board = board_granted r p b x l d; lent = lent_granted r p b x l d }

-- ---- 13 exactly

-- the number of a refusal that is shown
shown_refusal : (r : BoardRights) (p : Role) (s : BoardAnswer) → refusal_on (shown r p s) ≡ refusal_on s
shown_refusal r p (one a) = refl
shown_refusal r p (each f g h k) = refl

-- what comes before 13 is not 13
abbrev Other : ℕ → Type 0
Other k = eqb k permission_denied ≡ false

unmapped_other : (a : Option Access) → Other (unmapped_refusal a)
unmapped_other None = refl
unmapped_other (Some access.ReadOnly) = refl
unmapped_other (Some access.WriteOnly) = refl
unmapped_other (Some access.ReadWrite) = refl

address_other : (n : Named) → Other (address_refusal n)
address_other (main o) = unmapped_other (main_access o)
address_other (channel d o) = unmapped_other (channel_access o)
address_other nothing = refl

channel_other : (d : ℕ) → Other (channel_refusal d)
channel_other d = either Other (no_channel d) refl refl

target_other : (x : Call) → Other (target_refusal x)
target_other (write_register a v) = address_other (named a)
target_other (read_register a) = address_other (named a)
target_other (write_setpoint d u f i y) = channel_other d
target_other (arm d) = channel_other d
target_other (disarm d) = channel_other d
target_other (open_download d) = channel_other d
target_other (reply d f) = channel_other d
target_other (query d q) = channel_other d
target_other tick = refl
target_other (event y) = refl
target_other (change_user u) = refl
target_other interrupt_level = refl

lent_other : (n m : ℕ) (x : Lending) (k j : ℕ) → Other (lent_refusal n m x k j)
lent_other n m calls.lends_nothing k j = refl
lent_other n m calls.lends_setpoints k j = either Other (eqb k (n * 64)) refl refl
lent_other n m calls.lends_readbacks k j = either Other (eqb k (m * 8)) refl refl
lent_other n m (calls.lends_buffers d) k j = either Other (eqb k m) (either Other (eqb j m) refl refl) refl

earlier_other : (b : Board) (x : Call) (l : Lent) → Other (earlier_on b x l)
earlier_other b x l =
    either Other (eqb (lent_refusal b.n b.m (calls.lending x) (length (calls.first l)) (length (calls.second l))) 0) (target_other x)
    (lent_other b.n b.m (calls.lending x) (length (calls.first l)) (length (calls.second l)))

module _ (r : BoardRights) (p : Role) (b : Board) (x : Call) (l : Lent) where
  first_answer : eqb (earlier_on b x l) 0 ≡ false → guarded_answer r p b x l ≡ refused_by (earlier_on b x l)
  first_answer e = go (denied r p x) refl
    where
      go : (t : Bool) → denied r p x ≡ t → guarded_answer r p b x l ≡ refused_by (earlier_on b x l)
      go true d = answer_denied r p b x l d ∙ rw e
      go false d = answer_granted r p b x l d ∙ ap (shown r p) (earlier_first b x l e)

  second_answer : eqb (earlier_on b x l) 0 ≡ true → denied r p x ≡ true → guarded_answer r p b x l ≡ refused_by permission_denied
  second_answer e d = answer_denied r p b x l d ∙ rw e

  exact_answer : guarded_answer r p b x l ≡ refused_by permission_denied → (eqb (earlier_on b x l) 0 ≡ true) × (denied r p x ≡ true)
  exact_answer h = go (eqb (earlier_on b x l) 0) refl (denied r p x) refl
    where
      go : (t : Bool) → eqb (earlier_on b x l) 0 ≡ t → (u : Bool) → denied r p x ≡ u
          → (eqb (earlier_on b x l) 0 ≡ true) × (denied r p x ≡ true)
      go true e true d = (e, d)
      go true e false d =
          clash (ap is_later (sym (ap refusal_on h) ∙ ap refusal_on (answer_granted r p b x l d) ∙ shown_refusal r p (calls.answer b x l))
          ∙ later_only b x l e)
      go false e u d =
          clash (sym (earlier_other b x l)
          ∙ ap (λ (s : BoardAnswer). eqb (refusal_on s) permission_denied) (sym (first_answer e) ∙ h))

pub calls_answered : CallsAnswered
calls_answered r p b x l =
    record { first = first_answer r p b x l; second = second_answer r p b x l; exactly = exact_answer r p b x l; last = unguarded r p b x l }

-- what is observed of a call that concerns the channel
pub only_same : {A : Type 0} (t : Bool) {a b : A} → t ≡ true → only t a ≡ only t b → a ≡ b
only_same true q e = cc
only_same false q e = clash q

-- ---- What a tick shows

-- a tick that is lent the setpoints is not refused
pub tick_answered : (b : Board) (l : Lent) → setpoints_fit b (length (calls.first l)) ≡ true → refuses (calls.answer b tick l) ≡ false
unfolding calls.answer tick_board_answer
tick_answered b l e = rw e

pub tick_refused : (b : Board) (l : Lent) → setpoints_fit b (length (calls.first l)) ≡ false → calls.answer b tick l ≡ one size_mismatch
unfolding calls.answer tick_board_answer
tick_refused b l e = rw e

-- the four frames of such a tick are those of its channels
pub tick_each : (r : BoardRights) (p : Role) (b : Board) (l : Lent) → setpoints_fit b (length (calls.first l)) ≡ true
    → let s = shown r p (calls.answer b tick l) in s ≡ each (answer_for 1 s) (answer_for 2 s) (answer_for 3 s) (answer_for 4 s)
unfolding calls.answer tick_board_answer
tick_each r p b l e = rw e

tick_whole : (r : BoardRights) (p : Role) (b : Board) (l : Lent) → refuses (guarded_answer r p b tick l) ≡ false
    → guarded_answer r p b tick l ≡ shown r p (calls.answer b tick l)
tick_whole r p b l h = go (eqb (guard_refusal r p b tick l) 0) refl
  where
    go : (t : Bool) → eqb (guard_refusal r p b tick l) 0 ≡ t → guarded_answer r p b tick l ≡ shown r p (calls.answer b tick l)
    go true e = passed_answer r p b tick l e
    go false e = clash (sym h ∙ ap refuses (stopped_answer r p b tick l e))

-- of a tick that is not refused, what is shown of channel c
pub frame_shown : (r : BoardRights) (p : Role) (b : Board) (l : Lent) (c : ℕ) → Number c → refuses (calls.answer b tick l) ≡ false
    → answer_for c (shown r p (calls.answer b tick l)) ≡ shown_frame (rights_at r c) p (answer_for c (calls.answer b tick l))
unfolding calls.answer tick_board_answer
frame_shown r p b l c n h = go (setpoints_fit b (length (calls.first l))) refl
  where
    go : (t : Bool) → setpoints_fit b (length (calls.first l)) ≡ t
        → answer_for c (shown r p (calls.answer b tick l)) ≡ shown_frame (rights_at r c) p (answer_for c (calls.answer b tick l))
    go true e =
        rw e
        (of_four_lem (λ (d : ℕ). shown_frame (rights_at r d) p (tick_frame b (calls.first l) d)) c n
        ∙ ap (shown_frame (rights_at r c) p) (sym (of_four_lem (tick_frame b (calls.first l)) c n)))
    go false e = clash (sym (rw e at h))

pub ticks_shown : TicksShown
ticks_shown r p b l h c low high =
    let n : Number c = record { low = low; high = high } in
    let w = tick_whole r p b l h in
    let q = ap (answer_for c) w ∙ frame_shown r p b l c n (sym (ap refuses w ∙ shown_refuses r p (calls.answer b tick l)) ∙ h) in
    record {
      seen = λ t. q ∙ ap (λ (u : Bool). cond u (answer_for c (calls.answer b tick l)) ans.none) t;
      unseen = λ t. q ∙ ap (λ (u : Bool). cond u (answer_for c (calls.answer b tick l)) ans.none) t;
    }

-- ---- A step of the world

module _ (r : BoardRights) (w : World) (i : Request) where
  pub step_stopped : eqb (guard_refusal r i.role w.board i.item.call i.item.lent) 0 ≡ false → guarded_step r w i ≡ w
  unfolding guarded_step
  step_stopped e =
      rw (stopped_answer r i.role w.board i.item.call i.item.lent e, stopped_board r i.role w.board i.item.call i.item.lent e)

  pub step_denied : denied r i.role i.item.call ≡ true → guarded_step r w i ≡ w
  step_denied d = step_stopped (denied_stops r i.role w.board i.item.call i.item.lent d)

  pub step_granted : denied r i.role i.item.call ≡ false → guarded_step r w i ≡ step w i.item
  unfolding guarded_step step
  step_granted d =
      rw (
        answer_granted r i.role w.board i.item.call i.item.lent d,
        board_granted r i.role w.board i.item.call i.item.lent d,
        lent_granted r i.role w.board i.item.call i.item.lent d,
        shown_refuses r i.role (calls.answer w.board i.item.call i.item.lent),
      )

-- ---- One channel

module _ (r : ChannelRights) (p : Role) (o : OneChannel) (k : ChannelCall) where
  abbrev asked : ChannelRequest
  asked = record { role = p; call = k }

  refusal_denied : denied_to r p k ≡ true → guarded_refusal r o asked ≡ then (earlier_to o k) permission_denied
  unfolding guarded_refusal
  refusal_denied d = rw (d, then_denied (earlier_to o k))

  refused_denied : denied_to r p k ≡ true → eqb (guarded_refusal r o asked) 0 ≡ false
  refused_denied d = ap (λ (q : ℕ). eqb q 0) (refusal_denied d) ∙ then_denied (earlier_to o k)

  refusal_granted : denied_to r p k ≡ false → guarded_refusal r o asked ≡ refusal_of o k
  unfolding guarded_refusal
  refusal_granted d = rw (d, then_granted (earlier_to o k)) (go (eqb (earlier_to o k) 0) refl)
    where
      go : (t : Bool) → eqb (earlier_to o k) 0 ≡ t → then (earlier_to o k) (refusal_of o k) ≡ refusal_of o k
      go true e = rw e
      go false e = rw e (sym (earlier_alone o k e))

  pub response_denied : denied_to r p k ≡ true → guarded_response r o asked ≡ ans.refused (then (earlier_to o k) permission_denied)
  unfolding guarded_response
  response_denied d = rw (refused_denied d) (ap ans.refused (refusal_denied d))

  pub response_granted : denied_to r p k ≡ false → guarded_response r o asked ≡ unless (refusal_of o k) (shown_to r p k (to.answer o k))
  unfolding guarded_response
  response_granted d = rw (refusal_granted d)

  pub transition_denied : denied_to r p k ≡ true → guarded_transition r o asked ≡ o
  unfolding guarded_transition
  transition_denied d = rw (refused_denied d)

  pub transition_granted : denied_to r p k ≡ false → guarded_transition r o asked ≡ transition o k
  unfolding guarded_transition transition
  transition_granted d = rw (refusal_granted d)

pub granted_alone : GrantedAlone
granted_alone r o k d = (response_granted r k.role o k.call d, transition_granted r k.role o k.call d)

-- a read that clears nothing
either_false : (s t : Bool) → s || t ≡ false → (s ≡ false) × (t ≡ false)
either_false true t e = clash (sym e)
either_false false t e = (refl, e)

pub other_reads_leave : OtherReadsLeave
unfolding transition effect read_effect
other_reads_leave o x h =
    let a = either_false (eqb x 0x02) _ h in
    let b = either_false (eqb x 0x04) _ a.1 in
    either (λ (u : OneChannel). u ≡ o) (eqb (refusal_of o (to.read_register x)) 0) (rw (a.0, b.0, b.1)) refl

-- ---- The examiner

examiner_write : (r : BoardRights) (n : Named) → denied_write r role.Examiner n ≡ false
examiner_write r (main o) = refl
examiner_write r (channel d o) = refl
examiner_write r nothing = refl

examiner_read : (r : BoardRights) (n : Named) → denied_read r role.Examiner n ≡ false
examiner_read r (main o) = refl
examiner_read r (channel d o) = refl
examiner_read r nothing = refl

pub examiner_granted : (r : BoardRights) (x : Call) → denied r role.Examiner x ≡ false
examiner_granted r (write_register a v) = examiner_write r (named a)
examiner_granted r (read_register a) = examiner_read r (named a)
examiner_granted r (write_setpoint d u f i y) = refl
examiner_granted r (arm d) = refl
examiner_granted r (disarm d) = refl
examiner_granted r (open_download d) = refl
examiner_granted r (reply d f) = refl
examiner_granted r (query d q) = refl
examiner_granted r tick = refl
examiner_granted r (event y) = refl
examiner_granted r (change_user u) = refl
examiner_granted r interrupt_level = refl

examiner_shown : (r : BoardRights) (s : BoardAnswer) → shown r role.Examiner s ≡ s
examiner_shown r (one a) = refl
examiner_shown r (each f g h k) = refl

pub examiner_unguarded : ExaminerUnguarded
examiner_unguarded r b x l =
    let u = unguarded r role.Examiner b x l (examiner_granted r x) in
    (u, u.answers ∙ examiner_shown r (calls.answer b x l))

examiner_to : (r : ChannelRights) (k : ChannelCall) → denied_to r role.Examiner k ≡ false
examiner_to r (to.write_register l o v) = refl
examiner_to r (to.read_register o) = refl
examiner_to r (to.write_setpoint l u b i y) = refl
examiner_to r to.arm = refl
examiner_to r to.disarm = refl
examiner_to r to.open_download = refl
examiner_to r (to.reply l f) = refl
examiner_to r (to.query q k j) = refl
examiner_to r (to.tick l) = refl
examiner_to r (to.event l y) = refl
examiner_to r (to.change_user u) = refl
examiner_to r (to.write_main l o v) = refl
examiner_to r (to.read_main o) = refl

shown_alone : (r : ChannelRights) (k : ChannelCall) (a : Answer) → shown_to r role.Examiner k a ≡ a
shown_alone r (to.write_register l o v) a = refl
shown_alone r (to.read_register o) a = refl
shown_alone r (to.write_setpoint l u b i y) a = refl
shown_alone r to.arm a = refl
shown_alone r to.disarm a = refl
shown_alone r to.open_download a = refl
shown_alone r (to.reply l f) a = refl
shown_alone r (to.query q k j) a = refl
shown_alone r (to.tick l) a = refl
shown_alone r (to.event l y) a = refl
shown_alone r (to.change_user u) a = refl
shown_alone r (to.write_main l o v) a = refl
shown_alone r (to.read_main o) a = refl

pub examiner_alone : ExaminerAlone
unfolding response
examiner_alone r o k = (
  response_granted r role.Examiner o k (examiner_to r k) ∙ ap (unless (refusal_of o k)) (shown_alone r k (to.answer o k)),
  transition_granted r role.Examiner o k (examiner_to r k),
)
