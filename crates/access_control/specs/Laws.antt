-- Document 02, card 9: what stands beside the definitions, on any board and lent anything. Proofs: proofs/Earlier.antt, Later, Laws, and of lists Granted.
use Rattle.std.specs.Prelude.{ℕ, ◌≤◌, ◌≡◌, Bool, true, false, ◌||◌, List, [], ◌∷◌, eqb}
use Rattle.channel_core.specs.Answers.{Answer, unless}
use Rattle.channel_core.specs.Answers as ans
use Rattle.channel.specs.OneChannel.{OneChannel, ChannelCall, read_register, refusal_of, transition, response}
use Rattle.channel.specs.OneChannel as to
use Rattle.permissions.specs.declared.Role.{Role}
use Rattle.permissions.specs.declared.Role.TheVariants as role
use Rattle.permissions.specs.declared.ChannelRights.{ChannelRights}
use Rattle.permissions.specs.declared.BoardRights.{BoardRights}
use Rattle.permissions.specs.Rights.{clears, rights_at, may_read}
use Rattle.board_state.specs.declared.Board.{Board}
use Rattle.board.specs.Answers.{BoardAnswer, one, each, refuses}
use Rattle.board.specs.Worlds.{World}
use Rattle.isolation.specs.Calls.{Call, tick, Lent, Item, answer, after, lent_after, step, Allowed, world_after}
use Rattle.isolation.specs.Feeding.{answer_for}
use Rattle.access_control.specs.declared.GuardedBoard.{GuardedBoard}
use Rattle.access_control.specs.Guarding.{Request, denied, earlier_on, permission_denied, refused_by, shown, guarded_answer, guarded_after, guarded_lent_after, board_after, answer_in, guarded_step, GuardedAllowed, guarded_world_after}
use Rattle.access_control.specs.OneChannel.{ChannelRequest, denied_to, earlier_to, shown_to, guarded_transition, guarded_response}

-- ---- What 13 comes between

-- what is refused before the role is asked is refused so by the call itself: on the board, and by one channel alone
abbrev pub EarlierFirst : Type 0
EarlierFirst =
    (b : Board) (x : Call) (l : Lent) → eqb (earlier_on b x l) 0 ≡ false → answer b x l ≡ refused_by (earlier_on b x l)

abbrev pub EarlierAlone : Type 0
EarlierAlone =
    (o : OneChannel) (k : ChannelCall) → eqb (earlier_to o k) 0 ≡ false → refusal_of o k ≡ earlier_to o k

-- "before all else": these, of which 2 is that of a user, a buffer, an index or a range; or none
abbrev pub is_later : ℕ → Bool
is_later k = eqb k 0 || (eqb k 2 || (eqb k 4 || (eqb k 5 || (eqb k 6 || (eqb k 7 || (eqb k 10 || eqb k 12))))))

-- of an answer
abbrev pub refusal_in : Answer → ℕ
refusal_in (ans.refused k) = k
refusal_in (ans.value v) = 0
refusal_in (ans.frame f) = 0
refusal_in ans.kept = 0
refusal_in ans.lost = 0
refusal_in (ans.part s) = 0
refusal_in (ans.other r) = 0

abbrev pub refusal_on : BoardAnswer → ℕ
refusal_on (one a) = refusal_in a
refusal_on (each f g h k) = 0

-- once 1, 3 and the channel have passed, one of these is all that the call itself can be refused with
abbrev pub LaterOnly : Type 0
LaterOnly = (b : Board) (x : Call) (l : Lent) → eqb (earlier_on b x l) 0 ≡ true → is_later (refusal_on (answer b x l)) ≡ true

abbrev pub LaterAlone : Type 0
LaterAlone = (o : OneChannel) (k : ChannelCall) → eqb (earlier_to o k) 0 ≡ true → is_later (refusal_of o k) ≡ true

-- ---- What a call answers and does

-- a call that its role may make is the board's own: its answer, but for frames that are not shown, the board after it and what it was lent
pub record Unguarded (r : BoardRights) (p : Role) (b : Board) (x : Call) (l : Lent) : Type 0 where
  pub answers : guarded_answer r p b x l ≡ shown r p (answer b x l)
  pub board : guarded_after r p b x l ≡ after b x l
  pub lent : guarded_lent_after r p b x l ≡ lent_after b x l

-- refused as without roles by what comes first; else 13, and this exactly where the right is missing; else it is the board's call
pub record Answered (r : BoardRights) (p : Role) (b : Board) (x : Call) (l : Lent) : Type 0 where
  pub first : eqb (earlier_on b x l) 0 ≡ false → guarded_answer r p b x l ≡ refused_by (earlier_on b x l)
  pub second : eqb (earlier_on b x l) 0 ≡ true → denied r p x ≡ true → guarded_answer r p b x l ≡ refused_by permission_denied
  pub exactly : guarded_answer r p b x l ≡ refused_by permission_denied → (eqb (earlier_on b x l) 0 ≡ true) × (denied r p x ≡ true)
  pub last : denied r p x ≡ false → Unguarded r p b x l

abbrev pub CallsAnswered : Type 0
CallsAnswered = (r : BoardRights) (p : Role) (b : Board) (x : Call) (l : Lent) → Answered r p b x l

-- no call changes the rights
abbrev pub RightsKept : Type 0
RightsKept = (g : GuardedBoard) (p : Role) (x : Call) (l : Lent) → (board_after g p x l).rights ≡ g.rights

-- "a tick's answer shows a seat only channels it may read": of these what the board's tick answers, of the others none
pub record TickShows (r : BoardRights) (p : Role) (b : Board) (l : Lent) (c : ℕ) : Type 0 where
  pub seen : may_read (rights_at r c) p ≡ true → answer_for c (guarded_answer r p b tick l) ≡ answer_for c (answer b tick l)
  pub unseen : may_read (rights_at r c) p ≡ false → answer_for c (guarded_answer r p b tick l) ≡ ans.none

abbrev pub TicksShown : Type 0
TicksShown =
    (r : BoardRights) (p : Role) (b : Board) (l : Lent) → refuses (guarded_answer r p b tick l) ≡ false
    → (c : ℕ) → 1 ≤ c → c ≤ 4 → TickShows r p b l c

-- and of one channel: a call that its role may make is the channel's own. A tick moves it as any tick does: "a frame that a tick doesn't show still
-- counts as sent"
abbrev pub GrantedAlone : Type 0
GrantedAlone =
    (r : ChannelRights) (o : OneChannel) (k : ChannelRequest) → denied_to r k.role k.call ≡ false
    → (guarded_response r o k ≡ unless (refusal_of o k.call) (shown_to r k.role k.call (to.answer o k.call)))
    × (guarded_transition r o k ≡ transition o k.call)

-- "reading 02, 04 or 0C needs both, as it clears": a read of any other register changes nothing
abbrev pub OtherReadsLeave : Type 0
OtherReadsLeave = (o : OneChannel) (offset : ℕ) → clears offset ≡ false → transition o (read_register offset) ≡ o

-- ---- "The examiner has all."

-- whatever the rights, every call of the examiner's is the board's own, and shown whole
abbrev pub ExaminerUnguarded : Type 0
ExaminerUnguarded =
    (r : BoardRights) (b : Board) (x : Call) (l : Lent)
    → Unguarded r role.Examiner b x l × (guarded_answer r role.Examiner b x l ≡ answer b x l)

abbrev pub ExaminerAlone : Type 0
ExaminerAlone =
    (r : ChannelRights) (o : OneChannel) (k : ChannelCall)
    → let q : ChannelRequest = record { role = role.Examiner; call = k } in
    (guarded_response r o q ≡ response o k) × (guarded_transition r o q ≡ transition o k)

-- so a list of the examiner's calls is a list of the board's: it is allowed where that is, answers the same, and leads to the same world
abbrev pub by_examiner : List Item → List Request
by_examiner [] = []
by_examiner (i ∷ is) = record { role = role.Examiner; item = i } ∷ by_examiner is

-- the answers along a list, without roles and by role
abbrev pub answers_along : World → List Item → List BoardAnswer
answers_along w [] = []
answers_along w (i ∷ is) = answer w.board i.call i.lent ∷ answers_along (step w i) is

abbrev pub guarded_answers : BoardRights → World → List Request → List BoardAnswer
guarded_answers r w [] = []
guarded_answers r w (i ∷ is) = answer_in r w i ∷ guarded_answers r (guarded_step r w i) is

pub record ExaminerList (r : BoardRights) (w : World) (xs : List Item) : Type 0 where
  pub allowed : Allowed w xs → GuardedAllowed r w (by_examiner xs)
  pub answers : guarded_answers r w (by_examiner xs) ≡ answers_along w xs
  pub ends : guarded_world_after r w (by_examiner xs) ≡ world_after w xs

abbrev pub ExaminerLists : Type 0
ExaminerLists = (r : BoardRights) (w : World) (xs : List Item) → ExaminerList r w xs
