-- Document 02, card 9: "The one-channel definition takes the same seats and rights, and demand 3 now supposes the rights the same". Demand 3 by role, and
-- what stands beside it. Proofs: proofs/Isolation.antt and Shown; of what is refused Worlds, of what is granted Granted and GrantedFed; of the last tick
-- LastTicks.
use Rattle.std.specs.Prelude.{ℕ, ◌*◌, ◌≤◌, ◌≡◌, true, false, not, List, [], ◌∷◌, ◌++◌, length}
use Rattle.channel_core.specs.Results.{TickReason}
use Rattle.channel_core.specs.Answers.{Answer}
use Rattle.channel_core.specs.Answers as ans
use Rattle.channel.specs.OneChannel.{OneChannel, ChannelCall, transitions, responses}
use Rattle.channel.specs.OneChannel as to
use Rattle.histories.specs.LastTicks.{LastTick, last_tick_over, FirstHeld}
use Rattle.histories.specs.Ranges.{InRange}
use Rattle.permissions.specs.declared.Role.{Role}
use Rattle.permissions.specs.declared.Role.TheVariants as role
use Rattle.permissions.specs.declared.ChannelRights.{ChannelRights}
use Rattle.permissions.specs.declared.BoardRights.{BoardRights}
use Rattle.permissions.specs.Rights.{rights_at, may_read}
use Rattle.board_state.specs.declared.Board.{Board}
use Rattle.board_state.specs.Parts.{own}
use Rattle.board.specs.Answers.{one, refuses}
use Rattle.board.specs.Calls.{open_answer}
use Rattle.board.specs.Worlds.{World}
use Rattle.isolation.specs.Calls.{Call, query, Lent, none, Item, Allowed, world_after, opening}
use Rattle.isolation.specs.Feeding.{only, names, feeds, fed, observe, view}
use Rattle.isolation.specs.Isolation.{one_channel_at, Shows}
use Rattle.access_control.specs.OneChannel.{ChannelRequest, denied_to, guarded_transitions, guarded_responses}
use Rattle.access_control.specs.Guarding.{Request, denied, permission_denied, refused_by, guarded_answer, guarded_after, guarded_lent_after, answer_in, guarded_step, GuardedFits, GuardedAllowed, guarded_world_after}

-- what channel c is fed: as without roles, with the role
abbrev pub as_role : Role → List ChannelCall → List ChannelRequest
as_role p [] = []
as_role p (k ∷ ks) = record { role = p; call = k } ∷ as_role p ks

abbrev pub guarded_feeds : ℕ → Request → List ChannelRequest
guarded_feeds c i = as_role i.role (feeds c i.item)

abbrev pub guarded_fed : ℕ → List Request → List ChannelRequest
guarded_fed c [] = []
guarded_fed c (i ∷ is) = guarded_feeds c i ++ guarded_fed c is

-- what channel c observes: as without roles, of what the role is answered
abbrev pub guarded_observes : BoardRights → ℕ → World → List Request → List Answer
guarded_observes r c w [] = []
guarded_observes r c w (i ∷ is) = observe c i.item.call (answer_in r w i) ++ guarded_observes r c (guarded_step r w i) is

pub record MatchesGuardedChannel (r : BoardRights) (c : ℕ) (w : World) (xs : List Request) (o : OneChannel) : Type 0 where
  pub observed : guarded_observes r c w xs ≡ guarded_responses (rights_at r c) o (guarded_fed c xs)
  pub ends : view c (guarded_world_after r w xs) ≡ guarded_transitions (rights_at r c) o (guarded_fed c xs)

-- THE CLAIM: demand 3 by role, whatever rights the opening gave
abbrev pub GuardedIsolation : Type 0
GuardedIsolation =
    (r : BoardRights) (n m : ℕ) (s t : List ℕ)
    → open_answer n m (length s) (length t) ≡ ans.done
    → (c : ℕ) → 1 ≤ c → c ≤ 4
    → (xs : List Request) → GuardedAllowed r (opening n m s t) xs
    → MatchesGuardedChannel r c (opening n m s t) xs (one_channel_at c n m s t)

-- the same of the end, in document 01's words (`Shows`, isolation/specs/Isolation)
abbrev pub GuardedIsolationShown : Type 0
GuardedIsolationShown =
    (r : BoardRights) (n m : ℕ) (s t : List ℕ)
    → open_answer n m (length s) (length t) ≡ ans.done
    → (c : ℕ) → 1 ≤ c → c ≤ 4
    → (xs : List Request) → GuardedAllowed r (opening n m s t) xs
    → Shows n m c (guarded_world_after r (opening n m s t) xs) (guarded_transitions (rights_at r c) (one_channel_at c n m s t) (guarded_fed c xs))

-- ---- Beside it

-- a refused call, be it by 13, changes no state and no lent word: on any board, lent anything; so it leaves the world
abbrev pub RefusedChangesNothing : Type 0
RefusedChangesNothing =
    (r : BoardRights) (p : Role) (b : Board) (x : Call) (l : Lent) → refuses (guarded_answer r p b x l) ≡ true
    → (guarded_after r p b x l ≡ b) × (guarded_lent_after r p b x l ≡ l)

abbrev pub RefusedStays : Type 0
RefusedStays =
    (r : BoardRights) (w : World) (i : Request) → refuses (answer_in r w i) ≡ true → guarded_step r w i ≡ w

-- a call naming d, whoever makes it, changes nothing that another channel can see
abbrev pub OthersUntouched : Type 0
OthersUntouched =
    (r : BoardRights) (w : World) (i : Request) → GuardedFits r w i
    → (c : ℕ) → 1 ≤ c → c ≤ 4
    → (d : ℕ) → names i.item.call d ≡ true → (c ≡ d → ⊥)
    → view c (guarded_step r w i) ≡ view c w

-- nor does a call that feeds c nothing
abbrev pub UnfedUntouched : Type 0
UnfedUntouched =
    (r : BoardRights) (w : World) (i : Request) → GuardedFits r w i
    → (c : ℕ) → 1 ≤ c → c ≤ 4
    → feeds c i.item ≡ []
    → view c (guarded_step r w i) ≡ view c w

-- two allowed lists that feed c the same give it the same answers and the same end, on two boards of the same depths on which c's words and c's rights
-- are the same
abbrev pub FedTheSame : Type 0
FedTheSame =
    (r r' : BoardRights) (n m : ℕ) (s t s' t' : List ℕ)
    → open_answer n m (length s) (length t) ≡ ans.done → open_answer n m (length s') (length t') ≡ ans.done
    → (c : ℕ) → 1 ≤ c → c ≤ 4
    → rights_at r c ≡ rights_at r' c → own s (n * 16) c ≡ own s' (n * 16) c → own t (m * 2) c ≡ own t' (m * 2) c
    → (xs ys : List Request) → GuardedAllowed r (opening n m s t) xs → GuardedAllowed r' (opening n m s' t') ys
    → guarded_fed c xs ≡ guarded_fed c ys
    → (guarded_observes r c (opening n m s t) xs ≡ guarded_observes r' c (opening n m s' t') ys)
    × (view c (guarded_world_after r (opening n m s t) xs) ≡ view c (guarded_world_after r' (opening n m s' t') ys))

-- the defaults of the total definitions are never used
abbrev pub DefaultsUnused : Type 0
DefaultsUnused =
    (r : BoardRights) (n m : ℕ) (s t : List ℕ)
    → open_answer n m (length s) (length t) ≡ ans.done
    → (c : ℕ) → 1 ≤ c → c ≤ 4
    → (xs : List Request) → GuardedAllowed r (opening n m s t) xs
    → InRange (view c (guarded_world_after r (opening n m s t) xs))

-- fed the examiner's calls, a channel by itself answers what it answers without roles
abbrev pub ExaminerHistory : Type 0
ExaminerHistory =
    (r : ChannelRights) (o : OneChannel) (ks : List ChannelCall)
    → guarded_responses r o (as_role role.Examiner ks) ≡ responses o ks

-- ---- What holds without roles

-- the calls of a list that those who make them may make
abbrev pub granted : BoardRights → List Request → List Item
granted r [] = []
granted r (i ∷ is) = only (not (denied r i.role i.item.call)) i.item ++ granted r is

-- they are a list that demand 3 allows, and it ends in the same world: so the laws over such lists (isolation/specs/Isolation) hold of the calls granted
-- and of the world that the whole list leads to. What each of them is answered by role: what the board's own call answers, a tick's frames shown or not (`Unguarded`,
-- specs/Laws)
abbrev pub GrantedCalls : Type 0
GrantedCalls =
    (r : BoardRights) (w : World) (xs : List Request) → GuardedAllowed r w xs
    → Allowed w (granted r xs) × (guarded_world_after r w xs ≡ world_after w (granted r xs))

-- the other way round too: a list is allowed where the calls granted are, a call that is denied being lent anything
abbrev pub GrantedAllows : Type 0
GrantedAllows = (r : BoardRights) (w : World) (xs : List Request) → Allowed w (granted r xs) → GuardedAllowed r w xs

-- a list after another
abbrev pub GrantedAppend : Type 0
GrantedAppend = (r : BoardRights) (xs ys : List Request) → granted r (xs ++ ys) ≡ granted r xs ++ granted r ys

-- and of one channel: its state after calls by role is that after the calls granted
abbrev pub granted_to : ChannelRights → List ChannelRequest → List ChannelCall
granted_to r [] = []
granted_to r (k ∷ ks) = only (not (denied_to r k.role k.call)) k.call ++ granted_to r ks

abbrev pub GrantedHistory : Type 0
GrantedHistory =
    (r : ChannelRights) (o : OneChannel) (ks : List ChannelRequest) → guarded_transitions r o ks ≡ transitions o (granted_to r ks)

-- these are the calls that channel c is fed of those granted on the board: so what the laws tell by the calls fed to c is told by its own calls and rights
abbrev pub GrantedFed : Type 0
GrantedFed =
    (r : BoardRights) (c : ℕ) → 1 ≤ c → c ≤ 4
    → (xs : List Request) → fed c (granted r xs) ≡ granted_to (rights_at r c) (guarded_fed c xs)

-- ---- Document 02, card 10, by role

-- what a role is told of channel c's last tick, which is `t`: "The call needs the read right."; without it, 13
pub record ReportsTo (r : BoardRights) (p : Role) (c : ℕ) (w : World) (t : LastTick) : Type 0 where
  pub named : TickReason
  pub granted_answer : may_read (rights_at r c) p ≡ true → guarded_answer r p w.board (query c to.last_tick) none ≡ one (ans.last_tick named)
  pub denied_answer : may_read (rights_at r c) p ≡ false → guarded_answer r p w.board (query c to.last_tick) none ≡ refused_by permission_denied
  pub first_held : FirstHeld named t

-- from an opening with any rights, after any allowed list of calls by anybody, to any role. The last tick is one that was granted, and what the channel
-- answered to it: so a tick that is refused 13 is none, and a frame that a role is not shown was sent
abbrev pub GuardedLastTick : Type 0
GuardedLastTick =
    (r : BoardRights) (n m : ℕ) (s t : List ℕ)
    → open_answer n m (length s) (length t) ≡ ans.done
    → (c : ℕ) → 1 ≤ c → c ≤ 4
    → (xs : List Request) → GuardedAllowed r (opening n m s t) xs
    → (p : Role)
    → ReportsTo r p c (guarded_world_after r (opening n m s t) xs)
    (last_tick_over n m (own s (n * 16) c) (own t (m * 2) c) (granted_to (rights_at r c) (guarded_fed c xs)))
