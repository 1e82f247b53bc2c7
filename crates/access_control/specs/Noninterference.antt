-- Document 02, card 9: "two sittings alike in all but calls naming channels a seat can't read give that seat the same answers to its shared calls and its
-- calls naming channels it may read, where rights, depths, opening words and shared calls are the same and both sittings meet demand 3's premises".
-- A sitting is a list of calls by role from an opening. Proofs: proofs/Noninterference.antt, and of lists that it speaks of Examples.
use Rattle.std.specs.Prelude.{ℕ, ◌≤◌, ◌≡◌, Bool, true, false, not, ◌&&◌, List, [], ◌∷◌, ◌++◌, length}
use Rattle.channel_core.specs.Answers as ans
use Rattle.permissions.specs.declared.Role.{Role}
use Rattle.permissions.specs.declared.Role.TheVariants as role
use Rattle.permissions.specs.declared.BoardRights.{BoardRights}
use Rattle.permissions.specs.Rights.{rights_at, may_read, is_examiner}
use Rattle.board_state.specs.Checks.{no_channel}
use Rattle.board.specs.Answers.{BoardAnswer}
use Rattle.board.specs.Calls.{open_answer}
use Rattle.board.specs.Worlds.{World}
use Rattle.isolation.specs.Calls.{Call, arm, tick, none, words, lengths, opening}
use Rattle.isolation.specs.Feeding.{only, Scope, of_one, of_each, of_main, of_all, of_none, scope, view}
use Rattle.access_control.specs.Guarding.{Request, answer_in, guarded_step, GuardedAllowed, guarded_world_after}

-- whether a number is that of a channel that the role may read
abbrev pub readable : BoardRights → Role → (number : ℕ) → Bool
readable r p number = not (no_channel number) && may_read (rights_at r number) p

-- whether a call names a channel that the role can't read, or a number that is no channel's
abbrev pub hidden_in : BoardRights → Role → Scope → Bool
hidden_in r p (of_one number) = not (readable r p number)
hidden_in r p of_each = false
hidden_in r p (of_main offset) = false
hidden_in r p of_all = false
hidden_in r p of_none = false

abbrev pub hidden : BoardRights → Role → Call → Bool
hidden r p x = hidden_in r p (scope x)

-- what of a call is compared: who makes it, its arguments and the lengths that it is lent. (The words are not: a tick is lent hidden channels' words too.)
pub record Outline : Type 0 where
  pub role : Role
  pub call : Call
  pub lent : List ℕ

abbrev pub outline : Request → Outline
outline i = record { role = i.role; call = i.item.call; lent = lengths i.item.lent }

-- a list with the hidden calls taken out, whoever made them
abbrev pub purged : BoardRights → Role → List Request → List Outline
purged r p [] = []
purged r p (i ∷ is) = only (not (hidden r p i.item.call)) (outline i) ++ purged r p is

abbrev pub same_role : Role → Role → Bool
same_role role.Examiner role.Examiner = true
same_role role.Examiner role.Candidate = false
same_role role.Examiner role.Watcher = false
same_role role.Candidate role.Examiner = false
same_role role.Candidate role.Candidate = true
same_role role.Candidate role.Watcher = false
same_role role.Watcher role.Examiner = false
same_role role.Watcher role.Candidate = false
same_role role.Watcher role.Watcher = true

-- the role's answers, in order: to its shared calls, its calls naming channels it may read, and its register calls from 2800h up, which name none
abbrev pub answers_to : BoardRights → Role → World → List Request → List BoardAnswer
answers_to r p w [] = []
answers_to r p w (i ∷ is) =
    only (same_role p i.role && not (hidden r p i.item.call)) (answer_in r w i) ++ answers_to r p (guarded_step r w i) is

pub record SameToRole (r : BoardRights) (p : Role) (w w' : World) (xs ys : List Request) : Type 0 where
  pub answers : answers_to r p w xs ≡ answers_to r p w' ys
  -- and every channel that it may read is at the end the same; to the examiner the whole board is, and its memory
  pub ends : (c : ℕ) → 1 ≤ c → c ≤ 4 → may_read (rights_at r c) p ≡ true
      → view c (guarded_world_after r w xs) ≡ view c (guarded_world_after r w' ys)
  pub whole : is_examiner p ≡ true → guarded_world_after r w xs ≡ guarded_world_after r w' ys

-- THE CLAIM
abbrev pub Noninterference : Type 0
Noninterference =
    (r : BoardRights) (p : Role) (n m : ℕ) (s t : List ℕ)
    → open_answer n m (length s) (length t) ≡ ans.done
    → (xs ys : List Request) → GuardedAllowed r (opening n m s t) xs → GuardedAllowed r (opening n m s t) ys
    → purged r p xs ≡ purged r p ys
    → SameToRole r p (opening n m s t) (opening n m s t) xs ys

-- there are such lists: in one of them the examiner arms channel 1, which the role can't read; the watcher's tick is refused and may be lent any words
abbrev pub arming : Request
arming = record { role = role.Examiner; item = record { call = arm 1; lent = none } }

abbrev pub tick_by : Role → List ℕ → Request
tick_by q s = record { role = q; item = record { call = tick; lent = words s } }

abbrev pub NotVacuous : Type 0
NotVacuous =
    (r : BoardRights) (p : Role) → may_read (rights_at r 1) p ≡ false
    → (n m : ℕ) (s t foreign : List ℕ)
    → let ys : List Request = tick_by role.Watcher foreign ∷ (tick_by role.Examiner s ∷ []) in
    GuardedAllowed r (opening n m s t) (arming ∷ ys)
    × GuardedAllowed r (opening n m s t) ys
    × (purged r p (arming ∷ ys) ≡ purged r p ys)
