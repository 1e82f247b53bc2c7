-- A hidden call names a channel that the role can't read, or none of the four; one that is not, where it names a channel, one that it may. Assumes nothing.
use Prim.Native.Nat.{ℕ}
use mathlib.Core.Path.{◌≡◌, refl, sym, ap, ◌∙◌}
use mathlib.Core.Bool.{Bool, true, false, not, ◌&&◌}
use lib.Dec.{eqb}
use borrow.Author.Tests.{eqb-true, eq-eqb, not-true, not-false}
use Rattle.address_map.specs.Addresses.{Named, named, main, channel, nothing}
use Rattle.channel.proofs.Cases.{clash}
use Rattle.permissions.specs.declared.Role.{Role}
use Rattle.permissions.specs.declared.Role.TheVariants as role
use Rattle.permissions.specs.declared.ChannelRights.{ChannelRights}
use Rattle.permissions.specs.declared.BoardRights.{BoardRights}
use Rattle.permissions.specs.Rights.{rights_at, may_read, is_examiner}
use Rattle.board_state.specs.Checks.{no_channel}
use Rattle.isolation.specs.Calls.{Call, write_register, read_register, write_setpoint, arm, disarm, open_download, reply, query, tick, event, change_user, interrupt_level}
use Rattle.isolation.specs.Feeding.{Scope, of_one, of_each, of_main, of_all, of_none, scope, names}
use Rattle.isolation.proofs.Parts.{Number}
use Rattle.isolation.proofs.Cases.{in_range, range_in, named_number}
use Rattle.board.specs.Worlds.{World}
use Rattle.access_control.specs.Guarding.{Request, channel_refusal, target_refusal, guarded_step}
use Rattle.access_control.specs.Noninterference.{readable, hidden_in, hidden, same_role}
use Rattle.access_control.proofs.Laws.{target_stops, step_stopped}

both : (s t : Bool) → s && t ≡ true → (s ≡ true) × (t ≡ true)
both true t e = (refl, e)
both false t e = clash e

-- a channel that the role may read
pub record Reads (r : BoardRights) (p : Role) (d : ℕ) : Type 0 where
  pub number : Number d
  pub may : may_read (rights_at r d) p ≡ true

reads : (r : BoardRights) (p : Role) (d : ℕ) → readable r p d ≡ true → Reads r p d
reads r p d e =
    let q = both (not (no_channel d)) (may_read (rights_at r d) p) e in
    record { number = range_in d (not-true (no_channel d) q.0); may = q.1 }

-- ---- The channel that a hidden call names

module _ (r : BoardRights) (p : Role) (x : Call) where
  pub record Hides : Type 0 where
    pub number : ℕ
    pub scoped : scope x ≡ of_one number
    pub unread : readable r p number ≡ false

  pub hides : hidden r p x ≡ true → Hides
  hides e = go (scope x) refl e
    where
      go : (s : Scope) → scope x ≡ s → hidden_in r p s ≡ true → Hides
      go (of_one d) q t = record { number = d; scoped = q; unread = not-true _ t }
      go of_each q t = clash t
      go (of_main o) q t = clash t
      go of_all q t = clash t
      go of_none q t = clash t

  -- it is named
  pub hidden_named : (h : Hides) → names x h.number ≡ true
  hidden_named h = rw h.scoped (eq-eqb h.number h.number refl)

  -- and is not one that the role may read
  pub hidden_other : (h : Hides) (c : ℕ) → Number c → may_read (rights_at r c) p ≡ true → c ≡ h.number → ⊥
  hidden_other h c n t q =
      clash (sym h.unread ∙ ap (readable r p) (sym q) ∙ ap (λ (b : Bool). not b && may_read (rights_at r c) p) (in_range c n) ∙ t)

  -- a call that is not hidden names one that it may
  pub shown_read : hidden r p x ≡ false → (d : ℕ) → scope x ≡ of_one d → Reads r p d
  shown_read e d q = reads r p d (not-false (readable r p d) (sym (ap (hidden_in r p) q) ∙ e))

-- ---- The examiner: what is hidden names no channel, and is refused

pub examiner_reads : (r : ChannelRights) (p : Role) → is_examiner p ≡ true → may_read r p ≡ true
examiner_reads r role.Examiner e = refl
examiner_reads r role.Candidate e = clash e
examiner_reads r role.Watcher e = clash e

-- to the examiner every channel is readable
no_channel_lem : (r : BoardRights) (p : Role) → is_examiner p ≡ true → (d : ℕ) → readable r p d ≡ false → no_channel d ≡ true
no_channel_lem r p e d u = go (no_channel d) refl
  where
    go : (t : Bool) → no_channel d ≡ t → t ≡ true
    go true q = refl
    go false q =
        clash (sym u ∙ ap (λ (b : Bool). not b && may_read (rights_at r d) p) q ∙ examiner_reads (rights_at r d) p e)

-- a call that names a number that is no channel's is refused before the role is asked; an address names one of the four
module _ (d : ℕ) (t : no_channel d ≡ true) where
  by_number : (e : ℕ) → eqb e d ≡ true → eqb (channel_refusal e) 0 ≡ false
  by_number e q = rw (eqb-true e d q, t)

  by_address : (a e o : ℕ) {A : Type 0} → named a ≡ channel e o → eqb e d ≡ true → A
  by_address a e o n q = clash (sym (in_range e (named_number a e o n)) ∙ ap no_channel (eqb-true e d q) ∙ t)

  target_refused : (x : Call) → names x d ≡ true → eqb (target_refusal x) 0 ≡ false
  target_refused (write_register a v) s = go (named a) refl
    where
      go : (n : Named) → named a ≡ n → eqb (target_refusal (write_register a v)) 0 ≡ false
      go (main o) q = clash (rw q at s)
      go (channel e o) q = by_address a e o q (rw q at s)
      go nothing q = clash (rw q at s)
  target_refused (read_register a) s = go (named a) refl
    where
      go : (n : Named) → named a ≡ n → eqb (target_refusal (read_register a)) 0 ≡ false
      go (main o) q = clash (rw q at s)
      go (channel e o) q = by_address a e o q (rw q at s)
      go nothing q = clash (rw q at s)
  target_refused (write_setpoint e u f i y) s = by_number e s
  target_refused (arm e) s = by_number e s
  target_refused (disarm e) s = by_number e s
  target_refused (open_download e) s = by_number e s
  target_refused (reply e f) s = by_number e s
  target_refused (query e q) s = by_number e s
  target_refused tick s = clash s
  target_refused (event y) s = clash s
  target_refused (change_user u) s = clash s
  target_refused interrupt_level s = clash s

pub examiner_hidden : (r : BoardRights) (p : Role) → is_examiner p ≡ true → (w : World) (i : Request) → hidden r p i.item.call ≡ true
    → guarded_step r w i ≡ w
examiner_hidden r p e w i t =
    let h : Hides r p i.item.call = hides r p i.item.call t in
    step_stopped r w i
    (target_stops r i.role w.board i.item.call i.item.lent
    (target_refused h.number (no_channel_lem r p e h.number h.unread) i.item.call (hidden_named r p i.item.call h)))

pub same_role_lem : (p q : Role) → same_role p q ≡ true → p ≡ q
same_role_lem role.Examiner role.Examiner e = refl
same_role_lem role.Examiner role.Candidate e = clash e
same_role_lem role.Examiner role.Watcher e = clash e
same_role_lem role.Candidate role.Examiner e = clash e
same_role_lem role.Candidate role.Candidate e = refl
same_role_lem role.Candidate role.Watcher e = clash e
same_role_lem role.Watcher role.Examiner e = clash e
same_role_lem role.Watcher role.Candidate e = clash e
same_role_lem role.Watcher role.Watcher e = refl
