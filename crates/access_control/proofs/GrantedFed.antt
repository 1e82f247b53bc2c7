-- What a channel is fed of the calls granted on the board is what is granted of the calls that it is fed. Assumes nothing.
use Prim.Native.Nat.{ℕ}
use mathlib.Core.Path.{◌≡◌, refl, sym, ap, ap₂, ◌∙◌}
use mathlib.Core.Bool.{Bool, true, false, not}
use mathlib.Core.List.{List, [], ◌∷◌, ◌++◌, append-nil}
use lib.ListN.{replicate}
use Rattle.channel.specs.OneChannel.{ChannelCall}
use Rattle.permissions.specs.declared.ChannelRights.{ChannelRights}
use Rattle.permissions.specs.declared.BoardRights.{BoardRights}
use Rattle.permissions.specs.Rights.{rights_at}
use Rattle.board.specs.Calls.{open_refusal, open_answer}
use Rattle.board.specs.Worlds.{World}
use Rattle.isolation.specs.Calls.{Item, opening}
use Rattle.isolation.specs.Feeding.{only, feeds, fed}
use Rattle.isolation.proofs.Parts.{Number}
use Rattle.isolation.proofs.Worlds.{Good}
use Rattle.isolation.proofs.Isolation.{good_opening}
use Rattle.access_control.specs.Guarding.{Request, denied}
use Rattle.access_control.specs.OneChannel.{ChannelRequest, denied_to}
use Rattle.access_control.specs.Isolation.{as_role, guarded_feeds, guarded_fed, granted, granted_to, GrantedFed}
use Rattle.access_control.proofs.Fed.{Fed, ours, theirs, fed_one}

granted_to_append : (r : ChannelRights) (ks js : List ChannelRequest) → granted_to r (ks ++ js) ≡ granted_to r ks ++ granted_to r js
granted_to_append r [] js = refl
granted_to_append r (k ∷ ks) js = go (denied_to r k.role k.call) (granted_to_append r ks js)
  where
    go : (t : Bool) → granted_to r (ks ++ js) ≡ granted_to r ks ++ granted_to r js
        → only (not t) k.call ++ granted_to r (ks ++ js) ≡ (only (not t) k.call ++ granted_to r ks) ++ granted_to r js
    go true e = e
    go false e = ap (λ (l : List ChannelCall). k.call ∷ l) e

fed_only : (c : ℕ) (t : Bool) (i : Item) (is : List Item) → fed c (only t i ++ is) ≡ fed c (only t i) ++ fed c is
fed_only c true i is = ap (λ (ks : List ChannelCall). ks ++ fed c is) (sym (append-nil (feeds c i)))
fed_only c false i is = refl

-- who may make a call does not go by the world: any will do
abbrev world : World
world = opening 1 1 (replicate 64 0) (replicate 8 0)

good : Good world
unfolding open_answer open_refusal
good = good_opening 1 1 (replicate 64 0) (replicate 8 0) refl

module _ (r : BoardRights) (c : ℕ) (h : Number c) where
  fed_granted : (i : Request) → fed c (only (not (denied r i.role i.item.call)) i.item) ≡ granted_to (rights_at r c) (guarded_feeds c i)
  fed_granted i = go (fed_one r i.role world good c h i.item.lent i.item.call) (denied r i.role i.item.call) refl
    where
      go : Fed r i.role world good c h i.item.lent i.item.call → (t : Bool) → denied r i.role i.item.call ≡ t
          → fed c (only (not t) i.item) ≡ granted_to (rights_at r c) (guarded_feeds c i)
      go (ours k e q n m s) true d = sym (ap (λ (ks : List ChannelCall). granted_to (rights_at r c) (as_role i.role ks)) e ∙ rw (sym q ∙ d))
      go (ours k e q n m s) false d =
          ap (λ (ks : List ChannelCall). ks ++ []) e
          ∙ sym (ap (λ (ks : List ChannelCall). granted_to (rights_at r c) (as_role i.role ks)) e ∙ rw (sym q ∙ d))
      go (theirs e m) true d = sym (ap (λ (ks : List ChannelCall). granted_to (rights_at r c) (as_role i.role ks)) e)
      go (theirs e m) false d =
          ap (λ (ks : List ChannelCall). ks ++ []) e ∙ sym (ap (λ (ks : List ChannelCall). granted_to (rights_at r c) (as_role i.role ks)) e)

  along : (xs : List Request) → fed c (granted r xs) ≡ granted_to (rights_at r c) (guarded_fed c xs)
  along [] = refl
  along (i ∷ is) =
      fed_only c (not (denied r i.role i.item.call)) i.item (granted r is)
      ∙ ap₂ (λ (p q : List ChannelCall). p ++ q) (fed_granted i) (along is)
      ∙ sym (granted_to_append (rights_at r c) (guarded_feeds c i) (guarded_fed c is))

pub granted_fed : GrantedFed
granted_fed r c low high xs = along r c (record { low = low; high = high }) xs
