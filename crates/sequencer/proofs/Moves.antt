-- Laws of one call, for any state: which resume is taken, which word is last, what the two counts take, and what sets, uses and drops a tag. Assumes nothing.
use Prim.Native.Nat.{ℕ, ◌+◌, ◌-◌, ◌≤◌, min}
use mathlib.Core.Path.{◌≡◌, refl, ap, ◌∙◌}
use mathlib.Core.Bool.{Bool, true, false, cond, ◌&&◌}
use native.Mathlib.Omega.{arith}
use lib.Dec.{leb, ltb, eqb}
use borrow.Author.Tests.{eq-eqb, ne_eqb, eqb-true, ltb-true, ltb-false}
use Rattle.std.specs.declared.option.Option.{Option}
use Rattle.std.specs.Option.{is_some, IsSome, IsNone}
use Rattle.status.specs.Bits.{bit_at}
use Rattle.sequencer.specs.Words.{kind_of}
use Rattle.sequencer.specs.Playing.{opened, idled, armed, disarmed, started, loaded_resume, resumed_at, resumed, answered, group_ended, tagged, with_tag, send_of, shortfall, sent_next, sent_as, repeated, quiet, with_left, with_resume, advancing, repeating, resuming, ticked_at, ticked}
use Rattle.sequencer.specs.Runs.{count_after, missing_after, tag_after, tagged_after, as_number}
use Rattle.sequencer.specs.declared.Kind.TheVariants as kind
use Rattle.sequencer.specs.declared.Stage.{Stage}
use Rattle.sequencer.specs.declared.Stage.TheVariants as stage
use Rattle.sequencer.specs.declared.LastSend.{LastSend}
use Rattle.sequencer.specs.declared.Sequencer.{Sequencer}
use Rattle.sequencer.specs.Transmissions.{Transmission, Ticked}
use Rattle.sequencer.specs.Transmissions as transmission

-- a resume is loaded, in its own pause, or changes nothing
pub resumed_either : (P : Sequencer → Type 0) (s : Sequencer) (k delay : ℕ) → (s.stage ≡ stage.Paused k → P (loaded_resume s delay)) → P s
    → P (resumed s k delay)
unfolding resumed
resumed_either P s k delay h g = go s.stage refl
  where
    loaded : (j : ℕ) → s.stage ≡ stage.Paused j → (e : Bool) → eqb j k ≡ e → P (cond e (loaded_resume s delay) s)
    loaded j at true e = h (at ∙ ap stage.Paused (eqb-true j k e))
    loaded j at false e = g

    go : (at : Stage) → s.stage ≡ at → P (resumed_at at s k delay)
    go stage.Idle e = g
    go stage.Starting e = g
    go stage.Running e = g
    go (stage.Paused j) e = loaded j e (eqb j k) refl
    go stage.Resuming e = g
    go stage.Ended e = g

-- 5. Resume k changes nothing unless the sequencer is in pause k.
pub resume_ignored : (s : Sequencer) (k delay : ℕ) → (s.stage ≡ stage.Paused k → ⊥) → resumed s k delay ≡ s
resume_ignored s k delay h = resumed_either (λ (t : Sequencer). t ≡ s) s k delay (λ e. absurd (h e)) refl

-- so not in another pause, and not while a resume is under way
pub resume_other : (s : Sequencer) (j k delay : ℕ) → s.stage ≡ stage.Paused j → (j ≡ k → ⊥) → resumed s k delay ≡ s
resume_other s j k delay at differs = resume_ignored s k delay (λ e. differs (cc))

pub resume_meanwhile : (s : Sequencer) (k delay : ℕ) → s.stage ≡ stage.Resuming → resumed s k delay ≡ s
resume_meanwhile s k delay at = resume_ignored s k delay (λ e. let z : ◌≡◌ {A = ℕ} 0 1 = cc in omega arith)

-- in pause k it is loaded
pub resume_taken : (s : Sequencer) (k delay : ℕ) → s.stage ≡ stage.Paused k → resumed s k delay ≡ loaded_resume s delay
unfolding resumed
resume_taken s k delay at = ap (λ (g : Stage). resumed_at g s k delay) at ∙ rw (eq-eqb k k refl)

-- 6. D31 makes a word the last whatever its other bits, D16 to D20 too; and so does its place at the buffer's end.
pub last_bit : (w : ℕ) (e : Bool) → bit_at w 31 ≡ true → kind_of w e ≡ kind.Last
last_bit w true h = refl
last_bit w false h = rw h

pub last_place : (w : ℕ) → kind_of w true ≡ kind.Last
last_place w = refl

-- this tick, from s: both counts, the tag not yet used, whether the last send used one, and that the channel stays armed or not
pub record Moved (s : Sequencer) (t : Ticked) : Type 0 where
  pub count : t.sequencer.count ≡ count_after t.transmission s.count
  pub missing : t.sequencer.missing ≡ missing_after t.transmission s.last s.missing
  pub tag : t.sequencer.tag ≡ tag_after t.transmission s.tag
  pub last_tagged : (send_of t.sequencer.last).tagged ≡ tagged_after t.transmission s.tag (send_of s.last).tagged
  pub armed : t.sequencer.armed ≡ s.armed

moved_if : (s : Sequencer) (e : Bool) (a b : Ticked) → Moved s a → Moved s b → Moved s (cond e a b)
moved_if s true a b h k = h
moved_if s false a b h k = k

-- nothing is transmitted, and only a countdown moves
moved_left : (s : Sequencer) (left : ℕ) → Moved s (quiet (with_left s left))
moved_left s left = record { count = refl; missing = refl; tag = refl; last_tagged = refl; armed = refl }

moved_next : (s : Sequencer) (due n p id : ℕ) → Moved s (sent_next s due n p id)
unfolding sent_next sent_as
moved_next s due n p id = record { count = refl; missing = refl; tag = refl; last_tagged = refl; armed = refl }

moved_advancing : (s : Sequencer) (due n p id : ℕ) → Moved s (advancing s due n p id)
unfolding advancing
moved_advancing s due n p id = moved_if s (leb s.left 1) (sent_next s due n p id) _ (moved_next s due n p id) (moved_left s (s.left - 1))

moved_repeating : (s : Sequencer) (p id : ℕ) → Moved s (repeating s p id)
unfolding repeating repeated
moved_repeating s p id =
    moved_if s (leb s.left 1) (repeated s p id) _ (record { count = refl; missing = refl; tag = refl; last_tagged = refl; armed = refl })
    (moved_left s (s.left - 1))

moved_resuming : (s : Sequencer) (due n p id : ℕ) → Moved s (resuming s due n p id)
unfolding resuming
moved_resuming s due n p id =
    let t = with_resume s (s.resume - 1) in
    let r = moved_repeating t p id in
    moved_if s (leb s.resume 1) (sent_next s due n p id) (cond (leb s.resume 10) (quiet t) (repeating t p id))
    (moved_next s due n p id)
    (moved_if s (leb s.resume 10) (quiet t) (repeating t p id)
    (record { count = refl; missing = refl; tag = refl; last_tagged = refl; armed = refl })
    (record { count = r.count; missing = r.missing; tag = r.tag; last_tagged = r.last_tagged; armed = r.armed }))

moved_at : (g : Stage) (s : Sequencer) (due n p id : ℕ) → Moved s (ticked_at g s due n p id)
moved_at stage.Idle s due n p id = record { count = refl; missing = refl; tag = refl; last_tagged = refl; armed = refl }
moved_at stage.Starting s due n p id = moved_advancing s due n p id
moved_at stage.Running s due n p id = moved_advancing s due n p id
moved_at (stage.Paused k) s due n p id = moved_repeating s p id
moved_at stage.Resuming s due n p id = moved_resuming s due n p id
moved_at stage.Ended s due n p id = moved_repeating s p id

-- 7. A tick that transmits a word counts it, and the readbacks missing after the send before, and uses the tag, if there is one; one that transmits
-- nothing leaves both counts, the tag, and the mark of the last send.
pub moved : (s : Sequencer) (due n p id : ℕ) → Moved s (ticked s due n p id)
unfolding ticked
moved s due n p id = moved_at s.stage s due n p id

-- both counts stay
abbrev CountsStay : Sequencer → Sequencer → Type 0
CountsStay s t = (t.count ≡ s.count) × (t.missing ≡ s.missing)

-- what is no tick leaves both
pub counts_stay : (s : Sequencer)
    → CountsStay s (idled s)
    × CountsStay s (armed s)
    × CountsStay s (disarmed s)
    × CountsStay s (answered s)
    × CountsStay s (tagged s)
    × ((delay : ℕ) → CountsStay s (started s delay))
    × ((k delay : ℕ) → CountsStay s (resumed s k delay))
unfolding idled armed disarmed answered tagged started
counts_stay s = (
  (refl, refl),
  (refl, refl),
  (refl, refl),
  (refl, refl),
  tag s.armed,
  λ delay. (refl, refl),
  λ k delay. resumed_either (CountsStay s) s k delay (λ e. (refl, refl)) (refl, refl),
)
  where
    tag : (b : Bool) → CountsStay s (cond b (with_tag s true) s)
    tag true = (refl, refl)
    tag false = (refl, refl)

-- but Group End clears the setpoint count, and it alone
pub group_end_counts : (s : Sequencer) → ((group_ended s).count ≡ 0) × ((group_ended s).missing ≡ s.missing)
unfolding group_ended idled
group_end_counts s = (refl, refl)

counted_by : (c : ℕ) (e : Bool) → ltb c 0xffffff ≡ e → c ≤ 0xffffff → cond e (c + 1) c ≡ min (c + 1) 0xffffff
counted_by c true e h = omega (arith, ltb-true c 0xffffff e)
counted_by c false e h = omega (arith, ltb-false c 0xffffff e)

-- one transmission more
pub counted_with : (x : Transmission) (a b c : ℕ) → c ≡ min (a + b) 0xffffff
    → count_after x c ≡ min (a + (b + as_number x)) 0xffffff
counted_with transmission.Nothing a b c h = omega arith
counted_with (transmission.Word word condition) a b c h = omega (arith, counted_by c (ltb c 0xffffff) refl (omega arith))

-- 8. A send of Frame ID 15h lacks what its replies are short of six; one of another ID lacks nothing, nor does none.
pub short_of_six : (l : Option LastSend) → IsSome l → (send_of l).id ≡ 0x15 → (send_of l).replies ≤ 6 → shortfall l + (send_of l).replies ≡ 6
unfolding shortfall
short_of_six l sent id few = rw (sent, eq-eqb (send_of l).id 0x15 id) (omega arith)

pub other_id : (l : Option LastSend) → ((send_of l).id ≡ 0x15 → ⊥) → shortfall l ≡ 0
unfolding shortfall
other_id l differs = rw (ne_eqb (send_of l).id 0x15 differs) (go (is_some l))
  where
    go : (sent : Bool) → cond (sent && false) (6 - (send_of l).replies) 0 ≡ 0
    go true = refl
    go false = refl

pub none_before : (l : Option LastSend) → IsNone l → shortfall l ≡ 0
unfolding shortfall
none_before l none = rw none

-- 9. Card 6: an armed channel takes a tag, idle or not, and a second adds nothing; a disarmed one takes none.
pub tag_taken : (s : Sequencer) → s.armed ≡ true → (tagged s ≡ with_tag s true) × (tagged (tagged s) ≡ tagged s)
unfolding tagged
tag_taken s e = (rw e, rw e)

pub tag_ignored : (s : Sequencer) → s.armed ≡ false → tagged s ≡ s
unfolding tagged
tag_ignored s e = rw e

-- "Group End, disarm and reset drop a tag not yet used.": Start and Resume, idling as at a user change, and a reply leave it
pub tag_stays : (s : Sequencer)
    → ((idled s).tag ≡ s.tag)
    × ((answered s).tag ≡ s.tag)
    × ((delay : ℕ) → (started s delay).tag ≡ s.tag)
    × ((k delay : ℕ) → (resumed s k delay).tag ≡ s.tag)
unfolding idled answered started
tag_stays s = (refl, refl, λ delay. refl, λ k delay. resumed_either (λ (t : Sequencer). t.tag ≡ s.tag) s k delay (λ e. refl) refl)

pub tag_dropped : (s : Sequencer) → ((group_ended s).tag ≡ false) × ((disarmed s).tag ≡ false) × (opened.tag ≡ false)
unfolding group_ended disarmed
tag_dropped s = (refl, refl, refl)
