-- What each call makes of the download, from any state; after any list of calls portions are answered by what is told, and from its opening on a download
-- keeps its words until a Group End or a reset. Assumes nothing.
use Prim.Native.Nat.{ℕ, ◌+◌, ◌*◌, ◌≤◌}
use mathlib.Core.Path.{◌≡◌, refl, sym, ◌∙◌, ap, subst}
use mathlib.Core.Bool.{Bool, true, false, cond, ◌&&◌, ◌||◌, or-true}
use mathlib.Core.List.{List, [], ◌∷◌}
use native.Mathlib.Omega.{arith}
use lib.ListN.{length, take, drop, length-drop}
use lib.Seq.{length-take-le}
use lib.Dec.{eqb, leb, ltb}
use borrow.Author.Tests.{eq-eqb, leb-true, leb-false, lt-ltb, le-ltb}
use Rattle.status.specs.Bits.{bit_at}
use Rattle.registers.specs.Map.{second_active, readback_place, triggers_of, group_end_event}
use Rattle.std.specs.declared.option.Option.{Option}
use Rattle.std.specs.declared.option.Option.TheVariants.{Some, None}
use Rattle.std.specs.Option.{is_some, IfSome}
use Rattle.downloads.specs.declared.Download.{Download}
use Rattle.downloads.specs.Portions.{no_download, download_of, count_of}
use Rattle.downloads.specs.Portions as portions
use Rattle.readback.specs.Storing.{retired_part}
use Rattle.channel_core.specs.declared.Channel.{Channel}
use Rattle.channel_core.specs.Answers.{Answer, is_refusal, refused, part, part_length}
use Rattle.channel_core.specs.State.{reset}
use Rattle.channel_core.specs.State as state
use Rattle.channel_core.specs.Behaviour.{group_ended, ended_if, user_changed, tick_of}
use Rattle.channel_registers.specs.Calls.{register_effect}
use Rattle.channel.specs.Calls.{armed_of, disarmed_of}
use Rattle.channel.specs.Downloads.{download_opened}
use Rattle.channel.specs.OneChannel.{ChannelCall, OneChannel, one_channel, refusal_of, effect, answer, transition, response, transitions, retired_of, portion_in, buffer_one, buffer_two}
use Rattle.channel.specs.OneChannel as call
use Rattle.channel.proofs.Cases.{clash, either}
use Rattle.histories.specs.History.{entry, history, asks, ends_group, resets, opens_download}
use Rattle.histories.specs.Keeping.{Kept, kept_after, kept_over}
use Rattle.histories.specs.Ranges.{ChannelInRange}
use Rattle.histories.specs.Downloads.{open_after, open_since, open_over, Serves, PortionsTold, NoneEnds, DownloadStays}
use Rattle.histories.proofs.Accepted.{accepted_answer}
use Rattle.histories.proofs.Buffered.{told_at}
use Rattle.histories.proofs.Cases.{by_offset}
use Rattle.histories.proofs.Depths.{depths_step, depths_kept}
use Rattle.histories.proofs.Holding.{HoldsIn}
use Rattle.histories.proofs.Keeping.{holds_step, holds_over, words_long, retired_held, retires}
use Rattle.histories.proofs.Leaves.{leaves_event, leaves_command, leaves_read, leaves_main, leaves_reply}
use Rattle.histories.proofs.Parts.{opened_range}
use Rattle.histories.proofs.Ranges.{stays, channel_step, channel_from}
use Rattle.histories.proofs.Refusing.{by_refusal, accepted_response}

-- ---- What each call makes of the download

-- from c to d: a Group End or not, a reset or not, an opening of a download or not
abbrev Stepped : Channel → (ends again opens : Bool) → Channel → Type 0
Stepped c ends again opens d =
    d.download ≡ cond ends no_download (cond again no_download (cond opens (download_of c.readbacks.retired) c.download))

ended_download : (on : Bool) (c : Channel) → (ended_if on c).download ≡ cond on no_download c.download
unfolding ended_if group_ended
ended_download true c = refl
ended_download false c = refl

register_download : (c : Channel) (offset value : ℕ)
    → Stepped c (eqb offset 0x08 && bit_at value 2) (eqb offset 0x06 && bit_at value 0) false (register_effect c offset value)
unfolding register_effect reset
register_download c offset value =
    by_offset (λ (x : ℕ). Stepped c (eqb x 0x08 && bit_at value 2) (eqb x 0x06 && bit_at value 0) false (register_effect c x value)) offset
    refl (reset_download (bit_at value 0)) ((leaves_command c value).download ∙ ended_download (bit_at value 2) c)
    (λ d e f. rw (d, e, f) (either (λ (x : Channel). x.download ≡ c.download) (leb 0xe0 offset) refl refl))
  where
    reset_download : (on : Bool) → Stepped c false on false (cond on (reset c) c)
    reset_download true = refl
    reset_download false = refl

effect_download : (o : OneChannel) (k : ChannelCall)
    → Stepped o.channel (asks o k).group_end (asks o k).reset (asks o k).opens (effect o k).channel
unfolding effect armed_of disarmed_of download_opened tick_of user_changed
effect_download o (call.write_register lent offset value) = register_download o.channel offset value
effect_download o (call.read_register offset) = (leaves_read o.channel offset).download
effect_download o (call.write_setpoint lent user buffer index word) = refl
effect_download o call.arm = refl
effect_download o call.disarm = refl
effect_download o call.open_download = refl
effect_download o (call.reply lent f) = (leaves_reply o.channel o.m f).download
effect_download o (call.query which one two) = refl
effect_download o (call.tick lent) = refl
effect_download o (call.event lent code) =
    (leaves_event o.channel o.user code).download ∙ ended_download (triggers_of o.channel.registers group_end_event code) o.channel
effect_download o (call.change_user user) = either (λ (x : OneChannel). x.channel.download ≡ o.channel.download) (eqb user o.user) refl refl
effect_download o (call.write_main lent offset value) = refl
effect_download o (call.read_main offset) = (leaves_main o.channel offset).download

download_step : (o : OneChannel) (k : ChannelCall)
    → Stepped o.channel (ends_group (entry o k)) (resets (entry o k)) (opens_download (entry o k)) (transition o k).channel
download_step o k =
    by_refusal
    (λ (x : OneChannel) (a : Answer) (ends again stops : Bool) (reads : ℕ → Bool).
    Stepped o.channel ends again (cond (is_refusal a) false (asks o k).opens) x.channel)
    o k (λ e. rw (accepted_answer o k e) (effect_download o k)) refl

-- ---- Whether one is open

opened_step : (o : OneChannel) (k : ChannelCall) → is_some (transition o k).channel.download ≡ open_after (is_some o.channel.download) (entry o k)
opened_step o k =
    ap (λ (d : Option Download). is_some d) (download_step o k) ∙ go (ends_group (entry o k)) (resets (entry o k)) (opens_download (entry o k))
  where
    go : (ends again opens : Bool)
        → is_some (cond ends no_download (cond again no_download (cond opens (download_of o.channel.readbacks.retired) o.channel.download)))
        ≡ cond ends false (cond again false (opens || is_some o.channel.download))
    go true again opens = refl
    go false true opens = refl
    go false false true = refl
    go false false false = refl

opened_from : (o : OneChannel) (ks : List ChannelCall)
    → is_some (transitions o ks).channel.download ≡ open_since (is_some o.channel.download) (history o ks)
unfolding open_since
opened_from o [] = refl
opened_from o (k ∷ ks) =
    opened_from (transition o k) ks ∙ ap (λ (b : Bool). open_since b (history (transition o k) ks)) (opened_step o k)

-- ---- What a portion answers

module _ (o : OneChannel) (m : ℕ) (g : Kept) (d : o.m ≡ m) (l : length o.readbacks ≡ m * 2) (r : ChannelInRange o.m o.channel) (h : HoldsIn o g) where
  -- an open download is of the retired part
  count_retired : is_some o.channel.download ≡ true → count_of o.channel.download ≡ o.channel.readbacks.retired
  count_retired = go o.channel.download r.download
    where
      go : (d : Option Download) → IfSome d (λ x. x.count ≡ o.channel.readbacks.retired) → is_some d ≡ true → count_of d ≡ o.channel.readbacks.retired
      go None h e = clash e
      go (Some x) h e = h

  part_held : is_some o.channel.download ≡ true → (index size : ℕ) → portion_in o index size ≡ take size (drop index g.retired)
  unfolding portion_in retired_of
  part_held e index size =
      ap
      (λ (k : ℕ).
      portions.portion_of (retired_part (second_active o.channel.registers readback_place) k (buffer_one o) (buffer_two o)) index size) (count_retired e)
      ∙ ap (λ (s : List ℕ). take size (drop index s)) (retired_held o m g d l r h)

  count_held : is_some o.channel.download ≡ true → count_of o.channel.download ≡ length g.retired
  count_held e = count_retired e ∙ h.retired

  served : (tell : List ℕ → Answer) (result : Answer) (index size : ℕ)
      → (index + size ≤ length g.retired → tell (take size (drop index g.retired)) ≡ result) → (b : Bool) → is_some o.channel.download ≡ b
      → let k = portions.portion_refusal o.channel.download index size in
      cond (eqb k 0) (tell (portion_in o index size)) (refused k) ≡ cond b (cond (leb (index + size) (length g.retired)) result (refused 2)) (refused 12)
  served tell result index size same false e = rw e
  served tell result index size same true e =
      rw (part_held e index size, e, count_held e) (go (leb (index + size) (length g.retired)) refl)
    where
      go : (x : Bool) → leb (index + size) (length g.retired) ≡ x
          → let k : ℕ = cond (ltb (length g.retired) (index + size)) 2 0 in
          cond (eqb k 0) (tell (take size (drop index g.retired))) (refused k) ≡ cond x result (refused 2)
      go true p = let within = leb-true (index + size) (length g.retired) p in rw (le-ltb (length g.retired) (index + size) within) (same within)
      go false p = rw (lt-ltb (length g.retired) (index + size) (leb-false (index + size) (length g.retired) p))

  portion_long : (index size : ℕ) → index + size ≤ length g.retired → length (take size (drop index g.retired)) ≡ size
  portion_long index size within = length-take-le size (drop index g.retired) (omega (arith, length-drop index g.retired))

  serves : (b : Bool) → is_some o.channel.download ≡ b → Serves o m b g.retired
  unfolding response refusal_of answer
  serves b e =
      let fits : eqb m o.m ≡ true = eq-eqb m o.m (sym d) in
      record {
        portion = λ index size. rw fits (served part (part (take size (drop index g.retired))) index size (λ within. refl) b e);
        lengths =
            λ index size.
            rw fits (served (λ (s : List ℕ). part_length (length s)) (part_length size) index size (λ within. ap part_length (portion_long index size within)) b e);
      }

pub portions_told : PortionsTold
unfolding state.opened
portions_told n m setpoints readbacks long ks =
    let start = one_channel n m setpoints readbacks in
    serves (transitions start ks) m (kept_over n m setpoints readbacks ks) (depths_kept start ks).1 (words_long start ks ∙ long)
    (channel_from start ks (opened_range m)) (holds_over n m setpoints readbacks ks) (open_over n m setpoints readbacks ks) (opened_from start ks)

-- ---- While calls go on

-- a download is open, and its words are these
record Going (o : OneChannel) (words : List ℕ) : Type 0 where
  pub kept : Kept
  pub holds : HoldsIn o kept
  pub retired : kept.retired ≡ words
  pub open_now : is_some o.channel.download ≡ true

going_step : (o : OneChannel) (k : ChannelCall) (words : List ℕ) → ChannelInRange o.m o.channel
    → ends_group (entry o k) ≡ false → resets (entry o k) ≡ false → (opens_download (entry o k) || is_some o.channel.download) ≡ true
    → (g : Kept) → HoldsIn o g → g.retired ≡ words → Going (transition o k) words
going_step o k words r ends again opens g h same =
    record {
      kept = kept_after g (told_at o k);
      holds = holds_step g o k r h;
      retired = rw (ends, again) same;
      open_now = opened_step o k ∙ rw (ends, again) opens;
    }

going_from : (o : OneChannel) (ks : List ChannelCall) (words : List ℕ) → ChannelInRange o.m o.channel → Going o words → NoneEnds (history o ks)
    → Going (transitions o ks) words
going_from o [] words r h none = h
going_from o (k ∷ ks) words r h none =
    going_from (transition o k) ks words (channel_step o k r)
    (going_step o k words r none.0 none.1
    (ap (λ (b : Bool). opens_download (entry o k) || b) h.open_now ∙ or-true (opens_download (entry o k))) h.kept h.holds h.retired)
    none.2

-- an opening is not refused, and is neither a Group End nor a reset
pub opening_plain : (o : OneChannel)
    → (ends_group (entry o call.open_download) ≡ false) × (resets (entry o call.open_download) ≡ false) × (opens_download (entry o call.open_download) ≡ true)
unfolding response refusal_of answer
opening_plain o = (refl, refl, refl)

pub download_stays : DownloadStays
unfolding state.opened answer refusal_of
download_stays n m setpoints readbacks long before later none =
    let start = one_channel n m setpoints readbacks in
    let o = transitions start before in
    let next = transition o call.open_download in
    let now = transitions next later in
    let g = kept_over n m setpoints readbacks before in
    let r = channel_from start before (opened_range m) in
    let h = holds_over n m setpoints readbacks before in
    let d = (depths_kept start before).1 in
    let l = words_long start before ∙ long in
    let p = opening_plain o in
    let first : Going next g.retired =
    going_step o call.open_download g.retired r p.0 p.1 (ap (λ (b : Bool). b || is_some o.channel.download) p.2) g h refl in
    let last = going_from next later g.retired (channel_step o call.open_download r) first none in
    record {
      words = g.retired;
      retired_then = (retires o m g d l r h).0;
      answered = accepted_response o call.open_download refl ∙ ap part_length h.retired;
      serves =
          subst (λ (s : List ℕ). Serves now m true s) last.retired
          (serves now m last.kept ((depths_kept next later).1 ∙ (depths_step o call.open_download).1 ∙ d)
          (words_long next later ∙ (stays o call.open_download).readback_words ∙ l) (channel_from next later (channel_step o call.open_download r)) last.holds true
          last.open_now);
    }
