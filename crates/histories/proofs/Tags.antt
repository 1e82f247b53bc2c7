-- After any list of calls a channel holds what is told of tags, and D25 is set exactly in the words of the replies kept for a send that used one, in what
-- retired readbacks answers too. Assumes nothing.
use Prim.Native.Nat.{ℕ}
use mathlib.Core.Path.{◌≡◌, refl, sym, ◌∙◌, ap, subst}
use mathlib.Core.Bool.{Bool, true, false, cond, not, ◌&&◌}
use mathlib.Core.List.{List, [], ◌∷◌, map}
use native.Mathlib.Omega.{arith}
use lib.ListN.{length, get_or, length-map}
use borrow.Table.Elements.{map_app}
use Rattle.frame.specs.Frames.{read, framed, id_of, data_of, aux_of, crc_in, crc_right}
use Rattle.frame.specs.Frames as frame
use Rattle.status.specs.Bits.{bit_at}
use Rattle.sequencer.specs.Playing.{send_of}
use Rattle.readback.proofs.Laws.{stored_tag}
use Rattle.command_frames.specs.Commanding.{takes}
use Rattle.channel_core.specs.State as state
use Rattle.channel_core.specs.Answers.{Answer, is_received}
use Rattle.channel_core.specs.Answers as ans
use Rattle.channel.specs.OneChannel.{ChannelCall, OneChannel, one_channel, transition, response, transitions}
use Rattle.channel.proofs.Cases.{clash, by_test}
use Rattle.histories.specs.TagChanges.{Tags, opened_tags}
use Rattle.histories.specs.History.{is_kept, Entry, Told, told, reply_word, asks, resets, ends_group}
use Rattle.histories.specs.Keeping.{Groups, nothing_kept, switched, kept_with, groups_after, stored_by, kept_after, kept_since, kept_over}
use Rattle.histories.specs.Tags.{tags_after, tags_since, TagsTold, marks_since, marks_over, marks_in, MarksKept, MarksRetired}
use Rattle.histories.proofs.Apart.{ApartIn}
use Rattle.histories.proofs.Brought.{brought}
use Rattle.histories.proofs.Buffered.{told_at}
use Rattle.histories.proofs.Calls.{steps}
use Rattle.histories.proofs.Commands.{told_from, told_next}
use Rattle.histories.proofs.EventRegisters.{reads_event}
use Rattle.histories.proofs.Keeping.{retires_kept}
use Rattle.histories.proofs.Ranges.{Ordered, ordered_opened, ordered_step}
use Rattle.histories.proofs.Tagged.{Held, held_step}

-- ---- What is told

held_from : (o : OneChannel) (ks : List ChannelCall) (g : Tags) → Ordered o.channel → Held o.channel g
    → Held (transitions o ks).channel (tags_since g (told_from o ks))
unfolding tags_since told
held_from o [] g a h = h
held_from o (k ∷ ks) g a h =
    subst (λ (ts : List Told). Held (transitions (transition o k) ks).channel (tags_since g ts)) (sym (told_next o k ks a.apart))
    (held_from (transition o k) ks (tags_after g (told_at o k)) (ordered_step o k a) (held_step o k g a.apart h))

held_opened : Held state.opened opened_tags
unfolding state.opened
held_opened = record { armed = refl; events = refl; tag = refl; tagged = λ e. clash e; only_armed = λ e. clash e }

pub tags_told : TagsTold
unfolding state.opened
tags_told n m setpoints readbacks ks =
    let o = one_channel n m setpoints readbacks in
    let h = held_from o ks opened_tags ordered_opened held_opened in
    record {
      armed = h.armed;
      registers = λ i few. reads_event (transitions o ks) i few ∙ ap (λ (l : List ℕ). ans.value (get_or l i 0)) h.events;
      tag = h.tag;
      tagged = h.tagged;
      only_armed = λ e. sym h.armed ∙ h.only_armed (h.tag ∙ e);
    }

-- ---- The words

-- D25 of these words is the mark
abbrev Marked : Bool → List ℕ → Type 0
Marked mark words = marks_in words ≡ map (λ (word : ℕ). mark) words

marked_reply : (o : OneChannel) (f : ℕ) → Marked (send_of o.channel.sequencer.last).tagged (reply_word o (read f))
unfolding read
marked_reply o f = go (framed f)
  where
    go : (b : Bool)
        → Marked (send_of o.channel.sequencer.last).tagged (reply_word o (cond b (frame.fields (id_of f) (data_of f) (aux_of f) (crc_in f)) (frame.refused 7)))
    go true =
        ap (λ (x : Bool). x ∷ [])
        (stored_tag (send_of o.channel.sequencer.last) o.user (not (crc_right (id_of f) (data_of f) (aux_of f) (crc_in f))) (id_of f) (data_of f)
        (omega arith) (omega arith))
    go false = refl

kept_received : (a : Answer) (ours : Bool) → (is_kept a && ours) ≡ true → (is_received a && ours) ≡ true
kept_received (ans.refused k) ours e = clash e
kept_received (ans.value v) ours e = clash e
kept_received (ans.frame f) ours e = clash e
kept_received ans.kept ours e = e
kept_received ans.lost ours e = clash e
kept_received (ans.part s) ours e = clash e
kept_received (ans.other r) ours e = clash e

-- what a call stores has the mark that is told
marked_asked : (o : OneChannel) (k : ChannelCall) (g : Tags) → ApartIn o.channel → Held o.channel g
    → (is_kept (response o k) && not (takes o.channel.commands)) ≡ true → Marked g.tagged (asks o k).word
marked_asked o k g p h e =
    let sent = (steps o k p).received_step (kept_received (response o k) (not (takes o.channel.commands)) e) in
    brought (Marked g.tagged) o k (λ f. subst (λ (mark : Bool). Marked mark (reply_word o (read f))) (h.tagged sent) (marked_reply o f)) refl

marked_stored : (o : OneChannel) (k : ChannelCall) (g : Tags) → ApartIn o.channel → Held o.channel g → Marked g.tagged (stored_by (told_at o k))
marked_stored o k g p h =
    by_test (Marked g.tagged) (is_kept (response o k) && not (takes o.channel.commands)) (λ e. marked_asked o k g p h e) (λ e. refl)

abbrev marks_of : Groups ℕ → Groups Bool
marks_of g = record { current = marks_in g.current; retired = marks_in g.retired }

marks_after : (g : Groups ℕ) (more : List ℕ) (e : Entry) → marks_of (groups_after g more e) ≡ groups_after (marks_of g) (marks_in more) e
marks_after g more e = go (resets e) (ends_group e)
  where
    go : (again ends : Bool)
        → marks_of (cond again nothing_kept (cond ends (switched g) (kept_with g more)))
        ≡ cond again nothing_kept (cond ends (switched (marks_of g)) (kept_with (marks_of g) (marks_in more)))
    go true ends = refl
    go false true = refl
    go false false =
        ap (λ (l : List Bool). record { current = l; retired = marks_in g.retired }) (map_app (λ (word : ℕ). bit_at word 25) g.current more)

marks_from : (o : OneChannel) (ks : List ChannelCall) (g : Tags) (kept : Groups ℕ) → Ordered o.channel → Held o.channel g
    → marks_of (kept_since kept (told_from o ks)) ≡ marks_since g (marks_of kept) (told_from o ks)
unfolding kept_since marks_since told
marks_from o [] g kept a h = refl
marks_from o (k ∷ ks) g kept a h =
    let x = transition o k in
    let t = told_at o k in
    let next = told_next o k ks a.apart in
    ap (λ (ts : List Told). marks_of (kept_since kept ts)) next
    ∙ marks_from x ks (tags_after g t) (kept_after kept t) (ordered_step o k a) (held_step o k g a.apart h)
    ∙ ap (λ (marks : Groups Bool). marks_since (tags_after g t) marks (told_from x ks))
    (marks_after kept (stored_by t) t.entry ∙ ap (λ (l : List Bool). groups_after (marks_of kept) l t.entry) (marked_stored o k g a.apart h))
    ∙ ap (marks_since g (marks_of kept)) (sym next)

marks_are : (n m : ℕ) (setpoints readbacks : List ℕ) (ks : List ChannelCall)
    → marks_of (kept_over n m setpoints readbacks ks) ≡ marks_over n m setpoints readbacks ks
unfolding state.opened
marks_are n m setpoints readbacks ks = marks_from (one_channel n m setpoints readbacks) ks opened_tags nothing_kept ordered_opened held_opened

pub marks_kept : MarksKept
marks_kept n m setpoints readbacks ks =
    let e = marks_are n m setpoints readbacks ks in
    (ap (λ (g : Groups Bool). g.current) e, ap (λ (g : Groups Bool). g.retired) e)

pub marks_retired : MarksRetired
marks_retired n m setpoints readbacks long ks =
    let words = (kept_over n m setpoints readbacks ks).retired in
    let e = (marks_kept n m setpoints readbacks ks).1 in
    let r = retires_kept n m setpoints readbacks long ks in
    record {
      words = words;
      answers = r.0;
      marked = e;
      counted = r.1 ∙ ap ans.part_length (sym (length-map words (λ (word : ℕ). bit_at word 25)) ∙ ap length e);
    }
