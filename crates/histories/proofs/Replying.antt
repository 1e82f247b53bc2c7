-- A well-framed reply is kept, lost or unsolicited exactly as document 01 and card 1 say, over any list of calls. Assumes nothing.
use Prim.Native.Nat.{ℕ, ◌+◌, ◌*◌}
use mathlib.Core.Path.{◌≡◌, refl, sym, ◌∙◌, ap, subst}
use mathlib.Core.Bool.{Bool, true, false, cond, not, ◌&&◌, ◌||◌}
use lib.ListN.{length}
use lib.Dec.{eqb, ltb}
use Rattle.std.specs.declared.option.Option.{Option}
use Rattle.frame.specs.Frames.{read, fields, crc_right}
use Rattle.sequencer.specs.declared.LastSend.{LastSend}
use Rattle.sequencer.specs.Playing.{is_idle, send_of}
use Rattle.readback.specs.declared.Disposition.TheVariants as disposition
use Rattle.readback.specs.Storing.{is_due, disposition_of, capacity, stored_word}
use Rattle.command_frames.specs.declared.CommandFrames.{CommandFrames}
use Rattle.command_frames.specs.Commanding.{takes, received}
use Rattle.channel_core.specs.Answers.{kept, lost, unsolicited}
use Rattle.channel_replies.specs.Replying.{disposition_now, receipt_answer, received_channel, received_words, crc_status, command_reply, reply_answer, reply_of, reply_words}
use Rattle.channel.specs.OneChannel.{ChannelCall, OneChannel, one_channel, refusal_of, effect, answer, transition, response, transitions, reply}
use Rattle.histories.specs.History.{told_of}
use Rattle.histories.specs.Windows.{Window, closed, window_since}
use Rattle.histories.specs.Ranges.{Quiet}
use Rattle.histories.specs.Commands.{commands_over}
use Rattle.histories.specs.Keeping.{Kept, kept_over}
use Rattle.histories.specs.Replying.{due_by_window, has_space, stored_after, stores_reply, Replied, RepliesByWindow}
use Rattle.histories.proofs.Accepted.{framed_accepted}
use Rattle.histories.proofs.Refusing.{accepted_transition, accepted_response}
use Rattle.histories.proofs.Ticks.{send_window, window_of}
use Rattle.histories.proofs.Depths.{depths_kept}
use Rattle.histories.proofs.Ranges.{ordered_opened, ordered_from}
use Rattle.histories.proofs.Commands.{disposition_commands, not_taken, commands_told}
use Rattle.histories.proofs.Windows.{window_is}
use Rattle.histories.proofs.Keeping.{counts_kept}

module _
    (o : OneChannel) (f : CommandFrames) (w : Window) (g : Kept) (number id word aux crc : ℕ) (framed : read number ≡ fields id word aux crc)
    (ours : o.channel.commands ≡ f) (quiet : Quiet o.channel.sequencer) (held : window_of o.channel.sequencer ≡ w)
    (full : o.channel.readbacks.stored ≡ length g.current)
  where
    call : ChannelCall
    call = reply (o.m * 8) number

    not_refused : eqb (refusal_of o call) 0 ≡ true
    unfolding call
    not_refused = framed_accepted o number framed

    -- idle, nothing was sent
    due : is_due (is_idle o.channel.sequencer.stage) o.channel.sequencer.last ≡ due_by_window w
    due = go (is_idle o.channel.sequencer.stage) refl ∙ ap due_by_window held
      where
        go : (idle : Bool) → is_idle o.channel.sequencer.stage ≡ idle
            → is_due idle o.channel.sequencer.last ≡ due_by_window (window_of o.channel.sequencer)
        go true e = sym (ap (λ (l : Option LastSend). due_by_window (send_window l)) (quiet e))
        go false e = refl

    space : ltb o.channel.readbacks.stored (capacity o.m) ≡ has_space o.m g
    space = ap (λ (k : ℕ). ltb k (capacity o.m)) full

    disposed : disposition_now o.channel o.m
        ≡ cond (due_by_window w) (cond (has_space o.m g) disposition.Kept disposition.Lost) disposition.Unsolicited
    unfolding disposition_now disposition_of
    disposed = rw (due, space)

    taken : takes o.channel.commands ≡ takes f
    taken = ap takes ours

    answers : response o call ≡ cond (takes f) kept (cond (due_by_window w) (cond (has_space o.m g) kept lost) unsolicited)
    unfolding answer reply_answer call
    answers =
        accepted_response o call not_refused
        ∙ rw (framed, taken, disposed) (ap (cond (takes f) kept) (go (due_by_window w) (has_space o.m g)))
      where
        go : (due space : Bool)
            → receipt_answer (cond due (cond space disposition.Kept disposition.Lost) disposition.Unsolicited)
            ≡ cond due (cond space kept lost) unsolicited
        go true true = refl
        go true false = refl
        go false space = refl

    count : (transition o call).channel.readbacks.stored
        ≡ cond (stores_reply f w o.m g) (length g.current + 1) (length g.current)
    unfolding effect reply_of call
    count =
        ap (λ (x : OneChannel). x.channel.readbacks.stored) (accepted_transition o call not_refused)
        ∙ rw (framed, taken, disposed) (go (takes f) (due_by_window w) (has_space o.m g) refl)
      where
        go : (theirs due space : Bool) → has_space o.m g ≡ space
            → (cond theirs (command_reply o.channel (crc_right id word aux crc) id word)
            (received_channel (cond due (cond space disposition.Kept disposition.Lost) disposition.Unsolicited) o.channel o.m (crc_right id word aux crc) word)
            ).readbacks.stored
            ≡ cond (not theirs && (due && space)) (length g.current + 1) (length g.current)
        go true due space e = full
        go false true true e = rw (full, e)
        go false true false e = full
        go false false space e = full

    words : (transition o call).readbacks
        ≡ cond (stores_reply f w o.m g)
        (stored_after o g (stored_word (send_of o.channel.sequencer.last) o.user (not (crc_right id word aux crc)) id word))
        o.readbacks
    unfolding effect reply_words call
    words =
        ap (λ (x : OneChannel). x.readbacks) (accepted_transition o call not_refused)
        ∙ rw (framed, taken, disposed) (go (takes f) (due_by_window w) (has_space o.m g) refl)
      where
        x : ℕ
        x = stored_word (send_of o.channel.sequencer.last) o.user (not (crc_right id word aux crc)) id word

        go : (theirs due space : Bool) → has_space o.m g ≡ space
            → cond theirs o.readbacks
            (received_words (cond due (cond space disposition.Kept disposition.Lost) disposition.Unsolicited) o.channel o.readbacks o.m x)
            ≡ cond (not theirs && (due && space)) (stored_after o g x) o.readbacks
        go true due space e = refl
        go false true true e = rw (full, e)
        go false true false e = refl
        go false false space e = refl

    status : (transition o call).channel.status
        ≡ cond (takes f || due_by_window w) (crc_status o.channel.status (crc_right id word aux crc)) o.channel.status
    unfolding effect reply_of call
    status =
        ap (λ (x : OneChannel). x.channel.status) (accepted_transition o call not_refused)
        ∙ rw (framed, taken, disposed) (go (takes f) (due_by_window w) (has_space o.m g))
      where
        go : (theirs due space : Bool)
            → (cond theirs (command_reply o.channel (crc_right id word aux crc) id word)
            (received_channel (cond due (cond space disposition.Kept disposition.Lost) disposition.Unsolicited) o.channel o.m (crc_right id word aux crc) word)
            ).status
            ≡ cond (theirs || due) (crc_status o.channel.status (crc_right id word aux crc)) o.channel.status
        go true due space = refl
        go false true true = refl
        go false true false = refl
        go false false space = refl

    commands : (transition o call).channel.commands ≡ received f (not (crc_right id word aux crc)) id word
    unfolding effect reply_of call
    commands =
        ap (λ (x : OneChannel). x.channel.commands) (accepted_transition o call not_refused)
        ∙ rw framed (go (takes o.channel.commands) refl)
        ∙ ap (λ (x : CommandFrames). received x (not (crc_right id word aux crc)) id word) ours
      where
        go : (theirs : Bool) → takes o.channel.commands ≡ theirs
            → (cond theirs (command_reply o.channel (crc_right id word aux crc) id word)
            (received_channel (disposition_now o.channel o.m) o.channel o.m (crc_right id word aux crc) word)).commands
            ≡ received o.channel.commands (not (crc_right id word aux crc)) id word
        go true e = refl
        go false e =
            disposition_commands (disposition_now o.channel o.m) o.channel o.m (crc_right id word aux crc) word
            ∙ sym (not_taken o.channel.commands (not (crc_right id word aux crc)) id word e)

    replied : Replied o f w g o.m number id word aux crc
    unfolding call
    replied = record { answers = answers; count = count; words = words; status = status; commands = commands }

pub replies_by_window : RepliesByWindow
replies_by_window n m setpoints readbacks ks number id word aux crc framed =
    let a = one_channel n m setpoints readbacks in
    let o = transitions a ks in
    let f = commands_over n m setpoints readbacks ks in
    let w = window_since closed (told_of a ks) in
    let g = kept_over n m setpoints readbacks ks in
    subst (λ (d : ℕ). Replied o f w g d number id word aux crc) (depths_kept a ks).1
    (replied o f w g number id word aux crc framed (commands_told n m setpoints readbacks ks) (ordered_from a ks ordered_opened).quiet
    (window_is n m setpoints readbacks ks) (counts_kept n m setpoints readbacks ks).0)
