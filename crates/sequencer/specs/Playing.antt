-- Document 01, 'A channel's life': Start, sends, pauses and resumes, of one channel.
-- Its state, by the phrases of "It holds ..":
--   "armed or not"                                        armed
--   "idle or not", "whether the last word went since Start"   stage (Idle; Ended)
--   "the ticks to its next send, and those of a resume"   left, resume
--   "the index due and the word it repeats"               index, word
--   "the last send since idle (if any, and which of first, paused, last it was), the replies after it"   last
--   "the setpoint count"                                  count
-- Document 02, card 2: "The channel record carries the Frame ID of its last setpoint send and this count."   last.id, missing
-- Card 6: "a tag not yet used"; "that send", the one that used it   tag; last.tagged
use Rattle.std.specs.Prelude.{ℕ, ◌+◌, ◌-◌, min, Bool, true, false, cond, not, ◌&&◌, leb, ltb, eqb, Option, Some, None, is_some}
use Rattle.sequencer.specs.Words.{at_end, kind_of, stage_after, index_after, condition_of, pauses, ends}
use Rattle.sequencer.specs.declared.Kind.{Kind}
use Rattle.sequencer.specs.declared.Stage.{Stage}
use Rattle.sequencer.specs.declared.Stage.TheVariants as stage
use Rattle.sequencer.specs.declared.LastSend.{LastSend}
use Rattle.sequencer.specs.declared.Sequencer.{Sequencer}
use Rattle.sequencer.specs.Transmissions.{Ticked}
use Rattle.sequencer.specs.Transmissions as transmission

-- "idle or not"
abbrev pub is_idle : Stage → Bool
is_idle stage.Idle = true
is_idle stage.Starting = false
is_idle stage.Running = false
is_idle (stage.Paused k) = false
is_idle stage.Resuming = false
is_idle stage.Ended = false

-- Start was loaded, and the first word has not left: the next send is the "first send of the function's first word"
abbrev pub is_starting : Stage → Bool
is_starting stage.Idle = false
is_starting stage.Starting = true
is_starting stage.Running = false
is_starting (stage.Paused k) = false
is_starting stage.Resuming = false
is_starting stage.Ended = false

-- a word with a pause is being repeated
abbrev pub is_paused : Stage → Bool
is_paused stage.Idle = false
is_paused stage.Starting = false
is_paused stage.Running = false
is_paused (stage.Paused k) = true
is_paused stage.Resuming = true
is_paused stage.Ended = false

-- a resume is loaded, and its word has not left
abbrev pub is_resuming : Stage → Bool
is_resuming stage.Idle = false
is_resuming stage.Starting = false
is_resuming stage.Running = false
is_resuming (stage.Paused k) = false
is_resuming stage.Resuming = true
is_resuming stage.Ended = false

-- the last word went since Start
abbrev pub is_ended : Stage → Bool
is_ended stage.Idle = false
is_ended stage.Starting = false
is_ended stage.Running = false
is_ended (stage.Paused k) = false
is_ended stage.Resuming = false
is_ended stage.Ended = true

-- "the last send since idle (if any ..)": none
abbrev pub nothing_sent : Option LastSend
nothing_sent = None

-- that send; where there is none, one that was none of first, paused, last and tagged, of Frame ID 0, which is not looked at, and with no replies after it
abbrev pub send_of : Option LastSend → LastSend
send_of None = record { first = false; paused = false; last = false; id = 0; tagged = false; replies = 0 }
send_of (Some l) = l

-- "the replies after it": to no send there are none (document 02, card 7: "with none, all four are lost")
abbrev pub replies_of : Option LastSend → ℕ
replies_of None = 0
replies_of (Some l) = l.replies

-- "channels disarmed", nothing under way, nothing counted
abbrev pub opened : Sequencer
opened =
    record { armed = false; stage = stage.Idle; left = 0; resume = 0; index = 0; word = 0; last = nothing_sent; count = 0; missing = 0; tag = false }

-- the state with one field changed
abbrev pub with_armed : Sequencer → Bool → Sequencer
with_armed s armed = record { armed = armed; stage = s.stage; left = s.left; resume = s.resume; index = s.index; word = s.word; last = s.last; count = s.count; missing = s.missing; tag = s.tag }

abbrev pub with_left : Sequencer → ℕ → Sequencer
with_left s left = record { armed = s.armed; stage = s.stage; left = left; resume = s.resume; index = s.index; word = s.word; last = s.last; count = s.count; missing = s.missing; tag = s.tag }

abbrev pub with_resume : Sequencer → ℕ → Sequencer
with_resume s resume = record { armed = s.armed; stage = s.stage; left = s.left; resume = resume; index = s.index; word = s.word; last = s.last; count = s.count; missing = s.missing; tag = s.tag }

abbrev pub with_last : Sequencer → Option LastSend → Sequencer
with_last s last = record { armed = s.armed; stage = s.stage; left = s.left; resume = s.resume; index = s.index; word = s.word; last = last; count = s.count; missing = s.missing; tag = s.tag }

abbrev pub with_count : Sequencer → ℕ → Sequencer
with_count s count = record { armed = s.armed; stage = s.stage; left = s.left; resume = s.resume; index = s.index; word = s.word; last = s.last; count = count; missing = s.missing; tag = s.tag }

abbrev pub with_missing : Sequencer → ℕ → Sequencer
with_missing s missing = record { armed = s.armed; stage = s.stage; left = s.left; resume = s.resume; index = s.index; word = s.word; last = s.last; count = s.count; missing = missing; tag = s.tag }

abbrev pub with_tag : Sequencer → Bool → Sequencer
with_tag s tag = record { armed = s.armed; stage = s.stage; left = s.left; resume = s.resume; index = s.index; word = s.word; last = s.last; count = s.count; missing = s.missing; tag = tag }

-- "if the channel isn't idle and the last word wasn't sent since its latest Start": idling then is an early end, EE
abbrev pub unfinished : Sequencer → Bool
unfinished s = not (is_idle s.stage) && not (is_ended s.stage)

-- "idle": the function is dropped, and with it its countdowns, its words and its last send; a tag not yet used stays
unfoldable pub idled : Sequencer → Sequencer
idled s =
    record {
      armed = s.armed;
      stage = stage.Idle;
      left = 0;
      resume = 0;
      index = 0;
      word = 0;
      last = nothing_sent;
      count = s.count;
      missing = s.missing;
      tag = s.tag;
    }

-- "Arming an armed channel changes nothing."
unfoldable pub armed : Sequencer → Sequencer
armed s = with_armed s true

-- "Disarm idles, without EE."; card 6: "Group End, disarm and reset drop a tag not yet used."
unfoldable pub disarmed : Sequencer → Sequencer
disarmed s = with_tag (with_armed (idled s) false) false

-- Start: "It loads the current user's start delay (0 for a command) plus 10."
-- From the first word; the last send stays until the next.
unfoldable pub started : Sequencer → ℕ → Sequencer
started s delay =
    record {
      armed = s.armed;
      stage = stage.Starting;
      left = delay + 10;
      resume = 0;
      index = 0;
      word = 0;
      last = s.last;
      count = s.count;
      missing = s.missing;
      tag = s.tag;
    }

-- a resume is loaded: the delay, nine silent ticks, and the tick that sends
abbrev pub loaded_resume : Sequencer → ℕ → Sequencer
loaded_resume s delay =
    record {
      armed = s.armed;
      stage = stage.Resuming;
      left = s.left;
      resume = delay + 10;
      index = s.index;
      word = s.word;
      last = s.last;
      count = s.count;
      missing = s.missing;
      tag = s.tag;
    }

-- a resume ends its own pause alone
abbrev pub resumed_at : Stage → Sequencer → ℕ → ℕ → Sequencer
resumed_at stage.Idle s pause delay = s
resumed_at stage.Starting s pause delay = s
resumed_at stage.Running s pause delay = s
resumed_at (stage.Paused k) s pause delay = cond (eqb k pause) (loaded_resume s delay) s
resumed_at stage.Resuming s pause delay = s
resumed_at stage.Ended s pause delay = s

-- "Resume k (its event, for pause k) or Commands D1 (VME pause only)"; "Further resumes are ignored meanwhile."
unfoldable pub resumed : Sequencer → ℕ → ℕ → Sequencer
resumed s pause delay = resumed_at s.stage s pause delay

-- "The count takes every send, repeats too, and stays at FFFFFFh."
abbrev pub counted : ℕ → ℕ
counted count = cond (ltb count 0xffffff) (count + 1) count

-- document 02, card 2, of the setpoint send before this one since idle: "If that one carried Frame ID 15h and got fewer than six replies, the
-- shortfall": how many of the six did not come; 0 where it carried another ID, got six, or there is none
unfoldable pub shortfall : Option LastSend → ℕ
shortfall l = cond (is_some l && eqb (send_of l).id 0x15) (6 - (send_of l).replies) 0

-- the shortfall "is added to the count. The count stays at 255."
abbrev pub missing_with : ℕ → ℕ → ℕ
missing_with missing more = min (missing + more) 255

-- what any send changes, in the stage that it leaves the channel in; `first`: it is the first of the function's first word
abbrev pub sent_in_stage : Sequencer → (first : Bool) → ℕ → ℕ → Sequencer
sent_in_stage s first period id =
    record {
      armed = s.armed;
      stage = s.stage;
      left = period;
      resume = s.resume;
      index = s.index;
      word = s.word;
      last = Some (record { first = first; paused = is_paused s.stage; last = is_ended s.stage; id = id; tagged = s.tag; replies = 0 });
      count = counted s.count;
      missing = missing_with s.missing (shortfall s.last);
      tag = false;
    }

-- the word due is sent, of this kind, with this Frame ID: "After a send the next follows one period later." A tag not yet used marks this send, and so
-- "the send after it ends the mark", here and where a word is repeated.
unfoldable pub sent_as : Sequencer → ℕ → ℕ → ℕ → Kind → Ticked
sent_as s due period id k =
    record {
      sequencer = record {
        armed = s.armed;
        stage = stage_after k;
        left = period;
        resume = 0;
        index = index_after k s.index;
        word = due;
        last = Some (record { first = is_starting s.stage; paused = pauses k; last = ends k; id = id; tagged = s.tag; replies = 0 });
        count = counted s.count;
        missing = missing_with s.missing (shortfall s.last);
        tag = false;
      };
      transmission = transmission.Word due (condition_of k);
    }

-- the word due is sent, of the kind that its bits and its index give it
unfoldable pub sent_next : Sequencer → ℕ → ℕ → ℕ → ℕ → Ticked
sent_next s due n period id = sent_as s due period id (kind_of due (at_end n s.index))

-- "Repeats send the word kept from its first sending."
unfoldable pub repeated : Sequencer → ℕ → ℕ → Ticked
repeated s period id =
    record {
      sequencer = record {
        armed = s.armed;
        stage = s.stage;
        left = period;
        resume = s.resume;
        index = s.index;
        word = s.word;
        last = Some (record { first = false; paused = is_paused s.stage; last = is_ended s.stage; id = id; tagged = s.tag; replies = 0 });
        count = counted s.count;
        missing = missing_with s.missing (shortfall s.last);
        tag = false;
      };
      transmission = transmission.Word s.word 0;
    }

-- a tick on which nothing leaves
abbrev pub quiet : Sequencer → Ticked
quiet s = record { sequencer = s; transmission = transmission.Nothing }

-- "The first setpoint leaves on the tick that brings the count to 0."
unfoldable pub advancing : Sequencer → ℕ → ℕ → ℕ → ℕ → Ticked
advancing s due n period id = cond (leb s.left 1) (sent_next s due n period id) (quiet (with_left s (s.left - 1)))

-- a paused or last word "repeats each period"
unfoldable pub repeating : Sequencer → ℕ → ℕ → Ticked
repeating s period id = cond (leb s.left 1) (repeated s period id) (quiet (with_left s (s.left - 1)))

-- "Repeats go on through that delay, its last tick included; then 9 ticks are silent and the next word leaves on the 10th, restarting the clock."
unfoldable pub resuming : Sequencer → ℕ → ℕ → ℕ → ℕ → Ticked
resuming s due n period id =
    cond (leb s.resume 1) (sent_next s due n period id)
    (cond (leb s.resume 10) (quiet (with_resume s (s.resume - 1))) (repeating (with_resume s (s.resume - 1)) period id))

-- what a tick does, by what is under way
abbrev pub ticked_at : Stage → Sequencer → ℕ → ℕ → ℕ → ℕ → Ticked
ticked_at stage.Idle s due n period id = quiet s
ticked_at stage.Starting s due n period id = advancing s due n period id
ticked_at stage.Running s due n period id = advancing s due n period id
ticked_at (stage.Paused k) s due n period id = repeating s period id
ticked_at stage.Resuming s due n period id = resuming s due n period id
ticked_at stage.Ended s due n period id = repeating s period id

-- one tick: `due` is the word at the index due of the current user's active buffer, `n` the depth, `period` the clock's, `id` register 14's
unfoldable pub ticked : Sequencer → ℕ → ℕ → ℕ → ℕ → Ticked
ticked s due n period id = ticked_at s.stage s due n period id

abbrev pub with_replies : LastSend → ℕ → LastSend
with_replies l replies = record { first = l.first; paused = l.paused; last = l.last; id = l.id; tagged = l.tagged; replies = replies }

-- with one more reply after it; six are counted
abbrev pub with_next_reply : Option LastSend → Option LastSend
with_next_reply None = None
with_next_reply (Some l) = Some (with_replies l (cond (ltb l.replies 6) (l.replies + 1) l.replies))

-- one more reply after the last send
unfoldable pub answered : Sequencer → Sequencer
answered s = with_last s (with_next_reply s.last)

-- Group End: "idle; .. the setpoint count is .. cleared"; card 6: it drops "a tag not yet used"
unfoldable pub group_ended : Sequencer → Sequencer
group_ended s = with_tag (with_count (idled s) 0) false

-- document 02, card 6: "A tag event or Commands D3 on an armed channel marks the next setpoint send", idle or not; a second tag before that send adds nothing
unfoldable pub tagged : Sequencer → Sequencer
tagged s = cond s.armed (with_tag s true) s
