-- Document 01, 'A channel's life', its sends, pauses and resumes over time: ticks in a row and what each of them transmits, of which the laws in proofs/ speak.
-- `words i` is the word at index i of the current user's active buffer, which does not change meanwhile; `n` the depth, `id` the Frame ID.
use Rattle.std.specs.Prelude.{ℕ, zero, suc, ◌+◌, ◌*◌, ◌<◌, ◌≡◌, Bool, true, false, Option, option_map}
use Rattle.sequencer.specs.Words.{at_end, kind_of, stage_after, index_after, condition_of}
use Rattle.sequencer.specs.Playing.{ticked, counted, shortfall, missing_with, with_last, with_tag}
use Rattle.sequencer.specs.declared.Kind.{Kind}
use Rattle.sequencer.specs.declared.Stage.{Stage}
use Rattle.sequencer.specs.declared.Stage.TheVariants as stage
use Rattle.sequencer.specs.declared.LastSend.{LastSend}
use Rattle.sequencer.specs.declared.Sequencer.{Sequencer}
use Rattle.sequencer.specs.Transmissions.{Transmission, Ticked}
use Rattle.sequencer.specs.Transmissions as transmission

-- one tick, handed the word at the index due
abbrev pub next : (ℕ → ℕ) → ℕ → ℕ → ℕ → Sequencer → Ticked
next words n period id s = ticked s (words s.index) n period id

-- the sequencer after k ticks
unfoldable pub ticks : (ℕ → ℕ) → ℕ → ℕ → ℕ → Sequencer → ℕ → Sequencer
ticks words n period id s zero = s
ticks words n period id s (suc k) = (next words n period id (ticks words n period id s k)).sequencer

-- what the k-th of them transmits, the first being tick 1
unfoldable pub sends : (ℕ → ℕ) → ℕ → ℕ → ℕ → Sequencer → ℕ → Transmission
sends words n period id s zero = transmission.Nothing
sends words n period id s (suc k) = (next words n period id (ticks words n period id s k)).transmission

-- the kind of the word at index i
abbrev pub kind_at : (ℕ → ℕ) → ℕ → ℕ → Kind
kind_at words n i = kind_of (words i) (at_end n i)

-- the word at index i, sent for the first time: with the status bit that it latches
abbrev pub first_send : (ℕ → ℕ) → ℕ → ℕ → Transmission
first_send words n i = transmission.Word (words i) (condition_of (kind_at words n i))

-- a word sent again has no condition
abbrev pub again : ℕ → Transmission
again word = transmission.Word word 0

-- the sequencer just after that word was sent for the first time
pub record JustSent (words : ℕ → ℕ) (n period i : ℕ) (s : Sequencer) : Type 0 where
  pub stage_is : s.stage ≡ stage_after (kind_at words n i)
  pub left_is : s.left ≡ period
  pub index_is : s.index ≡ index_after (kind_at words n i) i
  pub word_is : s.word ≡ words i

-- the next word to leave is that at index i, on tick k: nothing is sent before it, and it is due till then
pub record Leaves (words : ℕ → ℕ) (n period id : ℕ) (s : Sequencer) (k i : ℕ) : Type 0 where
  pub silent : (j : ℕ) → j < k → sends words n period id s j ≡ transmission.Nothing
  pub due : (j : ℕ) → j < k → (ticks words n period id s j).index ≡ i
  pub sent : sends words n period id s k ≡ first_send words n i
  pub after : JustSent words n period i (ticks words n period id s k)

-- counting down to the word due
abbrev pub advances : Stage → Bool
advances stage.Idle = false
advances stage.Starting = true
advances stage.Running = true
advances (stage.Paused k) = false
advances stage.Resuming = false
advances stage.Ended = false

-- repeating the kept word, with no resume under way
abbrev pub holds : Stage → Bool
holds stage.Idle = false
holds stage.Starting = false
holds stage.Running = false
holds (stage.Paused k) = true
holds stage.Resuming = false
holds stage.Ended = true

-- tick j is one of l, l + p, l + 2p ..: it is l or later, and p divides j − l
abbrev pub Beat : ℕ → ℕ → ℕ → Type 0
Beat l p j = (r : ℕ) × (j ≡ l + r * p)

-- x is what tick j transmits where a word is repeated on those ticks, and nothing is sent on others
pub record Repeats (word l p j : ℕ) (x : Transmission) : Type 0 where
  pub on : Beat l p j → x ≡ again word
  pub off : (Beat l p j → ⊥) → x ≡ transmission.Nothing

-- the setpoint count after a tick that transmits this
abbrev pub count_after : Transmission → ℕ → ℕ
count_after transmission.Nothing count = count
count_after (transmission.Word word condition) count = counted count

-- the count of missing readbacks after a tick that transmits this, `last` being the send before it
abbrev pub missing_after : Transmission → Option LastSend → ℕ → ℕ
missing_after transmission.Nothing last missing = missing
missing_after (transmission.Word word condition) last missing = missing_with missing (shortfall last)

-- document 02, card 6: a tag not yet used after a tick that transmits this: it "marks the next setpoint send", which uses it
abbrev pub tag_after : Transmission → Bool → Bool
tag_after transmission.Nothing tag = tag
tag_after (transmission.Word word condition) tag = false

-- whether the last send used a tag: "the send after it ends the mark"
abbrev pub tagged_after : Transmission → (tag tagged : Bool) → Bool
tagged_after transmission.Nothing tag tagged = tagged
tagged_after (transmission.Word word condition) tag tagged = tag

-- the same send without "the mark"; and the same state without it and without "a tag not yet used"
abbrev pub unmarked : LastSend → LastSend
unmarked l = record { first = l.first; paused = l.paused; last = l.last; id = l.id; tagged = false; replies = l.replies }

abbrev pub untagged : Sequencer → Sequencer
untagged s = with_tag (with_last s (option_map unmarked s.last)) false

-- how many words a tick that transmits this sends
abbrev pub as_number : Transmission → ℕ
as_number transmission.Nothing = 0
as_number (transmission.Word word condition) = 1

-- how many words the first k ticks send
unfoldable pub sent_by : (ℕ → ℕ) → ℕ → ℕ → ℕ → Sequencer → ℕ → ℕ
sent_by words n period id s zero = 0
sent_by words n period id s (suc k) = sent_by words n period id s k + as_number (sends words n period id s (suc k))
