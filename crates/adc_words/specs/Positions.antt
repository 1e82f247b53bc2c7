-- Document 02, card 7: "A send's third to sixth replies are its ADC words." "The six places are given by the reply's position after the send, so a reply lost
-- to a full buffer keeps its position."
use Rattle.std.specs.Prelude.{ℕ, Bool, false, cond, List, eqb, ltb, get_or}
use Rattle.adc_words.specs.declared.AdcWord.{AdcWord}
use Rattle.adc_words.specs.declared.AdcWords.{AdcWords}

-- a reply: stored or not, its CRC right or not, its data
abbrev pub adc_word : (stored right : Bool) → ℕ → AdcWord
adc_word stored right bits = record { stored = stored; right = right; «data» = bits }

-- one that has not come
abbrev pub no_reply : AdcWord
no_reply = adc_word false false 0

-- none of the four has
abbrev pub none_arrived : AdcWords
none_arrived = record { third = no_reply; fourth = no_reply; fifth = no_reply; sixth = no_reply }

-- one more reply, `before` having come before it: the next after two is the third
unfoldable pub with_reply : AdcWords → (before : ℕ) → AdcWord → AdcWords
with_reply w before a =
    record {
      third = cond (eqb before 2) a w.third;
      fourth = cond (eqb before 3) a w.fourth;
      fifth = cond (eqb before 4) a w.fifth;
      sixth = cond (eqb before 5) a w.sixth;
    }

-- the ADC words of a send that got so many replies: what stands in the place of one that has not come is of an earlier send, if anything
unfoldable pub arrived : AdcWords → (replies : ℕ) → AdcWords
arrived w replies =
    record {
      third = cond (ltb 2 replies) w.third no_reply;
      fourth = cond (ltb 3 replies) w.fourth no_reply;
      fifth = cond (ltb 4 replies) w.fifth no_reply;
      sixth = cond (ltb 5 replies) w.sixth no_reply;
    }

-- those of a send by the replies after it, in order
abbrev pub words_of : List AdcWord → AdcWords
words_of replies =
    record {
      third = get_or replies 2 no_reply;
      fourth = get_or replies 3 no_reply;
      fifth = get_or replies 4 no_reply;
      sixth = get_or replies 5 no_reply;
    }
