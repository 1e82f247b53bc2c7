-- Document 01, 'A channel's life': replies, the words stored for them, and the retired part. Document 02, card 3: an end word in every retired buffer;
-- card 6: the tag in a stored word.
-- Of the state, "both stored readback counts": `stored` is that of the active buffer, `retired` that of the inactive one.
use Rattle.std.specs.Prelude.{ℕ, ◌+◌, ◌-◌, ◌*◌, ◌%◌, ◌≡◌, Bool, true, false, cond, not, ◌&&◌, List, set, take, ltb, Option, is_some}
use Rattle.status.specs.Bits.{bit_of}
use Rattle.sequencer.specs.declared.LastSend.{LastSend}
use Rattle.sequencer.specs.Playing.{send_of}
use Rattle.readback.specs.declared.Readbacks.{Readbacks}
use Rattle.readback.specs.declared.Disposition.{Disposition}
use Rattle.readback.specs.declared.Disposition.TheVariants as disposition

-- "no readbacks"
abbrev pub opened : Readbacks
opened = record { stored = 0; retired = 0 }

-- how many readbacks a buffer takes. Card 3: "The last place is now kept for" the end word; "A buffer of depth M takes M − 1 readbacks", "With M = 1 a
-- buffer takes only the end word."
abbrev pub capacity : ℕ → ℕ
capacity m = m - 1

-- "Kept word: D31 first send of the function's first word, D30 paused, D29 last, D28–D26 user less 1, D25 0, D24 CRC wrong, D23–D16 ID,
-- D15–D0 data; D31–D26 describe the last send." `user` is the current user: it is that of the last send since idle, since a change of user idles.
-- Card 6, of a send that used a tag: "Replies kept for that send have D25 set".
unfoldable pub stored_word : LastSend → ℕ → Bool → ℕ → ℕ → ℕ
stored_word l user wrong id word =
    bit_of l.first * 0x80000000 + bit_of l.paused * 0x40000000 + bit_of l.last * 0x20000000
    + ((user - 1) % 8 * 0x4000000 + bit_of l.tagged * 0x2000000 + bit_of wrong * 0x1000000) + id * 0x10000 + word

-- index of a readback, or of the end word, in the channel's 2 × M words, "by .. buffer, index"
abbrev pub place_of : Bool → ℕ → ℕ → ℕ
place_of second m index = cond second (m + index) index

-- "A reply is kept if not idle, a setpoint was sent since idle, and fewer than six replies have followed the last such send"
abbrev pub is_due : Bool → Option LastSend → Bool
is_due idle l = not idle && (is_some l && ltb (send_of l).replies 6)

-- "else it is "unasked". If the buffer is full it is "lost""; card 3: "A buffer of depth M takes M − 1 readbacks and the next is lost."
unfoldable pub disposition_of : Bool → Option LastSend → ℕ → ℕ → Disposition
disposition_of idle l stored m =
    cond (is_due idle l) (cond (ltb stored (capacity m)) disposition.Kept disposition.Lost) disposition.Unsolicited

-- a kept word goes after the stored ones of the active buffer, and is counted; a full buffer takes none
abbrev pub kept_in : Readbacks → ℕ → Readbacks
kept_in r m = record { stored = cond (ltb r.stored (capacity m)) (r.stored + 1) r.stored; retired = r.retired }

-- the channel's 2 × M words after that; `second` says that buffer 2 is the active one
abbrev pub kept_words : Readbacks → List ℕ → Bool → ℕ → ℕ → List ℕ
kept_words r s second m word = cond (ltb r.stored (capacity m)) (set s (place_of second m r.stored) word) s

abbrev pub end_word : ℕ
end_word = 0x2000000

-- when a stored word is the end word. Card 6: "User 1, ID 0, data 0, tagged, may equal the end word", where the send was none of first, paused and last
-- and the CRC is right. Of users 1 to 8, `first_user` is user 1.
pub record LikeEnd (l : LastSend) (user : ℕ) (wrong : Bool) (id word : ℕ) : Type 0 where
  pub tagged : l.tagged ≡ true
  pub not_first : l.first ≡ false
  pub not_paused : l.paused ≡ false
  pub not_last : l.last ≡ false
  pub first_user : (user - 1) % 8 ≡ 0
  pub right : wrong ≡ false
  pub id_0 : id ≡ 0
  pub data_0 : word ≡ 0

-- "02000000h goes after the stored readbacks ..", full or not: card 3: "Group End always writes the end word." The readbacks leave a place for it in
-- every state that an opening leads to (`InRange`, histories)
abbrev pub end_words : Readbacks → List ℕ → Bool → ℕ → List ℕ
end_words r s second m = set s (place_of second m r.stored) end_word

-- "readback buffers switch, the new one empty"
abbrev pub group_ended : Readbacks → Readbacks
group_ended r = record { stored = 0; retired = r.stored }

-- "the stored part of the inactive one itself, by count, without the end word": buffer 1 where buffer 2 is active. Card 6: "the count alone says where a
-- retired part ends", whatever words stand in it.
abbrev pub retired_part : Bool → ℕ → List ℕ → List ℕ → List ℕ
retired_part second count one two = take count (cond second one two)
