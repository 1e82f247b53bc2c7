-- The one-channel definition by the channel's own calls: what each call does to it and answers; refused, it stands still. Assumes nothing.
use Prim.Native.Nat.{ℕ, ◌*◌}
use mathlib.Core.Path.{◌≡◌, refl, sym, ap, ap₂, ◌∙◌}
use mathlib.Core.Bool.{Bool, true, false, cond}
use mathlib.Core.List.{List, [], ◌∷◌, ◌++◌}
use lib.Dec.{eqb}
use Rattle.frame.specs.Frames.{Reading, read}
use Rattle.frame.specs.Frames as frame
use Rattle.register_map.specs.AccessRule.{channel_access, main_access}
use Rattle.register_map.specs.AccessRefusals.{read_refusal, write_refusal}
use Rattle.channel_core.specs.declared.Channel.{Channel}
use Rattle.channel_core.specs.Answers.{Answer, is_refusal, unless}
use Rattle.channel_core.specs.Answers as ans
use Rattle.channel_core.specs.Behaviour.{played_of}
use Rattle.channel_core.specs.Behaviour as core
use Rattle.channel_replies.specs.Replying.{reply_answer_as, reply_as, reply_words_as}
use Rattle.channel_replies.specs.Replying as replies
use Rattle.channel_registers.specs.Calls.{register_refusal}
use Rattle.channel_registers.specs.Calls as channel_registers
use Rattle.channel.specs.Calls.{then, setpoint_refusal}
use Rattle.channel.specs.Calls as chn
use Rattle.channel.specs.OneChannel.{OneChannel, Query, ChannelCall, with_channel, with_setpoints, with_readbacks, refusal_of, effect, answer, transition, response, transitions, responses, length_refusal, framing_refusal}
use Rattle.channel.specs.OneChannel as to
use Rattle.channel.proofs.Cases.{clash, either}
use Rattle.board_state.specs.Checks.{size_mismatch}
use Rattle.histories.proofs.Accepted.{line_accepted, main_accepted}
use Rattle.isolation.proofs.Refused.{reply_still, reply_words_lem}

-- the channel and its readbacks changed
abbrev pub with_both : OneChannel → Channel → List ℕ → OneChannel
with_both o c s = with_readbacks (with_channel o c) s

-- ---- Refused, it stands still

module _ (o : OneChannel) where
  -- no refusal but in `refusal_of`; a reply's stands in the answer too, and there it changes nothing
  effect_still : (k : ChannelCall) → is_refusal (answer o k) ≡ true → effect o k ≡ o
  unfolding answer effect core.tick_answer
  effect_still (to.write_register lent x v) h = clash h
  effect_still (to.read_register x) h = clash h
  effect_still (to.write_setpoint lent u f i x) h = clash h
  effect_still to.arm h = clash h
  effect_still to.disarm h = clash h
  effect_still to.open_download h = clash h
  effect_still (to.reply lent f) h =
      ap₂ (with_both o) (reply_still o.channel o.m f h) (reply_words_lem o.channel o.readbacks o.m o.user f h)
  effect_still (to.query q k j) h = refl
  effect_still (to.tick lent) h =
      clash (sym (line_accepted o.channel.registers.id o.channel.commands (played_of o.channel o.setpoints o.n o.user).transmission) ∙ h)
  effect_still (to.event lent x) h = clash h
  effect_still (to.change_user u) h = clash h
  effect_still (to.write_main lent x v) h = refl
  effect_still (to.read_main x) h = clash (sym (main_accepted o.channel x) ∙ h)

  pub still : (k : ChannelCall) → is_refusal (response o k) ≡ true → transition o k ≡ o
  unfolding response transition
  still k h = go (eqb (refusal_of o k) 0) refl
    where
      go : (t : Bool) → eqb (refusal_of o k) 0 ≡ t → transition o k ≡ o
      go true e = rw e (effect_still k (rw e at h))
      go false e = rw e

  -- ---- What a call does

  module _ (k : ℕ) (fit : eqb k (o.m * 8) ≡ true) where
    pub transition_write : (x v : ℕ)
        → transition o (to.write_register k x v)
        ≡ with_both o (channel_registers.written_of o.channel x v) (channel_registers.written_words o.channel o.readbacks o.m x v)
    unfolding transition refusal_of effect channel_registers.written_of channel_registers.written_words
    transition_write x v = rw fit (go (eqb (register_refusal o.channel x v) 0))
      where
        go : (t : Bool)
            → cond t (with_both o (channel_registers.register_effect o.channel x v) (channel_registers.register_words o.channel o.readbacks o.m x v)) o
            ≡ with_both o (cond t (channel_registers.register_effect o.channel x v) o.channel)
            (cond t (channel_registers.register_words o.channel o.readbacks o.m x v) o.readbacks)
        go true = refl
        go false = refl

    pub transition_reply : (f : ℕ)
        → transition o (to.reply k f)
        ≡ with_both o (replies.reply_of o.channel o.m f) (replies.reply_words o.channel o.readbacks o.m o.user f)
    unfolding transition refusal_of effect replies.reply_of replies.reply_words
    transition_reply f = rw fit (go (read f))
      where
        go : (r : Reading)
            → cond (eqb (framing_refusal r) 0)
            (with_both o (reply_as r o.channel o.m) (reply_words_as r o.channel o.readbacks o.m o.user)) o
            ≡ with_both o (reply_as r o.channel o.m) (reply_words_as r o.channel o.readbacks o.m o.user)
        go (frame.refused k) = either (λ (a : OneChannel). a ≡ o) (eqb k 0) refl refl
        go (frame.fields id word aux crc) = refl

    pub transition_event : (x : ℕ)
        → transition o (to.event k x)
        ≡ with_both o (core.event_of o.channel o.user x) (core.event_words o.channel o.readbacks o.m x)
    unfolding transition refusal_of effect
    transition_event x = rw fit

  module _ (k : ℕ) (fit : eqb k (o.n * 64) ≡ true) where
    pub transition_setpoint : (u f i x : ℕ)
        → transition o (to.write_setpoint k u f i x) ≡ with_setpoints o (chn.setpoint_words o.channel o.setpoints o.n u f i x)
    unfolding transition refusal_of effect chn.setpoint_words
    transition_setpoint u f i x = rw fit (go (eqb (setpoint_refusal o.channel o.n u f i) 0) refl)
      where
        go : (t : Bool) → eqb (setpoint_refusal o.channel o.n u f i) 0 ≡ t
            → cond t (with_setpoints o (chn.setpoint_words o.channel o.setpoints o.n u f i x)) o
            ≡ with_setpoints o (chn.setpoint_words o.channel o.setpoints o.n u f i x)
        go true e = refl
        go false e = rw e

    pub transition_tick : transition o (to.tick k) ≡ with_channel o (core.tick_of o.channel o.setpoints o.n o.user)
    unfolding transition refusal_of effect
    transition_tick = rw fit

  pub transition_read : (x : ℕ) → transition o (to.read_register x) ≡ with_channel o (channel_registers.read_of o.channel x)
  unfolding transition refusal_of effect channel_registers.read_of
  transition_read x = go (eqb (read_refusal (channel_access x)) 0)
    where
      go : (t : Bool)
          → cond t (with_channel o (channel_registers.read_effect o.channel x)) o
          ≡ with_channel o (cond t (channel_registers.read_effect o.channel x) o.channel)
      go true = refl
      go false = refl

  pub transition_main : (k x v : ℕ) → transition o (to.write_main k x v) ≡ o
  unfolding transition effect
  transition_main k x v =
      either (λ (a : OneChannel). a ≡ o) (eqb (refusal_of o (to.write_main k x v)) 0) refl refl

  pub transition_query : (q : Query) (k j : ℕ) → transition o (to.query q k j) ≡ o
  unfolding transition effect
  transition_query q k j = either (λ (a : OneChannel). a ≡ o) (eqb (refusal_of o (to.query q k j)) 0) refl refl

  -- ---- What it answers

  -- 1 comes first
  fit_first : (k j : ℕ) (q : ℕ) (a : Answer)
      → unless (then (length_refusal k j) q) a ≡ cond (eqb k j) (unless q a) size_mismatch
  fit_first k j q a = go (eqb k j)
    where
      go : (t : Bool) → unless (then (cond t 0 1) q) a ≡ cond t (unless q a) size_mismatch
      go true = refl
      go false = refl

  pub response_write : (k x v : ℕ) → response o (to.write_register k x v) ≡ cond (eqb k (o.m * 8)) (channel_registers.written_answer o.channel x v) size_mismatch
  unfolding response refusal_of answer channel_registers.written_answer
  response_write k x v = fit_first k (o.m * 8) (register_refusal o.channel x v) ans.done

  pub response_setpoint : (k u f i x : ℕ)
      → response o (to.write_setpoint k u f i x)
      ≡ cond (eqb k (o.n * 64)) (chn.setpoint_answer o.channel o.n u f i) size_mismatch
  unfolding response refusal_of answer chn.setpoint_answer
  response_setpoint k u f i x = fit_first k (o.n * 64) (setpoint_refusal o.channel o.n u f i) ans.done

  pub response_reply : (k f : ℕ)
      → response o (to.reply k f) ≡ cond (eqb k (o.m * 8)) (replies.reply_answer o.channel o.m f) size_mismatch
  unfolding response refusal_of answer replies.reply_answer
  response_reply k f =
      fit_first k (o.m * 8) (framing_refusal (read f)) (reply_answer_as (read f) o.channel o.m)
      ∙ ap (λ (a : Answer). cond (eqb k (o.m * 8)) a size_mismatch) (go (read f))
    where
      go : (r : Reading) → unless (framing_refusal r) (reply_answer_as r o.channel o.m) ≡ reply_answer_as r o.channel o.m
      go (frame.refused k) = either (λ (a : Answer). a ≡ ans.refused k) (eqb k 0) refl refl
      go (frame.fields id word aux crc) = refl

  pub response_main : (k x v : ℕ)
      → response o (to.write_main k x v) ≡ cond (eqb k (o.m * 8)) (unless (write_refusal (main_access x)) ans.done) size_mismatch
  unfolding response refusal_of answer
  response_main k x v = fit_first k (o.m * 8) (write_refusal (main_access x)) ans.done

  pub response_event : (k x : ℕ) → response o (to.event k x) ≡ cond (eqb k (o.m * 8)) ans.done size_mismatch
  unfolding response refusal_of answer
  response_event k x = go (eqb k (o.m * 8))
    where
      go : (t : Bool) → unless (cond t 0 1) ans.done ≡ cond t ans.done size_mismatch
      go true = refl
      go false = refl

  pub response_tick : (k : ℕ)
      → response o (to.tick k)
      ≡ cond (eqb k (o.n * 64)) (core.tick_answer o.channel o.setpoints o.n o.user) size_mismatch
  unfolding response refusal_of answer
  response_tick k = go (eqb k (o.n * 64))
    where
      go : (t : Bool)
          → unless (cond t 0 1) (core.tick_answer o.channel o.setpoints o.n o.user)
          ≡ cond t (core.tick_answer o.channel o.setpoints o.n o.user) size_mismatch
      go true = refl
      go false = refl

-- ---- Along two lists

pub transitions_append : (o : OneChannel) (ks js : List ChannelCall) → transitions o (ks ++ js) ≡ transitions (transitions o ks) js
transitions_append o [] js = refl
transitions_append o (k ∷ ks) js = transitions_append (transition o k) ks js

pub responses_append : (o : OneChannel) (ks js : List ChannelCall) → responses o (ks ++ js) ≡ responses o ks ++ responses (transitions o ks) js
responses_append o [] js = refl
responses_append o (k ∷ ks) js = ap (λ (r : List Answer). response o k ∷ r) (responses_append (transition o k) ks js)
