-- What a call brings: a reply its word, any other call none. Assumes nothing.
use Prim.Native.Nat.{ℕ}
use mathlib.Core.List.{List, []}
use Rattle.frame.specs.Frames.{read}
use Rattle.channel.specs.OneChannel.{ChannelCall, OneChannel}
use Rattle.channel.specs.OneChannel as call
use Rattle.histories.specs.History.{reply_word, asks}

pub brought : (P : List ℕ → Type 0) (o : OneChannel) (k : ChannelCall) → ((f : ℕ) → P (reply_word o (read f))) → P [] → P (asks o k).word
brought P o (call.write_register lent offset value) replies none = none
brought P o (call.read_register offset) replies none = none
brought P o (call.write_setpoint lent user buffer index word) replies none = none
brought P o call.arm replies none = none
brought P o call.disarm replies none = none
brought P o call.open_download replies none = none
brought P o (call.reply lent f) replies none = replies f
brought P o (call.query which one two) replies none = none
brought P o (call.tick lent) replies none = none
brought P o (call.event lent code) replies none = none
brought P o (call.change_user user) replies none = none
brought P o (call.write_main lent offset value) replies none = none
brought P o (call.read_main offset) replies none = none
