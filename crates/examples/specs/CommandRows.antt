-- Document 02, card 1, on numbers of document 01's examples: auxiliary 1, ID and data 0 give frame 1743; frame 7 is well framed, its CRC wrong.
use Rattle.std.specs.Prelude.{◌≡◌, List, [], ◌∷◌, ◌++◌}
use Rattle.channel_core.specs.Answers.{frame, kept, value}
use Rattle.channel.specs.OneChannel.{ChannelCall, write_register, read_register, arm, reply, tick, response}
use Rattle.examples.specs.Reached.{led}

-- auxiliary 1 written to E0, armed, and FC with D0; then the tick; then the reply
abbrev pub asked : List ChannelCall
asked = write_register 8 0xe0 0x100 ∷ arm ∷ write_register 8 0xfc 1 ∷ []

abbrev pub sent : List ChannelCall
sent = asked ++ (tick 128 ∷ [])

abbrev pub replied : List ChannelCall
replied = sent ++ (reply 8 7 ∷ [])

pub record CommandRows : Type 0 where
  pub frame_1743 : response (led asked) (tick 128) ≡ frame 1743
  pub reply_kept : response (led sent) (reply 8 7) ≡ kept
  pub readback_id_lem : response (led replied) (read_register 0xe4) ≡ value 0x100
  pub readback : response (led replied) (read_register 0xe6) ≡ value 0
  pub readback_count : response (led replied) (read_register 0xfe) ≡ value 1
