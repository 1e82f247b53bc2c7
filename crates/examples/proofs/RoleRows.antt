-- The rows of roles hold, by computation. Assumes nothing.
use mathlib.Core.Path.{refl}
use Rattle.address_map.specs.Addresses.{named}
use Rattle.board.specs.Calls as board_calls
use Rattle.board_channels.specs.Calls as board_channels_calls
use Rattle.board_downloads.specs.Calls as board_downloads_calls
use Rattle.board_registers.specs.Calls as board_registers_calls
use Rattle.board_state.specs.Main as board_state_main
use Rattle.board_state.specs.State as board_state_state
use Rattle.channel_core.specs.Behaviour as channel_core_behaviour
use Rattle.channel_core.specs.State as channel_core_state
use Rattle.channel.specs.Calls as channel_calls
use Rattle.channel.specs.Downloads as channel_downloads
use Rattle.channel_registers.specs.Calls as channel_registers_calls
use Rattle.channel_replies.specs.Replying as channel_replies_replying
use Rattle.sequencer.specs.Playing as sequencer_playing
use Rattle.command_frames.specs.Commanding as command_frames_commanding
use Rattle.registers.specs.Map as registers_map
use Rattle.readback.specs.Storing as readback_storing
use Rattle.status.specs.Bits as status_bits
use Rattle.frame.specs.Crc as frame_crc
use Rattle.frame.specs.Frames as frame_frames
use Rattle.register_map.specs.AccessRule as register_map_accessrule
use Rattle.isolation.specs.Calls.{answer, after, words_after}
use Rattle.access_control.specs.Guarding.{guard_refusal, guarded_answer, guarded_after, guarded_words, guarded_step}
use Rattle.examples.specs.RoleRows.{RoleRows}

pub role_rows : RoleRows
unfolding guard_refusal guarded_answer guarded_after guarded_words guarded_step answer after words_after named board_calls.open_refusal board_calls.open_board board_calls.tick_channel board_calls.tick_frame board_calls.tick_board board_calls.tick_board_answer board_calls.event_answer board_calls.changed_at board_calls.user_board board_calls.user_answer board_channels_calls.setpoint_answer board_channels_calls.set_armed board_channels_calls.arm_answer board_channels_calls.reply_answer board_channels_calls.retired_words board_channels_calls.retired_answer board_channels_calls.retired_length board_downloads_calls.opened_board board_downloads_calls.opening_answer board_downloads_calls.portion_words board_downloads_calls.portion_answer board_downloads_calls.portion_length board_registers_calls.write_board board_registers_calls.write_answer board_registers_calls.write_words board_registers_calls.read_answer board_state_main.main_word board_state_main.main_status board_state_main.main_value board_state_main.level_of board_state_state.opened channel_core_behaviour.user_changed channel_core_behaviour.group_words channel_core_behaviour.ended_words channel_core_behaviour.command_words channel_core_behaviour.tick_of channel_core_behaviour.tick_answer channel_core_state.opened channel_calls.setpoint_refusal channel_calls.setpoint_answer channel_calls.armed_of channel_calls.retired_words channel_downloads.download_opened channel_downloads.portion_words channel_registers_calls.register_refusal channel_registers_calls.register_effect channel_registers_calls.written_of channel_registers_calls.written_answer channel_registers_calls.register_words channel_registers_calls.written_words channel_registers_calls.read_value channel_registers_calls.read_answer channel_replies_replying.disposition_now channel_replies_replying.reply_answer sequencer_playing.armed sequencer_playing.ticked command_frames_commanding.stored command_frames_commanding.command_frame command_frames_commanding.ticked command_frames_commanding.takes registers_map.loaded readback_storing.disposition_of status_bits.word_of_bits frame_crc.crc_of frame_frames.crc_for frame_frames.encoded frame_frames.read register_map_accessrule.channel_access register_map_accessrule.main_access
role_rows =
    record {
      write_none = refl;
      write_read_alone = refl;
      write_alone = refl;
      write_both = refl;
      write_watcher = refl;
      setpoint_read_alone = refl;
      setpoint_write_alone = refl;
      arm_denied = refl;
      arm_read_alone = refl;
      arm_granted = refl;
      disarm_denied = refl;
      disarm_granted = refl;
      reply_denied = refl;
      reply_granted = refl;
      read_denied = refl;
      read_granted = refl;
      read_watcher = refl;
      retired_denied = refl;
      retired_granted = refl;
      length_denied = refl;
      length_granted = refl;
      readings_denied = refl;
      download_denied = refl;
      download_write_alone = refl;
      download_granted = refl;
      portion_granted = refl;
      portion_write_alone = refl;
      clear_read_alone = refl;
      clear_polling = refl;
      clear_missing = refl;
      clear_write_alone = refl;
      clear_both = refl;
      clear_both_missing = refl;
      not_clear = refl;
      main_read_lem = refl;
      main_write = refl;
      main_status_lem = refl;
      main_examiner = refl;
      user_denied = refl;
      user_examiner = refl;
      level_candidate = refl;
      level_watcher = refl;
      level_examiner = refl;
      tick_watcher = refl;
      tick_candidate = refl;
      event_watcher = refl;
      event_candidate = refl;
      length_first = refl;
      tick_length_first = refl;
      buffers_first = refl;
      unmapped_first = refl;
      unmapped_main = refl;
      outside = refl;
      channel_first = refl;
      channel_zero = refl;
      before_user = refl;
      after_user = refl;
      before_index = refl;
      after_index = refl;
      before_access = refl;
      after_access = refl;
      before_read_access = refl;
      after_read_access = refl;
      before_clock = refl;
      after_clock = refl;
      before_framing = refl;
      after_framing = refl;
      before_idle = refl;
      after_idle = refl;
      before_download = refl;
      after_download = refl;
      before_range = refl;
      after_range = refl;
      before_active = refl;
      after_active = refl;
      frame_shown = refl;
      frame_hidden = refl;
      sent_unseen = refl;
      alike = refl;
      unlike = refl;
      refused_stays = refl;
      reset_stays = refl;
      reset_keeps = refl;
      group_end_stays = refl;
      user_stays = refl;
    }
