-- The rows of ramps hold, by computation. Assumes nothing.
use mathlib.Core.Path.{refl}
use Rattle.ramp.specs.Interpolation.{floor_div, floor_mod, code_between, remainder_between, twos_complement}
use Rattle.ramp.specs.Ramp.{is_increasing, is_valid, segment_from, segment_of, code_word, remainder_word, overwritten, ramp_answer, ramp_codes, ramp_remainders}
use Rattle.ramp.specs.Rows.{counted, RampRows}

pub ramp_rows : RampRows
unfolding counted ramp_answer ramp_codes ramp_remainders is_valid is_increasing overwritten code_word remainder_word segment_of segment_from code_between remainder_between floor_div floor_mod twos_complement
ramp_rows =
    record {
      example_wrote = refl;
      example_codes = refl;
      example_remainders = refl;
      segments_wrote = refl;
      segments_codes = refl;
      segments_remainders = refl;
      rise_codes = refl;
      rise_remainders = refl;
      fall_codes = refl;
      fall_remainders = refl;
      empty_refused = refl;
      one_refused = refl;
      two_wrote = refl;
      most_wrote = refl;
      more_refused = refl;
      depth_zero = refl;
      depth_one = refl;
      depth_two = refl;
      depth_most = refl;
      depth_more = refl;
      first_refused = refl;
      equal_refused = refl;
      falling_refused = refl;
      last_refused = refl;
      both_fit = refl;
      codes_short = refl;
      remainders_short = refl;
      codes_kept = refl;
      remainders_kept = refl;
    }
