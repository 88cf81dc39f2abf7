-- The samples hold, by computation.
-- Assumes nothing.
use mathlib.Core.Path.{refl}
use Rattle.frames.specs.Edition.{edition_ok, is_newer, is_wide, most_nodes, most_segments, extra, length_bytes, frame_bytes, most_feet, marks_ok, crosses_nothing}
use Rattle.frames.specs.Frame.{number, total, check_ok, feet}
use Rattle.frames.specs.Ranges.{head_ok, ends_ok, form_ok, crossing_ok, turn_lane_ok, approach_ok, street_by}
use Rattle.frames.specs.Faults.{framed, head_fault}
use Rattle.network.specs.Legs.{is_in, legs_free}
use Rattle.network.specs.Faults.{segment_fault}
use Rattle.network.specs.Network.{frames_ok, is_network}
use Rattle.digits.specs.Digits.{is_digit, digit, line_of}
use Rattle.text.specs.Read.{segment_lines, read_of}
use Rattle.text.specs.Samples.{Samples}

pub samples : Samples
unfolding is_digit digit line_of edition_ok is_newer is_wide most_nodes most_segments extra length_bytes frame_bytes most_feet marks_ok crosses_nothing number total check_ok feet head_ok ends_ok form_ok crossing_ok turn_lane_ok approach_ok street_by is_in legs_free framed head_fault segment_fault segment_lines read_of frames_ok is_network
samples =
    record {
      accepted = refl;
      no_segments = refl;
      passes = refl;
      too_long = refl;
      newer_accepted = refl;
      newer_passes = refl;
      mark_under_01 = refl;
      control_under_01 = refl;
      mark_beyond = refl;
      control_beyond = refl;
      county_accepted = refl;
      county_passes = refl;
      county_too_short = refl;
      feet_beyond = refl;
      narrow_in_03 = refl;
      wide_in_02 = refl;
      wide_in_01 = refl;
      most_nodes_03 = refl;
      nodes_beyond_03 = refl;
      nodes_beyond_02 = refl;
      not_digits = refl;
      not_uppercase = refl;
      not_ended = refl;
      not_filled = refl;
      wrong_check = refl;
      wrong_head = refl;
      wrong_kind = refl;
      nothing = refl;
      wrong_edition = refl;
      wrong_ways = refl;
      wrong_node = refl;
      beyond = refl;
      too_few = refl;
      taken_before = refl;
      taken_twice = refl;
      no_room = refl;
    }
