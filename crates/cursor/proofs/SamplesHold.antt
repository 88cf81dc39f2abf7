-- The samples hold, by computation.
-- Assumes nothing.
use mathlib.Core.Path.{refl}
use Rattle.frames.specs.Edition.{edition_ok, is_newer, is_wide, most_nodes, most_segments, extra, length_bytes, frame_bytes, most_feet, marks_ok, crosses_nothing}
use Rattle.frames.specs.Frame.{number, total, check_ok, feet}
use Rattle.frames.specs.Ranges.{head_ok, ends_ok, form_ok, crossing_ok, turn_lane_ok, approach_ok, street_by}
use Rattle.frames.specs.Faults.{framed, head_fault}
use Rattle.network.specs.Legs.{is_in, legs_free}
use Rattle.network.specs.Faults.{segment_fault}
use Rattle.digits.specs.Digits.{is_digit, digit, line_of}
use Rattle.text.specs.Read.{segment_lines, read_of}
use Rattle.cursor.specs.Lines.{first_line, after_line, after_lines}
use Rattle.cursor.specs.Cursor.{cursor_of}
use Rattle.cursor.specs.Samples.{Samples}

pub samples : Samples
unfolding is_digit digit line_of edition_ok is_newer is_wide most_nodes most_segments extra length_bytes frame_bytes most_feet marks_ok crosses_nothing number total check_ok feet head_ok ends_ok form_ok crossing_ok turn_lane_ok approach_ok street_by is_in legs_free framed head_fault segment_fault segment_lines read_of first_line after_line after_lines cursor_of
samples =
    record {
      in_first_line = refl;
      middle_line = refl;
      last_line = refl;
      lowercase_digit = refl;
      wrong_ways = refl;
      not_ended = refl;
      empty_line = refl;
      carriage_return = refl;
      beyond = refl;
      too_few = refl;
      nothing = refl;
      end_alone = refl;
      short_output = refl;
      accepted = refl;
      no_segments = refl;
    }
