-- The samples hold, by computation.
-- Assumes nothing.
use mathlib.Core.Path.{refl}
use Rattle.frames.specs.Edition.{edition_ok, is_newer, is_wide, most_nodes, most_segments, extra, length_bytes, frame_bytes, most_feet, marks_ok, crosses_nothing}
use Rattle.frames.specs.Frame.{number, total, check_ok, feet}
use Rattle.frames.specs.Ranges.{head_ok, ends_ok, form_ok, crossing_ok, turn_lane_ok, approach_ok, street_by}
use Rattle.frames.specs.Faults.{framed, head_fault}
use Rattle.network.specs.Legs.{is_in, legs_free}
use Rattle.network.specs.Faults.{segment_fault}
use Rattle.network.specs.Network.{frames_ok, is_network}
use Rattle.moves.specs.Moved.{head_in, frame_in, frames_in, moved}
use Rattle.moves.specs.Moving.{lengths_ok, within_limits, move_refusal}
use Rattle.moves.specs.Samples.{Samples}

pub samples : Samples
unfolding edition_ok is_newer is_wide most_nodes most_segments extra length_bytes frame_bytes most_feet marks_ok crosses_nothing number total check_ok feet head_ok ends_ok form_ok crossing_ok turn_lane_ok approach_ok street_by is_in legs_free framed head_fault segment_fault frames_ok is_network head_in frame_in frames_in moved lengths_ok within_limits move_refusal
samples =
    record {
      up = refl;
      back = refl;
      up_fits = refl;
      up_short = refl;
      back_fits = refl;
      back_short = refl;
      above = refl;
      above_first = refl;
      first_up = refl;
      first_back = refl;
      county_up = refl;
      newer_back = refl;
      nothing = refl;
    }
