-- The street graph of a kept network as it was before Note 2 of document 02: `bicycle` with the levels that document 01's table gave its segments.
-- Assumes nothing.
use Rattle.std.specs.Prelude.{ℕ, List}
use Rattle.routes.specs.Streets.{Streets}
use Rattle.frames.specs.Decoded.{form_of}
use Rattle.network.specs.Network.{edition_of, frame_of}
use Rattle.stress.specs.declared.segment.Grade.{Grade}
use Rattle.stress.specs.Amendment.{former_grade}
use Rattle.streets.specs.Runs.{runs_of, segment_of, is_open, start, finish, feet_of, joins}
use Rattle.streets.specs.Bicycle.{movement_level}

-- Level and governing measure of segment s.
unfoldable pub former_segment_grade : List ℕ → ℕ → Grade
former_segment_grade net s = former_grade (form_of (edition_of net) (frame_of net s))

-- A run has its segment's level.
unfoldable pub former_run_level : List ℕ → ℕ → ℕ
former_run_level net r = (former_segment_grade net (segment_of r)).level

abbrev pub former_bicycle : List ℕ → Streets
former_bicycle net =
    record {
      runs = runs_of net;
      is_open = is_open net;
      start = start net;
      finish = finish net;
      feet = feet_of net;
      stress = former_run_level net;
      joins = joins net;
      turn = movement_level net;
    }
