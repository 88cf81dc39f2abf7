-- The street graph of a kept network by the older rules, which are document 01's as Note 2 of document 02 left them, whatever the network's edition. Document
-- 02's Note 5 is told by it.
-- Assumes nothing.
use Rattle.std.specs.Prelude.{ℕ, max, cond, List, eqb}
use Rattle.routes.specs.Streets.{Streets}
use Rattle.frames.specs.Decoded.{form_of, crossing_of}
use Rattle.network.specs.Network.{edition_of, frame_of}
use Rattle.stress.specs.declared.segment.Grade.{Grade}
use Rattle.stress.specs.Crossing.{older_crossing}
use Rattle.stress.specs.Segment.{older_grade}
use Rattle.streets.specs.Exits.{right_hand_exit}
use Rattle.streets.specs.Runs.{runs_of, segment_of, frame_of_run, is_open, start, leaving_leg, finish, arrival_leg, arrival_approach, feet_of, joins}
use Rattle.streets.specs.Bicycle.{arrival_turn_level}

-- Level and governing measure of segment s.
unfoldable pub older_segment_grade : List ℕ → ℕ → Grade
older_segment_grade net s = older_grade (form_of (edition_of net) (frame_of net s))

-- A run has its segment's level.
unfoldable pub older_run_level : List ℕ → ℕ → ℕ
older_run_level net r = (older_segment_grade net (segment_of r)).level

-- The level of the crossing of the arrival approach of a run. (The turn lane's has no newer rule.)
unfoldable pub older_crossing_level : List ℕ → ℕ → ℕ
older_crossing_level net r = older_crossing (crossing_of (edition_of net) (frame_of_run net r) (arrival_approach net r))

unfoldable pub older_movement_level : List ℕ → ℕ → ℕ → ℕ
older_movement_level net p q =
    cond (eqb (leaving_leg net q) (right_hand_exit net (finish net p) (arrival_leg net p)))
    (arrival_turn_level net p)
    (max (arrival_turn_level net p) (older_crossing_level net p))

abbrev pub older_bicycle : List ℕ → Streets
older_bicycle net =
    record {
      runs = runs_of net;
      is_open = is_open net;
      start = start net;
      finish = finish net;
      feet = feet_of net;
      stress = older_run_level net;
      joins = joins net;
      turn = older_movement_level net;
    }
