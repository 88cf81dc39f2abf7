-- Document 01, "Frames", and Note 5 of document 02: the ranges and rules of a head's and a segment's fields.
-- Assumes nothing.
use Rattle.std.specs.Prelude.{ℕ, Bool, ◌&&◌, ◌||◌, List, leb, ltb, eqb}
use Rattle.frames.specs.Edition.{edition_ok, is_newer, most_nodes, most_segments, most_feet, most_turn_feet, marks_ok, crosses_nothing}
use Rattle.frames.specs.Frame.{edition, nodes, segments, node_a, leg_a, node_b, leg_b, form, ways, lanes, speed, reach, marks, approach_b, approach_a}
use Rattle.frames.specs.Frame.{feet, control, lanes_crossed, speed_crossed, turn_kind, turn_feet, turning_speed}

-- x is lo to hi
abbrev pub within : ℕ → ℕ → ℕ → Bool
within lo hi x = leb lo x && leb x hi

-- Head: an edition that exists; nodes N from 1, and segments S from 0, to what it allows.
unfoldable pub head_ok : List ℕ → Bool
head_ok h = edition_ok (edition h) && within 1 (most_nodes (edition h)) (nodes h) && leb (segments h) (most_segments (edition h))

-- Both ends: a node below N, a leg 0 to 7.
unfoldable pub ends_ok : ℕ → List ℕ → Bool
ends_ok n f = ltb (node_a f) n && leb (leg_a f) 7 && ltb (node_b f) n && leb (leg_b f) 7

-- Lanes 1 to 12. Speed 5 to 85. Reach 0 to 60. Form 0 has reach 0. Form 3 has lanes, speed, reach and marks 0.
unfoldable pub form_ok : Bool → ℕ → List ℕ → Bool
form_ok newer e f =
    (leb (form e f) 2 && within 1 12 (lanes e f) && within 5 85 (speed e f) && leb (reach e f) 60 && marks_ok newer (marks e f)
    && (within 1 2 (form e f) || eqb (reach e f) 0))
    || (eqb (form e f) 3 && eqb (lanes e f) 0 && eqb (speed e f) 0 && eqb (reach e f) 0 && eqb (marks e f) 0)

-- Controls 0 and 1, and 5 where there is one, have lanes and speed 0; the others 1 to 12 and 5 to 85.
unfoldable pub crossing_ok : Bool → List ℕ → ℕ → Bool
crossing_ok newer f i =
    (crosses_nothing newer (control f i) && eqb (lanes_crossed f i) 0 && eqb (speed_crossed f i) 0)
    || (within 2 4 (control f i) && within 1 12 (lanes_crossed f i) && within 5 85 (speed_crossed f i))

-- Turn kind 0 has length and turning speed 0; the others 1 to `most_turn_feet` and 5 to 85.
abbrev pub no_lane : List ℕ → ℕ → Bool
no_lane f i = eqb (turn_kind f i) 0 && eqb (turn_feet f i) 0 && eqb (turning_speed f i) 0

unfoldable pub turn_lane_ok : List ℕ → ℕ → Bool
turn_lane_ok f i =
    no_lane f i
    || (within 1 3 (turn_kind f i) && within 1 most_turn_feet (turn_feet f i) && within 5 85 (turning_speed f i))

unfoldable pub approach_ok : Bool → List ℕ → ℕ → Bool
approach_ok newer f i = crossing_ok newer f i && turn_lane_ok f i

-- What a segment's frame has after its ends: length from 1 to what the edition allows; a form; ways 1 to 3; two approaches.
unfoldable pub street_by : Bool → ℕ → List ℕ → Bool
street_by newer e f =
    within 1 (most_feet e) (feet e f) && form_ok newer e f && within 1 3 (ways e f)
    && approach_ok newer f (approach_b e) && approach_ok newer f (approach_a e)

-- by the rules of its edition
abbrev pub street_ok : ℕ → List ℕ → Bool
street_ok e f = street_by (is_newer e) e f
