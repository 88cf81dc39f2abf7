-- Document 01, "Frames", and Note 5 of document 02: the decoded fields of a head, the form of a segment, and what its approaches cross and meet. Each case
-- has only its own fields. A number that no rule allows (specs/Ranges.antt refuses it) decodes as the last case.
-- Assumes nothing.
use Rattle.std.specs.Prelude.{ℕ, cond, List, eqb}
use Rattle.frames.specs.declared.Head.{Head}
use Rattle.frames.specs.declared.Form.{Form}
use Rattle.frames.specs.declared.Form.TheVariants.{Mixed, BesideParking, BikeLane, SeparatePath}
use Rattle.frames.specs.declared.Crossing.{Crossing}
use Rattle.frames.specs.declared.Crossing.TheVariants.{Nothing, Signal, NoIsland, Island, OneWay, ImprovedSignal}
use Rattle.frames.specs.declared.TurnLane.{TurnLane}
use Rattle.frames.specs.declared.TurnLane.TheVariants.{Absent, Straight, ShiftsLeft, NoBikeLane}
use Rattle.frames.specs.Frame.{edition, nodes, segments}
use Rattle.frames.specs.Frame.{form, lanes, speed, reach, marks, control, lanes_crossed, speed_crossed, turn_kind, turn_feet, turning_speed}

abbrev pub head_fields : List ℕ → Head
head_fields h = record { edition = edition h; nodes = nodes h; segments = segments h }

-- Form: 0 mixed traffic, 1 bike lane beside parking, 2 bike lane without parking, 3 separate path.
unfoldable pub form_of : ℕ → List ℕ → Form
form_of e f =
    cond (eqb (form e f) 0) (Mixed (lanes e f) (speed e f) (marks e f))
    (cond (eqb (form e f) 1) (BesideParking (lanes e f) (speed e f) (reach e f) (marks e f))
    (cond (eqb (form e f) 2) (BikeLane (lanes e f) (speed e f) (reach e f) (marks e f)) SeparatePath))

-- Control: 0 nothing crossed, 1 signal, 2 unsignalised without island, 3 unsignalised with island, 4 unsignalised one-way street; by the newer rules 5, a
-- signal with a bicycle left-turn improvement.
unfoldable pub crossing_of : ℕ → List ℕ → ℕ → Crossing
crossing_of e f i =
    cond (eqb (control f i) 0) Nothing
    (cond (eqb (control f i) 1) Signal
    (cond (eqb (control f i) 2) (NoIsland (lanes_crossed f i) (speed_crossed f i))
    (cond (eqb (control f i) 3) (Island (lanes_crossed f i) (speed_crossed f i))
    (cond (eqb (control f i) 4) (OneWay (lanes_crossed f i) (speed_crossed f i)) ImprovedSignal))))

-- Turn-lane kind: 0 none, 1 bike lane goes straight on beside it, 2 bike lane shifts left, 3 no bike lane.
unfoldable pub turn_lane_of : List ℕ → ℕ → TurnLane
turn_lane_of f i =
    cond (eqb (turn_kind f i) 0) Absent
    (cond (eqb (turn_kind f i) 1) (Straight (turn_feet f i) (turning_speed f i))
    (cond (eqb (turn_kind f i) 2) (ShiftsLeft (turn_feet f i) (turning_speed f i)) (NoBikeLane (turn_feet f i) (turning_speed f i))))
