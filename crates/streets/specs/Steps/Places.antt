-- What the code learns of a run beside its values: which frame is its segment's, that a node and a leg are in their ranges; and what a run meets where it
-- arrives.
-- Assumes nothing.
use Rattle.std.specs.Prelude.{ℕ, ◌<◌, max, ◌≡◌, cond, true, List, eqb}
use Rattle.frames.specs.declared.frame.Frame.{Frame}
use Rattle.frames.specs.Edition.{is_newer}
use Rattle.frames.specs.Frame.{ways}
use Rattle.frames.specs.Decoded.{form_of}
use Rattle.stress.specs.declared.segment.Grade.{Grade}
use Rattle.stress.specs.NewerSegment.{grade_of}
use Rattle.network.specs.Network.{edition_of, nodes_of, frame_of, is_network}
use Rattle.streets.specs.declared.movements.Approach.{Approach}
use Rattle.streets.specs.declared.movements.Arrival.{Arrival}
use Rattle.streets.specs.Exits.{right_hand_exit}
use Rattle.streets.specs.Runs.{runs_of, finish, arrival_leg}
use Rattle.streets.specs.Bicycle.{arrival_turn_level, arrival_crossing_level}

-- A run of a network that Read could keep.
pub record RunOf (net : List ℕ) (r : ℕ) : Type 0 where
  pub network : is_network net ≡ true
  pub inside : r < runs_of net

-- This is the frame of segment s, of the network's edition.
pub record FrameOf (net : List ℕ) (s : ℕ) (f : Frame) : Type 0 where
  pub bytes : f.bytes.now ≡ frame_of net s
  pub edition : f.edition ≡ edition_of net

-- Level and governing measure of the segment of a frame.
abbrev pub frame_grade : Frame → Grade
frame_grade f = grade_of (is_newer f.edition) (ways f.edition f.bytes.now) (form_of f.edition f.bytes.now)

-- r is this node of the network.
pub record NodeOf (net : List ℕ) (node r : ℕ) : Type 0 where
  pub is : r ≡ node
  pub below : r < nodes_of net

-- r is this leg.
pub record LegOf (leg r : ℕ) : Type 0 where
  pub is : r ≡ leg
  pub below : r < 8

-- The levels that run r meets where it arrives.
pub record Approached (net : List ℕ) (r : ℕ) (a : Approach) : Type 0 where
  pub onto_exit : a.turn ≡ arrival_turn_level net r
  pub onto_other : a.across ≡ max (arrival_turn_level net r) (arrival_crossing_level net r)

-- What run r meets where it arrives.
pub record Arrived (net : List ℕ) (r : ℕ) (a : Arrival) : Type 0 where
  pub node : NodeOf net (finish net r) a.node
  pub leg : LegOf (arrival_leg net r) a.leg
  pub exit : a.exit ≡ right_hand_exit net (finish net r) (arrival_leg net r)
  pub onto_exit : a.turn ≡ arrival_turn_level net r
  pub onto_other : a.across ≡ max (arrival_turn_level net r) (arrival_crossing_level net r)

-- The level of a movement from such an arrival onto a leg.
abbrev pub level_onto : Arrival → ℕ → ℕ
level_onto a leg = cond (eqb leg a.exit) a.turn a.across
