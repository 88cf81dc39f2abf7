-- The streets of a moved network are those of the network: each segment has its ends, its ways, its length, its level and its approaches, and so each run
-- and each movement is the same.
-- Assumes nothing.
use Prim.Native.Nat.{ℕ, zero, suc, ◌*◌, ◌≤◌, ◌<◌}
use mathlib.Core.Bool.{Bool, true, false, cond}
use mathlib.Core.Path.{◌≡◌, refl, sym, ap, ap₂, ◌∙◌}
use mathlib.Core.List.{List}
use native.Mathlib.Omega.{arith}
use Rattle.frames.specs.Edition.{is_newer}
use Rattle.frames.specs.Frame.{node_a, leg_a, node_b, leg_b, feet, ways, approach_a, approach_b}
use Rattle.frames.specs.Decoded.{form_of, crossing_of, turn_lane_of}
use Rattle.network.specs.Network.{edition_of, segments_of, frame_of, is_network}
use Rattle.network.proofs.NetworkLaws.{frame_follows}
use Rattle.stress.specs.declared.segment.Grade.{Grade}
use Rattle.stress.specs.Crossing.{crossing_level}
use Rattle.stress.specs.TurnLane.{turn_lane_level}
use Rattle.routes.specs.SameStreets.{SameStreets}
use Rattle.streets.specs.Exits.{has_end, used_below, is_used, next_below, exit_from, right_hand_exit}
use Rattle.streets.specs.Runs.{runs_of, segment_of, rides_to_b, frame_of_run, is_open, start, leaving_leg, finish, arrival_leg, arrival_approach, feet_of, joins}
use Rattle.streets.specs.Bicycle.{segment_grade, run_level, arrival_turn_level, arrival_crossing_level, movement_level, bicycle}
use Rattle.moves.specs.Moved.{moved}
use Rattle.moves.specs.Moving.{within_limits}
use Rattle.moves.proofs.MovedFrame.{feet_same}
use Rattle.moves.proofs.MovedFields.{node_a_same, leg_a_same, node_b_same, leg_b_same, ways_same, form_same, crossing_same, turn_lane_same}
use Rattle.moves.proofs.MovedNetwork.{Between, narrow_frame, edition_moved, segments_moved, frame_of_moved, limits}

-- Of segment s two networks say the same.
pub record SameSegment (m net : List ℕ) (s : ℕ) : Type 0 where
  pub node_a : node_a (frame_of m s) ≡ node_a (frame_of net s)
  pub leg_a : leg_a (frame_of m s) ≡ leg_a (frame_of net s)
  pub node_b : node_b (frame_of m s) ≡ node_b (frame_of net s)
  pub leg_b : leg_b (frame_of m s) ≡ leg_b (frame_of net s)
  pub feet : feet (edition_of m) (frame_of m s) ≡ feet (edition_of net) (frame_of net s)
  pub ways : ways (edition_of m) (frame_of m s) ≡ ways (edition_of net) (frame_of net s)
  pub form : form_of (edition_of m) (frame_of m s) ≡ form_of (edition_of net) (frame_of net s)
  pub crossing_b : crossing_of (edition_of m) (frame_of m s) (approach_b (edition_of m)) ≡ crossing_of (edition_of net) (frame_of net s) (approach_b (edition_of net))
  pub crossing_a : crossing_of (edition_of m) (frame_of m s) (approach_a (edition_of m)) ≡ crossing_of (edition_of net) (frame_of net s) (approach_a (edition_of net))
  pub turn_lane_b : turn_lane_of (frame_of m s) (approach_b (edition_of m)) ≡ turn_lane_of (frame_of net s) (approach_b (edition_of net))
  pub turn_lane_a : turn_lane_of (frame_of m s) (approach_a (edition_of m)) ≡ turn_lane_of (frame_of net s) (approach_a (edition_of net))

-- They have as many segments, the same rules, and say the same of each segment.
pub record SameSegments (m net : List ℕ) : Type 0 where
  pub counted : segments_of m ≡ segments_of net
  pub rules : is_newer (edition_of m) ≡ is_newer (edition_of net)
  pub each : (s : ℕ) → s < segments_of net → SameSegment m net s

-- ---- what such networks have in common
at_either : {A : Type 0} (b : Bool) (f g : ℕ → A) {x y x' y' : ℕ} → f x ≡ g x' → f y ≡ g y' → f (cond b x y) ≡ g (cond b x' y')
at_either true f g p q = p
at_either false f g p q = q

exit_same : (u v : ℕ → Bool) → ((leg : ℕ) → u leg ≡ v leg) → (steps leg : ℕ) → exit_from u steps leg ≡ exit_from v steps leg
unfolding exit_from
exit_same u v e zero leg = refl
exit_same u v e (suc steps) leg = rw (e (next_below leg), exit_same u v e steps (next_below leg)) refl

module _ {m net : List ℕ} (S : SameSegments m net) where
  used_same : (k : ℕ) → k ≤ segments_of net → (node leg : ℕ) → used_below m k node leg ≡ used_below net k node leg
  unfolding used_below has_end
  used_same zero h node leg = refl
  used_same (suc k) h node leg =
      let E = S.each k (omega arith) in rw (E.node_a, E.leg_a, E.node_b, E.leg_b, used_same k (omega arith) node leg) refl

  pub exits_same : (node leg : ℕ) → right_hand_exit m node leg ≡ right_hand_exit net node leg
  unfolding right_hand_exit
  exits_same node leg =
      exit_same (is_used m node) (is_used net node)
      (λ other. ap (λ (k : ℕ). used_below m k node other) S.counted ∙ used_same (segments_of net) (omega arith) node other) 8 leg

  pub grade_same : (s : ℕ) → s < segments_of net → segment_grade m s ≡ segment_grade net s
  unfolding segment_grade
  grade_same s l = let E = S.each s l in rw (S.rules, E.ways, E.form) refl

  module _ (r : ℕ) (l : r < runs_of net) where
    E : SameSegment m net (segment_of r)
    E = S.each (segment_of r) (omega arith)

    pub open_same : is_open m r ≡ is_open net r
    unfolding is_open
    open_same = rw E.ways refl

    pub start_same : start m r ≡ start net r
    unfolding start
    start_same = rw (E.node_a, E.node_b) refl

    pub leaving_same : leaving_leg m r ≡ leaving_leg net r
    unfolding leaving_leg
    leaving_same = rw (E.leg_a, E.leg_b) refl

    pub finish_same : finish m r ≡ finish net r
    unfolding finish
    finish_same = rw (E.node_a, E.node_b) refl

    pub arrival_same : arrival_leg m r ≡ arrival_leg net r
    unfolding arrival_leg
    arrival_same = rw (E.leg_a, E.leg_b) refl

    pub feet_of_same : feet_of m r ≡ feet_of net r
    unfolding feet_of
    feet_of_same = E.feet

    pub level_same : run_level m r ≡ run_level net r
    unfolding run_level
    level_same = ap (λ (g : Grade). g.level) (grade_same (segment_of r) (omega arith))

    turn_level_same : arrival_turn_level m r ≡ arrival_turn_level net r
    unfolding arrival_turn_level arrival_approach
    turn_level_same =
        ap turn_lane_level
        (at_either (rides_to_b r) (turn_lane_of (frame_of_run m r)) (turn_lane_of (frame_of_run net r)) E.turn_lane_b E.turn_lane_a)

    crossing_level_same : arrival_crossing_level m r ≡ arrival_crossing_level net r
    unfolding arrival_crossing_level arrival_approach
    crossing_level_same =
        ap₂ crossing_level S.rules
        (at_either (rides_to_b r) (crossing_of (edition_of m) (frame_of_run m r)) (crossing_of (edition_of net) (frame_of_run net r)) E.crossing_b E.crossing_a)

  module _ (p q : ℕ) (l : p < runs_of net) (k : q < runs_of net) where
    pub joins_same : joins m p q ≡ joins net p q
    unfolding joins
    joins_same = rw (finish_same p l, start_same q k, arrival_same p l, leaving_same q k) refl

    pub movement_same : movement_level m p q ≡ movement_level net p q
    unfolding movement_level
    movement_same =
        rw (leaving_same q k, finish_same p l, arrival_same p l, exits_same, turn_level_same p l, crossing_level_same p l) refl

  pub same_streets : SameStreets (bicycle m) (bicycle net)
  same_streets =
      record {
        ground =
            record {
              runs = ap (λ (k : ℕ). 2 * k) S.counted;
              starts = start_same;
              finishes = finish_same;
              lengths = feet_of_same;
              joined = joins_same;
            };
        opens = open_same;
        stress = level_same;
        turns = movement_same;
      }

-- ---- a moved network
module _ (net : List ℕ) (is : is_network net ≡ true) {d : ℕ} (B : Between (edition_of net) d) (fits : within_limits d net ≡ true) where
  same_segment : (s : ℕ) → s < segments_of net → SameSegment (moved d net) net s
  same_segment s l =
      let e = edition_of net in
      let f = frame_of net s in
      let size = (frame_follows net is s l).size in
      let allowed = (limits d net fits).lengths s l in
      let there = frame_of_moved net is d s l in
      let in_d = edition_moved net is d in
      record {
        node_a = ap node_a there ∙ node_a_same e d f size;
        leg_a = ap leg_a there ∙ leg_a_same e d f size;
        node_b = ap node_b there ∙ node_b_same e d f size;
        leg_b = ap leg_b there ∙ leg_b_same e d f size;
        feet = ap₂ feet in_d there ∙ feet_same e f size (narrow_frame B f allowed) d;
        ways = ap₂ ways in_d there ∙ ways_same e d f size;
        form = ap₂ form_of in_d there ∙ form_same e d f size;
        crossing_b =
            ap₂ (λ (n : ℕ) (g : List ℕ). crossing_of n g (approach_b n)) in_d there ∙ crossing_same e d f size 15 _ _ (omega arith) refl refl;
        crossing_a =
            ap₂ (λ (n : ℕ) (g : List ℕ). crossing_of n g (approach_a n)) in_d there ∙ crossing_same e d f size 22 _ _ (omega arith) refl refl;
        turn_lane_b =
            ap₂ (λ (n : ℕ) (g : List ℕ). turn_lane_of g (approach_b n)) in_d there ∙ turn_lane_same e d f size 15 _ _ (omega arith) refl refl;
        turn_lane_a =
            ap₂ (λ (n : ℕ) (g : List ℕ). turn_lane_of g (approach_a n)) in_d there ∙ turn_lane_same e d f size 22 _ _ (omega arith) refl refl;
      }

  pub same_segments : SameSegments (moved d net) net
  same_segments =
      record {
        counted = segments_moved net is d;
        rules = ap is_newer (edition_moved net is d) ∙ sym B.rules;
        each = same_segment;
      }
