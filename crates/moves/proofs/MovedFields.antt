-- The fields of a moved frame: its ends, its ways, its form, what its approaches cross and meet are those of the frame, and so it follows the rules of the
-- new edition where that has the same rules and allows the length.
-- Assumes nothing.
use Prim.Native.Nat.{ℕ, ◌+◌, ◌*◌, ◌≤◌}
use mathlib.Core.Bool.{Bool, true}
use mathlib.Core.Path.{◌≡◌, refl, ap₂, ◌∙◌}
use mathlib.Core.List.{List}
use native.Mathlib.Omega.{arith}
use lib.ListN.{length}
use Rattle.std.proofs.lemmas.Bool.Decides.{nat_tests}
use Rattle.frames.specs.Edition.{is_newer, extra, frame_bytes, most_feet}
use Rattle.frames.specs.Frame.{byte, check_ok, node_a, leg_a, node_b, leg_b, feet, ways, approach_a, approach_b}
use Rattle.frames.specs.Decoded.{form_of, crossing_of, turn_lane_of}
use Rattle.frames.specs.Ranges.{ends_ok, form_ok, crossing_ok, turn_lane_ok, approach_ok, street_by, street_ok}
use Rattle.frames.specs.Follows.{SegmentFollows}
use Rattle.network.specs.Legs.{corner_a, corner_b, legs_free}
use Rattle.moves.specs.Moved.{frame_in}
use Rattle.moves.proofs.MovedBytes.{frame_long}
use Rattle.moves.proofs.MovedFrame.{Narrow, front_byte, later_byte, total_same, feet_same}

module _ (e d : ℕ) (f : List ℕ) (size : length f ≡ frame_bytes e) where
  abbrev moved_frame : List ℕ
  moved_frame = frame_in e d f

  -- ---- the ends
  pub node_a_same : node_a moved_frame ≡ node_a f
  node_a_same = ap₂ (λ (a b : ℕ). a * 256 + b) (front_byte e d f size 1 (omega arith)) (front_byte e d f size 2 (omega arith))

  pub leg_a_same : leg_a moved_frame ≡ leg_a f
  leg_a_same = front_byte e d f size 3 (omega arith)

  pub node_b_same : node_b moved_frame ≡ node_b f
  node_b_same = ap₂ (λ (a b : ℕ). a * 256 + b) (front_byte e d f size 4 (omega arith)) (front_byte e d f size 5 (omega arith))

  pub leg_b_same : leg_b moved_frame ≡ leg_b f
  leg_b_same = front_byte e d f size 6 (omega arith)

  pub corner_a_same : corner_a moved_frame ≡ corner_a f
  corner_a_same = ap₂ (λ (node leg : ℕ). node * 8 + leg) node_a_same leg_a_same

  pub corner_b_same : corner_b moved_frame ≡ corner_b f
  corner_b_same = ap₂ (λ (node leg : ℕ). node * 8 + leg) node_b_same leg_b_same

  pub free_same : (taken : List ℕ) → legs_free taken moved_frame ≡ legs_free taken f
  unfolding legs_free
  free_same taken = rw (corner_a_same, corner_b_same) refl

  ends_same : (n : ℕ) → ends_ok n moved_frame ≡ ends_ok n f
  unfolding ends_ok
  ends_same n = rw (node_a_same, leg_a_same, node_b_same, leg_b_same) refl

  -- ---- what stands after the length
  field : (k : ℕ) → 7 ≤ k → byte moved_frame (extra d + k) ≡ byte f (extra e + k)
  field k l = later_byte e d f size k _ _ l refl refl

  pub ways_same : ways d moved_frame ≡ ways e f
  ways_same = field 10 (omega arith)

  pub form_same : form_of d moved_frame ≡ form_of e f
  unfolding form_of
  form_same =
      rw (field 9 (omega arith), field 11 (omega arith), field 12 (omega arith), field 13 (omega arith), field 14 (omega arith)) refl

  form_ok_same : (newer : Bool) → form_ok newer d moved_frame ≡ form_ok newer e f
  unfolding form_ok
  form_ok_same newer =
      rw (field 9 (omega arith), field 11 (omega arith), field 12 (omega arith), field 13 (omega arith), field 14 (omega arith)) refl

  -- ---- an approach, at places i and j that are as far behind the length
  module _ (k i j : ℕ) (l : 7 ≤ k) (p : i ≡ extra d + k) (q : j ≡ extra e + k) where
    met : (m : ℕ) → byte moved_frame (i + m) ≡ byte f (j + m)
    met m = later_byte e d f size (k + m) (i + m) (j + m) (omega arith) (omega (arith, p)) (omega (arith, q))

    first : byte moved_frame i ≡ byte f j
    first = later_byte e d f size k i j l p q

    low : byte moved_frame (i + 4 + 1) ≡ byte f (j + 4 + 1)
    low = later_byte e d f size (k + 5) _ _ (omega arith) (omega (arith, p)) (omega (arith, q))

    pub crossing_same : crossing_of d moved_frame i ≡ crossing_of e f j
    unfolding crossing_of
    crossing_same = rw (first, met 1, met 2) refl

    pub turn_lane_same : turn_lane_of moved_frame i ≡ turn_lane_of f j
    unfolding turn_lane_of
    turn_lane_same = rw (met 3, met 4, low, met 6) refl

    approach_same : (newer : Bool) → approach_ok newer moved_frame i ≡ approach_ok newer f j
    unfolding approach_ok crossing_ok turn_lane_ok
    approach_same newer = rw (first, met 1, met 2, met 3, met 4, low, met 6) refl

  -- ---- the rules
  module _ (w : Narrow e f) (allowed : feet e f ≤ most_feet d) (rules : is_newer e ≡ is_newer d) where
    street_too : street_ok e f ≡ true → street_ok d moved_frame ≡ true
    unfolding street_by
    street_too h =
        let feet = feet_same e f size w d in
        let form = form_ok_same (is_newer d) in
        let b = approach_same 15 (approach_b d) (approach_b e) (omega arith) refl refl (is_newer d) in
        let a = approach_same 22 (approach_a d) (approach_a e) (omega arith) refl refl (is_newer d) in
        let good = rw rules at h in
        rw (feet, form, ways_same, b, a) (grind (arith, nat_tests, good, allowed))

    pub follows_too : (n : ℕ) → SegmentFollows e n f → SegmentFollows d n moved_frame
    unfolding check_ok
    follows_too n S =
        record {
          check = rw (total_same e f size w d) S.check;
          kind = front_byte e d f size 0 (omega arith) ∙ S.kind;
          size = frame_long e d f size;
          ends = ends_same n ∙ S.ends;
          street = street_too S.street;
        }
