-- In a kept network the corner of a run, the node and the leg that it leaves, is the corner of its segment's end, so the index of runs has the run there
-- and nowhere else: an entry that is not 0 tells a run that leaves by that leg of that node, and every run that leaves a node is at one of the
-- node's eight entries. So the one run that leaves by the leg where another arrives is the other run of that one's segment. A run has 1 foot at least,
-- and at most what its edition allows.
-- Assumes nothing.
use Prim.Native.Nat.{ℕ, ◌+◌, ◌*◌, ◌-◌, ◌/◌, ◌%◌, ◌≤◌, ◌<◌}
use mathlib.Core.Path.{◌≡◌, refl, sym, ◌∙◌, ap}
use mathlib.Core.Bool.{true}
use mathlib.Core.List.{List}
use native.Mathlib.Omega.{arith}
use Rattle.std.proofs.lemmas.Bool.Decides.{nat_tests}
use Rattle.lists.specs.Lists.{at}
use Rattle.frames.specs.Edition.{most_feet}
use Rattle.frames.specs.Frame.{feet}
use Rattle.frames.specs.Ranges.{street_by, street_ok}
use Rattle.frames.proofs.FrameLaws.{EndLimits}
use Rattle.network.specs.Legs.{corner}
use Rattle.network.specs.Network.{edition_of, nodes_of, segments_of, is_network}
use Rattle.network.specs.Steps.Corners.{leaves, corners_of, IndexOf, LeavesBy}
use Rattle.network.proofs.NetworkLaws.{frame_follows, corner_below, run_leaves, leaves_tells}
use Rattle.streets.specs.Runs.{runs_of, segment_of, frame_of_run, start, leaving_leg, finish, arrival_leg, feet_of}
use Rattle.streets.specs.Steps.Places.{RunOf}
use Rattle.streets.specs.Steps.Leaving.{opposite, Entry}
use Rattle.streets.proofs.EndLaws.{run_limits}

-- ---- feet
pub street_feet : (e : ℕ) (f : List ℕ) → street_ok e f ≡ true → (1 ≤ feet e f) × (feet e f ≤ most_feet e)
unfolding street_by
street_feet e f h = grind (arith, nat_tests)

module _ {net : List ℕ} {r : ℕ} (R : RunOf net r) where
  counted : segment_of r < segments_of net
  counted = omega (arith, R.inside)

  pub run_feet : (1 ≤ feet_of net r) × (feet_of net r ≤ most_feet (edition_of net))
  unfolding feet_of
  run_feet = street_feet (edition_of net) (frame_of_run net r) (frame_follows net R.network (segment_of r) counted).street

  -- ---- the corner of a run
  limits : EndLimits (nodes_of net) (frame_of_run net r)
  limits = run_limits net r R.network R.inside

  pub start_below : start net r < nodes_of net
  unfolding start
  start_below = let e = limits in grind (arith, nat_tests)

  pub finish_below : finish net r < nodes_of net
  unfolding finish
  finish_below = let e = limits in grind (arith, nat_tests)

  pub leaving_below : leaving_leg net r < 8
  unfolding leaving_leg
  leaving_below = let e = limits in grind (arith, nat_tests)

  leaves_by_corner : LeavesBy net r (corner (start net r) (leaving_leg net r))
  unfolding start leaving_leg
  leaves_by_corner = record { s = segment_of r; counted = counted; end = grind (arith, nat_tests) }

-- it leaves by no other
own_corner : (net : List ℕ) (r c : ℕ) → LeavesBy net r c → c ≡ corner (start net r) (leaving_leg net r)
unfolding start leaving_leg
own_corner net r c w = grind (arith, nat_tests)

leaves_inside : (net : List ℕ) (r c : ℕ) → LeavesBy net r c → r < runs_of net
leaves_inside net r c w = grind arith

-- ---- the index of runs
module _ (net : List ℕ) {index : List ℕ} (is : is_network net ≡ true) (I : IndexOf net index) where
  index_entry : (node leg : ℕ) → node < nodes_of net → leg < 8 → at index (node * 8 + leg) ≡ leaves (corners_of net) (corner node leg)
  index_entry node leg l low = I.entry (corner node leg) (corner_below node leg l (omega arith))

  pub entry_leaves : {node leg : ℕ} → node < nodes_of net → leg < 8 → Entry net node leg (at index (node * 8 + leg))
  entry_leaves {node} {leg} l low =
      record {
        leaving = λ r h.
            let w = leaves_tells net r (corner node leg) (omega (arith, index_entry node leg l low)) in
            let there = own_corner net r (corner node leg) w in
            let below = leaving_below (record { network = is; inside = leaves_inside net r (corner node leg) w }) in
            record { inside = leaves_inside net r (corner node leg) w; from = omega arith; by = omega arith };
      }

  -- a run is at the entry of the leg that it leaves by, one of the node's eight
  pub leaving_at : {r : ℕ} → RunOf net r → {node leg : ℕ} → start net r ≡ node → leaving_leg net r ≡ leg → at index (node * 8 + leg) ≡ r + 1
  leaving_at {r} R e f =
      let entry = index_entry (start net r) (leaving_leg net r) (start_below R) (leaving_below R) in
      let run = run_leaves net is (leaves_by_corner R) in
      rw (sym e, sym f) (omega arith)

  pub leaving_entry : {r : ℕ} → RunOf net r → (node : ℕ) → start net r ≡ node → (leg : ℕ) × (leg < 8) × (at index (node * 8 + leg) ≡ r + 1)
  leaving_entry {r} R node e = (leaving_leg net r, leaving_below R, leaving_at R e refl)

-- ---- the other run of a segment
pub record Opposed (net : List ℕ) (r : ℕ) : Type 0 where
  pub starts : start net (opposite r) ≡ finish net r
  pub leaves : leaving_leg net (opposite r) ≡ arrival_leg net r
  pub ends : finish net (opposite r) ≡ start net r

pub opposed : (net : List ℕ) (r : ℕ) → Opposed net r
unfolding start finish leaving_leg arrival_leg
opposed net r =
    let half : opposite r / 2 ≡ r / 2 = omega arith in
    let odd : opposite r % 2 ≡ 1 - r % 2 = omega arith in
    record { starts = grind (arith, nat_tests); leaves = grind (arith, nat_tests); ends = grind (arith, nat_tests) }

-- a corner is one run's: a run that leaves where another arrives, by the leg of its arrival, goes back where that one came from
pub back_ends : (net : List ℕ) {index : List ℕ} → is_network net ≡ true → IndexOf net index → {u r : ℕ} → RunOf net u → RunOf net r
    → start net r ≡ finish net u → leaving_leg net r ≡ arrival_leg net u → finish net r ≡ start net u
back_ends net is I {u} {r} U R from by =
    let O = opposed net u in
    let there : RunOf net (opposite u) = record { network = is; inside = omega (arith, U.inside) } in
    let same : r ≡ opposite u = omega (arith, leaving_at net is I R from by, leaving_at net is I there O.starts O.leaves) in
    ap (finish net) same ∙ O.ends
