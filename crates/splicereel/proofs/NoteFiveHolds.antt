-- Note 5 holds. An accepted frame has passed the test of its street, by the rules of its edition. Under edition 01 no level differs from that by the older
-- rules, so the two street graphs are each nowhere worse than the other.
-- Assumes nothing.
use Prim.Native.Nat.{ℕ, ◌≤◌, ◌<◌}
use mathlib.Core.Path.{◌≡◌, subst}
use mathlib.Core.Bool.{true, false}
use mathlib.Core.List.{List}
use mathlib.Core.Logic.{◌↔◌}
use native.Mathlib.Omega.{arith}
use Rattle.std.proofs.lemmas.Bool.Decides.{nat_tests}
use Rattle.routes.specs.NowhereWorse.{NowhereWorse}
use Rattle.routes.specs.Routes.{Within}
use Rattle.routes.proofs.NowhereWorse.{within_too}
use Rattle.frames.specs.Edition.{is_newer, is_wide, extra, length_bytes, most_feet, marks_ok, crosses_nothing}
use Rattle.frames.specs.Frame.{marks, control, feet, approach_b, approach_a}
use Rattle.frames.specs.Ranges.{form_ok, crossing_ok, approach_ok, street_by, street_ok}
use Rattle.frames.proofs.RangeLaws.{newer_street}
use Rattle.network.specs.Network.{edition_of, segments_of, frame_of, is_network}
use Rattle.network.proofs.NetworkLaws.{frame_follows}
use Rattle.stress.proofs.NewerRulesHold.{newer_rules}
use Rattle.streets.specs.Bicycle.{run_level, movement_level, bicycle}
use Rattle.streets.specs.Editions.{AsBefore}
use Rattle.streets.specs.OlderBicycle.{older_run_level, older_movement_level, older_bicycle}
use Rattle.streets.proofs.EditionsHold.{editions}
use Rattle.streets.proofs.GroundLaws.{no_higher}
use Rattle.splicereel.specs.NoteFive.{NoNewValue, NoteFive}
use Rattle.splicereel.proofs.DemandThreeHolds.{demand_three}

-- ---- the values of edition 01
older_control : (f : List ℕ) (i : ℕ) → approach_ok false f i ≡ true → control f i ≤ 4
unfolding approach_ok crossing_ok crosses_nothing
older_control f i h = grind (arith, nat_tests)

older_marks : (e : ℕ) (f : List ℕ) → form_ok false e f ≡ true → marks e f ≤ 15
unfolding form_ok marks_ok
older_marks e f h = grind (arith, nat_tests)

older_values : (e : ℕ) (f : List ℕ) → street_by false e f ≡ true → NoNewValue e f
unfolding street_by
older_values e f h =
    let m = older_marks e f in
    let b = older_control f (approach_b e) in
    let a = older_control f (approach_a e) in
    record { no_mark = grind (arith, nat_tests); none_at_b = grind (arith, nat_tests); none_at_a = grind (arith, nat_tests) }

values : (net : List ℕ) → is_network net ≡ true → edition_of net ≡ 1 → (s : ℕ) → s < segments_of net → NoNewValue 1 (frame_of net s)
unfolding is_newer
values net n first s l =
    older_values 1 (frame_of net s) (subst (λ (e : ℕ). street_ok e (frame_of net s) ≡ true) first (frame_follows net n s l).street)

-- ---- what edition 02 allows
allowed : (f : List ℕ) → street_ok 1 f ≡ true → street_ok 2 f ≡ true
unfolding is_newer is_wide street_by extra length_bytes most_feet feet form_ok
allowed f h = newer_street f 1 h

-- ---- the routes of edition 01
module _ (net : List ℕ) (before : AsBefore net) where
  no_worse : NowhereWorse (bicycle net) (older_bicycle net)
  no_worse =
      no_higher net (run_level net) (older_run_level net) (movement_level net) (older_movement_level net)
      (λ r. omega (arith, before.run r)) (λ p q. omega (arith, before.movement p q))

  no_better : NowhereWorse (older_bicycle net) (bicycle net)
  no_better =
      no_higher net (older_run_level net) (run_level net) (older_movement_level net) (movement_level net)
      (λ r. omega (arith, before.run r)) (λ p q. omega (arith, before.movement p q))

  same_routes : {t a b : ℕ} (rs : List ℕ) → Within (bicycle net) t a b rs ↔ Within (older_bicycle net) t a b rs
  same_routes rs = (within_too no_better, within_too no_worse)

pub note_five : NoteFive
note_five =
    record {
      values = values;
      allowed = allowed;
      tables = newer_rules;
      levels = editions;
      routes = λ net first. same_routes net (editions.first net first);
      assurance = demand_three;
    }
