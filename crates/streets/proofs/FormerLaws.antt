-- Under edition 01 the streets are nowhere worse than they were before Note 2 of document 02: the levels of segments alone differ, and none is higher.
-- Assumes nothing.
use Prim.Native.Nat.{ℕ, ◌≤◌}
use mathlib.Core.Path.{◌≡◌}
use mathlib.Core.List.{List}
use native.Mathlib.Omega.{arith}
use Rattle.routes.specs.NowhereWorse.{NowhereWorse}
use Rattle.frames.specs.Decoded.{form_of}
use Rattle.network.specs.Network.{edition_of, frame_of}
use Rattle.stress.proofs.AmendmentHolds.{amendment}
use Rattle.streets.specs.Runs.{segment_of}
use Rattle.streets.specs.Bicycle.{run_level, movement_level, bicycle}
use Rattle.streets.specs.OlderBicycle.{older_segment_grade, older_run_level}
use Rattle.streets.specs.FormerBicycle.{former_segment_grade, former_run_level, former_bicycle}
use Rattle.streets.proofs.EditionsHold.{editions}
use Rattle.streets.proofs.GroundLaws.{no_higher}

module _ (net : List ℕ) (first : edition_of net ≡ 1) where
  run_no_higher : (r : ℕ) → run_level net r ≤ former_run_level net r
  unfolding older_segment_grade older_run_level former_segment_grade former_run_level
  run_no_higher r =
      let form = form_of (edition_of net) (frame_of net (segment_of r)) in
      omega (arith, amendment.never_higher form, (editions.first net first).run r)

  pub nowhere_worse : NowhereWorse (bicycle net) (former_bicycle net)
  nowhere_worse =
      no_higher net (run_level net) (former_run_level net) (movement_level net) (movement_level net) run_no_higher (λ p q. omega arith)
