-- Document 02, Note 5, as one statement: what edition 01 keeps, what edition 02 changes and what it does not, and that a user of either has the same assurance
-- about "none". Its proof is proofs/NoteFiveHolds.antt.
-- Assumes nothing.
use Rattle.std.specs.Prelude.{ℕ, ◌≤◌, ◌<◌, ◌≡◌, true, List, ◌↔◌}
use Rattle.routes.specs.Routes.{Within}
use Rattle.frames.specs.Frame.{marks, control, approach_b, approach_a}
use Rattle.frames.specs.Ranges.{street_ok}
use Rattle.network.specs.Network.{edition_of, segments_of, frame_of, is_network}
use Rattle.stress.specs.NewerRules.{NewerRules}
use Rattle.streets.specs.Bicycle.{bicycle}
use Rattle.streets.specs.Editions.{Editions}
use Rattle.streets.specs.OlderBicycle.{older_bicycle}
use Rattle.splicereel.specs.DemandThree.{DemandThree}

-- A segment's frame has none of the newer rules' values.
pub record NoNewValue (e : ℕ) (f : List ℕ) : Type 0 where
  pub no_mark : marks e f ≤ 15
  pub none_at_b : control f (approach_b e) ≤ 4
  pub none_at_a : control f (approach_a e) ≤ 4

pub record NoteFive : Type 0 where
  -- an accepted network of edition 01 has none of the new values, and edition 02 allows whatever of a segment edition 01 allows
  pub values : (net : List ℕ) → is_network net ≡ true → edition_of net ≡ 1 → (s : ℕ) → s < segments_of net → NoNewValue 1 (frame_of net s)
  pub allowed : (f : List ℕ) → street_ok 1 f ≡ true → street_ok 2 f ≡ true
  -- levels, of every street and crossing and of every network: under edition 01 as they were, under edition 02 changed by the note's conditions alone
  pub tables : NewerRules
  pub levels : Editions
  -- so under edition 01 the routes within a tolerance are those by the older rules
  pub routes : (net : List ℕ) → edition_of net ≡ 1 → {t a b : ℕ} (rs : List ℕ) → Within (bicycle net) t a b rs ↔ Within (older_bicycle net) t a b rs
  -- demand 3 asks no edition of an accepted network: what it says of Route, Least stress and none is said of both at once
  pub assurance : DemandThree
