-- What the tests of the code come to. Of a run that leaves the start, "usable" is "a source". Of a run that leaves by a leg of the node where another
-- arrives, an edge leads to it exactly when that leg is not the leg of arrival, the level of the movement is within the tolerance, and the run is
-- usable; by the leg of arrival itself the run goes back.
-- Assumes nothing.
use mathlib.Core.Path.{◌≡◌, refl}
use mathlib.Core.Bool.{true}
use mathlib.Core.List.{List}
use Rattle.std.proofs.lemmas.Bool.Decides.{nat_tests}
use Prim.Native.Nat.{ℕ, ◌+◌, ◌*◌, ◌≤◌, ◌<◌}
use native.Mathlib.Omega.{arith}
use Rattle.lists.specs.Lists.{at}
use Rattle.routes.specs.Steps.Labels.{source_of, edge_of}
use Rattle.network.specs.LegBits.{is_set}
use Rattle.streets.specs.Runs.{start, finish, leaving_leg, arrival_leg, joins}
use Rattle.streets.specs.Exits.{exit_from, right_hand_exit}
use Rattle.streets.specs.UsedLegs.{LegsOf}
use Rattle.streets.specs.Bicycle.{bicycle, movement_level}
use Rattle.streets.specs.Steps.Leaving.{Leaves, Entry}
use Rattle.streets.proofs.ExitLaws.{exit_below}
use Rattle.streets.proofs.MovementLaws.{exit_is}
use Rattle.streets.proofs.LeavingLaws.{entry_leaves, leaving_at}
use Rattle.search_relaxing.specs.Steps.Counted.{Counted, usable}
use Rattle.search_relaxing.specs.Steps.Unfound.{Arrives, EveryExit, RightOnly, RunBehind, to_each, Way, turns_back}
use Rattle.search_relaxing.proofs.CountedLaws.{run_of, Arriving}

pub source_usable : {net : List ℕ} {node leg r : ℕ} → Leaves net node leg r → (t : ℕ) → usable (bicycle net) t r ≡ source_of (bicycle net) t node r
unfolding usable source_of
source_usable L t = grind (arith, nat_tests)

-- what a way back leads onto
pub record Back (net : List ℕ) (u r : ℕ) : Type 0 where
  pub from : start net r ≡ finish net u
  pub by : leaving_leg net r ≡ arrival_leg net u

pub turns_back_lem : (net : List ℕ) (u r : ℕ) → turns_back net u r ≡ true → Back net u r
unfolding turns_back
turns_back_lem net u r e = grind (arith, nat_tests)

-- ---- ways: by another leg than that of arrival, where the level is within the tolerance, an edge leads onto a usable run
module _ {net : List ℕ} {n u node leg exit entry : ℕ} (T : Counted net n) (A : Arrives net u node leg) (E : Entry net node exit entry) where
  way_onto : {t : ℕ} → ((r : ℕ) → leaving_leg net r ≡ exit → (leaving_leg net r ≡ leg → ⊥) × (movement_level net u r ≤ t)) → Way net t n u entry
  unfolding edge_of usable joins
  way_onto onto =
      record {
        inside = λ r e. omega (arith, T.count, (E.leaving r e).inside);
        leads = λ r e. grind (arith, nat_tests, E.leaving r e, A.at_node.is, A.by_leg.is, onto r);
      }

  module _ (apart : exit ≡ leg → ⊥) where
    pub way_every : {t : ℕ} → EveryExit net t u → Way net t n u entry
    unfolding movement_level
    way_every every = way_onto (λ r e. (λ s. apart (omega (arith, e, s)), grind (arith, nat_tests, every.across)))

    pub way_right : {t : ℕ} → RightOnly net t u → exit ≡ right_hand_exit net (finish net u) (arrival_leg net u) → Way net t n u entry
    unfolding movement_level
    way_right O is = way_onto (λ r e. (λ s. apart (omega (arith, e, s)), grind (arith, nat_tests, O.turn, is)))

-- ---- entries of the node where run u arrives
module _ {net index : List ℕ} {n u node leg : ℕ} (H : Arriving net index n u node leg) where
  entry_at : {exit : ℕ} → exit < 8 → Entry net node exit (at index (node * 8 + exit))
  entry_at l = entry_leaves net H.counted.network H.indexed H.arrives.at_node.below l

  behind : {exit : ℕ} → exit < 8 → RunBehind n (at index (node * 8 + exit))
  behind l r e = omega (arith, H.counted.count, ((entry_at l).leaving r e).inside)

  pub way : {t exit : ℕ} → exit < 8 → ((r : ℕ) → leaving_leg net r ≡ exit → (leaving_leg net r ≡ leg → ⊥) × (movement_level net u r ≤ t))
      → Way net t n u (at index (node * 8 + exit))
  way below = way_onto H.counted H.arrives (entry_at below)

  -- an edge leads to the run that stands at the entry of the leg by which it leaves
  pub onward_at : (t r : ℕ) → r < n → edge_of (bicycle net) t u r ≡ true → at index (node * 8 + leaving_leg net r) ≡ r + 1
  unfolding edge_of joins
  onward_at t r l e = leaving_at net H.counted.network H.indexed (run_of H.counted l) (grind (arith, nat_tests)) refl

  -- the right-hand exit, as the code steps down to it by the node's used legs
  pub right_exit : {legs : List ℕ} → LegsOf net legs → {x : ℕ} → x ≡ exit_from (is_set (at legs node)) 8 leg
      → (x < 8) × (x ≡ right_hand_exit net (finish net u) (arrival_leg net u))
  right_exit {legs} G {x} e =
      (omega (arith, exit_below (is_set (at legs node)) 8 leg H.arrives.by_leg.below), exit_is G H.arrives.at_node H.arrives.by_leg x e)

  -- the way back stands at the entry of the leg of arrival
  pub back_behind : RunBehind n (at index (node * 8 + leg))
  back_behind = behind H.arrives.by_leg.below

  pub back_at : (r : ℕ) → r < n → turns_back net u r ≡ true → at index (node * 8 + leg) ≡ r + 1
  unfolding turns_back
  back_at r l e = leaving_at net H.counted.network H.indexed (run_of H.counted l) (grind (arith, nat_tests)) (grind (arith, nat_tests))

  pub back_offer : (r : ℕ) → at index (node * 8 + leg) ≡ r + 1 → to_each u r ≡ turns_back net u r
  unfolding turns_back
  back_offer r e = grind (arith, nat_tests, (entry_at H.arrives.by_leg.below).leaving r e)
