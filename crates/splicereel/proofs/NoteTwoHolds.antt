-- Note 2 holds. The streets of a network are nowhere worse than they were, so each route within a tolerance still is one, and as long; demand 3 says the
-- rest: Route finds a route where there is one, a shortest, and Least stress the smallest tolerance.
-- Assumes nothing.
use Prim.Native.Nat.{ℕ, ◌≤◌}
use mathlib.Core.Path.{◌≡◌}
use mathlib.Core.List.{List}
use native.Mathlib.Omega.{arith}
use Rattle.routes.specs.NowhereWorse.{NowhereWorse}
use Rattle.routes.specs.Routes.{length_of, Within, LeastTolerance}
use Rattle.routes.specs.declared.Found.{Found}
use Rattle.routes.specs.declared.LeastRoute.{LeastRoute}
use Rattle.routes.proofs.NowhereWorse.{within_too, same_length, none_too, shortest_no_longer, least_no_higher}
use Rattle.routes.proofs.Tolerance.{exists_rises}
use Rattle.stress.proofs.AmendmentHolds.{amendment}
use Rattle.streets.specs.Bicycle.{bicycle}
use Rattle.streets.specs.FormerBicycle.{former_bicycle}
use Rattle.streets.proofs.FormerLaws.{nowhere_worse}
use Rattle.splicereel.specs.Promises.{found, told_route, told_least}
use Rattle.splicereel.specs.DemandThree.{RouteCall, LeastCall}
use Rattle.splicereel.specs.NoteTwo.{RoutesAmended, NoteTwo}
use Rattle.splicereel.proofs.DemandThreeHolds.{demand_three}

module _ {net : List ℕ} (W : NowhereWorse (bicycle net) (former_bicycle net)) where
  route_no_longer : {from to t : ℕ} (call : RouteCall net from to t) (rs : List ℕ) → Within (former_bicycle net) t from to rs
      → (route : Found) × (told_route call.answer ≡ found route) × (route.length ≤ length_of (former_bicycle net) rs)
  route_no_longer call rs w =
      let told = demand_three.route call in
      let finds = told.found_exactly.1 (rs, within_too W w) in
      let stands = told.stands finds.0 finds.1 in
      (finds.0, finds.1, omega (arith, stands.own_length, shortest_no_longer W w stands.shortest))

  least_stress_no_higher : {from to t : ℕ} (call : LeastCall net from to) → t ≤ 4 → LeastTolerance (former_bicycle net) t from to
      → (least : LeastRoute) × (told_least call.answer ≡ found least) × (least.tolerance ≤ t)
  least_stress_no_higher call high former =
      let told = demand_three.least call in
      let finds = told.found_exactly.1 (exists_rises high (former.some.0, within_too W former.some.1)) in
      (finds.0, finds.1, least_no_higher W former (told.smallest finds.0 finds.1))

  routes_amended : RoutesAmended net
  routes_amended =
      record {
        within_still = λ rs w. within_too W w;
        same_length = λ {t} {a} {b} rs w. same_length W a b rs w.route;
        route_no_longer = route_no_longer;
        none_before = λ call e. none_too W ((demand_three.route call).none_exactly.0 e);
        least_no_higher = least_stress_no_higher;
      }

pub note_two : NoteTwo
note_two = record { table = amendment; routes = λ net first. routes_amended (nowhere_worse net first) }
