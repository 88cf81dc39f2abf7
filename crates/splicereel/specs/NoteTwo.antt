-- Document 02, Note 2, as one statement: what its amendment of measure 2 does to levels, to routes, and to what the calls return. `former_bicycle net` is
-- the street graph as document 01's table had it; calls are those of specs/DemandThree.antt. Its proof is proofs/NoteTwoHolds.antt.
-- Assumes nothing.
use Rattle.std.specs.Prelude.{ℕ, ◌≤◌, ◌≡◌, List}
use Rattle.routes.specs.Routes.{length_of, Within, NoRoute, LeastTolerance}
use Rattle.routes.specs.declared.Found.{Found}
use Rattle.routes.specs.declared.LeastRoute.{LeastRoute}
use Rattle.network.specs.Network.{edition_of}
use Rattle.stress.specs.Amendment.{Amendment}
use Rattle.streets.specs.Bicycle.{bicycle}
use Rattle.streets.specs.FormerBicycle.{former_bicycle}
use Rattle.splicereel.specs.Promises.{none, found, told_route, told_least}
use Rattle.splicereel.specs.DemandThree.{RouteCall, LeastCall}

-- Of a network of edition 01.
pub record RoutesAmended (net : List ℕ) : Type 0 where
  -- a route within a tolerance before is within it after, and as long
  pub within_still : {t a b : ℕ} (rs : List ℕ) → Within (former_bicycle net) t a b rs → Within (bicycle net) t a b rs
  pub same_length : {t a b : ℕ} (rs : List ℕ) → Within (former_bicycle net) t a b rs → length_of (bicycle net) rs ≡ length_of (former_bicycle net) rs
  -- so where there was a route Route returns one that is at most as long; and where it says none there was none
  pub route_no_longer : {from to t : ℕ} (call : RouteCall net from to t) (rs : List ℕ) → Within (former_bicycle net) t from to rs
      → (route : Found) × (told_route call.answer ≡ found route) × (route.length ≤ length_of (former_bicycle net) rs)
  pub none_before : {from to t : ℕ} (call : RouteCall net from to t) → told_route call.answer ≡ none → NoRoute (former_bicycle net) t from to
  -- and Least stress gives no higher a tolerance
  pub least_no_higher : {from to t : ℕ} (call : LeastCall net from to) → t ≤ 4 → LeastTolerance (former_bicycle net) t from to
      → (least : LeastRoute) × (told_least call.answer ≡ found least) × (least.tolerance ≤ t)

pub record NoteTwo : Type 0 where
  -- levels: none is raised, and those of amended streets alone change
  pub table : Amendment
  pub routes : (net : List ℕ) → edition_of net ≡ 1 → RoutesAmended net
