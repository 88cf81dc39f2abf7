-- Demand 3, whole, in its own order and words: one statement over what the calls Route and Least stress return. A route, within, shortest, none and the
-- smallest tolerance are those of crates/routes/specs/Routes.antt; `bicycle net` is the street graph of a network. `Lent` is what a caller lends, the two
-- scratch slices and the route buffer; `told_route` and `told_least` give what an answer tells: a refusal's number; none; or, as found, count, length and
-- level of a route (`Found`), with the tolerance where Least stress found it. Its proof is proofs/DemandThreeHolds.antt.
-- Assumes nothing.
use Rattle.std.specs.Prelude.{ℕ, ◌+◌, ◌≤◌, ◌<◌, ◌≡◌, true, List, ◌++◌, Option, Result, ◌↔◌, length, take, drop}
use Rattle.routes.specs.Streets.{Streets}
use Rattle.routes.specs.Routes.{length_of, level_of, count_of, Within, Shortest, NoRoute, LeastTolerance}
use Rattle.network.specs.Network.{nodes_of, is_network}
use Rattle.streets.specs.Runs.{runs_of}
use Rattle.streets.specs.Bicycle.{bicycle}
use Rattle.refusals.specs.declared.Refusal.{Refusal}
use Rattle.routes.specs.declared.Found.{Found}
use Rattle.routes.specs.declared.LeastRoute.{LeastRoute}
use Rattle.splicereel.specs.Promises.{Lent, Told, none, found, told_route, told_least, RoutePromise, LeastPromise}

-- ---- For every accepted network, every two nodes (also the same twice), any lent buffers whatever they hold:
-- the question is in order, and what is lent has room for two numbers for each segment, the buffer from the place on.
pub record InOrder (net : List ℕ) (from to : ℕ) (before : Lent) (place : ℕ) : Type 0 where
  pub accepted : is_network net ≡ true
  pub from_node : from < nodes_of net
  pub to_node : to < nodes_of net
  pub best_fits : runs_of net ≤ length before.best
  pub previous_fits : runs_of net ≤ length before.previous
  pub buffer_fits : place + runs_of net ≤ length before.buffer

-- A call of Route, at any tolerance from 1 to 4: what was lent, what came back, and the answer. `returned` is the contract of the call.
pub record RouteCall (net : List ℕ) (from to t : ℕ) : Type 0 where
  pub place : ℕ
  pub before : Lent
  pub after : Lent
  pub in_order : InOrder net from to before place
  pub low : 1 ≤ t
  pub high : t ≤ 4
  pub answer : Result (Option Found) Refusal
  pub returned : RoutePromise net from to t before after place answer

-- A call of Least stress.
pub record LeastCall (net : List ℕ) (from to : ℕ) : Type 0 where
  pub place : ℕ
  pub before : Lent
  pub after : Lent
  pub in_order : InOrder net from to before place
  pub answer : Result (Option LeastRoute) Refusal
  pub returned : LeastPromise net from to before after place answer

-- ---- What is said of an answer
-- Something was found.
abbrev pub Finds : {A : Type 0} → Told A → Type 0
Finds {A} told = (what : A) × (told ≡ found what)

-- Some route from a to b is within t.
abbrev pub SomeRoute : Streets → ℕ → ℕ → ℕ → Type 0
SomeRoute g t a b = (rs : List ℕ) × Within g t a b rs

-- The route that is told stands in the buffer from the place on, and all else there is as it was; it is a shortest one; its count, length and level
-- are its own.
pub record Stands (g : Streets) (t a b place : ℕ) (before after : List ℕ) (told : Found) : Type 0 where
  pub runs : List ℕ
  pub in_buffer : after ≡ take place before ++ (runs ++ drop (place + length runs) before)
  pub shortest : Shortest g t a b runs
  pub own_count : told.count ≡ count_of runs
  pub own_length : told.length ≡ length_of g runs
  pub own_level : told.level ≡ level_of g runs

-- ---- Of one call of Route
pub record OfRoute (net : List ℕ) (from to t : ℕ) (call : RouteCall net from to t) (told : Told Found) : Type 0 where
  -- a route is returned exactly when one exists, and none is said exactly when none exists
  pub found_exactly : Finds told ↔ SomeRoute (bicycle net) t from to
  pub none_exactly : (told ≡ none) ↔ NoRoute (bicycle net) t from to
  -- it stands in the buffer; it is a shortest one; its count, length and level are its own
  pub stands : (route : Found) → told ≡ found route
      → Stands (bicycle net) t from to call.place call.before.buffer call.after.buffer route
  -- none writes nothing in the buffer
  pub untouched : told ≡ none → call.after.buffer ≡ call.before.buffer
  -- from a node to itself it is the empty route
  pub same_node : from ≡ to → told ≡ found (record { count = 0; length = 0; level = 1 })

-- ---- Of one call of Least stress
pub record OfLeast (net : List ℕ) (from to : ℕ) (call : LeastCall net from to) (told : Told LeastRoute) : Type 0 where
  -- a route is returned exactly when tolerance 4 has one, and none is said exactly when tolerance 4 has none
  pub found_exactly : Finds told ↔ SomeRoute (bicycle net) 4 from to
  pub none_exactly : (told ≡ none) ↔ NoRoute (bicycle net) 4 from to
  -- it gives the smallest tolerance that has a route
  pub smallest : (least : LeastRoute) → told ≡ found least → LeastTolerance (bicycle net) least.tolerance from to
  -- and its route stands in the buffer as Route's does, a shortest one within that tolerance
  pub stands : (least : LeastRoute) → told ≡ found least
      → Stands (bicycle net) least.tolerance from to call.place call.before.buffer call.after.buffer least.route
  pub untouched : told ≡ none → call.after.buffer ≡ call.before.buffer

-- ---- Of a call of Least stress and a call of Route at a tolerance u, between the same nodes
pub record Agree (u : ℕ) (least : Told LeastRoute) (route : Told Found) : Type 0 where
  -- below the tolerance of Least stress Route says none; at it Route finds a route just as long
  pub none_below : (x : LeastRoute) → least ≡ found x → u < x.tolerance → route ≡ none
  pub same_at : (x : LeastRoute) → least ≡ found x → u ≡ x.tolerance → (y : Found) × (route ≡ found y) × (y.length ≡ x.route.length)
  -- where Least stress says none, so does Route
  pub none_at_each : least ≡ none → route ≡ none

-- ---- The demand
pub record DemandThree : Type 0 where
  pub route : {net : List ℕ} {from to t : ℕ} (call : RouteCall net from to t) → OfRoute net from to t call (told_route call.answer)
  -- a higher tolerance never loses a route or lengthens it
  pub rises : {net : List ℕ} {from to t u : ℕ} (call : RouteCall net from to t) (higher : RouteCall net from to u) → t ≤ u
      → (route : Found) → told_route call.answer ≡ found route
      → (other : Found) × (told_route higher.answer ≡ found other) × (other.length ≤ route.length)
  pub least : {net : List ℕ} {from to : ℕ} (call : LeastCall net from to) → OfLeast net from to call (told_least call.answer)
  pub agree : {net : List ℕ} {from to u : ℕ} (call : LeastCall net from to) (other : RouteCall net from to u)
      → Agree u (told_least call.answer) (told_route other.answer)
