-- What Route and Least stress promise, for every network, every two nodes, every tolerance, and any lent slices whatever they hold.
-- Assumes nothing.
use Rattle.std.specs.Prelude.{ℕ, ◌≤◌, ◌≡◌, List, Option, Some, None, Result, Ok, Err, length}
use Rattle.routes.specs.Streets.{Streets}
use Rattle.routes.specs.Routes.{NoRoute, LeastTolerance}
use Rattle.streets.specs.Bicycle.{bicycle}
use Rattle.refusals.specs.declared.Refusal.{Refusal}
use Rattle.refusals.specs.Numbers.{number_of}
use Rattle.routes.specs.declared.Found.{Found}
use Rattle.routes.specs.declared.LeastRoute.{LeastRoute}
use Rattle.routes.specs.Written.{Written}
use Rattle.splicereel.specs.Finding.{route_refusal, least_stress_refusal}

-- What a caller lends: the two scratch slices and the route buffer.
pub record Lent : Type 0 where
  pub best : List ℕ
  pub previous : List ℕ
  pub buffer : List ℕ

abbrev pub lent : List ℕ → List ℕ → List ℕ → Lent
lent b p r = record { best = b; previous = p; buffer = r }

-- What an answer tells: a refusal its number; none; or what was found.
pub data Told (A : Type 0) : Type 0 where
  refused : ℕ → Told A
  none : Told A
  found : A → Told A

abbrev pub told_of : {A : Type 0} → Result (Option A) Refusal → Told A
told_of (Err why) = refused (number_of why)
told_of (Ok None) = none
told_of (Ok (Some what)) = found what

-- The number of a refusal, 0 for what is no refusal.
abbrev pub refusal_in : {A : Type 0} → Told A → ℕ
refusal_in (refused number) = number
refusal_in none = 0
refusal_in (found what) = 0

-- ---- Route
-- Of a route are told its count, length and level.
abbrev pub told_route : Result (Option Found) Refusal → Told Found
told_route answer = told_of answer

-- What holds of each answer. A refusal: everything lent is as it came. None: no route from a to b is within t, and the buffer is as it came. Found: a
-- shortest route stands in the buffer from the place on, the rest of the buffer is as it came, and count, length and level are that route's own.
-- Free: which of several shortest routes it is; and what the scratch holds after an answer that is no refusal.
abbrev pub RouteHolds : Streets → ℕ → ℕ → ℕ → ℕ → Lent → Lent → Told Found → Type 0
RouteHolds g t a b place before after (refused number) = after ≡ before
RouteHolds g t a b place before after none = NoRoute g t a b × (after.buffer ≡ before.buffer)
RouteHolds g t a b place before after (found route) = Written g t a b place before.buffer after.buffer route

pub record RoutePromise (net : List ℕ) (from to t : ℕ) (before after : Lent) (place : ℕ) (answer : Result (Option Found) Refusal) : Type 0 where
  -- which refusal, by the tests in their order; 0 where none
  pub refusal :
      refusal_in (told_route answer)
      ≡ route_refusal net from to t (length before.best) (length before.previous) (length before.buffer) place
  -- what holds of the answer
  pub holds : RouteHolds (bicycle net) t from to place before after (told_route answer)

-- ---- Least stress
-- As Route; a route is told with the tolerance.
abbrev pub told_least : Result (Option LeastRoute) Refusal → Told LeastRoute
told_least answer = told_of answer

-- A shortest route within the smallest tolerance at which one exists, which is at most 4.
pub record LeastFound (g : Streets) (a b place : ℕ) (before after : List ℕ) (least : LeastRoute) : Type 0 where
  pub smallest : LeastTolerance g least.tolerance a b
  pub most : least.tolerance ≤ 4
  pub drawn : Written g least.tolerance a b place before after least.route

-- None: tolerance 4 has no route.
abbrev pub LeastHolds : Streets → ℕ → ℕ → ℕ → Lent → Lent → Told LeastRoute → Type 0
LeastHolds g a b place before after (refused number) = after ≡ before
LeastHolds g a b place before after none = NoRoute g 4 a b × (after.buffer ≡ before.buffer)
LeastHolds g a b place before after (found least) = LeastFound g a b place before.buffer after.buffer least

pub record LeastPromise (net : List ℕ) (from to : ℕ) (before after : Lent) (place : ℕ) (answer : Result (Option LeastRoute) Refusal) : Type 0 where
  pub refusal :
      refusal_in (told_least answer)
      ≡ least_stress_refusal net from to (length before.best) (length before.previous) (length before.buffer) place
  pub holds : LeastHolds (bicycle net) from to place before after (told_least answer)
