-- Demand 3 holds, from the promises of the calls alone. A question that is in order passes every test, so the answer is no refusal: it is none, with no
-- route, or a route that is written (`Outcome`). Each of the two shuts out the other, hence both "exactly when"s. A route within t competes at every
-- higher u, so u has one at most as long. Least stress names the smallest tolerance that has a route: Route says none below it, and at it finds one
-- just as long. A run has at least one foot, so a shortest route from a node to itself has none.
-- Assumes nothing.
use Prim.Native.Nat.{ℕ, ◌+◌, ◌≤◌}
use native.Mathlib.Omega.{arith}
use mathlib.Core.Path.{◌≡◌, refl, sym, ◌∙◌, subst}
use mathlib.Core.Bool.{true}
use mathlib.Core.List.{List, [], ◌∷◌}
use mathlib.Core.Logic.{◌↔◌}
use Rattle.std.specs.Prelude.{Option, Some, None, Result, Ok, Err}
use lib.ListN.{length}
use borrow.Author.Tests.{le-leb, lt-ltb}
use Rattle.refusals.specs.declared.Refusal.{Refusal}
use Rattle.refusals.proofs.Positive.{positive}
use Rattle.routes.specs.Streets.{Streets}
use Rattle.routes.specs.Routes.{length_of, Within, NoRoute}
use Rattle.routes.proofs.Tolerance.{exists_rises, none_falls, shortest_falls, shortest_same_length}
use Rattle.network.specs.Network.{nodes_of, is_network}
use Rattle.streets.specs.Runs.{runs_of}
use Rattle.streets.specs.Bicycle.{bicycle}
use Rattle.routes.specs.declared.Found.{Found}
use Rattle.routes.specs.declared.LeastRoute.{LeastRoute}
use Rattle.routes.specs.Written.{Written}
use Rattle.streets.proofs.LeavingLaws.{run_feet}
use Rattle.splicereel.specs.Finding.{nodes_refusal, fits, route_refusal, least_stress_refusal}
use Rattle.splicereel.specs.Promises.{Lent, Told, none, found, refusal_in, LeastFound, told_route, RouteHolds, told_least, LeastHolds}
use Rattle.splicereel.specs.DemandThree.{InOrder, RouteCall, LeastCall, Finds, SomeRoute, Stands, OfRoute, OfLeast, Agree, DemandThree}

-- ---- what an answer that is no refusal is
pub data Outcome (A : Type 0) (told : Told A) (N : Type 0) (F : A → Type 0) : Type 0 where
  nothing : told ≡ none → N → Outcome A told N F
  something : (what : A) → told ≡ found what → F what → Outcome A told N F

module _ {A : Type 0} {told : Told A} {N : Type 0} {F : A → Type 0} where
  pub at_none : Outcome A told N F → told ≡ none → N
  at_none (nothing e n) p = n
  at_none (something what e f) p =
      let z : ◌≡◌ {A = ℕ} 0 1 = cc in
      absurd (omega arith)

  pub at_found : Outcome A told N F → (what : A) → told ≡ found what → F what
  at_found (nothing e n) what p =
      let z : ◌≡◌ {A = ℕ} 0 1 = cc in
      absurd (omega arith)
  at_found (something other e f) what p =
      let same : other ≡ what = cc in
      subst F same f

  -- both "exactly when"s, for what N denies and F has
  module _ {g : Streets} {t a b : ℕ} (denies : N → NoRoute g t a b) (has : (what : A) → F what → SomeRoute g t a b) where
    finds_exactly : Outcome A told N F → Finds told ↔ SomeRoute g t a b
    finds_exactly O = (λ (f : Finds told). has f.0 (at_found O f.0 f.1), λ (s : SomeRoute g t a b). finds O s)
      where
        finds : Outcome A told N F → SomeRoute g t a b → Finds told
        finds (nothing e n) s = absurd (denies n s.0 s.1)
        finds (something what e f) s = (what, e)

    none_exactly : Outcome A told N F → (told ≡ none) ↔ NoRoute g t a b
    none_exactly O = (λ (e : told ≡ none). denies (at_none O e), λ (never : NoRoute g t a b). says O never)
      where
        says : Outcome A told N F → NoRoute g t a b → told ≡ none
        says (nothing e n) never = e
        says (something what e f) never =
            let s = has what f in
            absurd (never s.0 s.1)

-- ---- a question that is in order is refused by no test
module _ {net : List ℕ} {from to place : ℕ} {before : Lent} (I : InOrder net from to before place) where
  asked : (later : ℕ) → nodes_refusal net from to later ≡ later
  unfolding nodes_refusal
  asked later = rw (I.accepted, lt-ltb from (nodes_of net) I.from_node, lt-ltb to (nodes_of net) I.to_node)

  room : fits (runs_of net) (length before.best) (length before.previous) (length before.buffer) place ≡ true
  unfolding fits
  room =
      rw (
        le-leb (runs_of net) (length before.best) I.best_fits,
        le-leb (runs_of net) (length before.previous) I.previous_fits,
        le-leb place (length before.buffer) (omega (arith, I.buffer_fits)),
        le-leb (place + runs_of net) (length before.buffer) I.buffer_fits,
      )

  route_unrefused : {t : ℕ} → 1 ≤ t → t ≤ 4
      → route_refusal net from to t (length before.best) (length before.previous) (length before.buffer) place ≡ 0
  unfolding route_refusal
  route_unrefused {t} low high = asked _ ∙ rw (le-leb 1 t low, le-leb t 4 high, room)

  least_unrefused : least_stress_refusal net from to (length before.best) (length before.previous) (length before.buffer) place ≡ 0
  unfolding least_stress_refusal
  least_unrefused = asked _ ∙ rw room

-- ---- Route's outcome
module _ {net : List ℕ} {from to t : ℕ} (call : RouteCall net from to t) where
  abbrev Denied : Type 0
  Denied = NoRoute (bicycle net) t from to × (call.after.buffer ≡ call.before.buffer)

  abbrev Drawn : Found → Type 0
  Drawn route = Written (bicycle net) t from to call.place call.before.buffer call.after.buffer route

  outcome : Outcome Found (told_route call.answer) Denied Drawn
  outcome = go call.answer (call.returned.refusal ∙ route_unrefused call.in_order call.low call.high) call.returned.holds
    where
      go : (answer : Result (Option Found) Refusal) → refusal_in (told_route answer) ≡ 0
          → RouteHolds (bicycle net) t from to call.place call.before call.after (told_route answer)
          → Outcome Found (told_route answer) Denied Drawn
      go (Err why) e H = absurd (positive why e)
      go (Ok None) e H = nothing refl H
      go (Ok (Some route)) e H = something route refl H

  drawn_some : (route : Found) → Drawn route → SomeRoute (bicycle net) t from to
  drawn_some route W = (W.runs, W.shortest.within)

  denied_none : Denied → NoRoute (bicycle net) t from to
  denied_none D = D.0

-- what is written stands
written_stands : {g : Streets} {t a b place : ℕ} {before after : List ℕ} {told : Found} → Written g t a b place before after told
    → Stands g t a b place before after told
written_stands W =
    record {
      runs = W.runs;
      in_buffer = W.text;
      shortest = W.shortest;
      own_count = sym W.counted;
      own_length = sym W.measured;
      own_level = sym W.judged;
    }

-- a route of no feet has no run
no_feet : (net : List ℕ) {t a b : ℕ} → is_network net ≡ true → (rs : List ℕ) → Within (bicycle net) t a b rs → length_of (bicycle net) rs ≤ 0 → rs ≡ []
no_feet net is [] w l = refl
no_feet net is (r ∷ rs) w l = absurd (omega (arith, (run_feet (record { network = is; inside = w.route.1.0 })).0))

-- the three numbers of the empty route
empty_told : (told : Found) → told.count ≡ 0 → told.length ≡ 0 → told.level ≡ 1 → told ≡ record { count = 0; length = 0; level = 1 }
empty_told told c l v =
    subst (λ (n : ℕ). told ≡ record { count = n; length = 0; level = 1 }) c
    (subst (λ (n : ℕ). told ≡ record { count = told.count; length = n; level = 1 }) l
    (subst (λ (n : ℕ). told ≡ record { count = told.count; length = told.length; level = n }) v refl))

module _ {net : List ℕ} {from to t : ℕ} (call : RouteCall net from to t) (same : from ≡ to) where
  at_home : told_route call.answer ≡ found (record { count = 0; length = 0; level = 1 })
  at_home = go (outcome call)
    where
      stay : Within (bicycle net) t from to []
      stay = record { route = same; level = call.low }

      go : Outcome Found (told_route call.answer) (Denied call) (Drawn call)
          → told_route call.answer ≡ found (record { count = 0; length = 0; level = 1 })
      go (nothing e D) = absurd (D.0 [] stay)
      go (something route e W) =
          let none-ridden = no_feet net call.in_order.accepted W.runs W.shortest.within (W.shortest.least [] stay) in
          e ∙ rw (empty_told route (sym W.counted ∙ rw none-ridden) (sym W.measured ∙ rw none-ridden) (sym W.judged ∙ rw none-ridden))

route_keeps : {net : List ℕ} {from to t : ℕ} (call : RouteCall net from to t) → OfRoute net from to t call (told_route call.answer)
route_keeps call =
    record {
      found_exactly = finds_exactly (denied_none call) (drawn_some call) (outcome call);
      none_exactly = none_exactly (denied_none call) (drawn_some call) (outcome call);
      stands = λ route e. written_stands (at_found (outcome call) route e);
      untouched = λ e. (at_none (outcome call) e).1;
      same_node = at_home call;
    }

-- ---- rising tolerances
rises : {net : List ℕ} {from to t u : ℕ} (call : RouteCall net from to t) (higher : RouteCall net from to u) → t ≤ u
    → (route : Found) → told_route call.answer ≡ found route
    → (other : Found) × (told_route higher.answer ≡ found other) × (other.length ≤ route.length)
rises {net} {from} {to} {t} {u} call higher l route e = go (outcome higher)
  where
    W : Drawn call route
    W = at_found (outcome call) route e

    go : Outcome Found (told_route higher.answer) (Denied higher) (Drawn higher)
        → (other : Found) × (told_route higher.answer ≡ found other) × (other.length ≤ route.length)
    go (nothing e' D) = absurd (none_falls l D.0 W.runs W.shortest.within)
    go (something other e' X) = (other, e', omega (arith, shortest_falls l W.shortest X.shortest, W.measured, X.measured))

-- ---- Least stress
module _ {net : List ℕ} {from to : ℕ} (call : LeastCall net from to) where
  abbrev LeastDenied : Type 0
  LeastDenied = NoRoute (bicycle net) 4 from to × (call.after.buffer ≡ call.before.buffer)

  abbrev LeastDrawn : LeastRoute → Type 0
  LeastDrawn least = LeastFound (bicycle net) from to call.place call.before.buffer call.after.buffer least

  least_outcome : Outcome LeastRoute (told_least call.answer) LeastDenied LeastDrawn
  least_outcome = go call.answer (call.returned.refusal ∙ least_unrefused call.in_order) call.returned.holds
    where
      go : (answer : Result (Option LeastRoute) Refusal) → refusal_in (told_least answer) ≡ 0
          → LeastHolds (bicycle net) from to call.place call.before call.after (told_least answer)
          → Outcome LeastRoute (told_least answer) LeastDenied LeastDrawn
      go (Err why) e H = absurd (positive why e)
      go (Ok None) e H = nothing refl H
      go (Ok (Some least)) e H = something least refl H

  least_some : (least : LeastRoute) → LeastDrawn least → SomeRoute (bicycle net) 4 from to
  least_some least F = exists_rises F.most (F.drawn.runs, F.drawn.shortest.within)

  least_keeps : OfLeast net from to call (told_least call.answer)
  least_keeps =
      record {
        found_exactly = finds_exactly (λ (D : LeastDenied). D.0) least_some least_outcome;
        none_exactly = none_exactly (λ (D : LeastDenied). D.0) least_some least_outcome;
        smallest = λ least e. (at_found least_outcome least e).smallest;
        stands = λ least e. written_stands (at_found least_outcome least e).drawn;
        untouched = λ e. (at_none least_outcome e).1;
      }

-- ---- Least stress and Route
module _ {net : List ℕ} {from to u : ℕ} (call : LeastCall net from to) (other : RouteCall net from to u) where
  says_none : NoRoute (bicycle net) u from to → told_route other.answer ≡ none
  says_none never = (none_exactly (denied_none other) (drawn_some other) (outcome other)).1 never

  same_at : (x : LeastRoute) → told_least call.answer ≡ found x → u ≡ x.tolerance
      → (y : Found) × (told_route other.answer ≡ found y) × (y.length ≡ x.route.length)
  same_at x e s = go (outcome other)
    where
      W : Written (bicycle net) u from to call.place call.before.buffer call.after.buffer x.route
      W = rw s (at_found (least_outcome call) x e).drawn

      go : Outcome Found (told_route other.answer) (Denied other) (Drawn other)
          → (y : Found) × (told_route other.answer ≡ found y) × (y.length ≡ x.route.length)
      go (nothing e' D) = absurd (D.0 W.runs W.shortest.within)
      go (something y e' X) = (y, e', sym X.measured ∙ shortest_same_length X.shortest W.shortest ∙ W.measured)

  agree : Agree u (told_least call.answer) (told_route other.answer)
  agree =
      record {
        none_below = λ x e l. says_none ((at_found (least_outcome call) x e).smallest.none_below u other.low l);
        same_at = same_at;
        none_at_each = λ e. says_none (none_falls other.high (at_none (least_outcome call) e).0);
      }

pub demand_three : DemandThree
demand_three = record { route = route_keeps; rises = rises; least = least_keeps; agree = agree }
