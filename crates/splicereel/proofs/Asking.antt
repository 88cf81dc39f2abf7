-- The tests of Route and of Least stress are passed: so the search may be asked, and what it answers is what
-- Route promises.
-- Assumes nothing.
use Prim.Native.Nat.{ℕ, ◌+◌, ◌*◌, ◌≤◌}
use native.Mathlib.Omega.{arith}
use mathlib.Core.Path.{◌≡◌, ap, subst}
use mathlib.Core.Bool.{true, ◌&&◌}
use mathlib.Core.List.{List}
use Rattle.std.specs.Prelude.{Option, Some, None, Ok}
use Rattle.std.specs.Option.{option_map}
use lib.Dec.{leb, ltb}
use lib.ListN.{length}
use borrow.Author.Tests.{leb-true, ltb-true}
use Rattle.lists.proofs.Facts.{and_true}
use Rattle.routes.specs.Written.{Written}
use Rattle.routes.specs.declared.Entry.{Entry}
use Rattle.routes.specs.declared.LeastRoute.{LeastRoute}
use Rattle.queue.specs.Steps.Queue.{top}
use Rattle.frames.specs.Ranges.{within}
use Rattle.network.specs.Network.{nodes_of, segments_of}
use Rattle.streets.specs.Runs.{runs_of}
use Rattle.streets.specs.Bicycle.{bicycle}
use Rattle.search_relaxing.specs.declared.Ask.{Ask}
use Rattle.search_relaxing.specs.Steps.Counted.{network_in}
use Rattle.search_reach.specs.Steps.Nearest.{Nearby}
use Rattle.search_routes.specs.Steps.Answered.{Question, Rooms, Answered}
use Rattle.splicereel.specs.Finding.{fits, route_refusal, reach_refusal}
use Rattle.splicereel.specs.Promises.{Lent, RoutePromise}
use Rattle.splicereel.specs.Reaching.{Scratch, NearestPromise}

pub runs_of_lem : (net : List ℕ) {segments : ℕ} → segments ≡ segments_of net → 2 * segments ≡ runs_of net
runs_of_lem net s = ap (λ (n : ℕ). 2 * n) s

module _ {runs : ℕ} {best previous buffer : List ℕ} {place : ℕ} where
  pub rooms : fits runs (length best) (length previous) (length buffer) place ≡ true → Rooms runs best previous buffer place
  unfolding fits
  rooms e =
      let p = and_true (leb runs (length best) && leb runs (length previous)) (leb place (length buffer) && leb (place + runs) (length buffer)) e in
      let s = and_true (leb runs (length best)) (leb runs (length previous)) p.0 in
      let b = and_true (leb place (length buffer)) (leb (place + runs) (length buffer)) p.1 in
      record {
        scratch =
            record { best_fits = leb-true runs (length best) s.0; previous_fits = leb-true runs (length previous) s.1 };
        buffer_fits = leb-true (place + runs) (length buffer) b.1;
      }

pub in_order : {ask : Ask} {nodes to : ℕ} → nodes ≡ nodes_of (network_in ask) → ltb to nodes ≡ true → 1 ≤ ask.least → ask.least ≤ ask.tolerance
    → ask.limit ≡ top → Question ask to
in_order {nodes = nodes} {to} e t low order whole = record { to_node = rw e at (ltb-true to nodes t); low = low; order = order; whole = whole }

pub low_enough : (t : ℕ) {u : ℕ} → within 1 4 t ≡ true → u ≡ t → 1 ≤ u
low_enough t w e =
    let p = and_true (leb 1 t) (leb t 4) w in
    omega (arith, leb-true 1 t p.0)

-- Route asks at one tolerance: the least that has a route is that one.
pub route_answers : {net : List ℕ} {from to t u place : ℕ} {before after : Lent} (least : Option LeastRoute)
    → 0 ≡ route_refusal net from to t (length before.best) (length before.previous) (length before.buffer) place → u ≡ t
    → Answered (bicycle net) u u from to place before.buffer after.buffer least
    → RoutePromise net from to t before after place (Ok (option_map (λ (told : LeastRoute). told.route) least))
route_answers {net} None e same A = record { refusal = e; holds = (rw same at A.1, A.0) }
route_answers {net} {from} {to} {t} {u} {place} {before} {after} (Some told) e same A =
    record {
      refusal = e;
      holds =
          subst (λ (v : ℕ). Written (bicycle net) v from to place before.buffer after.buffer told.route) (omega (arith, A.low, A.high)) A.written;
    }

-- Nearest answers what the exploration found.
pub nearest_answers : {net : List ℕ} {from t : ℕ} {marks : List ℕ} {before after : Scratch} (nearest : Option Entry)
    → 0 ≡ reach_refusal net from t (length before.best) (length before.previous) 1 (length marks) → Nearby (bicycle net) (nodes_of net) t from marks nearest
    → NearestPromise net from t marks before after (Ok nearest)
nearest_answers None e N = record { refusal = e; holds = N }
nearest_answers (Some entry) e N = record { refusal = e; holds = record { nearest = N.nearest; fits = omega (arith, N.small) } }
