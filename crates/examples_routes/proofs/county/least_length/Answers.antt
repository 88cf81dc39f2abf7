-- `examples_routes::county::least_length` meets its contract: the tests before the search are what it asks, and one node is a goal.
use Rattle.network.proofs.SizeLaws.{few_await, few_await_runs, county_heads, county_few}
use Rattle.search_routes.proofs.OneGoal.{goals_long, other_node}
use native.Mathlib.Omega.{arith}
use Rattle.examples_routes.proofs.county.least_length.Goals as goal

pub indexed-requires : goal.indexed-requires
indexed-requires c =
    let heads = county_heads c.args.net.now in
    (few_await heads c.no_legs-legs.ensures, few_await_runs heads c.free_corners-index.ensures)

pub bounds-goals-to : goal.bounds-goals-to
bounds-goals-to c =
    omega (arith, c.nodes-nodes.ensures, county_few _ c.in_ok-streets.streets.net.kept)

pub invariant_of-search : goal.invariant_of-search
invariant_of-search c =
    let net = c.in_ok-streets.streets.net in
    let n = c.nodes-nodes.ensures in
    let U = c.unknown-goals.ensures _ (county_few net.bytes.now net.kept) in
    record {
      sought =
          record {
            marks = goals_long net.bytes.now U (omega (arith, n));
            apart = other_node net.bytes.now U (omega (arith, n)) _ (omega (arith, n)) (omega arith);
            limited = omega arith;
          };
    }

pub search_in_county-requires : goal.search_in_county-requires
search_in_county-requires c =
    record {
      best_fits = omega (arith, c.scratch-best.ensures, c.if-runs-gt-RUNS.false);
      previous_fits = omega (arith, c.scratch-previous.ensures, c.if-runs-gt-RUNS.false);
    }
