-- With no goal the exploration stops at its limit, which is the greatest length as a label: up to there the lengths that are read off the labels are the
-- distances, and the entries that are written are the map (proofs/ReachLaws.antt). A length that is clamped is above every label, so nothing is left out.
use native.Mathlib.Omega.{arith}
use Rattle.network.proofs.NetworkLaws.{passed}
use Rattle.search_reach.proofs.ArrivalLaws.{ready, looked_at}
use Rattle.search_reach.proofs.ReachLaws.{stop_asked, clamped_small, unmarked_node, map_from_stop}
use Rattle.search_reach.proofs.map.reach.Goals as goal

pub invariant_of-search : goal.invariant_of-search
invariant_of-search c =
    record {
      sought =
          record {
            marks = c.requires.2.long;
            apart = unmarked_node c.requires.2 _ c.args.ask.now.from_node;
            limited = omega (arith, c.key_of.ensures, c.clamp-farthest.ensures, clamped_small c.args.greatest);
          };
    }

pub explore-requires : goal.explore-requires
explore-requires c =
    (c.requires.1, omega (arith, c.requires.0.one))

pub list_nodes-requires : goal.list_nodes-requires
list_nodes-requires c =
    let ask = c.args.ask.now in
    let e = c.nodes.ensures in
    record {
      looked = λ node l. looked_at (ready ask) (omega (arith, c.requires.1.best_fits, c.explore.auto.best)) node (omega (arith, e));
      small = omega (arith, e, (passed _ ask.streets.net.kept).limits.few_nodes);
      fits = omega (arith, e, c.requires.3.fits);
    }

pub returns : goal.returns
returns c =
    let ask = c.args.ask.now in
    let A = c.requires.0 in
    map_from_stop (ready ask) ask.tolerance A.low c.requires.2 c.clamp-farthest.ensures c.key_of.ensures (stop_asked _ _ _ _ _ A.one c.explore.ensures)
    (rw c.nodes.ensures at c.list_nodes.ensures)
