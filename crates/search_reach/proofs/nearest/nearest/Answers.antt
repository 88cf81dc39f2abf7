-- A marked start is its own nearest. Else the exploration stops at the nearest run that arrives at a marked node, and the first node that is no farther is
-- the nearest; or it comes to its end, and no marked node has a route (proofs/ReachLaws.antt).
use native.Mathlib.Omega.{arith}
use Rattle.lists.proofs.Lists.{true_is_false}
use Rattle.search_reach.proofs.ArrivalLaws.{ready}
use Rattle.search_reach.proofs.ReachLaws.{marked, not_marked, stop_met, start_near, stop_none_marked, all_markable, stop_some_near, stop_near}
use Rattle.search_reach.proofs.nearest.nearest.Goals as goal

pub returns-then-marks-from-ne0 : goal.returns-then-marks-from-ne0
returns-then-marks-from-ne0 c =
    start_near (ready c.args.ask.now) c.requires.0.low (marked _ _ c.if-marks-from-ne0.true)

pub invariant_of-search : goal.invariant_of-search
invariant_of-search c =
    record {
      sought = record { marks = c.requires.2.fits; apart = not_marked _ _ c.if-marks-from-ne0.false; limited = omega (arith, c.requires.0.whole) };
    }

pub explore-requires : goal.explore-requires
explore-requires c =
    (c.requires.1, omega (arith, c.requires.0.one))

pub returns-in_default : goal.returns-in_default
returns-in_default c =
    let s = c.in_default.ensures.0 in
    stop_none_marked (ready c.args.ask.now) _ _ (not_marked _ _ c.if-marks-from-ne0.false) s.1 (omega (arith, s.0, c.requires.0.whole))

pub first_near-requires : goal.first_near-requires
first_near-requires c =
    rw c.nodes.ensures (all_markable c.requires.2 (omega (arith, c.requires.1.best_fits, c.explore.auto.best)))

pub returns-in_err-node : goal.returns-in_err-node
returns-in_err-node c =
    let A = c.requires.0 in
    let M = c.in-Ok.ensures in
    let some =
    stop_some_near (ready c.args.ask.now) _ _ (not_marked _ _ c.if-marks-from-ne0.false) (stop_met A.one M) (omega (arith, M.below_limit, A.whole)) A.whole in
    let far = rw (c.nodes.ensures, c.label_in-length.ensures) at c.in_err-node.ensures in
    absurd (true_is_false some.2 (far some.0 some.1))

pub returns : goal.returns
returns c =
    let A = c.requires.0 in
    let M = c.in-Ok.ensures in
    let label = c.label_in-length.ensures in
    rw label
    (stop_near (ready c.args.ask.now) _ _ (not_marked _ _ c.if-marks-from-ne0.false) (stop_met A.one M) (omega (arith, M.below_limit, A.whole)) A.low
    (rw (c.nodes.ensures, label) at c.in_ok-node.ensures))
