-- From a node to itself the empty route stands, and nothing is written. Else the search stops at the nearest run that arrives, whose chain is counted,
-- judged, and written into the tail of the buffer; or it ends, and there is no route.
use mathlib.Core.Path.{refl}
use lib.ListN.{length-take, length-drop}
use Rattle.search_routes.proofs.OneGoal.{sought, none_there, met_ends, first_found}
use Rattle.search_routes.proofs.Tracing.{tail_placed}
use Rattle.search_relaxing.proofs.CountedLaws.{few_runs, ask_counted}
use native.Mathlib.Omega.{arith}
use Rattle.search_routes.proofs.find.find.Goals as goal

pub invariant_of-search : goal.invariant_of-search
invariant_of-search c =
    record { sought = sought c.requires.0 c.requires.2 c.if-ask-to.false }

pub explore-requires : goal.explore-requires
explore-requires c =
    (c.requires.1.scratch, c.requires.0.order)

pub returns-in_default : goal.returns-in_default
returns-in_default c =
    let s = c.in_default.ensures.0 in
    (refl, none_there c.requires.0 c.requires.2 _ c.if-ask-to.false s.0 s.1)

pub count_runs-count-requires : goal.count_runs-count-requires
count_runs-count-requires c = (
  few_runs (ask_counted c.args.ask.now),
  omega (arith, c.requires.1.scratch.previous_fits, c.explore.auto.previous),
  rw c.run_in-last.ensures (met_ends c.requires.0 c.requires.2 c.in-Ok.ensures),
)

pub fill-requires : goal.fill-requires
fill-requires c =
    let K = c.count_runs-count.ensures in
    record {
      few = few_runs (ask_counted c.args.ask.now);
      long = omega (arith, c.requires.1.scratch.previous_fits, c.explore.auto.previous);
      fits = simp (length-take, length-drop) (omega (arith, c.requires.1.buffer_fits, K.few));
      traced = K;
    }

pub returns : goal.returns
returns c =
    let run = c.run_in-last.ensures in
    let K = rw run at c.count_runs-count.ensures in
    rw c.label_in.ensures
    (first_found c.requires.0 c.requires.2 c.in-Ok.ensures c.if-ask-to.false K
    (tail_placed K c.args.place c.args.buffer.now (rw run at c.fill.ensures))
    (rw run at c.route_level-level.ensures))
