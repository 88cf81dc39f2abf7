-- The chain is written from its last run backwards. Before each store the chain that is left, put in front of what is written, is the whole chain;
-- when none is left it stands at the front of the tail. No network has so many runs that one does not fit 16 bits.
use Rattle.lists.specs.Lists.{at}
use Rattle.search_routes.proofs.Tracing.{Filled}
use Rattle.search_routes.proofs.trace.fill.Given as goal

abbrev pub invariant-loop-place : goal.invariant-loop-place
invariant-loop-place l =
    Filled l.n (at l.previous) l.count l.last l.initial.tail l.place l.run l.tail
