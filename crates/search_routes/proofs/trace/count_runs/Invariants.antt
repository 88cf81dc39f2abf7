-- What is counted and what is left make the whole chain, which ends and has at most n runs: so the count stays small and the loop ends. It stops where
-- no run comes before, and there nothing is left.
use Prim.Native.Nat.{◌-◌}
use Rattle.lists.specs.Lists.{at}
use Rattle.search_routes.proofs.Tracing.{Counted}
use Rattle.search_routes.proofs.trace.count_runs.Given as goal

abbrev pub invariant-loop-before : goal.invariant-loop-before
invariant-loop-before l =
    Counted l.n (at l.previous) l.last l.before l.count

abbrev pub decreases-loop-before : goal.decreases-loop-before
decreases-loop-before l =
    l.n - l.count
