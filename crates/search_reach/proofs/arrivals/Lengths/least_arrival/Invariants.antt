-- The loop takes one entry after the other, and has the least of the labels behind those that it passed. After eight it is the least of all.
use mathlib.Core.Path.{◌≡◌}
use Prim.Native.Nat.{◌*◌}
use Rattle.search_reach.specs.Steps.Arrivals.{least_behind}
use Rattle.search_reach.proofs.arrivals.Lengths.least_arrival.Given as goal

abbrev pub invariant-loop-entry : goal.invariant-loop-entry
invariant-loop-entry l =
    l.least ≡ least_behind l.self.index.now l.self.best.now (l.node * 8) l.entry-index
