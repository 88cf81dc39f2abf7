-- The legs that were chosen are offered in turn. Every edge to a run without a label leads onto one behind one of their entries: after the last every edge
-- is relaxed.
use Rattle.routes.specs.Steps.Labels.{edge_of}
use Rattle.streets.specs.Runs.{feet_of}
use Rattle.streets.specs.Bicycle.{bicycle}
use Rattle.search_labels.proofs.Exits.{Offered}
use Rattle.search_relaxing.specs.Steps.Counted.{network_in, index_in}
use Rattle.search_relaxing.specs.Steps.Choice.{entry_after, Relaxing}
use Rattle.search_relaxing.proofs.relax.offer.Given as goal

abbrev pub invariant-loop-k : goal.invariant-loop-k
invariant-loop-k l =
    Offered (edge_of (bicycle (network_in l.ask)) l.ask.tolerance) (feet_of (network_in l.ask)) l.here.run l.here.label
    (entry_after (index_in l.ask) l.here.node l.choice.first) l.k l.initial.best l.initial.previous l.best l.previous
    × Relaxing l.ask l.here l.unfound l.best l.previous l.tree
