-- The loop takes one node after the other, with the record `Listing` kept: what is left to write, over the list as it is, is the whole over the list as it
-- was. After the last node nothing is left. A place is at most two numbers for each node passed, so that the next entry has room.
use Rattle.search_reach.specs.Steps.Arrivals.{length_to}
use Rattle.search_reach.proofs.Listing.{Listing}
use Rattle.search_reach.proofs.arrivals.Lengths.list_nodes.Given as goal

abbrev pub invariant-loop-node : goal.invariant-loop-node
invariant-loop-node l =
    Listing (length_to l.self.index.now l.self.best.now l.self.from) l.farthest l.nodes l.initial.list l.list l.place l.node
