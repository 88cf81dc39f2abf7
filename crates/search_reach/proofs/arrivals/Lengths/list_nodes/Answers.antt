-- The loop takes one node after the other, with the record `Listing` kept: what is left to write, over the list as it is, is the whole over the list as it
-- was. After the last node nothing is left. A place is at most two numbers for each node passed, so that the next entry has room.
use Rattle.search_reach.proofs.Listing.{listable, listing_all}
use Rattle.search_reach.proofs.arrivals.Lengths.list_nodes.Goals as goal

pub list_node-place-requires : goal.list_node-place-requires
list_node-place-requires c =
    listable c.loop-node.invariant c.requires c.loop-node-test.true

pub returns : goal.returns
returns c =
    let all = listing_all c.loop-node.invariant c.loop-node-test.false in
    record { text = all.0; counted = all.1 }
