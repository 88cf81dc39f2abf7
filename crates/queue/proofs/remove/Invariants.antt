-- The climb of ../Climb.antt with `top` for the key, to the root.
use Rattle.queue.proofs.Climb.{Climb}
use Rattle.queue.proofs.remove.Given as goal

abbrev pub invariant-loop-node : goal.invariant-loop-node
invariant-loop-node l =
    Climb l.initial.tree l.tree l.n l.node l.winner

abbrev pub decreases-loop-node : goal.decreases-loop-node
decreases-loop-node l =
    l.node
