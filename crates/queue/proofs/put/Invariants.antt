-- The loop is the climb of ../Rise.antt: the invariant is its record, and each way out of the loop is one of its lemmas.
use Rattle.queue.proofs.Rise.{Rise}
use Rattle.queue.proofs.put.Given as goal

abbrev pub invariant-loop-i : goal.invariant-loop-i
invariant-loop-i l =
    Rise l.initial.tree l.tree l.n l.i l.winner

abbrev pub decreases-loop-i : goal.decreases-loop-i
decreases-loop-i l =
    l.i
