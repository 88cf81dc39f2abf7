-- The loop is the climb of ../Rise.antt: the invariant is its record, and each way out of the loop is one of its lemmas.
use native.Mathlib.Omega.{arith}
use Rattle.queue.proofs.Climb.{climb_end, climb_put}
use Rattle.queue.proofs.Rise.{rise_start, rise_more, rise_stop}
use Rattle.queue.proofs.put.Goals as goal

pub loop-i-init : goal.loop-i-init
loop-i-init c =
    rise_start c.requires.0 c.requires.1 c.requires.2

pub returns-then-winner-tree : goal.returns-then-winner-tree
returns-then-winner-tree c =
    let R = c.loop-i.invariant in
    climb_put c.requires.0 c.requires.1 (omega arith) R.climb (rise_stop R (omega (arith, c.loop-i-test.true)) c.if-winner-tree.true)

pub loop-i-preserved : goal.loop-i-preserved
loop-i-preserved c =
    rise_more c.loop-i.invariant (omega (arith, c.loop-i-test.true)) (omega (arith, c.if-winner-tree.false))

pub returns : goal.returns
returns c =
    let C = c.loop-i.invariant.climb in
    climb_put c.requires.0 c.requires.1 (omega arith) C (climb_end C (omega (arith, c.loop-i-test.false)))
