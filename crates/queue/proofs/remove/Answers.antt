-- The climb of ../Climb.antt with `top` for the key, to the root.
use native.Mathlib.Nat.{le_refl}
use native.Mathlib.Omega.{arith}
use Rattle.queue.proofs.Climb.{climb_start, of_sibling, climb_more, climb_end, climb_put}
use Rattle.queue.proofs.remove.Goals as goal

pub loop-node-init : goal.loop-node-init
loop-node-init c =
    climb_start c.requires.0 c.requires.1 (le_refl _)

pub loop-node-preserved : goal.loop-node-preserved
loop-node-preserved c =
    let i = c.loop-node.invariant in
    climb_more i (omega (arith, c.loop-node-test.true)) (of_sibling i c.sibling.ensures c.max-winner.ensures)

pub returns : goal.returns
returns c =
    let k = c.loop-node in
    climb_put c.requires.0 c.requires.1 (le_refl _) k.invariant (climb_end k.invariant (omega (arith, c.loop-node-test.false)))
