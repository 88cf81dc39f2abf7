-- The loop's invariant: the bytes filled so far are the pairs passed, joined (`Filling`).
use mathlib.Core.Path.{◌∙◌}
use native.Mathlib.Omega.{arith}
use Rattle.digits.proofs.DecodeLaws.{filling_starts, filling_goes_on, filling_ends, pair_here}
use Rattle.digits.proofs.join_values.Goals as goal

pub loop-k-init : goal.loop-k-init
loop-k-init c =
    filling_starts _ _ _ _

pub loop-k-preserved : goal.loop-k-preserved
loop-k-preserved c =
    filling_goes_on c.loop-k.invariant (omega arith) (c.byte_of.ensures ∙ pair_here c.args.values.now c.loop-k.k)

pub returns : goal.returns
returns c =
    filling_ends c.loop-k.invariant (omega arith)
