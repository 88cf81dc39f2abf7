-- Of the bits of i and 1 only the last can be in common, and it is i % 2: so i ^ 1 is their sum less twice that.
use native.Mathlib.Omega.{arith}
use lib.Bits.{xor_add_and, and_mask}
use Rattle.queue.proofs.sibling.Goals as goal

pub returns : goal.returns
returns c =
    omega (arith, xor_add_and c.args.i 1, and_mask c.args.i 1)
