-- The sum so far with that of the bytes left is the frame's, modulo 256.
use Prim.Native.Nat.{◌+◌, ◌%◌}
use mathlib.Core.Path.{◌≡◌}
use lib.ListN.{drop}
use Rattle.frames.specs.Frame.{total}
use Rattle.frames.proofs.frame.sum_of.Given as goal

abbrev pub invariant-loop-byte : goal.invariant-loop-byte
invariant-loop-byte l =
    (l.sum + total (drop l.byte-index l.f)) % 256 ≡ total l.f % 256
