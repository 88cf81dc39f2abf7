-- The values of at most 16 bytes have room, and the part that is lent has two for each byte.
use native.Mathlib.Omega.{arith}
use lib.ListN.{length-take}
use Rattle.digits.proofs.decode_part.Goals as goal

pub decode_by-requires : goal.decode_by-requires
decode_by-requires c =
    (omega arith, simp length-take (omega arith))
