-- The values are those of the digits, each below 16, and joined by twos they are the bytes that the digits spell.
use native.Mathlib.Omega.{arith}
use Rattle.digits.proofs.DecodeLaws.{values_small, values_join}
use Rattle.digits.proofs.decode_by.Goals as goal

pub join_values-requires : goal.join_values-requires
join_values-requires c =
    let v = c.values_of-good.ensures.values in (omega arith, λ i. rw v (values_small _ _ i))

pub returns : goal.returns
returns c =
    values_join c.requires.1
    c.values_of-good.ensures c.join_values.ensures
