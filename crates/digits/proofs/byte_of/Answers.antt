-- The arithmetic of `pair_byte`.
use Rattle.digits.proofs.DecodeLaws.{pair_byte}
use Rattle.digits.proofs.byte_of.Goals as goal

pub returns : goal.returns
returns c =
    pair_byte _ _ c.requires.0 c.requires.1
