-- Fewer than 16 bytes are one part. Of more, the last 16 are put over the first 16, and the two parts together are all digits and all bytes.
use native.Mathlib.Omega.{arith}
use Rattle.digits.proofs.DecodeLaws.{parts_join}
use Rattle.digits.proofs.decode_into.Goals as goal

pub returns : goal.returns
returns c =
    let a = c.args in
    parts_join a.text.now a.bytes.now (omega arith) (omega arith)
    c.decode_part-first.ensures c.decode_part-last.ensures
