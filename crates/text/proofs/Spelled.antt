-- So many lines of one size spell so many times that size of bytes: by induction on the lines.
-- Assumes nothing.
use Prim.Native.Nat.{ℕ, zero, suc, ◌+◌, ◌*◌}
use mathlib.Core.Path.{◌≡◌, sym, ◌∙◌}
use mathlib.Core.List.{List}
use native.Mathlib.Omega.{arith}
use native.Mathlib.Nat.{mul-zero}
use lib.ListN.{length, drop, length-append}
use Rattle.lists.proofs.Lists.{times_suc}
use Rattle.digits.specs.Steps.Scan.{spelled}
use Rattle.digits.proofs.DigitLaws.{length_spelled}
use Rattle.text.specs.Steps.Spelled.{spelled_lines}

pub length_spelled_lines : (size m : ℕ) (t : List ℕ) → length (spelled_lines size m t) ≡ size * m
unfolding spelled_lines
length_spelled_lines size zero t = sym (mul-zero size)
length_spelled_lines size (suc m) t =
    length-append (spelled size t) (spelled_lines size m (drop (2 * size + 1) t))
    ∙ omega (arith, length_spelled size t, length_spelled_lines size m (drop (2 * size + 1) t), times_suc size m)
