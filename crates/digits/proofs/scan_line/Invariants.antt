-- The loop's invariant: what the line that is left answers, with the count and the sum so far, is the answer for the whole line.
use Prim.Native.Nat.{ℕ, ◌+◌, ◌-◌, ◌%◌, ◌≤◌, ◌<◌}
use mathlib.Core.List.{List}
use mathlib.Core.Path.{◌≡◌}
use lib.ListN.{length, drop}
use Rattle.std.specs.Slice.Iter.{chunks_exact_rest, chunks_exact_size}
use Rattle.digits.specs.Digits.{line_of}
use Rattle.digits.specs.Steps.Scan.{scanned}
use Rattle.digits.proofs.scan_line.Given as goal

pub record Scanning (t : List ℕ) (size : ℕ) (last left : List ℕ) (count sum : ℕ) : Type 0 where
  pub twos : size ≡ 2
  pub tail : drop (length left - length left % 2) left ≡ last
  pub few : count + length left ≤ length t
  pub small : sum < 256
  pub whole : scanned count sum (line_of left) ≡ scanned 0 0 (line_of t)

abbrev pub invariant-loop-pair : goal.invariant-loop-pair
invariant-loop-pair l =
    Scanning l.text (chunks_exact_size l.pair-iterator) l.last (chunks_exact_rest l.pair-iterator) l.count l.sum
