-- The loop's invariant: the bytes filled so far are the pairs passed, joined (`Filling`).
use Rattle.digits.specs.Steps.Scan.{pair_at}
use Rattle.digits.proofs.DecodeLaws.{Filling}
use Rattle.digits.proofs.join_values.Given as goal

abbrev pub invariant-loop-k : goal.invariant-loop-k
invariant-loop-k l =
    Filling pair_at 2 l.values l.initial.bytes l.bytes l.k
