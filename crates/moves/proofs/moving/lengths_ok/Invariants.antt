-- What is left to test is the whole test.
use Rattle.moves.proofs.LengthLaws.{LengthsLeft}
use Rattle.moves.proofs.moving.lengths_ok.Given as goal

abbrev pub invariant-loop-s : goal.invariant-loop-s
invariant-loop-s g l = LengthsLeft g.row.FROM g.row.TO l.net l.segments l.s
