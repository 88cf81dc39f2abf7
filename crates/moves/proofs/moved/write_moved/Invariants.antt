-- The head and the frames so far are written over the output, and nothing else is.
use mathlib.Core.List.{◌++◌}
use mathlib.Core.Path.{◌≡◌}
use lib.ListN.{take, drop}
use Rattle.lists.specs.Placed.{placed}
use Rattle.moves.specs.Moved.{head_in, frames_in}
use Rattle.moves.proofs.moved.write_moved.Given as goal

abbrev pub invariant-loop-s : goal.invariant-loop-s
invariant-loop-s g l =
    l.output ≡ placed 0 (head_in g.row.TO (take 7 l.net) ++ frames_in g.row.FROM g.row.TO l.s (drop 7 l.net)) l.fn.output
