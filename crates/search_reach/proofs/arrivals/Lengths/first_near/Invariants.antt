-- The nodes passed are far. The first that is not far is the answer.
use mathlib.Core.Path.{◌≡◌}
use mathlib.Core.Bool.{true}
use Prim.Native.Nat.{ℕ, ◌<◌}
use Rattle.search_reach.specs.Steps.Nearest.{is_far}
use Rattle.search_reach.proofs.arrivals.Lengths.first_near.Given as goal

abbrev pub invariant-loop-node : goal.invariant-loop-node
invariant-loop-node l =
    (b : ℕ) → b < l.node → is_far l.self.index.now l.self.best.now l.self.from l.marks l.length b ≡ true
