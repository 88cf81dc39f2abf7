-- The tolerances below the next one, if there are any, met nothing; the labels are those of the last of them, and so is the key at which it stopped.
use Prim.Native.Nat.{◌+◌, ◌-◌, ◌<◌}
use Rattle.std.specs.Prelude.{Err}
use Rattle.search_rounds.specs.Steps.Searches.{Stopped, NothingMet}
use Rattle.search_rounds.proofs.search.Search.explore.Given as goal

abbrev pub invariant-loop-tolerance : goal.invariant-loop-tolerance
invariant-loop-tolerance l =
    (l.self.ask.least < l.tolerance → Stopped l.self.ask (l.tolerance - 1) l.self.goals.now l.best l.previous (Err l.stopped))
    × (l.self.ask.least + 1 < l.tolerance → NothingMet l.self.ask (l.tolerance - 2) l.self.goals.now)
