-- The level from the run `next` on is known; the run before it adds its own level and that of the movement between the two. At the first run of the
-- chain it is the level of the whole route.
use Rattle.lists.specs.Lists.{at}
use Rattle.streets.specs.Bicycle.{bicycle}
use Rattle.search_relaxing.specs.Steps.Counted.{network_in}
use Rattle.search_routes.proofs.Levels.{Levelled}
use Rattle.search_routes.proofs.trace.route_level.Given as goal

abbrev pub invariant-loop : goal.invariant-loop
invariant-loop l =
    Levelled (bicycle (network_in l.ask)) l.ask.runs (at l.previous) l.count l.last l.counter l.next l.level
