-- What stepping down so many times more from here gives is what the whole gives.
use Prim.Native.Nat.{◌-◌, ◌<◌}
use mathlib.Core.Path.{◌≡◌}
use Rattle.network.specs.LegBits.{is_set}
use Rattle.streets.specs.Exits.{exit_from}
use Rattle.streets.proofs.exits.right_hand_exit.Given as goal

abbrev pub invariant-loop : goal.invariant-loop
invariant-loop l =
    (exit_from (is_set l.legs) (8 - l.counter) l.at ≡ exit_from (is_set l.legs) 8 l.leg) × (l.at < 8)
