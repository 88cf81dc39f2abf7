-- No bit of a 0 is set.
use Rattle.network.proofs.TakenLaws.{none_gathered}
use Rattle.network.proofs.legs.no_legs.Goals as goal

pub returns : goal.returns
returns g c =
    none_gathered g.row.NODES
