-- Every entry of an array of zeros is 0.
use native.Mathlib.Omega.{arith}
use Rattle.network.proofs.CornerLaws.{none_indexed}
use Rattle.network.proofs.corners.free_corners.Goals as goal

pub returns : goal.returns
returns g c =
    λ n l. none_indexed g.row.CORNERS n (omega arith)
