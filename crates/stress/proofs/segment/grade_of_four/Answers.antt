-- The place of the first of the four that has the greatest level, counted from 0, is one below its measure.
use mathlib.Core.Path.{◌≡◌}
use lib.ListN.{length}
use Rattle.std.proofs.Common.{rules}
use Rattle.stress.specs.Segment.{grade_of_four}
use Rattle.stress.proofs.Governing.{governs}
use Rattle.stress.proofs.segment.grade_of_four.Goals as goal

pub returns : goal.returns
unfolding grade_of_four
returns c =
    let four : length c.args.levels ≡ 4 = search rules in
    let first = governs c.args.levels c.greatest_of-level.result four in
    cc
