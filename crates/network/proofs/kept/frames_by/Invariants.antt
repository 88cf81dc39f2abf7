-- The loop's invariant is `Going` of FramesChecked.antt; the part that each turn lends is the frame of segment s.
use mathlib.Core.Path.{◌≡◌}
use mathlib.Core.Bool.{not}
use lib.Dec.{eqb}
use lib.ListN.{length}
use Rattle.network.proofs.FramesChecked.{Going}
use Rattle.network.proofs.kept.frames_by.Given as goal

abbrev pub invariant-loop-s : goal.invariant-loop-s
invariant-loop-s g l =
    Going (not (eqb g.row.INDEXED 0)) l.net l.head l.s l.legs l.index × (length l.legs ≡ length l.initial.legs) × (length l.index ≡ length l.initial.index)
