-- The loop's invariant is `Going` of LinesRead.antt: what is left to decide is the whole; and the bytes and the frame stay as long as they were. The
-- measure is the text left.
use mathlib.Core.Path.{◌≡◌}
use lib.ListN.{length}
use Rattle.text.proofs.LinesRead.{Going}
use Rattle.text.proofs.read.judge_lines.Given as goal

abbrev pub invariant-loop-frame : goal.invariant-loop-frame
invariant-loop-frame l =
    Going l.first.bytes l.lines l.head l.s l.rest l.legs × (length l.legs ≡ length l.initial.legs) × (length l.frame ≡ length l.initial.frame)

abbrev pub decreases-loop-frame : goal.decreases-loop-frame
decreases-loop-frame l =
    length l.rest
