-- The page has the lines of the segments passed, at most 63 bytes each, and the network has no more segments than a page has room for.
use Rattle.std.proofs.Common.{◌≡◌, arith, length, sym, ap, ◌∙◌}
use Rattle.levels.proofs.Printing.{no_lines, lines_more}
use Rattle.levels.proofs.levels.put_levels.Goals as goal

pub loop-segment-init : goal.loop-segment-init
loop-segment-init c = (c.requires.0 ∙ sym (no_lines _ _), omega (arith, ap length c.requires.0))

pub put_level-requires : goal.put_level-requires
put_level-requires c =
    (omega (arith, c.segments-segment-end.ensures), omega (arith, c.loop-segment.invariant.1, c.segments-segment-end.ensures, c.requires.1))

pub loop-segment-preserved : goal.loop-segment-preserved
loop-segment-preserved c =
    (lines_more _ _ c.loop-segment.invariant.0 c.put_level.ensures.text, omega (arith, c.put_level.ensures.len, c.loop-segment.invariant.1))

pub returns : goal.returns
returns c =
    let all : c.loop-segment.segment ≡ c.segments-segment-end.result = omega arith in
    rw (all, c.segments-segment-end.ensures) at c.loop-segment.invariant.0
