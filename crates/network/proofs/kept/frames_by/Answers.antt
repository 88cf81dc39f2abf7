-- The loop's invariant is `Going` of FramesChecked.antt; the part that each turn lends is the frame of segment s.
use mathlib.Core.Path.{refl, ◌∙◌}
use Rattle.frames.proofs.EditionLaws.{alike_frames}
use Rattle.network.proofs.FramesChecked.{starts, goes_on, ends, fails}
use Rattle.network.proofs.kept.frames_by.Goals as goal

pub loop-s-init : goal.loop-s-init
loop-s-init g c =
    (starts c.requires.1 c.requires.0 c.requires.2 c.requires.3, refl, refl)

pub loop-s-preserved : goal.loop-s-preserved
loop-s-preserved g c = (
  goes_on c.loop-s.invariant.0 (c.frame_bytes-size.ensures.is ∙ alike_frames c.requires.4) c.loop-s-test.true c.take_segment.ensures c.if-not-take_segment.false,
  c.take_segment.auto.legs ∙ c.loop-s.invariant.1,
  c.take_segment.auto.index ∙ c.loop-s.invariant.2,
)

pub returns-then-not-take_segment : goal.returns-then-not-take_segment
returns-then-not-take_segment g c =
    fails c.loop-s.invariant.0 (c.frame_bytes-size.ensures.is ∙ alike_frames c.requires.4) c.loop-s-test.true c.take_segment.ensures c.if-not-take_segment.true

pub returns : goal.returns
returns g c =
    ends c.loop-s.invariant.0 c.loop-s-test.false
