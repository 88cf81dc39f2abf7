-- `splicereel_c::judge::splicereel_judge_segment` meets its contract: what Judge a segment answers is told.
use Rattle.splicereel_c.proofs.Telling.{segment_replies}
use Rattle.splicereel_c.proofs.judge.splicereel_judge_segment.Goals as goal

pub returns : goal.returns
returns c =
    segment_replies c.judge_segment.result c.judge_segment.ensures c.tell.ensures
