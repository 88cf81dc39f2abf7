-- `splicereel_c::judge::splicereel_judge_movement` meets its contract: what Judge a movement answers is told.
use Rattle.splicereel_c.proofs.Telling.{movement_replies}
use Rattle.splicereel_c.proofs.judge.splicereel_judge_movement.Goals as goal

pub returns : goal.returns
returns c =
    movement_replies c.judge_movement.result c.judge_movement.ensures c.tell.ensures
