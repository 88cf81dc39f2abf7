-- `splicereel_c::moving::splicereel_move_up` meets its contract: what the move answers fits, and is told.
use Rattle.splicereel_c.proofs.Fitting.{move_fits}
use Rattle.splicereel_c.proofs.Telling.{move_replies}
use Rattle.splicereel_c.proofs.moving.splicereel_move_up.Goals as goal

pub tell-requires : goal.tell-requires
tell-requires c =
    move_fits c.move_up.result c.move_up.ensures

pub returns : goal.returns
returns c =
    move_replies c.move_up.result c.move_up.ensures c.tell.ensures
