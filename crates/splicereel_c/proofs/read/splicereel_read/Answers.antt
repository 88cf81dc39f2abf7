-- `splicereel_c::read::splicereel_read` meets its contract: what Read answers fits, and is told.
use Rattle.splicereel_c.proofs.Fitting.{read_fits}
use Rattle.splicereel_c.proofs.Telling.{read_replies}
use Rattle.splicereel_c.proofs.read.splicereel_read.Goals as goal

pub tell-requires : goal.tell-requires
tell-requires c =
    read_fits c.read.result c.read.ensures

pub returns : goal.returns
returns c =
    read_replies c.read.ensures c.tell.ensures
