-- `splicereel_c::nearest::splicereel_nearest` meets its contract: what Nearest answers fits, and is told.
use Rattle.splicereel_c.proofs.Fitting.{nearest_fits}
use Rattle.splicereel_c.proofs.Telling.{nearest_replies}
use Rattle.splicereel_c.proofs.nearest.splicereel_nearest.Goals as goal

pub tell-requires : goal.tell-requires
tell-requires c =
    nearest_fits c.nearest.result c.nearest.ensures

pub returns : goal.returns
returns c =
    record {
      answer = c.nearest.result;
      promise = c.nearest.ensures;
      replies = nearest_replies c.nearest.result c.tell.ensures;
    }
