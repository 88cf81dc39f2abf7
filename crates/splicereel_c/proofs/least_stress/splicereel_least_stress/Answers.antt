-- `splicereel_c::least_stress::splicereel_least_stress` meets its contract: what Least stress answers fits, and is told.
use Rattle.splicereel_c.proofs.Fitting.{least_fits}
use Rattle.splicereel_c.proofs.Telling.{least_replies}
use Rattle.splicereel_c.proofs.least_stress.splicereel_least_stress.Goals as goal

pub tell-requires : goal.tell-requires
tell-requires c =
    least_fits c.least_stress.result c.least_stress.ensures

pub returns : goal.returns
returns c =
    record {
      answer = c.least_stress.result;
      promise = c.least_stress.ensures;
      replies = least_replies c.least_stress.result c.tell.ensures;
    }
