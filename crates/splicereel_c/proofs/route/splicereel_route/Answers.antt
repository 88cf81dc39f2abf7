-- `splicereel_c::route::splicereel_route` meets its contract: what Route answers fits, and is told.
use Rattle.splicereel_c.proofs.Fitting.{route_fits}
use Rattle.splicereel_c.proofs.Telling.{route_replies}
use Rattle.splicereel_c.proofs.route.splicereel_route.Goals as goal

pub tell-requires : goal.tell-requires
tell-requires c =
    route_fits c.route.result c.route.ensures

pub returns : goal.returns
returns c =
    record {
      answer = c.route.result;
      promise = c.route.ensures;
      replies = route_replies c.route.result c.tell.ensures;
    }
