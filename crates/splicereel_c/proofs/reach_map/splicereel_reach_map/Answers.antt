-- `splicereel_c::reach_map::splicereel_reach_map` meets its contract: what Reach map answers fits, and is told.
use Rattle.splicereel_c.proofs.Fitting.{map_fits}
use Rattle.splicereel_c.proofs.Telling.{map_replies}
use Rattle.splicereel_c.proofs.reach_map.splicereel_reach_map.Goals as goal

pub tell-requires : goal.tell-requires
tell-requires c =
    map_fits c.reach_map.result c.reach_map.ensures

pub returns : goal.returns
returns c =
    record {
      answer = c.reach_map.result;
      promise = c.reach_map.ensures;
      replies = map_replies c.reach_map.result c.tell.ensures;
    }
