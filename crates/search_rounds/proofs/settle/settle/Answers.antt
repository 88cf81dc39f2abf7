-- The run with the least key is taken from the queue, its edges are relaxed, and the front of the queue is then the next key. Nothing else was put or
-- taken.
use Rattle.search_labels.proofs.Queueing.{settling_begins, settling_ends}
use Rattle.search_relaxing.proofs.CountedLaws.{ask_counted, fair}
use Rattle.search_relaxing.proofs.UnfoundLaws.{spread_all, spread_only}
use native.Mathlib.Omega.{arith}
use Rattle.search_rounds.proofs.settle.settle.Goals as goal

pub relax-requires : goal.relax-requires
relax-requires c =
    let run = c.run_in-run.ensures in
    record {
      reaches = search arith;
      right = c.requires.1;
      settling = rw (run, c.label_in-label.ensures) (settling_begins (fair (ask_counted c.args.ask.now)).small c.requires.0 (rw run at c.remove.ensures));
    }

pub returns : goal.returns
returns c =
    let r = rw (c.run_in-run.ensures, c.label_in-label.ensures) at c.relax.ensures in
    record {
      round = settling_ends (fair (ask_counted c.args.ask.now)).small c.requires.0 (spread_all r) (spread_only r) r.relaxed r.settling c.least.ensures;
      noted = r.noted;
    }
