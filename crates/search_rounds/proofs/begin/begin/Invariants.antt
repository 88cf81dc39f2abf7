-- Labels are cleared, and then the eight entries of the start are taken in turn, with the record `Started` kept. The run behind an entry leaves the
-- start, so of it "usable" is "a source"; and a source leaves the start, so it is behind one of the eight entries.
use Prim.Native.Nat.{◌*◌}
use Rattle.search_labels.proofs.Beginning.{Started}
use Rattle.search_relaxing.specs.Steps.Counted.{index_in, asked_graph}
use Rattle.search_rounds.proofs.begin.begin.Given as goal

abbrev pub invariant-loop-entry : goal.invariant-loop-entry
invariant-loop-entry l =
    Started (asked_graph l.ask) (index_in l.ask) (l.ask.from * 8) l.entry-index l.best l.previous l.tree
