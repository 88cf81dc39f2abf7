-- Labels are cleared, and then the eight entries of the start are taken in turn, with the record `Started` kept. The run behind an entry leaves the
-- start, so of it "usable" is "a source"; and a source leaves the start, so it is behind one of the eight entries.
use mathlib.Core.Path.{◌≡◌}
use mathlib.Core.List.{List}
use Prim.Native.Nat.{ℕ, ◌+◌, ◌-◌, ◌*◌, ◌<◌}
use lib.ListN.{take, drop, length-take, length-drop}
use native.Mathlib.Omega.{arith}
use Rattle.std.proofs.lemmas.Grind.{common_steps}
use Rattle.lists.specs.Lists.{at}
use Rattle.routes.proofs.Walks.{true_source}
use Rattle.streets.specs.Bicycle.{bicycle}
use Rattle.streets.specs.Steps.Leaving.{Entry}
use Rattle.streets.proofs.LeavingLaws.{entry_leaves, leaving_entry}
use Rattle.search_labels.proofs.Beginning.{started_keys, started_more, started_begun, started_queued}
use Rattle.search_relaxing.specs.declared.Ask.{Ask}
use Rattle.search_relaxing.specs.Steps.Counted.{network_in, index_in}
use Rattle.search_relaxing.proofs.CountedLaws.{ask_counted, run_of, fair, entry_few}
use Rattle.search_relaxing.proofs.TestLaws.{source_usable}
use Rattle.search_rounds.proofs.begin.begin.Goals as goal

-- An entry of the start is one of the eight from its place on.
entry_at : (index : List ℕ) (place leg : ℕ) → leg < 8 → at (take (place + 8 - place) (drop place index)) leg ≡ at index (place + leg)
entry_at index place leg l = grind (arith, common_steps)

-- The run behind it leaves the start.
start_leaves : (ask : Ask) {leg : ℕ} → leg < 8 → Entry (network_in ask) ask.from leg (at (index_in ask) (ask.from * 8 + leg))
start_leaves ask l = entry_leaves (network_in ask) ask.streets.net.kept ask.indexed ask.from_node l

pub begin_at-requires : goal.begin_at-requires
begin_at-requires c =
    let ask = c.args.ask.now in
    let S = c.loop-entry.invariant in
    let leg : c.loop-entry.entry-index < 8 = omega (arith, length-take {A = ℕ}) in
    record {
      few = rw (entry_at _ _ _ leg) (entry_few (ask_counted ask) (start_leaves ask leg));
      room = search arith;
      queue = S.queue;
      none_earlier = started_keys S (fair (ask_counted ask));
    }

pub loop-entry-preserved : goal.loop-entry-preserved
loop-entry-preserved c =
    let ask = c.args.ask.now in
    let leg : c.loop-entry.entry-index < 8 = omega (arith, length-take {A = ℕ}) in
    started_more c.loop-entry.invariant
    (λ r x. let L = (start_leaves ask leg).leaving r x in (omega (arith, ask.counted, L.inside), source_usable L ask.tolerance)) (omega arith) (omega arith)
    (rw (entry_at _ _ _ leg) at c.begin_at.ensures)

pub returns : goal.returns
returns c =
    let ask = c.args.ask.now in
    let e : c.loop-entry.entry-index ≡ 8 = omega (arith, ask.from_node, ask.indexed.room, length-take {A = ℕ}, length-drop {A = ℕ}) in
    let S = rw e at c.loop-entry.invariant in
    record {
      labels =
          started_begun S
          (λ r l h.
          leaving_entry (network_in ask) ask.streets.net.kept ask.indexed (run_of (ask_counted ask) l) ask.from
          (true_source (bicycle (network_in ask)) ask.tolerance ask.from r h).leaves);
      queued = started_queued S;
    }
