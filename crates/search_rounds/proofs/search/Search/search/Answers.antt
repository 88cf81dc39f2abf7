-- At first nothing is to find at the start, whose usable runs are labelled. Between the rounds `Between` holds at the next key. A round settles one run more,
-- so the loop ends; it stops where the next run arrives at a goal, or where its key is not below the limit.
use mathlib.Core.Path.{sym, ◌∙◌}
use Rattle.search_labels.proofs.Queueing.{queued_none_spent}
use Rattle.search_labels.proofs.Rounds.{search_begins, search_due, search_stops, search_ends, search_more, search_less}
use Rattle.search_relaxing.specs.Steps.Counted.{network_in}
use Rattle.search_relaxing.proofs.CountedLaws.{ask_counted, fair}
use Rattle.search_relaxing.proofs.UnfoundLaws.{unfound_apart, unfound_begun, unfound_spent, noted_elsewhere}
use native.Mathlib.Omega.{arith}
use Rattle.search_rounds.proofs.search.Search.search.Goals as goal

pub loop-key-init : goal.loop-key-init
loop-key-init c =
    let ask = c.args.self.now.ask in
    let T = ask_counted ask in
    let U = unfound_begun T ask.tolerance ask.from c.requires.1.unknown c.begin.ensures.labels in
    let z = unfound_apart (network_in ask) c.args.self.now.goals.now ask.from c.requires.1.unknown c.args.self.now.sought.apart in
    record {
      search =
          search_begins (fair T) (unfound_spent T ask.from c.args.self.now.goals.now U z) c.begin.ensures.labels (omega arith) (omega arith)
          (queued_none_spent c.begin.ensures.queued) c.least-key.ensures;
      right = U;
      unnoted = z;
    }

pub returns-then-is_goal : goal.returns-then-is_goal
returns-then-is_goal c =
    let T = ask_counted c.args.self.now.ask in
    let i = c.loop-key.invariant in (
      c.loop-key-test.true,
      search_stops (fair T) i.search (unfound_spent T c.args.self.now.ask.from c.args.self.now.goals.now i.right i.unnoted) (omega arith)
          (rw c.run_in.ensures at (sym c.is_goal.ensures ∙ c.if-is_goal.true)),
    )

pub settle-key-requires : goal.settle-key-requires
settle-key-requires c =
    let i = c.loop-key.invariant in
    (search_due (fair (ask_counted c.args.self.now.ask)) i.search (omega arith), i.right)

pub loop-key-smaller : goal.loop-key-smaller
loop-key-smaller c = search_less (fair (ask_counted c.args.self.now.ask)) c.loop-key.invariant.search (omega arith) c.settle-key.ensures.round

pub loop-key-preserved : goal.loop-key-preserved
loop-key-preserved c =
    let T = ask_counted c.args.self.now.ask in
    let i = c.loop-key.invariant in
    let N = c.settle-key.ensures.noted in
    let away = rw c.run_in.ensures at (sym c.is_goal.ensures ∙ c.if-is_goal.false) in
    let z = noted_elsewhere N c.args.self.now.goals.now away i.unnoted in
    record {
      search =
          search_more (fair T) i.search (omega arith) c.settle-key.ensures.round (unfound_spent T c.args.self.now.ask.from c.args.self.now.goals.now i.right i.unnoted)
          N.grows (unfound_spent T c.args.self.now.ask.from c.args.self.now.goals.now N.right z) away;
      right = N.right;
      unnoted = z;
    }

pub returns : goal.returns
returns c = (omega arith, search_ends (fair (ask_counted c.args.self.now.ask)) c.loop-key.invariant.search c.loop-key-test.false)
