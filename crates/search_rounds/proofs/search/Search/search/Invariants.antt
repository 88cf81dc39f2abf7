-- At first nothing is to find at the start, whose usable runs are labelled. Between the rounds `Between` holds at the next key. A round settles one run more,
-- so the loop ends; it stops where the next run arrives at a goal, or where its key is not below the
-- limit.
use Rattle.search_labels.proofs.Invariant.{unsettled}
use Rattle.search_rounds.proofs.Between.{Between}
use Rattle.search_rounds.proofs.search.Search.search.Given as goal

abbrev pub invariant-loop-key : goal.invariant-loop-key
invariant-loop-key l =
    Between l.self.ask l.self.goals.now l.best l.previous l.tree l.unfound l.key

abbrev pub decreases-loop-key : goal.decreases-loop-key
decreases-loop-key l =
    unsettled l.best l.self.ask.runs l.key
