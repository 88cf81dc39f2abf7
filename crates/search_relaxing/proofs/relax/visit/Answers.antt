-- The run has a label already; or it is not usable. Else it gets the label of the run reached with its own feet added. It was not queued, having no label.
-- It is queued above the key of the run that is being settled, or, where nothing is to find where it leads, it is spent and stays out.
use Rattle.search_labels.specs.Steps.Relax.{labelled}
use Rattle.search_labels.proofs.Queueing.{settling_free, settling_more, settling_without}
use Rattle.search_relaxing.proofs.CountedLaws.{ask_counted, fair, few_runs}
use Rattle.search_relaxing.proofs.UnfoundLaws.{spent_at}
use native.Mathlib.Omega.{arith}
use Rattle.search_relaxing.proofs.relax.visit.Goals as goal

pub overflow_cast-previous : goal.overflow_cast-previous
overflow_cast-previous c = omega (arith, few_runs (ask_counted c.args.ask.now))

pub returns-then-unfound-finish_of-ge-NOTHING : goal.returns-then-unfound-finish_of-ge-NOTHING
returns-then-unfound-finish_of-ge-NOTHING c =
    grind (arith, labelled, settling_without (fair (ask_counted c.args.ask.now)) c.requires.settling c.requires.within c.label_by-label.ensures, spent_at)

pub overflow_cast-here : goal.overflow_cast-here
overflow_cast-here c = omega (arith, few_runs (ask_counted c.args.ask.now))

pub write_label-requires : goal.write_label-requires
write_label-requires c =
    let F = fair (ask_counted c.args.ask.now) in
    grind (arith, F, settling_free F c.requires.settling c.requires.within c.label_by-label.ensures)

pub returns : goal.returns
returns c =
    grind (arith, labelled, settling_more (fair (ask_counted c.args.ask.now)) c.requires.settling c.requires.within c.label_by-label.ensures)
