-- The way back has a label already; or it gets the label of the run reached with its own feet added, for which there is room.
use mathlib.Core.Path.{refl, ap}
use lib.ListN.{set}
use Rattle.search_labels.specs.Steps.Relax.{kept, labelled, leads}
use Rattle.search_relaxing.proofs.CountedLaws.{ask_counted, few_runs, told}
use native.Mathlib.Omega.{arith}
use Rattle.search_relaxing.proofs.relax.label_back.Goals as goal

pub overflow_cast-previous : goal.overflow_cast-previous
overflow_cast-previous c = omega (arith, few_runs (ask_counted c.args.ask.now))

pub returns-then-best-back-ge-NONE : goal.returns-then-best-back-ge-NONE
returns-then-best-back-ge-NONE c =
    leads (labelled c.if-best-back-ge-NONE.true refl (ap (set c.args.best.now _) c.label_by.ensures) refl) (told c.in-Some.ensures)

pub returns-else-best-back-ge-NONE : goal.returns-else-best-back-ge-NONE
returns-else-best-back-ge-NONE c = leads (kept c.if-best-back-ge-NONE.false refl refl) (told c.in-Some.ensures)
