-- A usable run gets its own feet for a label.
use mathlib.Core.Path.{sym, ◌∙◌}
use Rattle.search_labels.specs.Steps.Begin.{first}
use Rattle.search_relaxing.proofs.CountedLaws.{told}
use Rattle.search_rounds.proofs.begin.begin_at.Goals as goal

pub returns-then-is_usable : goal.returns-then-is_usable
returns-then-is_usable c =
    first (rw c.feet_of-label.ensures at c.write_label.ensures) (told c.in-Some.ensures) (sym c.is_usable.ensures ∙ c.if-is_usable.true)
