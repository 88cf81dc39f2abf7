-- The choice is offered, and the way back labelled where the choice says so; then the number that is noted is right, whichever choice it was.
use Rattle.search_relaxing.proofs.ChoiceLaws.{spread_onward, spread_turned}
use Rattle.search_relaxing.proofs.relax.relax.Goals as goal
use Rattle.search_relaxing.proofs.relax.relax.Goals.{then-choice, else-choice}

pub returns : goal.returns
returns c =
    rw c.note_of.ensures
    (elim c.if-choice.branch [
      | then-choice w ↦ rw (w.best-is, w.previous-is) (spread_turned c.requires c.in-Some.ensures c.offer.ensures w.if-choice.true w.label_back.ensures)
      | else-choice w ↦ rw (w.best-is, w.previous-is) (spread_onward c.requires c.in-Some.ensures c.offer.ensures w.if-choice.false)
    ])
