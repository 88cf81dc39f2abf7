-- What is told of the cursor is told of the definition that it is equal to.
use mathlib.Core.Path.{subst}
use Rattle.cursor.specs.declared.Cursor.{Cursor}
use Rattle.splicereel_c.specs.Replies.{Replies, line_reply}
use Rattle.splicereel_c.proofs.refused_line.splicereel_refused_line.Goals as goal

pub returns : goal.returns
returns c =
    subst (λ (x : Cursor). Replies (line_reply x) c.args.part.now c.tell.new.part c.tell.result) c.locate.ensures c.tell.ensures
