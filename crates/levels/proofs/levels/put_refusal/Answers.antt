-- The word, the number and the line stand one after the other.
use Rattle.std.proofs.Common.{rules}
use mathlib.Core.List.{append_assoc}
use Rattle.levels.specs.Levels.{refused_line}
use Rattle.levels.proofs.levels.put_refusal.Goals as goal

pub returns : goal.returns
unfolding refused_line
returns c = search (rules, append_assoc)
