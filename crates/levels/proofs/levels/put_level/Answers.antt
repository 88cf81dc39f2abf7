-- The three fields stand one after the other.
use Rattle.std.proofs.Common.{rules}
use mathlib.Core.List.{append_assoc}
use Rattle.levels.specs.Levels.{level_line}
use Rattle.levels.proofs.levels.put_level.Goals as goal

pub returns-clause-text : goal.returns-clause-text
unfolding level_line
returns-clause-text c = search (rules, append_assoc)
