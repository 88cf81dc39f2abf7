-- The digits are those that `{}` prints, and the character stands right after them.
use Rattle.std.proofs.Common.{rules}
use mathlib.Core.List.{append_assoc}
use Rattle.printing.proofs.Decimal.{decimal_displayed}
use Rattle.printing.proofs.put_field.Goals as goal

pub returns-clause-text : goal.returns-clause-text
returns-clause-text c = search (rules, decimal_displayed, append_assoc)
