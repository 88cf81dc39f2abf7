-- No refusal has the number 0, which stands for none: each case by its number.
-- Assumes nothing.
use mathlib.Core.Path.{◌≡◌}
use native.Mathlib.Omega.{arith}
use Rattle.refusals.specs.declared.Refusal.{Refusal}
use Rattle.refusals.specs.declared.Refusal.TheVariants.{NotDigits, WrongCheck, WrongFrame, WrongField, WrongCount, LegTaken, OutputTooShort}
use Rattle.refusals.specs.declared.Refusal.TheVariants.{NotANetwork, NoSuchNode, NoSuchTolerance, NoRoom, NoSuchRun, NoMovement, NoRefusedLine}
use Rattle.refusals.specs.declared.Refusal.TheVariants.{TooFewEntries, NoSuchMove, AboveLimits, TooShortForMove}
use Rattle.refusals.specs.Numbers.{number_of}

pub positive : (refusal : Refusal) → number_of refusal ≡ 0 → ⊥
positive NotDigits z = omega arith
positive WrongCheck z = omega arith
positive WrongFrame z = omega arith
positive WrongField z = omega arith
positive WrongCount z = omega arith
positive LegTaken z = omega arith
positive OutputTooShort z = omega arith
positive NotANetwork z = omega arith
positive NoSuchNode z = omega arith
positive NoSuchTolerance z = omega arith
positive NoRoom z = omega arith
positive NoSuchRun z = omega arith
positive NoMovement z = omega arith
positive NoRefusedLine z = omega arith
positive TooFewEntries z = omega arith
positive NoSuchMove z = omega arith
positive AboveLimits z = omega arith
positive TooShortForMove z = omega arith
