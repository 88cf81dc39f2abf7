-- The loop's invariant: the values filled so far are those of the digits passed (`Filling`), and `good` with what the digits left say is what all say.
use Prim.Native.Nat.{ℕ, ◌+◌, ◌≤◌, ◌<◌}
use mathlib.Core.Bool.{Bool, ◌&&◌}
use mathlib.Core.List.{List}
use mathlib.Core.Path.{◌≡◌, ap, ◌∙◌}
use native.Mathlib.Omega.{arith}
use lib.ListN.{length, drop, get_or, set}
use Rattle.digits.specs.Digits.{is_digit, digit}
use Rattle.digits.specs.Steps.Scan.{Valued}
use Rattle.digits.proofs.DecodeLaws.{filling_goes_on, filling_ends, digits_step, digits_end, value_here}
use Rattle.digits.proofs.values_of.Invariants.{Valuing}
use Rattle.digits.proofs.values_of.Goals as goal

module _ {t d₀ d : List ℕ} {good : Bool} {k : ℕ} (w : Valuing t d₀ d good k) where
  goes_on : {b : ℕ} {g : Bool} → k < length d → b ≡ digit (get_or t k 0) → g ≡ is_digit (get_or t k 0) → Valuing t d₀ (set d k b) (good && g) (k + 1)
  goes_on l e h =
      record {
        filled = filling_goes_on w.filled l (e ∙ ap digit (value_here t k));
        digits = digits_step good (length d₀) k t (omega (arith, w.filled.long)) h ∙ w.digits;
      }

  done : length d ≤ k → Valued (length d₀) t d good
  done l = record { values = filling_ends w.filled l; digits = digits_end good (length d₀) k (drop k t) (omega (arith, w.filled.long)) ∙ w.digits }

pub loop-k-preserved : goal.loop-k-preserved
loop-k-preserved c =
    goes_on c.loop-k.invariant (omega arith) c.digit_of.ensures.0 c.is_digit-good.ensures

pub returns : goal.returns
returns c =
    done c.loop-k.invariant (omega arith)
