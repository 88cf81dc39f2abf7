-- The loop's invariant: the values filled so far are those of the digits passed (`Filling`), and `good` with what the digits left say is what all say.
use Prim.Native.Nat.{ℕ, ◌-◌}
use mathlib.Core.Bool.{Bool, ◌&&◌}
use mathlib.Core.List.{List}
use mathlib.Core.Path.{◌≡◌}
use lib.ListN.{length, drop}
use Rattle.digits.specs.Steps.Scan.{are_digits, value_at}
use Rattle.digits.proofs.DecodeLaws.{Filling}
use Rattle.digits.proofs.values_of.Given as goal

pub record Valuing (t d₀ d : List ℕ) (good : Bool) (k : ℕ) : Type 0 where
  pub filled : Filling value_at 1 t d₀ d k
  pub digits : (good && are_digits (length d₀ - k) (drop k t)) ≡ are_digits (length d₀) t

abbrev pub invariant-loop-k : goal.invariant-loop-k
invariant-loop-k l =
    Valuing l.text l.initial.values l.values l.good l.k
