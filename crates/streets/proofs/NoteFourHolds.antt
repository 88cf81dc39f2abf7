-- Note 4 holds. Stepping down the bits is stepping down the used legs, which gives the used leg next below. Were that the leg of arrival, eight steps
-- would lie between; but another used leg is one to seven steps below, and no leg between is used.
-- Assumes nothing.
use Prim.Native.Nat.{ℕ, ◌+◌, ◌-◌, ◌%◌, ◌≤◌, ◌<◌}
use mathlib.Core.Path.{◌≡◌, sym, ◌∙◌, ap}
use mathlib.Core.Bool.{Bool, true, false, true≢false}
use native.Mathlib.Omega.{arith}
use Rattle.streets.specs.Exits.{is_used}
use Rattle.streets.specs.NextBelow.{steps_below, NextBelow}
use Rattle.streets.specs.NoteFour.{NoteFour}
use Rattle.streets.proofs.ExitLaws.{exit_is_next_below}
use Rattle.streets.proofs.MovementLaws.{bits_exit}

-- each other leg is one to seven steps below
record Below (leg other : ℕ) : Type 0 where
  steps : ℕ
  down : 1 ≤ steps
  few : steps < 8
  there : steps_below steps leg ≡ other

below : (leg other : ℕ) → leg < 8 → other < 8 → (other ≡ leg → ⊥) → Below leg other
below leg other l m apart =
    record { steps = (leg + 8 - other) % 8; down = omega arith; few = omega arith; there = omega arith }

-- so where another leg is used the next below is not the leg itself
next_is_another : (used : ℕ → Bool) (leg other exit : ℕ) → leg < 8 → other < 8 → used other ≡ true → (other ≡ leg → ⊥) → NextBelow used leg exit
    → exit ≡ leg → ⊥
next_is_another used leg other exit l m u apart N e =
    let B = below leg other l m apart in
    let passed : used (steps_below B.steps leg) ≡ false = N.none_between B.steps B.down (omega (arith, N.there, N.down, N.once_round, B.few)) in
    true≢false (sym u ∙ sym (ap used B.there) ∙ passed)

pub note_four : NoteFour
note_four net node leg other bits B T =
    let next = exit_is_next_below net node leg T.leg_below T.leg_used in
    record {
      exit = bits_exit net node leg bits B;
      next = next;
      another = next_is_another (is_used net node) leg other _ T.leg_below T.other_below T.other_used T.apart next;
    }
