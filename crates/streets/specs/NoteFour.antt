-- Document 02, Note 4: "For every network, node and used arrival leg, where another leg is used too, it is the exit that document 01 defines".
-- Proved in proofs/NoteFourHolds.antt.
-- Assumes nothing.
use Rattle.std.specs.Prelude.{ℕ, ◌<◌, ◌≡◌, ◌≢◌, true, List}
use Rattle.network.specs.LegBits.{is_set, LegBits}
use Rattle.streets.specs.Exits.{is_used, exit_from, right_hand_exit}
use Rattle.streets.specs.NextBelow.{NextBelow}

-- A used arrival leg of a node, and another used leg of it.
pub record TwoUsed (net : List ℕ) (node leg other : ℕ) : Type 0 where
  pub leg_below : leg < 8
  pub other_below : other < 8
  pub leg_used : is_used net node leg ≡ true
  pub other_used : is_used net node other ≡ true
  pub apart : other ≢ leg

-- Stepping down the bits from the arrival leg gives the exit that document 01 defines: the used leg next below, and another leg than that of arrival.
pub record StepsDown (net : List ℕ) (node leg bits : ℕ) : Type 0 where
  pub exit : exit_from (is_set bits) 8 leg ≡ right_hand_exit net node leg
  pub next : NextBelow (is_used net node) leg (right_hand_exit net node leg)
  pub another : right_hand_exit net node leg ≢ leg

-- Nothing else is asked of the bytes, so it holds of every network.
abbrev pub NoteFour : Type 0
NoteFour =
    (net : List ℕ) (node leg other bits : ℕ) → LegBits (is_used net node) bits → TwoUsed net node leg other
    → StepsDown net node leg bits
