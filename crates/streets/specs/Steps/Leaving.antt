-- Which run leaves a node by which leg, as the index of runs tells it.
-- Assumes nothing.
use Rattle.std.specs.Prelude.{ℕ, ◌+◌, ◌*◌, ◌-◌, ◌%◌, ◌<◌, ◌≡◌, List}
use Rattle.streets.specs.Runs.{runs_of, start, leaving_leg}

-- The other run of a segment: it rides the same segment the other way.
abbrev pub opposite : ℕ → ℕ
opposite r = r + 1 - 2 * (r % 2)

-- Run r leaves the node by the leg.
pub record Leaves (net : List ℕ) (node leg r : ℕ) : Type 0 where
  pub inside : r < runs_of net
  pub from : start net r ≡ node
  pub by : leaving_leg net r ≡ leg

-- An entry of the index of runs, at a leg of a node: 0, or 1 + the run that leaves by it.
pub record Entry (net : List ℕ) (node leg entry : ℕ) : Type 0 where
  pub leaving : (r : ℕ) → entry ≡ r + 1 → Leaves net node leg r
