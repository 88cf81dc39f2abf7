-- The length to a node as the code reads it off the labels.
-- Assumes nothing.
use Rattle.std.specs.Prelude.{◌≡◌, cond, List, ℕ, zero, suc, ◌+◌, ◌*◌, ◌≤◌, ◌<◌, min, eqb, length}
use Rattle.lists.specs.Lists.{at}
use Rattle.routes.specs.Steps.Labels.{unlabelled}
use Rattle.streets.specs.Steps.Leaving.{opposite}

-- The label of the run that arrives by a leg: behind the leg's entry, 1 + the run that leaves by it, stands the opposite of the run that arrives.
unfoldable pub label_behind : List ℕ → ℕ → ℕ
label_behind best zero = unlabelled
label_behind best (suc r) = at best (opposite r)

-- The least of the labels behind the first k entries from the place on.
unfoldable pub least_behind : List ℕ → List ℕ → ℕ → ℕ → ℕ
least_behind index best place zero = unlabelled
least_behind index best place (suc k) = min (label_behind best (at index (place + k))) (least_behind index best place k)

-- The least label of the runs that arrive at a node, by its eight legs.
abbrev pub least_arrival : List ℕ → List ℕ → ℕ → ℕ
least_arrival index best node = least_behind index best (node * 8) 8

unfoldable pub length_to : List ℕ → List ℕ → ℕ → ℕ → ℕ
length_to index best from node = cond (eqb node from) 0 (least_arrival index best node)

-- The run that arrives by a leg, whose entry this is, has its label.
pub record Looked (entry : ℕ) (best : List ℕ) : Type 0 where
  pub behind : (r : ℕ) → entry ≡ r + 1 → opposite r < length best

-- The node has its eight entries, and the runs that arrive by them their labels.
pub record LookedAt (index best : List ℕ) (node : ℕ) : Type 0 where
  pub room : node * 8 + 8 ≤ length index
  pub each : (leg : ℕ) → leg < 8 → Looked (at index (node * 8 + leg)) best
