-- The index of runs: which run leaves by which leg. Run 2s leaves by the A end of segment s, run 2s + 1 by its B end.
-- Assumes nothing.
use Rattle.std.specs.Prelude.{ℕ, zero, suc, ◌+◌, ◌*◌, ◌≤◌, ◌<◌, cond, ◌≡◌, ◌⊎◌, List, [], ◌∷◌, Option, Some, None, eqb, length, get_or, set, take, drop}
use Rattle.frames.specs.Edition.{frame_bytes}
use Rattle.frames.specs.Steps.Sizes.{county_size}
use Rattle.frames.specs.Frame.{head_bytes}
use Rattle.network.specs.declared.legs.Ends.{Ends}
use Rattle.network.specs.Legs.{corner, corner_a, corner_b, taking}
use Rattle.network.specs.Network.{edition_of, nodes_of, segments_of, frame_of}

-- Of corners listed by their runs, the last run first: 0 where no run leaves by this corner, else 1 + the run that does.
unfoldable pub leaves : List ℕ → ℕ → ℕ
leaves [] corner = 0
leaves (x ∷ taken) corner = cond (eqb corner x) (length taken + 1) (leaves taken corner)

-- An index of these corners, with room for n nodes: entry 8 × node + leg is 0 for a free leg and otherwise 1 + the run that leaves by it.
pub record Indexed (n : ℕ) (taken index : List ℕ) : Type 0 where
  pub room : n * 8 ≤ length index
  pub entry : (corner : ℕ) → corner < n * 8 → get_or index corner 0 ≡ leaves taken corner

-- An index with every leg free, with room for at most so many nodes.
abbrev pub NoCorners : ℕ → List ℕ → Type 0
NoCorners most index = (n : ℕ) → n ≤ most → Indexed n [] index

-- The index with both runs of segment s entered.
abbrev pub with_runs : List ℕ → ℕ → Ends → List ℕ
with_runs index s e = set (set index (corner e.node_a e.leg_a) (s * 2 + 1)) (corner e.node_b e.leg_b) (s * 2 + 2)

-- The index has entries for both ends of a segment s.
pub record RunsRoom (e : Ends) (s : ℕ) (index : List ℕ) : Type 0 where
  pub counted : s < county_size
  pub a_fits : corner e.node_a e.leg_a < length index
  pub b_fits : corner e.node_b e.leg_b < length index

-- The run that an entry tells; none where the leg is free.
abbrev pub run_leaving : ℕ → Option ℕ
run_leaving zero = None
run_leaving (suc run) = Some run

-- The corners of all runs of a network, the last run first.
unfoldable pub corners_from : ℕ → ℕ → List ℕ → List ℕ → List ℕ
corners_from e zero taken bytes = taken
corners_from e (suc left) taken bytes = corners_from e left (taking taken (take (frame_bytes e) bytes)) (drop (frame_bytes e) bytes)

abbrev pub corners_of : List ℕ → List ℕ
corners_of net = corners_from (edition_of net) (segments_of net) [] (drop head_bytes net)

-- An index of the network's corners.
abbrev pub IndexOf : List ℕ → List ℕ → Type 0
IndexOf net index = Indexed (nodes_of net) (corners_of net) index

-- Run r leaves by this corner: it is 2s and the corner is that of segment s's A end, or 2s + 1 and that of its B end.
pub record LeavesBy (net : List ℕ) (r corner : ℕ) : Type 0 where
  pub s : ℕ
  pub counted : s < segments_of net
  pub end : ((r ≡ 2 * s) × (corner ≡ corner_a (frame_of net s))) ⊎ ((r ≡ 2 * s + 1) × (corner ≡ corner_b (frame_of net s)))
