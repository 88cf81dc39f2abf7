-- What the steps of the nearest marked node promise to each other.
-- Assumes nothing.
use Rattle.std.specs.Prelude.{◌≡◌, Bool, true, false, not, ◌||◌, List, Option, Some, None, ℕ, ◌≤◌, ◌<◌, ltb, length}
use Rattle.routes.specs.Streets.{Streets}
use Rattle.routes.specs.Reach.{is_marked, Nearest, NoneMarked}
use Rattle.routes.specs.Steps.Labels.{unlabelled}
use Rattle.routes.specs.declared.Entry.{Entry}
use Rattle.network.specs.Network.{nodes_of}
use Rattle.search_relaxing.specs.declared.Ask.{Ask}
use Rattle.search_relaxing.specs.Steps.Counted.{network_in}
use Rattle.search_reach.specs.Steps.Arrivals.{length_to, LookedAt}

-- A byte for each node.
pub record Marks (ask : Ask) (marks : List ℕ) : Type 0 where
  pub fits : nodes_of (network_in ask) ≤ length marks

-- The node is not marked, or farther than the length.
unfoldable pub is_far : List ℕ → List ℕ → ℕ → List ℕ → ℕ → ℕ → Bool
is_far index best from marks feet node = not (is_marked marks node) || ltb feet (length_to index best from node)

-- A node may be asked.
pub record Markable (index best marks : List ℕ) (node : ℕ) : Type 0 where
  pub looked : LookedAt index best node
  pub marked : node < length marks

-- Each of so many nodes may be.
abbrev pub AllMarkable : List ℕ → List ℕ → List ℕ → ℕ → Type 0
AllMarkable index best marks nodes = (node : ℕ) → node < nodes → Markable index best marks node

-- The first that is near: marked, and no farther than the length.
pub record FirstNear (index best : List ℕ) (from : ℕ) (marks : List ℕ) (feet nodes node : ℕ) : Type 0 where
  pub inside : node < nodes
  pub near : is_far index best from marks feet node ≡ false
  pub lower : (b : ℕ) → b < node → is_far index best from marks feet b ≡ true

-- None: every node is far.
abbrev pub FirstOf : List ℕ → List ℕ → ℕ → List ℕ → ℕ → ℕ → Option ℕ → Type 0
FirstOf index best from marks feet nodes None = (b : ℕ) → b < nodes → is_far index best from marks feet b ≡ true
FirstOf index best from marks feet nodes (Some node) = FirstNear index best from marks feet nodes node

-- The nearest marked node and its least length, which is one that a label can be.
pub record NearFound (g : Streets) (nodes t a : ℕ) (marks : List ℕ) (e : Entry) : Type 0 where
  pub nearest : Nearest g nodes t a marks e
  pub small : e.length < unlabelled

-- None: no marked node has a route within the tolerance.
abbrev pub Nearby : Streets → ℕ → ℕ → ℕ → List ℕ → Option Entry → Type 0
Nearby g nodes t a marks None = NoneMarked g nodes t a marks
Nearby g nodes t a marks (Some e) = NearFound g nodes t a marks e
