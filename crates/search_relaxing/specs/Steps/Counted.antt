-- A network that Read could keep as the code of the search sees it: its runs, counted, and what a search may use of them.
-- Assumes nothing.
use Rattle.std.specs.Prelude.{◌≡◌, Bool, true, ◌&&◌, List, ℕ, ◌*◌, leb}
use Rattle.routes.specs.Streets.{Streets}
use Rattle.routes.specs.Reach.{is_marked}
use Rattle.routes.specs.Steps.Labels.{Graph, source_of, edge_of}
use Rattle.frames.specs.Steps.Sizes.{county_size}
use Rattle.network.specs.Network.{is_network}
use Rattle.streets.specs.Runs.{runs_of, finish, feet_of}
use Rattle.streets.specs.Bicycle.{bicycle}
use Rattle.search_relaxing.specs.declared.Ask.{Ask}

-- No edition has more runs.
abbrev pub most_runs : ℕ
most_runs = 2 * county_size

-- A network that Read could keep, with n runs.
pub record Counted (net : List ℕ) (n : ℕ) : Type 0 where
  pub network : is_network net ≡ true
  pub count : n ≡ runs_of net

-- The network of a question, and the index of its runs.
abbrev pub network_in : Ask → List ℕ
network_in ask = ask.streets.net.bytes.now

abbrev pub index_in : Ask → List ℕ
index_in ask = ask.index.now

-- What a search from a node at a tolerance sees of it.
abbrev pub run_graph : List ℕ → ℕ → ℕ → ℕ → Graph
run_graph net n t from = record { size = n; source = source_of (bicycle net) t from; edge = edge_of (bicycle net) t; feet = feet_of net }

abbrev pub asked_graph : Ask → Graph
asked_graph ask = run_graph (network_in ask) ask.runs ask.tolerance ask.from

-- The run is open, and not above the tolerance.
unfoldable pub usable : Streets → ℕ → ℕ → Bool
usable g t r = g.is_open r && leb (g.stress r) t

-- The run arrives at a goal: a node that is marked.
unfoldable pub goal_at : List ℕ → List ℕ → ℕ → Bool
goal_at net goals r = is_marked goals (finish net r)
