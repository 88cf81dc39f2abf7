-- What the steps of a reach map promise to each other.
-- Assumes nothing.
use Rattle.std.specs.Prelude.{◌≡◌, cond, List, ℕ, ◌+◌, ◌*◌, ◌-◌, ◌≤◌, ◌<◌, min, leb, length, set}
use Rattle.lists.specs.Placed.{placed}
use Rattle.routes.specs.Reach.{numbers}
use Rattle.routes.specs.Steps.Labels.{unlabelled}
use Rattle.routes.specs.Steps.Reach.{entries_of}
use Rattle.queue.specs.Steps.Queue.{top}
use Rattle.network.specs.Network.{nodes_of}
use Rattle.search_relaxing.specs.declared.Ask.{Ask}
use Rattle.search_relaxing.specs.Steps.Counted.{network_in}
use Rattle.search_reach.specs.Steps.Arrivals.{length_to, LookedAt}

-- A greatest length, at most the greatest that a label can be.
abbrev pub clamped : ℕ → ℕ
clamped greatest = min greatest (unlabelled - 1)

-- A question at one tolerance, from 1 up, without a limit.
pub record AskedAt (ask : Ask) : Type 0 where
  pub low : 1 ≤ ask.tolerance
  pub one : ask.least ≡ ask.tolerance
  pub whole : ask.limit ≡ top

-- The list has two numbers for each node.
pub record ListRoom (ask : Ask) (list : List ℕ) : Type 0 where
  pub fits : 2 * nodes_of (network_in ask) ≤ length list

-- The node's entry may be written at the place.
pub record Listable (index best : List ℕ) (node : ℕ) (list : List ℕ) (place : ℕ) : Type 0 where
  pub looked : LookedAt index best node
  pub small : node < unlabelled
  pub fits : place + 2 ≤ length list

-- The node's entry is written at the place, if it is no farther; then the place behind it is given.
pub record NodeListed (index best : List ℕ) (from farthest node : ℕ) (before after : List ℕ) (place next : ℕ) : Type 0 where
  pub text :
      after
      ≡ cond (leb (length_to index best from node) farthest) (set (set before place node) (place + 1) (length_to index best from node)) before
  pub behind : next ≡ cond (leb (length_to index best from node) farthest) (place + 2) place

-- The entries of so many nodes may be written.
pub record Nodes (index best : List ℕ) (nodes : ℕ) (list : List ℕ) : Type 0 where
  pub looked : (node : ℕ) → node < nodes → LookedAt index best node
  pub small : nodes ≤ unlabelled
  pub fits : 2 * nodes ≤ length list

-- The entries of all nodes are written, and counted.
pub record NodesListed (index best : List ℕ) (from farthest nodes : ℕ) (before after : List ℕ) (count : ℕ) : Type 0 where
  pub text : after ≡ placed 0 (numbers (entries_of (length_to index best from) farthest 0 nodes)) before
  pub counted : count ≡ length (entries_of (length_to index best from) farthest 0 nodes)
