-- Document 02, Note 4: "gather the node's used legs as eight bits, bit k set exactly when leg k is used", for each node of a network.
-- Assumes nothing.
use Rattle.std.specs.Prelude.{ℕ, ◌≤◌, ◌<◌, List, length}
use Rattle.lists.specs.Lists.{at}
use Rattle.network.specs.LegBits.{LegBits}
use Rattle.network.specs.Network.{nodes_of}
use Rattle.streets.specs.Exits.{is_used}

pub record LegsOf (net legs : List ℕ) : Type 0 where
  pub room : nodes_of net ≤ length legs
  pub byte : (node : ℕ) → node < nodes_of net → LegBits (is_used net node) (at legs node)
