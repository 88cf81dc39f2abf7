-- The legs taken, as a byte for each node with a bit for each leg.
-- Assumes nothing.
use Rattle.std.specs.Prelude.{ℕ, ◌^◌, ◌≤◌, ◌<◌, Bool, true, not, ◌&&◌, ◌≡◌, List, [], length, set, bit_or}
use Rattle.lists.specs.Lists.{at}
use Rattle.frames.specs.Frame.{node_a, leg_a, node_b, leg_b}
use Rattle.network.specs.declared.legs.Ends.{Ends}
use Rattle.network.specs.Legs.{corner, is_in}
use Rattle.network.specs.LegBits.{is_set, LegBits}

-- The ends of a segment's frame.
abbrev pub ends_of : List ℕ → Ends
ends_of f = record { node_a = node_a f; leg_a = leg_a f; node_b = node_b f; leg_b = leg_b f }

-- The byte of a node has a leg; and the bytes with a leg of a node besides.
unfoldable pub has_leg : List ℕ → ℕ → ℕ → Bool
has_leg legs node leg = is_set (at legs node) leg

unfoldable pub with_leg : List ℕ → ℕ → ℕ → List ℕ
with_leg legs node leg = set legs node (bit_or (at legs node) (2 ^ leg))

-- A byte for each of n nodes: bit k is set exactly when leg k is among the corners taken.
pub record Gathered (n : ℕ) (taken legs : List ℕ) : Type 0 where
  pub room : n ≤ length legs
  pub byte : (node : ℕ) → node < n → LegBits (λ k. is_in (corner node k) taken) (at legs node)

-- Bytes with no bit set, for at most so many nodes.
abbrev pub NoLegs : ℕ → List ℕ → Type 0
NoLegs most legs = (n : ℕ) → n ≤ most → Gathered n [] legs

-- The leg of neither end is taken, A's before the segment and B's with A's; and the bytes with both.
unfoldable pub free_in : List ℕ → Ends → Bool
free_in legs e = not (has_leg legs e.node_a e.leg_a) && not (has_leg (with_leg legs e.node_a e.leg_a) e.node_b e.leg_b)

abbrev pub claimed : List ℕ → Ends → List ℕ
claimed legs e = with_leg (with_leg legs e.node_a e.leg_a) e.node_b e.leg_b

-- The nodes have their bytes, and the legs are of eight.
pub record Claimable (e : Ends) (legs : List ℕ) : Type 0 where
  pub node_a_fits : e.node_a < length legs
  pub node_b_fits : e.node_b < length legs
  pub leg_a_fits : e.leg_a < 8
  pub leg_b_fits : e.leg_b < 8

-- Claiming the legs of both ends: whether they were free; then the bytes have both.
pub record Claimed (e : Ends) (before after : List ℕ) (r : Bool) : Type 0 where
  pub answer : r ≡ free_in before e
  pub legs : r ≡ true → after ≡ claimed before e
