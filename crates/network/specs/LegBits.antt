-- Document 02, Note 4: the used legs of a node "as eight bits, bit k set exactly when leg k is used".
-- Assumes nothing.
use Rattle.std.specs.Prelude.{ℕ, ◌<◌, ◌≡◌, Bool, eqb}
use Rattle.std.specs.Int.{bit_at}

-- Bit k is set.
unfoldable pub is_set : ℕ → ℕ → Bool
is_set bits k = eqb (bit_at bits k) 1

-- Bit k is set exactly when leg k is used.
pub record LegBits (used : ℕ → Bool) (bits : ℕ) : Type 0 where
  pub set : (k : ℕ) → k < 8 → is_set bits k ≡ used k
