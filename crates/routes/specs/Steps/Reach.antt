-- Reach maps read off labels. A label need not be that of a route that ends with its run: it is enough that some route to the node where the run arrives is
-- no longer.
-- Assumes nothing.
use Rattle.std.specs.Prelude.{◌≡◌, cond, List, [], ◌∷◌, ℕ, zero, suc, ◌+◌, ◌≤◌, ◌<◌, leb}
use Rattle.routes.specs.Streets.{Streets}
use Rattle.routes.specs.Routes.{length_of, Within}
use Rattle.routes.specs.Reach.{LeastLength}
use Rattle.routes.specs.Steps.Labels.{unlabelled}
use Rattle.routes.specs.declared.Entry.{Entry}

-- Each label is at least the length of some route to the node where its run arrives.
pub record Attained (g : Streets) (t a : ℕ) (best : ℕ → ℕ) : Type 0 where
  pub some : (r : ℕ) → r < g.runs → best r < unlabelled → (rs : List ℕ) × Within g t a (g.finish r) rs × (length_of g rs ≤ best r)

-- The least label of the runs that arrive at b; `unlabelled` where none of them has a label.
pub record LeastArrival (g : Streets) (best : ℕ → ℕ) (b near : ℕ) : Type 0 where
  pub least : (q : ℕ) → q < g.runs → g.finish q ≡ b → near ≤ best q
  pub whose : near < unlabelled → (r : ℕ) × (r < g.runs) × (g.finish r ≡ b) × (best r ≡ near)

-- Every route from a to b within t is longer than the greatest length.
abbrev pub Outside : Streets → ℕ → ℕ → ℕ → ℕ → Type 0
Outside g t a greatest b = (rs : List ℕ) → Within g t a b rs → greatest < length_of g rs

-- A number for each node: its least length where that is at most the greatest, else a number above the greatest.
pub record Distances (g : Streets) (nodes t a greatest : ℕ) (near : ℕ → ℕ) : Type 0 where
  pub inside : (b : ℕ) → b < nodes → near b ≤ greatest → LeastLength g t a b (near b)
  pub outside : (b : ℕ) → b < nodes → greatest < near b → Outside g t a greatest b

-- The entries of `left` nodes from v on.
unfoldable pub entries_of : (ℕ → ℕ) → ℕ → ℕ → ℕ → List Entry
entries_of near greatest v zero = []
entries_of near greatest v (suc left) =
    cond (leb (near v) greatest) (record { node = v; length = near v } ∷ entries_of near greatest (v + 1) left) (entries_of near greatest (v + 1) left)
