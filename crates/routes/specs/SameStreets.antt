-- Two street graphs that say the same of each run and of each movement, and what follows for routes: nothing differs. Proved in proofs/SameRoutes.antt.
-- Assumes nothing.
use Rattle.std.specs.Prelude.{◌≡◌, List, ℕ, ◌<◌, ◌↔◌}
use Rattle.routes.specs.Streets.{Streets}
use Rattle.routes.specs.Routes.{Route, length_of, level_of, Within, Shortest, NoRoute, LeastTolerance}
use Rattle.routes.specs.Reach.{LeastLength}
use Rattle.routes.specs.NowhereWorse.{SameGround}

pub record SameStreets (g h : Streets) : Type 0 where
  pub ground : SameGround g h
  pub opens : (r : ℕ) → r < h.runs → g.is_open r ≡ h.is_open r
  pub stress : (r : ℕ) → r < h.runs → g.stress r ≡ h.stress r
  pub turns : (p q : ℕ) → p < h.runs → q < h.runs → g.turn p q ≡ h.turn p q

-- Each route of the one is a route of the other, as long and of the same level.
pub record SameRoutes (g h : Streets) : Type 0 where
  pub routes : (a b : ℕ) (rs : List ℕ) → Route g a b rs ↔ Route h a b rs
  pub lengths : (a b : ℕ) (rs : List ℕ) → Route h a b rs → length_of g rs ≡ length_of h rs
  pub levels : (a b : ℕ) (rs : List ℕ) → Route h a b rs → level_of g rs ≡ level_of h rs
  pub within : (t a b : ℕ) (rs : List ℕ) → Within g t a b rs ↔ Within h t a b rs
  pub shortest : (t a b : ℕ) (rs : List ℕ) → Shortest g t a b rs ↔ Shortest h t a b rs
  pub none : (t a b : ℕ) → NoRoute g t a b ↔ NoRoute h t a b
  pub least : (t a b : ℕ) → LeastTolerance g t a b ↔ LeastTolerance h t a b
  pub least_length : (t a b feet : ℕ) → LeastLength g t a b feet ↔ LeastLength h t a b feet
