-- Two street graphs of the same streets with other levels or other ways: the one is nowhere worse than the other.
-- Assumes nothing.
use Rattle.std.specs.Prelude.{◌≡◌, true, ℕ, ◌≤◌, ◌<◌}
use Rattle.routes.specs.Streets.{Streets}
use Rattle.routes.specs.Routes.{Open, Movement}

-- The same runs with the same ends and lengths: all but what is open and how stressful it is.
pub record SameGround (g h : Streets) : Type 0 where
  pub runs : g.runs ≡ h.runs
  pub starts : (r : ℕ) → r < h.runs → g.start r ≡ h.start r
  pub finishes : (r : ℕ) → r < h.runs → g.finish r ≡ h.finish r
  pub lengths : (r : ℕ) → r < h.runs → g.feet r ≡ h.feet r
  pub joined : (p q : ℕ) → p < h.runs → q < h.runs → g.joins p q ≡ h.joins p q

-- On the same ground: each run open in h is open in g, each run is at most as stressful, and so is each movement of h.
pub record NowhereWorse (g h : Streets) : Type 0 where
  pub ground : SameGround g h
  pub opens : (r : ℕ) → Open h r → g.is_open r ≡ true
  pub runs_no_higher : (r : ℕ) → r < h.runs → g.stress r ≤ h.stress r
  pub turns_no_higher : (p q : ℕ) → Movement h p q → g.turn p q ≤ h.turn p q
