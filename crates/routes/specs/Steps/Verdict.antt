-- What the label certificate says of one target node.
-- Assumes nothing.
use Rattle.std.specs.Prelude.{◌≡◌, List, [], ℕ, ◌*◌, ◌≤◌, ◌<◌}
use Rattle.routes.specs.Streets.{Streets}
use Rattle.routes.specs.Routes.{length_of, count_of, Within, Shortest, NoRoute}
use Rattle.routes.specs.Steps.Labels.{unlabelled, Depth, chain}

-- A shortest route from a to b within t: the chain of `previous` from a run that arrives at b with the least label.
pub record Drawn (g : Streets) (t a b : ℕ) (best previous : ℕ → ℕ) : Type 0 where
  pub run : ℕ
  pub count : ℕ
  pub inside : run < g.runs
  pub labelled : best run < unlabelled
  pub arrives : g.finish run ≡ b
  pub depth : Depth g.runs previous count run
  pub shortest : Shortest g t a b (chain previous count run [])
  pub exact : length_of g (chain previous count run []) ≡ best run
  -- it has at most as many runs as the graph, and so at most that many times the greatest feet
  pub counted : count_of (chain previous count run []) ≡ count
  pub few : count ≤ g.runs
  pub short : (most : ℕ) → ((r : ℕ) → r < g.runs → g.feet r ≤ most) → length_of g (chain previous count run []) ≤ g.runs * most

-- No route from a to b within t is shorter than the bound; and under the whole certificate there is none.
pub record Far (g : Streets) (t a b bound : ℕ) : Type 0 where
  pub long : (rs : List ℕ) → Within g t a b rs → bound ≤ length_of g rs
  pub none : unlabelled ≤ bound → NoRoute g t a b

-- A target's verdict: a and b are one node, and the empty route is a shortest one; or a shortest route is drawn; or none lies below the bound.
pub data Verdict (g : Streets) (t a b : ℕ) (best previous : ℕ → ℕ) (bound : ℕ) : Type 0 where
  stays : a ≡ b → Shortest g t a b [] → Verdict g t a b best previous bound
  drawn : Drawn g t a b best previous → Verdict g t a b best previous bound
  far : Far g t a b bound → Verdict g t a b best previous bound
