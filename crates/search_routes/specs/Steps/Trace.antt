-- The route read off the labels: the chain of `previous`.
-- Assumes nothing.
use Rattle.std.specs.Prelude.{List, ℕ, ◌≤◌, length}
use Rattle.lists.specs.Lists.{at}
use Rattle.routes.specs.Steps.Labels.{Depth}
use Rattle.search_relaxing.specs.declared.Ask.{Ask}
use Rattle.search_relaxing.specs.Steps.Counted.{most_runs}

-- The chain of `previous` from r has k runs, at most n.
pub record Traced (n : ℕ) (previous : ℕ → ℕ) (r k : ℕ) : Type 0 where
  pub depth : Depth n previous k r
  pub few : k ≤ n

-- The chain of `previous` from r ends.
abbrev pub Ends : ℕ → (ℕ → ℕ) → ℕ → Type 0
Ends n previous r = (k : ℕ) × Traced n previous r k

-- The chain of k runs from r may be written at the front of the tail.
pub record Fillable (n : ℕ) (previous : List ℕ) (r k : ℕ) (tail : List ℕ) : Type 0 where
  pub few : n ≤ most_runs
  pub long : n ≤ length previous
  pub fits : k ≤ length tail
  pub traced : Traced n (at previous) r k

-- The level of the chain of k runs from r may be told: it is one of runs of a network.
pub record Levellable (ask : Ask) (previous : List ℕ) (r k : ℕ) : Type 0 where
  pub long : ask.runs ≤ length previous
  pub traced : Traced ask.runs (at previous) r k
