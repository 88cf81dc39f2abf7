-- What is true between two rounds of a search.
-- Assumes nothing.
use mathlib.Core.List.{List}
use Prim.Native.Nat.{ℕ}
use Rattle.search_labels.proofs.Rounds.{Search}
use Rattle.search_relaxing.specs.declared.Ask.{Ask}
use Rattle.search_relaxing.specs.Steps.Counted.{network_in, goal_at, asked_graph}
use Rattle.search_relaxing.specs.Steps.Unfound.{Unfound, spent_of, turns_back, Unnoted}

-- The search stands at the next key; what is to find is noted rightly, and nothing is noted of a goal.
pub record Between (ask : Ask) (goals best previous tree unfound : List ℕ) (key : ℕ) : Type 0 where
  pub search :
      Search (asked_graph ask) (turns_back (network_in ask)) (goal_at (network_in ask) goals) (spent_of (network_in ask) unfound) best previous tree key
  pub right : Unfound (network_in ask) ask.tolerance ask.runs best unfound
  pub unnoted : Unnoted (network_in ask) goals unfound
