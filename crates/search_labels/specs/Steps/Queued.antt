-- The search's queue: it holds the keys of the runs that have a label and are not settled. A spent run, from which every edge leads to a labelled run,
-- may be left out: settling it would change nothing.
-- Assumes nothing.
use Rattle.std.specs.Prelude.{◌≡◌, Bool, true, false, List, ◌⊎◌, ℕ, ◌≤◌, ◌<◌}
use Rattle.routes.specs.Steps.Labels.{unlabelled}
use Rattle.queue.specs.Steps.Queue.{top, key_of, Queue}
use Rattle.lists.specs.Lists.{at}
use Rattle.search_labels.specs.Steps.Keys.{key, IsKey}

-- At first no run is spent.
abbrev pub none_spent : ℕ → Bool
none_spent r = false

-- Queued are the labelled runs whose key is k or more, but for spent ones.
pub record Queued (spent : ℕ → Bool) (best tree : List ℕ) (n k : ℕ) : Type 0 where
  pub queue : Queue tree n
  pub every : (r : ℕ) → r < n → k ≤ key best r → at best r < unlabelled → (key_of tree n r ≡ key best r) ⊎ (spent r ≡ true)
  pub only : (r : ℕ) → r < n → key_of tree n r < top → (k ≤ key best r) × (key_of tree n r ≡ key best r)

-- m is the least key from k on of a labelled run, but for spent ones; or it is `top`, and no other labelled run has a key from k on.
pub record Least (spent : ℕ → Bool) (best : List ℕ) (n k m : ℕ) : Type 0 where
  pub bounded : m ≤ top
  pub from : k ≤ m
  pub least : (r : ℕ) → r < n → k ≤ key best r → (m ≤ key best r) ⊎ (spent r ≡ true)
  pub whose : m < top → IsKey best n m
