-- Labels as the code writes them: taken away, and given to one run.
-- Assumes nothing.
use Rattle.std.specs.Prelude.{◌≡◌, List, ℕ, ◌≤◌, ◌<◌, length, set}
use Rattle.routes.specs.Steps.Labels.{unlabelled}
use Rattle.lists.specs.Lists.{at}
use Rattle.queue.specs.Steps.Queue.{key_of, Queue, Put}
use Rattle.search_labels.specs.Steps.Keys.{span, label_key}

-- The runs below i have no label.
pub record Cleared (best : List ℕ) (i : ℕ) : Type 0 where
  pub none : (r : ℕ) → r < i → at best r ≡ unlabelled

-- The scratch has a number for each of n runs.
pub record Room (n : ℕ) (best previous : List ℕ) : Type 0 where
  pub best_fits : n ≤ length best
  pub previous_fits : n ≤ length previous

-- Run r may get this label: it is not queued yet with a lesser key.
pub record Labellable (n r label : ℕ) (best previous tree : List ℕ) : Type 0 where
  pub small : n ≤ span
  pub inside : r < n
  pub room : Room n best previous
  pub queue : Queue tree n
  pub not_earlier : label_key label r ≤ key_of tree n r

-- Run r has got a label, a run before it, and its place in the queue.
pub record LabelWritten (n r label before : ℕ) (best previous tree best' previous' tree' : List ℕ) : Type 0 where
  pub best_is : best' ≡ set best r label
  pub previous_is : previous' ≡ set previous r before
  pub queued : Put tree tree' n r (label_key label r)
