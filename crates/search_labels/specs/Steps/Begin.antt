-- The beginning of a search: no run has a label; then each source gets its own feet for a label, and no run before it.
-- Assumes nothing.
use Rattle.std.specs.Prelude.{◌≡◌, Bool, true, false, cond, List, ℕ, ◌+◌, ◌≤◌, ◌<◌}
use Rattle.routes.specs.Steps.Labels.{Graph, unlabelled}
use Rattle.lists.specs.Lists.{at}
use Rattle.queue.specs.Steps.Queue.{key_of}
use Rattle.search_labels.specs.Steps.Keys.{label_key}
use Rattle.search_labels.specs.Steps.Labels.{LabelWritten}

-- No run is queued with a lesser key than its first, the one that its own feet make.
abbrev pub NoneEarlier : (ℕ → ℕ) → List ℕ → ℕ → Type 0
NoneEarlier feet tree n = (r : ℕ) → r < n → label_key (feet r) r ≤ key_of tree n r

-- What an entry at a leg of the start makes of the labels and the queue: the run behind it is a source and has got its first label; or there is no run,
-- or it is no source.
pub data Seed (source : ℕ → Bool) (feet : ℕ → ℕ) (n entry : ℕ) (best previous tree best' previous' tree' : List ℕ) : Type 0 where
  idle : ((r : ℕ) → entry ≡ r + 1 → source r ≡ false) → best' ≡ best → previous' ≡ previous → tree' ≡ tree
      → Seed source feet n entry best previous tree best' previous' tree'
  first : {r : ℕ} → LabelWritten n r (feet r) unlabelled best previous tree best' previous' tree' → entry ≡ r + 1 → source r ≡ true
      → Seed source feet n entry best previous tree best' previous' tree'

-- At first each source is labelled with its own feet, and no other run has a label.
unfoldable pub first_label : Graph → ℕ → ℕ
first_label w r = cond (w.source r) (w.feet r) unlabelled

-- Every run has its first label, and a source no run before it.
pub record Begun (w : Graph) (best previous : List ℕ) : Type 0 where
  pub first : (r : ℕ) → r < w.size → at best r ≡ first_label w r
  pub alone : (r : ℕ) → r < w.size → w.source r ≡ true → at previous r ≡ unlabelled
