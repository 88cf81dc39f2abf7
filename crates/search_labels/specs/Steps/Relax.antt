-- What the search makes of the two numbers of a run, its label `best` and the run before it, `previous`. A label is written once and never changes.
-- Assumes nothing.
use Rattle.std.specs.Prelude.{◌≡◌, Bool, true, false, List, ℕ, ◌+◌, ◌≤◌, ◌<◌, set}
use Rattle.routes.specs.Steps.Labels.{unlabelled}
use Rattle.lists.specs.Lists.{at}

-- A visit of r by way of u, whose label is base: r keeps the label that it has; or no edge leads to it; or it gets its label, and u before it.
pub data Visit (edge : ℕ → ℕ → Bool) (feet : ℕ → ℕ) (u base r : ℕ) (best previous best' previous' : List ℕ) : Type 0 where
  kept : at best r < unlabelled → best' ≡ best → previous' ≡ previous → Visit edge feet u base r best previous best' previous'
  barred : edge u r ≡ false → best' ≡ best → previous' ≡ previous → Visit edge feet u base r best previous best' previous'
  labelled : unlabelled ≤ at best r → edge u r ≡ true → best' ≡ set best r (base + feet r) → previous' ≡ set previous r u
      → Visit edge feet u base r best previous best' previous'

-- What an entry, 0 or 1 + a run, makes of the labels: nothing, or a visit of its run.
pub data Offer (edge : ℕ → ℕ → Bool) (feet : ℕ → ℕ) (u base entry : ℕ) (best previous best' previous' : List ℕ) : Type 0 where
  free : entry ≡ 0 → best' ≡ best → previous' ≡ previous → Offer edge feet u base entry best previous best' previous'
  leads : {r : ℕ} → Visit edge feet u base r best previous best' previous' → entry ≡ r + 1 → Offer edge feet u base entry best previous best' previous'

-- Every edge from u has been relaxed: a run without a label to which one leads has its label by way of u, and every other run is as it was.
pub record Relaxed (edge : ℕ → ℕ → Bool) (feet : ℕ → ℕ) (n u base : ℕ) (best previous best' previous' : List ℕ) : Type 0 where
  pub kept : (r : ℕ) → r < n → at best r < unlabelled → (at best' r ≡ at best r) × (at previous' r ≡ at previous r)
  pub barred : (r : ℕ) → r < n → edge u r ≡ false → (at best' r ≡ at best r) × (at previous' r ≡ at previous r)
  pub labelled : (r : ℕ) → r < n → unlabelled ≤ at best r → edge u r ≡ true → (at best' r ≡ base + feet r) × (at previous' r ≡ u)
