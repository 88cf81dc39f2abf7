-- The search: label the sources; then settle the labelled runs in rising order of their keys, and relax the edges from each. What is true between two
-- rounds, what a round does, and where the search stops.
-- Assumes nothing.
use Rattle.std.specs.Prelude.{◌≡◌, Bool, true, false, List, ◌⊎◌, ℕ, ◌+◌, ◌*◌, ◌≤◌, ◌<◌, length}
use Rattle.routes.specs.Steps.Labels.{Graph, unlabelled, First, Next, Follows, Sound}
use Rattle.queue.specs.Steps.Queue.{top}
use Rattle.lists.specs.Lists.{at}
use Rattle.search_labels.specs.Steps.Keys.{span, label_key, label_in, run_in, key, IsKey}
use Rattle.search_labels.specs.Steps.Relax.{Relaxed}
use Rattle.search_labels.specs.Steps.Queued.{Queued, Least}

-- What the search asks of a graph: its runs fit a key, each has a length, and a route of one run more than there are would still fit a label.
pub record Fair (n : ℕ) (feet : ℕ → ℕ) (most : ℕ) : Type 0 where
  pub small : n ≤ span
  pub long : (r : ℕ) → r < n → 1 ≤ feet r
  pub short : (r : ℕ) → r < n → feet r ≤ most
  pub room : n * most + most < unlabelled

-- The same runs with an edge from each to each.
abbrev pub loose : Graph → Graph
loose w = record { size = w.size; source = w.source; edge = λ (p r : ℕ). true; feet = w.feet }

-- Each label is that of a source, or of the run before with the run's own feet added, whether an edge leads there or not.
abbrev pub Stepwise : Graph → List ℕ → List ℕ → Type 0
Stepwise w best previous =
    (r : ℕ) → r < w.size → at best r < unlabelled
    → First (loose w) (at best) (at previous) r ⊎ Next (loose w) (at best) (at previous) r (at previous r)

-- The label of r is sound: its chain goes back to a source along edges.
abbrev pub IsSound : Graph → List ℕ → List ℕ → ℕ → Type 0
IsSound w best previous r = (k : ℕ) × Sound w (at best) (at previous) k r

-- Run r goes back where run p came from, and p's label is sound. `back p r` says that r goes back so.
pub record Turned (w : Graph) (back : ℕ → ℕ → Bool) (best previous : List ℕ) (r p : ℕ) : Type 0 where
  pub inside : p < w.size
  pub labelled : at best p < unlabelled
  pub goes_back : back p r ≡ true
  pub sound : IsSound w best previous p

-- The invariant. Settled are the runs whose key is below m.
pub record Settled (w : Graph) (back : ℕ → ℕ → Bool) (spent : ℕ → Bool) (best previous : List ℕ) (m : ℕ) : Type 0 where
  pub bounded : m ≤ top
  -- L0: each source is labelled, at most its own feet
  pub sources : (r : ℕ) → r < w.size → w.source r ≡ true → (at best r < unlabelled) × (at best r ≤ w.feet r)
  pub whence : Stepwise w best previous
  -- L1, but for spent runs that go back: they get labels too, and none by way of them
  pub sound : (r : ℕ) → r < w.size → at best r < unlabelled → IsSound w best previous r ⊎ ((spent r ≡ true) × Turned w back best previous r (at previous r))
  -- the run before a labelled run is settled
  pub earlier : (r : ℕ) → r < w.size → at best r < unlabelled → at previous r < w.size → key best (at previous r) < m
  -- L2: from each settled run every edge leads to a label that is no worse
  pub edges : (p r : ℕ) → p < w.size → key best p < m → r < w.size → w.edge p r ≡ true
      → (at best r < unlabelled) × (at best r ≤ at best p + w.feet r)

-- From a spent run every edge leads to a labelled run, so that settling it would change nothing; and no goal is spent.
pub record Spent (w : Graph) (goal spent : ℕ → Bool) (best : List ℕ) : Type 0 where
  pub closed : (p r : ℕ) → p < w.size → spent p ≡ true → r < w.size → w.edge p r ≡ true → at best r < unlabelled
  pub aside : (r : ℕ) → r < w.size → spent r ≡ true → goal r ≡ false

-- The run with the key m is the next to be settled, and its label has room for one run more.
pub record Due (n most m : ℕ) (spent : ℕ → Bool) (best previous tree : List ℕ) : Type 0 where
  pub below : m < top
  pub whose : IsKey best n m
  pub room : label_in m + most < unlabelled
  pub long : n ≤ length best
  pub long' : n ≤ length previous
  pub queued : Queued spent best tree n m

-- The run u, whose label is base, is taken from the queue, and the edges from it are being relaxed.
pub record Settling (n most u base : ℕ) (spent : ℕ → Bool) (best previous tree : List ℕ) : Type 0 where
  pub inside : u < n
  pub room : base + most < unlabelled
  pub long : n ≤ length best
  pub long' : n ≤ length previous
  pub queued : Queued spent best tree n (label_key base u + 1)

-- Run r goes back where run u came from: u was not spent, and r is spent now.
pub record WayBack (back : ℕ → ℕ → Bool) (spent spent' : ℕ → Bool) (u r : ℕ) : Type 0 where
  pub goes_back : back u r ≡ true
  pub from : spent u ≡ false
  pub onto : spent' r ≡ true

-- A round has settled the run with the key m: the edges from it are relaxed, and it may be the way back; m' is the next key.
pub record Round (edge back : ℕ → ℕ → Bool) (feet : ℕ → ℕ) (n m : ℕ) (spent spent' : ℕ → Bool) (best previous best' previous' tree' : List ℕ) (m' : ℕ) : Type 0 where
  pub leads : ℕ → ℕ → Bool
  pub all : (r : ℕ) → r < n → edge (run_in m) r ≡ true → leads (run_in m) r ≡ true
  pub only : (r : ℕ) → r < n → leads (run_in m) r ≡ true → (edge (run_in m) r ≡ true) ⊎ WayBack back spent spent' (run_in m) r
  pub relaxed : Relaxed leads feet n (run_in m) (label_in m) best previous best' previous'
  pub next : Least spent' best' n (m + 1) m'
  pub long : n ≤ length best'
  pub long' : n ≤ length previous'
  pub queued : Queued spent' best' tree' n m'

-- No settled run is a goal.
abbrev pub NoGoal : (ℕ → Bool) → List ℕ → ℕ → ℕ → Type 0
NoGoal goal best n m = (r : ℕ) → r < n → key best r < m → goal r ≡ true → ⊥

-- The search has stopped at m: at the key of the first goal in the order of settling, or because m is not below the limit and no goal is.
pub record Stop (w : Graph) (goal : ℕ → Bool) (best previous : List ℕ) (limit m : ℕ) : Type 0 where
  -- what leads on is right below m's label; at `top` it is right everywhere
  pub follows : Follows w (at best) (label_in m)
  pub whence : Stepwise w best previous
  pub bounded : m ≤ top
  pub none : NoGoal goal best w.size m
  pub whose : m < top → IsKey best w.size m
  pub goal_met : m < limit → goal (run_in m) ≡ true
  -- the label of the goal that is met is sound
  pub sound : m < limit → IsSound w best previous (run_in m)

-- And what it knows then of every label: it is sound, or that of a way back from a sound one.
pub record Explored (w : Graph) (back : ℕ → ℕ → Bool) (goal : ℕ → Bool) (best previous : List ℕ) (limit m : ℕ) : Type 0 where
  pub stop : Stop w goal best previous limit m
  pub labels : (r : ℕ) → r < w.size → at best r < unlabelled → IsSound w best previous r ⊎ Turned w back best previous r (at previous r)
