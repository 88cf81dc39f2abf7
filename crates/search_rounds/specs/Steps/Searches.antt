-- What the steps of a search promise to each other: what holds before its first round, and what a round does.
-- Assumes nothing.
use Rattle.std.specs.Prelude.{◌≡◌, false, List, Result, Ok, Err, ℕ, ◌*◌, ◌-◌, ◌/◌, ◌≤◌, ◌<◌, length}
use Rattle.routes.specs.Reach.{is_marked}
use Rattle.routes.specs.Steps.Labels.{edge_of}
use Rattle.queue.specs.Steps.Queue.{top, Queue, Empty}
use Rattle.frames.specs.Steps.Sizes.{county_size, county_feet}
use Rattle.network.specs.Network.{nodes_of}
use Rattle.streets.specs.Runs.{feet_of}
use Rattle.streets.specs.Bicycle.{bicycle}
use Rattle.search_labels.specs.Steps.Keys.{run_in}
use Rattle.search_labels.specs.Steps.Labels.{Room}
use Rattle.search_labels.specs.Steps.Begin.{NoneEarlier, Seed, Begun}
use Rattle.search_labels.specs.Steps.Queued.{none_spent, Queued}
use Rattle.search_labels.specs.Steps.Search.{Due, Round, Explored}
use Rattle.search_relaxing.specs.declared.Ask.{Ask}
use Rattle.search_rounds.specs.declared.explore.Met.{Met}
use Rattle.search_relaxing.specs.Steps.Counted.{network_in, run_graph, asked_graph, usable, goal_at}
use Rattle.search_relaxing.specs.Steps.Unfound.{Unknown, spent_of, turns_back, Noted}

-- ---- The beginning
-- An empty queue for at most so many runs, and numbers for at most so many nodes that say nothing.
abbrev pub NoKeys : ℕ → List ℕ → Type 0
NoKeys most tree = (n : ℕ) → n ≤ most → Empty tree n

abbrev pub AllUnknown : ℕ → List ℕ → Type 0
AllUnknown most unfound = (n : ℕ) → n ≤ most → Unknown n unfound

-- So many keys, two for each run, and so many numbers are enough for the network, and are no more than a county's. The least queue has two keys.
pub record Enough (ask : Ask) (keys numbers : ℕ) : Type 0 where
  pub runs_fit : ask.runs ≤ keys / 2
  pub nodes_fit : nodes_of (network_in ask) ≤ numbers
  pub some_keys : 2 ≤ keys
  pub few_keys : keys ≤ 4 * county_size
  pub few_numbers : numbers ≤ county_size

-- The run behind an entry of the index of runs may get its first label.
pub record Seedable (ask : Ask) (entry : ℕ) (best previous tree : List ℕ) : Type 0 where
  pub few : entry ≤ ask.runs
  pub room : Room ask.runs best previous
  pub queue : Queue tree ask.runs
  pub none_earlier : NoneEarlier (feet_of (network_in ask)) tree ask.runs

abbrev pub Seeds : Ask → ℕ → List ℕ → List ℕ → List ℕ → List ℕ → List ℕ → List ℕ → Type 0
Seeds ask entry best previous tree best' previous' tree' =
    Seed (usable (bicycle (network_in ask)) ask.tolerance) (feet_of (network_in ask)) ask.runs entry best previous tree best' previous' tree'

-- Every source is labelled and queued.
pub record Begins (ask : Ask) (best previous tree : List ℕ) : Type 0 where
  pub labels : Begun (asked_graph ask) best previous
  pub queued : Queued none_spent best tree ask.runs 0

-- ---- A round
abbrev pub DueNext : Ask → ℕ → List ℕ → List ℕ → List ℕ → List ℕ → Type 0
DueNext ask key best previous tree unfound = Due ask.runs county_feet key (spent_of (network_in ask) unfound) best previous tree

-- The run with this key is settled, and what is to find is noted.
pub record Settles (ask : Ask) (key : ℕ) (best previous unfound best' previous' tree' unfound' : List ℕ) (next : ℕ) : Type 0 where
  pub round :
      Round (edge_of (bicycle (network_in ask)) ask.tolerance) (turns_back (network_in ask)) (feet_of (network_in ask)) ask.runs key
      (spent_of (network_in ask) unfound) (spent_of (network_in ask) unfound')
      best previous best' previous' tree' next
  pub noted : Noted (network_in ask) ask.tolerance ask.runs (run_in key) best' unfound unfound'

-- ---- The search
-- A search from a node that is no goal itself, up to a limit.
pub record Sought (ask : Ask) (goals : List ℕ) : Type 0 where
  pub marks : nodes_of (network_in ask) ≤ length goals
  pub apart : is_marked goals ask.from ≡ false
  pub limited : ask.limit ≤ top

-- Nothing is queued, and nothing is known of any node.
pub record Unused (ask : Ask) (tree unfound : List ℕ) : Type 0 where
  pub empty : Empty tree ask.runs
  pub unknown : Unknown (nodes_of (network_in ask)) unfound

-- A search at a tolerance has stopped, at this key.
abbrev pub StopsAt : Ask → ℕ → List ℕ → List ℕ → List ℕ → ℕ → Type 0
StopsAt ask t goals best previous key =
    Explored (run_graph (network_in ask) ask.runs t ask.from) (turns_back (network_in ask)) (goal_at (network_in ask) goals) best previous ask.limit key

-- What it met: a run that arrives at a goal, by its key, which is below the limit; or none, and the error is the key at which it stopped.
abbrev pub Stopped : Ask → ℕ → List ℕ → List ℕ → List ℕ → Result ℕ ℕ → Type 0
Stopped ask t goals best previous (Ok key) = (key < ask.limit) × StopsAt ask t goals best previous key
Stopped ask t goals best previous (Err key) = (ask.limit ≤ key) × StopsAt ask t goals best previous key

-- A search at a tolerance met no goal: its labels, which a later search has written over, were these.
pub record NothingMet (ask : Ask) (t : ℕ) (goals : List ℕ) : Type 0 where
  pub best : List ℕ
  pub previous : List ℕ
  pub key : ℕ
  pub beyond : ask.limit ≤ key
  pub stop : StopsAt ask t goals best previous key

-- The tolerances from the least to the greatest that is asked: the search at one of them met a goal, and those below it met nothing.
pub record MetAt (ask : Ask) (goals : List ℕ) (best previous : List ℕ) (met : Met) : Type 0 where
  pub low : ask.least ≤ met.tolerance
  pub high : met.tolerance ≤ ask.tolerance
  pub below_limit : met.key < ask.limit
  pub stop : StopsAt ask met.tolerance goals best previous met.key
  -- of those below it, the greatest
  pub none_below : ask.least < met.tolerance → NothingMet ask (met.tolerance - 1) goals

-- An error: the search at the greatest of them, which came last, stopped at this key and met nothing; nor did the one below it, where one was asked.
abbrev pub Meets : Ask → List ℕ → List ℕ → List ℕ → Result Met ℕ → Type 0
Meets ask goals best previous (Ok met) = MetAt ask goals best previous met
Meets ask goals best previous (Err key) =
    Stopped ask ask.tolerance goals best previous (Err key) × (ask.least < ask.tolerance → NothingMet ask (ask.tolerance - 1) goals)
