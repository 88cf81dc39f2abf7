-- What the steps of a call promise to each other: its memory, and the tests that it makes. What the calls promise stands in specs/Promises.antt, specs/Reaching.antt and
-- specs/Judge.antt.
-- Assumes nothing.
use Rattle.std.specs.Prelude.{ℕ, ◌*◌, ◌/◌, ◌≤◌, ◌<◌, ◌≡◌, Bool, true, false, ◌&&◌, List, Result, leb, length, MatchResult}
use Rattle.refusals.specs.declared.Refusal.{Refusal}
use Rattle.refusals.specs.declared.Refusal.TheVariants.{NotANetwork, TooFewEntries}
use Rattle.refusals.specs.Numbers.{number_of, unless}
use Rattle.network.specs.Network.{nodes_of, is_network}
use Rattle.frames.specs.Steps.Sizes.{county_size}
use Rattle.network.specs.Steps.Corners.{IndexOf}
use Rattle.network.specs.Steps.Checks.{FewNodes}
use Rattle.streets.specs.Runs.{runs_of, is_open}
use Rattle.streets.specs.declared.kept.Streets.{Streets}
use Rattle.search_labels.specs.Steps.Labels.{Room}
use Rattle.search_relaxing.specs.declared.Ask.{Ask}
use Rattle.search_relaxing.specs.Steps.Counted.{network_in}
use Rattle.search_reach.specs.Steps.Map.{AskedAt}
use Rattle.splicereel.specs.Finding.{reach_refusal}

-- ---- Memory
-- An index of so many corners has room for a network's, and is no larger than a county's.
pub record CornerRoom (net : List ℕ) (corners : ℕ) : Type 0 where
  pub few : FewNodes (corners / 8) net
  pub most : corners ≤ 8 * county_size

-- So many bytes are one or more for each node of a network, and no more than a county's.
pub record NodeRoom (net : List ℕ) (nodes : ℕ) : Type 0 where
  pub few : FewNodes nodes net
  pub most : nodes ≤ county_size

-- ---- Tests
-- A test: where it holds the call goes on with such a value, and where it fails it refuses.
abbrev pub Tested : {A : Type 0} → Bool → Refusal → (A → Type 0) → Result A Refusal → Type 0
Tested test why Is result = MatchResult result (λ x. (test ≡ true) × Is x) (λ e. (test ≡ false) × (e ≡ why))

-- The streets are those of the network.
abbrev pub NetworkTested : List ℕ → Result Streets Refusal → Type 0
NetworkTested net result = Tested (is_network net) NotANetwork (λ s. s.net.bytes.now ≡ net) result

-- The same, and the index has the network's runs.
abbrev pub NetworkIndexed : List ℕ → List ℕ → Result Streets Refusal → Type 0
NetworkIndexed net index result = Tested (is_network net) NotANetwork (λ s. (s.net.bytes.now ≡ net) × IndexOf net index) result

-- Both scratch slices have a number for each run.
abbrev pub scratch_fits : ℕ → ℕ → ℕ → Bool
scratch_fits runs best previous = leb runs best && leb runs previous

-- A run of the network, and open.
pub record OpenRun (net : List ℕ) (r : ℕ) : Type 0 where
  pub inside : r < runs_of net
  pub opened : is_open net r ≡ true

-- What Reach map and Nearest ask of the search, where nothing is left to test but the list or the marks.
pub record AskFrom (net : List ℕ) (from t : ℕ) (best previous : List ℕ) (ask : Ask) : Type 0 where
  pub network : network_in ask ≡ net
  pub asked : AskedAt ask
  pub scratch : Room ask.runs best previous
  pub start : ask.from ≡ from
  pub within : ask.tolerance ≡ t
  pub last_test : (size entries : ℕ)
      → reach_refusal (network_in ask) from t (length best) (length previous) size entries ≡ unless (leb (size * nodes_of (network_in ask)) entries) TooFewEntries 0

abbrev pub AskTested : List ℕ → ℕ → ℕ → List ℕ → List ℕ → Result Ask Refusal → Type 0
AskTested net from t best previous result =
    MatchResult result (AskFrom net from t best previous)
    (λ e. (size entries : ℕ) → number_of e ≡ reach_refusal net from t (length best) (length previous) size entries)
