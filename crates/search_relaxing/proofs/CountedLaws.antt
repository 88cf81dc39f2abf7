-- A kept network is a graph that the search takes: a run has 1 to a county's most feet, and a county's most runs of so many feet fit a label.
-- Assumes nothing.
use mathlib.Core.Path.{◌≡◌}
use mathlib.Core.Bool.{true}
use mathlib.Core.List.{List}
use Rattle.std.specs.Prelude.{Some}
use Prim.Native.Nat.{ℕ, ◌+◌, ◌*◌, ◌-◌, ◌≤◌, ◌<◌}
use native.Mathlib.Omega.{arith}
use Rattle.frames.specs.Steps.Sizes.{county_feet}
use Rattle.frames.proofs.EditionLaws.{feet_few}
use Rattle.network.specs.Network.{edition_of, segments_of, is_network}
use Rattle.network.specs.Steps.Corners.{IndexOf, run_leaving}
use Rattle.network.proofs.NetworkLaws.{passed}
use Rattle.streets.specs.Runs.{feet_of}
use Rattle.streets.specs.Steps.Places.{RunOf}
use Rattle.streets.specs.Steps.Leaving.{Entry}
use Rattle.search_labels.specs.Steps.Search.{Fair}
use Rattle.search_relaxing.specs.declared.Ask.{Ask}
use Rattle.search_relaxing.specs.declared.relax.Reached.{Reached}
use Rattle.search_relaxing.specs.Steps.Counted.{most_runs, Counted, network_in, index_in}
use Rattle.search_relaxing.specs.Steps.Unfound.{Arrives}
use Rattle.search_relaxing.specs.Steps.Choice.{Reaches}
use Rattle.streets.proofs.LeavingLaws.{run_feet}

pub counted : {net : List ℕ} {s : ℕ} → is_network net ≡ true → s ≡ segments_of net → Counted net (2 * s)
counted is e = record { network = is; count = omega arith }

-- what an entry tells
pub told : {entry run : ℕ} → Some run ≡ run_leaving entry → entry ≡ run + 1
told {entry} {run} e = grind arith

module _ {net : List ℕ} {n : ℕ} (T : Counted net n) where
  pub run_of : {r : ℕ} → r < n → RunOf net r
  run_of l = record { network = T.network; inside = omega (arith, T.count) }

  pub few_runs : n ≤ most_runs
  few_runs = omega (arith, T.count, (passed net T.network).limits.few_segments)

  pub fair : Fair n (feet_of net) county_feet
  fair =
      record {
        small = omega (arith, few_runs);
        long = λ r l. (run_feet (run_of l)).0;
        short = λ r l. omega (arith, (run_feet (run_of l)).1, feet_few (edition_of net));
        room = omega (arith, few_runs);
      }

  -- an entry of the index tells one of the runs
  pub entry_few : {node leg entry : ℕ} → Entry net node leg entry → entry ≤ n
  entry_few {entry = entry} E = grind (arith, E.leaving (entry - 1))

-- ---- what a search is asked
pub ask_counted : (ask : Ask) → Counted (network_in ask) ask.runs
ask_counted ask = record { network = ask.streets.net.kept; count = ask.counted }

pub feet_asked : (ask : Ask) (r : ℕ) → r < ask.runs → feet_of (network_in ask) r ≤ county_feet
feet_asked ask = (fair (ask_counted ask)).short

-- run u of such a network, with the index of its runs, arrives at a node by a leg
pub record Arriving (net index : List ℕ) (n u node leg : ℕ) : Type 0 where
  pub counted : Counted net n
  pub indexed : IndexOf net index
  pub inside : u < n
  pub arrives : Arrives net u node leg

-- as the run does that a search settles
pub arriving : {ask : Ask} {here : Reached} → Reaches ask here → Arriving (network_in ask) (index_in ask) ask.runs here.run here.node here.leg
arriving {ask} R = record { counted = ask_counted ask; indexed = ask.indexed; inside = R.inside; arrives = R.arrives }
