-- Relaxing in two steps: by reading alone it is chosen onto which legs the edges from a run are offered; then the runs behind those legs get their labels.
-- Assumes nothing.
use Rattle.std.specs.Prelude.{◌≡◌, Bool, true, false, cond, List, Option, Some, None, ℕ, ◌+◌, ◌*◌, ◌%◌, ◌≤◌, ◌<◌, eqb, length}
use Rattle.lists.specs.Lists.{at}
use Rattle.routes.specs.Steps.Labels.{unlabelled, edge_of}
use Rattle.frames.specs.Steps.Sizes.{county_feet}
use Rattle.network.specs.Network.{nodes_of}
use Rattle.streets.specs.Runs.{start, feet_of}
use Rattle.streets.specs.Bicycle.{bicycle}
use Rattle.search_labels.specs.Steps.Labels.{Room}
use Rattle.search_labels.specs.Steps.Relax.{Visit, Offer, Relaxed}
use Rattle.search_labels.specs.Steps.Search.{Settling}
use Rattle.search_relaxing.specs.declared.Ask.{Ask}
use Rattle.search_relaxing.specs.declared.relax.Reached.{Reached}
use Rattle.search_relaxing.specs.declared.relax.Choice.{Choice}
use Rattle.search_relaxing.specs.declared.relax.ToFind.{ToFind}
use Rattle.search_relaxing.specs.declared.relax.ToFind.TheVariants.{Any, Leg, Nothing}
use Rattle.search_relaxing.specs.Steps.Counted.{network_in, index_in}
use Rattle.search_relaxing.specs.Steps.Unfound.{nothing, note_of, Noteable, Unfound, spent_of, Arrives, RunBehind, EveryExit, to_usable, to_each, Way, Spread}

-- ---- What is chosen
-- Onto the right-hand exit, unless that is the leg of arrival.
unfoldable pub right_leg : ℕ → ℕ → ToFind → Option Choice
right_leg exit leg rest = cond (eqb exit leg) None (Some (record { first = exit; count = 1; back = false; rest = rest }))

-- Onto every other leg than that of arrival, where any may be to find: then only the way back may be, or nothing where it is spent and labelled too.
-- Where one leg is to find, onto that one, unless it is the leg of arrival.
unfoldable pub every_leg : ℕ → ToFind → Bool → Option Choice
every_leg leg Any spent =
    cond spent (Some (record { first = leg + 1; count = 7; back = true; rest = Nothing })) (Some (record { first = leg + 1; count = 7; back = false; rest = Leg leg }))
every_leg leg (Leg last) spent = cond (eqb last leg) None (Some (record { first = last; count = 1; back = false; rest = Nothing }))
every_leg leg Nothing spent = None

-- ---- What holds of a choice
-- The entry of the index of runs at the leg k after the first, going round.
abbrev pub entry_after : List ℕ → ℕ → ℕ → ℕ → ℕ
entry_after index node first k = at index (node * 8 + (first + k) % 8)

-- What is to find at the node afterwards: as it was; at most the leg of arrival; nothing, the one leg to find being offered; nothing, the way back
-- being labelled too, which is spent.
pub data Rest (net : List ℕ) (t u node leg : ℕ) (unfound : List ℕ) (back : Bool) (rest : ℕ) : Type 0 where
  same : back ≡ false → rest ≡ at unfound node → Rest net t u node leg unfound back rest
  others : back ≡ false → rest ≡ 1 + leg → EveryExit net t u → at unfound node < nothing → Rest net t u node leg unfound back rest
  last : back ≡ false → rest ≡ nothing → EveryExit net t u → at unfound node < nothing → (at unfound node ≡ 0 → ⊥) → (at unfound node ≡ leg + 1 → ⊥)
      → Rest net t u node leg unfound back rest
  turned : back ≡ true → rest ≡ nothing → EveryExit net t u → at unfound node < nothing → nothing ≤ at unfound (start net u)
      → Rest net t u node leg unfound back rest

-- Each leg that is offered leads on by a movement within the tolerance, and every edge to a run without a label leads by one of them.
pub record Chosen (net index : List ℕ) (t n u node leg : ℕ) (unfound : List ℕ) (c : Choice) : Type 0 where
  pub few : c.count ≤ 7
  pub first_leg : c.first ≤ 8
  pub ways : (k : ℕ) → k < c.count → Way net t n u (entry_after index node c.first k)
  pub every : (best : List ℕ) → Unfound net t n best unfound → (r : ℕ) → r < n → unlabelled ≤ at best r → edge_of (bicycle net) t u r ≡ true
      → (k : ℕ) × (k < c.count) × (entry_after index node c.first k ≡ r + 1)
  pub afterwards : Rest net t u node leg unfound c.back (note_of c.rest)
  pub noted : Noteable c.rest

-- Where no leg is offered, no edge leads to a run without a label.
abbrev pub NoEdge : List ℕ → ℕ → ℕ → ℕ → List ℕ → Type 0
NoEdge net t n u unfound =
    (best : List ℕ) → Unfound net t n best unfound → (r : ℕ) → r < n → unlabelled ≤ at best r → edge_of (bicycle net) t u r ≡ true → ⊥

abbrev pub ChosenOf : List ℕ → List ℕ → ℕ → ℕ → ℕ → ℕ → ℕ → List ℕ → Option Choice → Type 0
ChosenOf net index t n u node leg unfound (Some c) = Chosen net index t n u node leg unfound c
ChosenOf net index t n u node leg unfound None = NoEdge net t n u unfound

-- ---- The same at what a search is asked and the run that it settles
-- The run is one of the runs, and arrives where it is said to.
pub record Reaches (ask : Ask) (here : Reached) : Type 0 where
  pub inside : here.run < ask.runs
  pub arrives : Arrives (network_in ask) here.run here.node here.leg

abbrev pub Chooses : Ask → Reached → List ℕ → Option Choice → Type 0
Chooses ask here unfound c = ChosenOf (network_in ask) (index_in ask) ask.tolerance ask.runs here.run here.node here.leg unfound c

abbrev pub Relaxing : Ask → Reached → List ℕ → List ℕ → List ℕ → List ℕ → Type 0
Relaxing ask here unfound best previous tree =
    Settling ask.runs county_feet here.run here.label (spent_of (network_in ask) unfound) best previous tree

-- The edges from the run may be relaxed.
pub record Relaxable (ask : Ask) (here : Reached) (best previous tree unfound : List ℕ) : Type 0 where
  pub reaches : Reaches ask here
  pub right : Unfound (network_in ask) ask.tolerance ask.runs best unfound
  pub settling : Relaxing ask here unfound best previous tree

-- A run may be visited.
pub record Visitable (ask : Ask) (here : Reached) (run : ℕ) (best previous tree unfound : List ℕ) : Type 0 where
  pub within : run < ask.runs
  pub long : nodes_of (network_in ask) ≤ length unfound
  pub settling : Relaxing ask here unfound best previous tree

-- It was visited: if it is usable, and had no label, it got one.
pub record Visited (ask : Ask) (here : Reached) (run : ℕ) (unfound best previous best' previous' tree' : List ℕ) : Type 0 where
  pub visit : Visit (to_usable (network_in ask) ask.tolerance) (feet_of (network_in ask)) here.run here.label run best previous best' previous'
  pub settling : Relaxing ask here unfound best' previous' tree'

-- The run behind an entry may be offered.
pub record Offerable (ask : Ask) (here : Reached) (entry : ℕ) (best previous tree unfound : List ℕ) : Type 0 where
  pub behind : RunBehind ask.runs entry
  pub long : nodes_of (network_in ask) ≤ length unfound
  pub settling : Relaxing ask here unfound best previous tree

-- An entry was offered: a usable run without a label got one.
pub record LegRelaxed (ask : Ask) (here : Reached) (entry : ℕ) (unfound best previous best' previous' tree' : List ℕ) : Type 0 where
  pub offered :
      Offer (to_usable (network_in ask) ask.tolerance) (feet_of (network_in ask)) here.run here.label entry best previous best' previous'
  pub settling : Relaxing ask here unfound best' previous' tree'

-- Every edge was offered.
pub record EdgesRelaxed (ask : Ask) (here : Reached) (unfound best previous best' previous' tree' : List ℕ) : Type 0 where
  pub relaxed : Relaxed (edge_of (bicycle (network_in ask)) ask.tolerance) (feet_of (network_in ask)) ask.runs here.run here.label best previous best' previous'
  pub settling : Relaxing ask here unfound best' previous' tree'

-- The labels have room for one run more by way of the run that is settled.
pub record LabelRoom (ask : Ask) (here : Reached) (best previous : List ℕ) : Type 0 where
  pub label : here.label + county_feet < unlabelled
  pub scratch : Room ask.runs best previous

-- The way back was labelled: it stands at the entry of the leg of arrival.
abbrev pub BackLabelled : Ask → Reached → List ℕ → List ℕ → List ℕ → List ℕ → Type 0
BackLabelled ask here best previous best' previous' =
    Offer to_each (feet_of (network_in ask)) here.run here.label (at (index_in ask) (here.node * 8 + here.leg)) best previous best' previous'

abbrev pub Spreads : Ask → Reached → List ℕ → List ℕ → List ℕ → List ℕ → List ℕ → List ℕ → List ℕ → Type 0
Spreads ask here best previous unfound best' previous' tree' unfound' =
    Spread (network_in ask) ask.tolerance ask.runs here.run here.label best previous unfound best' previous' tree' unfound'
