-- What is still to find at a node: which usable runs that leave it may be without a label. It is noted in one number for each node: 0 says nothing; 1 + a
-- leg, that every usable run has its label but, it may be, the one that leaves by that leg; `nothing` or more, that every one has. A run that arrives where nothing
-- is to find is spent. Where the run that is settled comes from such a node, the run back there is spent: it is given a label as if a bicycle could turn
-- back, whether it may be ridden or not, which no route does and no search needs, and nothing is to find at the node then.
-- Assumes nothing.
use Rattle.std.specs.Prelude.{◌≡◌, Bool, true, ◌&&◌, ◌||◌, cond, List, ℕ, zero, suc, ◌+◌, ◌≤◌, ◌<◌, max, leb, eqb, length}
use Rattle.routes.specs.Reach.{is_marked}
use Rattle.routes.specs.Steps.Labels.{unlabelled, edge_of}
use Rattle.lists.specs.Lists.{at}
use Rattle.frames.specs.Steps.Sizes.{county_feet}
use Rattle.network.specs.Network.{nodes_of}
use Rattle.streets.specs.Runs.{start, finish, leaving_leg, arrival_leg, feet_of}
use Rattle.streets.specs.Bicycle.{bicycle, arrival_turn_level, arrival_crossing_level}
use Rattle.streets.specs.Steps.Places.{NodeOf, LegOf}
use Rattle.search_labels.specs.Steps.Relax.{Relaxed}
use Rattle.search_labels.specs.Steps.Search.{Settling, WayBack}
use Rattle.search_relaxing.specs.declared.relax.ToFind.{ToFind}
use Rattle.search_relaxing.specs.declared.relax.ToFind.TheVariants.{Any, Leg, Nothing}
use Rattle.search_relaxing.specs.Steps.Counted.{usable}

-- Above 1 + a leg, whichever leg it is.
abbrev pub nothing : ℕ
nothing = 9

-- What a number tells, and the number that tells it.
abbrev pub to_find : ℕ → ToFind
to_find zero = Any
to_find (suc leg) = cond (leb 8 leg) Nothing (Leg leg)

abbrev pub note_of : ToFind → ℕ
note_of Any = 0
note_of (Leg leg) = 1 + leg
note_of Nothing = nothing

-- The leg is one of eight.
abbrev pub Noteable : ToFind → Type 0
Noteable Any = Unit {0}
Noteable (Leg leg) = leg < 8
Noteable Nothing = Unit {0}

-- Before the search no number says anything.
pub record Unknown (nodes : ℕ) (unfound : List ℕ) : Type 0 where
  pub long : nodes ≤ length unfound
  pub none : (v : ℕ) → v < nodes → at unfound v ≡ 0

-- The numbers are right.
pub record Unfound (net : List ℕ) (t n : ℕ) (best unfound : List ℕ) : Type 0 where
  pub long : nodes_of net ≤ length unfound
  pub labelled : (r : ℕ) → r < n → usable (bicycle net) t r ≡ true → (at unfound (start net r) ≡ 0 → ⊥)
      → (at unfound (start net r) ≡ leaving_leg net r + 1 → ⊥) → at best r < unlabelled

unfoldable pub spent_of : List ℕ → List ℕ → ℕ → Bool
spent_of net unfound r = leb nothing (at unfound (finish net r))

-- Nothing is noted of a goal.
abbrev pub Unnoted : List ℕ → List ℕ → List ℕ → Type 0
Unnoted net goals unfound = (v : ℕ) → v < nodes_of net → is_marked goals v ≡ true → at unfound v ≡ 0

-- A round has noted what is still to find at the node where run u arrives, and nowhere else.
pub record Noted (net : List ℕ) (t n u : ℕ) (best' unfound unfound' : List ℕ) : Type 0 where
  pub right : Unfound net t n best' unfound'
  pub elsewhere : (v : ℕ) → (v ≡ finish net u → ⊥) → at unfound' v ≡ at unfound v
  pub grows : (r : ℕ) → r < n → spent_of net unfound r ≡ true → spent_of net unfound' r ≡ true

-- Run u arrives at a node by a leg.
pub record Arrives (net : List ℕ) (u node leg : ℕ) : Type 0 where
  pub at_node : NodeOf net (finish net u) node
  pub by_leg : LegOf (arrival_leg net u) leg

-- Every movement from u is within the tolerance; or only the one onto the right-hand exit is.
pub record EveryExit (net : List ℕ) (t u : ℕ) : Type 0 where
  pub across : max (arrival_turn_level net u) (arrival_crossing_level net u) ≤ t

pub record RightOnly (net : List ℕ) (t u : ℕ) : Type 0 where
  pub turn : arrival_turn_level net u ≤ t
  pub across : t < max (arrival_turn_level net u) (arrival_crossing_level net u)

-- The run behind an entry of the index of runs, where there is one, is one of the n runs.
abbrev pub RunBehind : ℕ → ℕ → Type 0
RunBehind n entry = (r : ℕ) → entry ≡ r + 1 → r < n

-- From any run to each usable one.
abbrev pub to_usable : List ℕ → ℕ → ℕ → ℕ → Bool
to_usable net t u r = usable (bicycle net) t r

-- From any run to each.
abbrev pub to_each : ℕ → ℕ → Bool
to_each u r = true

-- A movement from u within the tolerance leads onto the run behind an entry of the index of runs, where there is one: so an edge leads to it exactly
-- when it is usable.
pub record Way (net : List ℕ) (t n u entry : ℕ) : Type 0 where
  pub inside : RunBehind n entry
  pub leads : (r : ℕ) → entry ≡ r + 1 → usable (bicycle net) t r ≡ edge_of (bicycle net) t u r

-- Run r goes back where run u came from: it leaves where u arrives, by the leg of u's arrival.
unfoldable pub turns_back : List ℕ → ℕ → ℕ → Bool
turns_back net u r = eqb (start net r) (finish net u) && eqb (leaving_leg net r) (arrival_leg net u)

-- The edges, and the ways back too where `back` says so.
abbrev pub leads_of : List ℕ → ℕ → Bool → ℕ → ℕ → Bool
leads_of net t back u r = edge_of (bicycle net) t u r || (back && turns_back net u r)

-- The edges from u are relaxed, and what is still to find where it arrives is noted. A way back is relaxed only where u is not spent and it leads to a run
-- that is spent then.
pub record Spread (net : List ℕ) (t n u base : ℕ) (best previous unfound best' previous' tree' unfound' : List ℕ) : Type 0 where
  pub back : Bool
  pub only : (r : ℕ) → r < n → back ≡ true → turns_back net u r ≡ true → WayBack (turns_back net) (spent_of net unfound) (spent_of net unfound') u r
  pub relaxed : Relaxed (leads_of net t back) (feet_of net) n u base best previous best' previous'
  pub settling : Settling n county_feet u base (spent_of net unfound') best' previous' tree'
  pub noted : Noted net t n u best' unfound unfound'
