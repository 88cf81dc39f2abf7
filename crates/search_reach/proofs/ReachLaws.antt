-- From the stop of a search to what it has reached. What leads on is right below the label where it stopped, and each label is a route's, or that of a way
-- back to a node that is nearer still: so the lengths that the code reads are the distances up to that label. The search for a map has no goal, so it stops
-- at the greatest length; where that is more than a label can be, it is above every label, and nothing is left out. Where marked nodes are the goals, no
-- route to one is shorter than the label where the search stopped: the first node that is no farther is the nearest, and where the search came to its
-- end there is none.
-- Assumes nothing.
use Rattle.std.specs.Prelude.{Result, Ok, Err}
use mathlib.Core.Path.{◌≡◌, refl, sym, ◌∙◌, ap, subst}
use mathlib.Core.Bool.{Bool, true, false, not, true≢false}
use mathlib.Core.List.{List, ◌++◌}
use mathlib.Core.Logic.{⊎_elim}
use Prim.Native.Nat.{ℕ, ◌+◌, ◌*◌, ◌≤◌, ◌<◌}
use native.Mathlib.Omega.{arith}
use lib.Dec.{eqb, ltb}
use lib.ListN.{length, drop}
use borrow.Author.Tests.{ltb-false, not-false, le-ltb, eq-eqb, ne_eqb, eqb-true}
use Rattle.lists.specs.Lists.{at}
use Rattle.lists.proofs.Facts.{and_true, false_or, lt_or_ge}
use Rattle.routes.specs.Reach.{numbers, ReachMap, MapWritten, is_marked, NoneMarked}
use Rattle.routes.specs.Steps.Labels.{Graph, graph_of, unlabelled, Paved, First, Next, Follows}
use Rattle.routes.specs.Steps.Reach.{Attained, Distances, entries_of}
use Rattle.routes.specs.Steps.Verdict.{Far}
use Rattle.routes.proofs.Chains.{label_bound}
use Rattle.routes.proofs.Certificate.{far_below}
use Rattle.routes.proofs.Reach.{sound_attained, turned_attained, some_short, arrivals_distances}
use Rattle.routes.proofs.ReachMaps.{numbers_length, map_clamped, distances_map}
use Rattle.routes.proofs.NearestMarked.{first_nearest, start_nearest}
use Rattle.queue.specs.Steps.Queue.{top}
use Rattle.frames.specs.Steps.Sizes.{county_feet}
use Rattle.network.specs.Network.{nodes_of}
use Rattle.streets.specs.Runs.{start, finish, leaving_leg, arrival_leg, joins}
use Rattle.streets.specs.Bicycle.{bicycle}
use Rattle.streets.proofs.LeavingLaws.{finish_below, back_ends}
use Rattle.search_labels.specs.Steps.Keys.{label_key, label_in, run_in}
use Rattle.search_labels.specs.Steps.Search.{loose, IsSound, Turned, Explored}
use Rattle.search_labels.proofs.Invariant.{fair_paved}
use Rattle.search_relaxing.specs.declared.Ask.{Ask}
use Rattle.search_relaxing.specs.Steps.Counted.{Counted, network_in, index_in, run_graph, goal_at}
use Rattle.search_relaxing.specs.Steps.Unfound.{Unknown, turns_back}
use Rattle.search_relaxing.proofs.CountedLaws.{counted, fair, run_of}
use Rattle.search_relaxing.proofs.TestLaws.{turns_back_lem}
use Rattle.search_rounds.specs.declared.explore.Met.{Met}
use Rattle.search_rounds.specs.Steps.Searches.{StopsAt, MetAt, Meets}
use Rattle.search_reach.specs.Steps.Arrivals.{least_arrival, length_to}
use Rattle.search_reach.specs.Steps.Map.{clamped, NodesListed}
use Rattle.search_reach.specs.Steps.Nearest.{is_far, Marks, AllMarkable, FirstNear, NearFound}
use Rattle.search_reach.proofs.ArrivalLaws.{Ready, ready, looked_at, least_arrival_lem}

-- ---- the lengths that the code reads, at the start and elsewhere
length_start : (index best : List ℕ) (from : ℕ) → length_to index best from from ≡ 0
unfolding length_to
length_start index best from = rw (eq-eqb from from refl)

length_elsewhere : (index best : List ℕ) (from node : ℕ) → (from ≡ node → ⊥) → length_to index best from node ≡ least_arrival index best node
unfolding length_to
length_elsewhere index best from node apart = rw (ne_eqb node from (λ (e : node ≡ from). apart (sym e)))

-- ---- labels at the stop
-- a movement begins where the run before it ends
joined_meets : (net : List ℕ) (p q : ℕ) → joins net p q ≡ true → finish net p ≡ start net q
unfolding joins
joined_meets net p q e =
    eqb-true (finish net p) (start net q) (and_true (eqb (finish net p) (start net q)) (not (eqb (arrival_leg net p) (leaving_leg net q))) e).0

module _ {net index : List ℕ} {runs from : ℕ} (Y : Ready net index runs from) where
  all_runs : Counted net (bicycle net).runs
  all_runs = counted Y.counted.network refl

  -- a way back ends where the run before it began
  way_back_ends : (u r : ℕ) → u < (bicycle net).runs → r < (bicycle net).runs → turns_back net u r ≡ true → finish net r ≡ start net u
  way_back_ends u r i j e =
      let b = turns_back_lem net u r e in
      back_ends net Y.counted.network Y.indexed (run_of all_runs i) (run_of all_runs j) b.from b.by

  module _ (t : ℕ) where
    paved : Paved (graph_of (bicycle net) t from)
    paved = fair_paved (graph_of (bicycle net) t from) (fair all_runs)

    module _ {goal : ℕ → Bool} {best previous : List ℕ} {limit m : ℕ}
        (S : Explored (run_graph net runs t from) (turns_back net) goal best previous limit m) where
      -- the stop, over all runs of the network
      whole_stop : Explored (graph_of (bicycle net) t from) (turns_back net) goal best previous limit m
      whole_stop =
          subst (λ (n : ℕ). Explored (run_graph net n t from) (turns_back net) goal best previous limit m) Y.counted.count S

      -- a label has room for one run more
      stop_room : (r : ℕ) → r < (bicycle net).runs → at best r < unlabelled → at best r + county_feet < unlabelled
      stop_room r l h =
          let w = loose (graph_of (bicycle net) t from) in
          let F = fair all_runs in
          omega (arith, label_bound w (at best) (at previous) (fair_paved w F) whole_stop.stop.whence county_feet F.short r l h, F.room)

      -- the run before has no greater label
      before_less : (r : ℕ) → r < (bicycle net).runs → at best r < unlabelled → at previous r < (bicycle net).runs
          → at best (at previous r) ≤ at best r
      before_less r l h i =
          let w = loose (graph_of (bicycle net) t from) in
          ⊎_elim
          (λ (s : First w (at best) (at previous) r). absurd (omega (arith, s.alone, (fair all_runs).small)))
          (λ (s : Next w (at best) (at previous) r (at previous r)). omega (arith, s.exact))
          (whole_stop.stop.whence r l h)

      -- each label is at least the length of a route to the node where its run arrives
      stop_attained : 1 ≤ t → Attained (bicycle net) t from (at best)
      stop_attained one =
          let g = bicycle net in
          let w = graph_of g t from in
          record {
            some = λ r l h.
                ⊎_elim
                (λ (s : IsSound w best previous r). sound_attained g t from (at best) (at previous) paved s.0 r l s.1)
                (λ (s : Turned w (turns_back net) best previous r (at previous r)).
                turned_attained g t from (at best) (at previous) paved one (joined_meets net) s.sound.0 (at previous r) r s.sound.1
                (way_back_ends (at previous r) r s.inside l s.goes_back) (before_less r l h s.inside))
                (whole_stop.labels r l h);
          }

      -- so the lengths that the code reads are the distances
      pub stop_distances : {farthest : ℕ} → 1 ≤ t → farthest ≤ label_in m → farthest < unlabelled
          → Distances (bicycle net) (nodes_of net) t from farthest (length_to index best from)
      stop_distances {farthest} one low small =
          arrivals_distances (bicycle net) (nodes_of net) t from farthest (at best) (length_to index best from) (label_in m) one paved
          whole_stop.stop.follows (stop_attained one) low small (length_start index best from)
          (λ b l apart. rw (length_elsewhere index best from b apart) (least_arrival_lem Y best b l))

-- ---- questions
-- a node is marked just where its byte is not 0
module _ (marks : List ℕ) (v : ℕ) where
  pub marked : (at marks v ≡ 0 → ⊥) → is_marked marks v ≡ true
  unfolding is_marked
  marked e = ap not (ne_eqb (at marks v) 0 e)

  pub not_marked : at marks v ≡ 0 → is_marked marks v ≡ false
  unfolding is_marked
  not_marked e = ap not (eq-eqb (at marks v) 0 e)

-- the key that an exploration tells: that of the run that it met, or the one at which it stopped
abbrev pub key_told : Result Met ℕ → ℕ
key_told (Ok met) = met.key
key_told (Err key) = key

-- an exploration at one tolerance has stopped at it: where it met a goal, and in each case at the key that is told
pub stop_met : {ask : Ask} {goals best previous : List ℕ} {met : Met} → ask.least ≡ ask.tolerance
    → MetAt ask goals best previous met → StopsAt ask ask.tolerance goals best previous met.key
stop_met {ask = ask} {met = met} one M =
    let e : met.tolerance ≡ ask.tolerance = omega (arith, M.low, M.high) in
    rw e at M.stop

pub stop_asked : (ask : Ask) (goals best previous : List ℕ) (told : Result Met ℕ) → ask.least ≡ ask.tolerance
    → Meets ask goals best previous told → StopsAt ask ask.tolerance goals best previous (key_told told)
stop_asked ask goals best previous (Ok met) one M = stop_met one M
stop_asked ask goals best previous (Err key) one M = M.0.1

-- ---- the map
pub clamped_small : (greatest : ℕ) → clamped greatest < unlabelled
clamped_small greatest = omega arith

pub unmarked_node : {nodes : ℕ} {goals : List ℕ} → Unknown nodes goals → (v : ℕ) → v < nodes → is_marked goals v ≡ false
unmarked_node {goals = goals} U v l = not_marked goals v (U.none v l)

-- what is right below a bound is right below a lesser one
follows_less : {w : Graph} {best : ℕ → ℕ} {bound less : ℕ} → less ≤ bound → Follows w best bound → Follows w best less
follows_less l L = record { sources = L.sources; edges = λ p r i h b. L.edges p r i h (omega arith) }

module _ {net index : List ℕ} {runs from : ℕ} (Y : Ready net index runs from) (t : ℕ) (one : 1 ≤ t) where
  -- with no goal a search stops at its limit
  stops_at_limit : {goals best previous : List ℕ} {limit m : ℕ} → Unknown (nodes_of net) goals → limit ≤ top
      → Explored (run_graph net runs t from) (turns_back net) (goal_at net goals) best previous limit m → limit ≤ m
  unfolding goal_at
  stops_at_limit {limit = limit} {m} U small S =
      ⊎_elim
      (λ (h : m < limit).
      let R = run_of Y.counted (S.stop.whose (omega arith)).inside in
      absurd (true≢false (sym (S.stop.goal_met h) ∙ unmarked_node U (finish net (run_in m)) (finish_below R))))
      (λ (h : limit ≤ m). h)
      (lt_or_ge m limit)

  -- what the code lists is the map: a length that is clamped is above every label, so that nothing is left out
  stop_map : (greatest : ℕ) {goal : ℕ → Bool} {best previous : List ℕ} {limit m : ℕ} → clamped greatest ≤ label_in m
      → Explored (run_graph net runs t from) (turns_back net) goal best previous limit m
      → ReachMap (bicycle net) (nodes_of net) t from greatest
      (entries_of (length_to index best from) (clamped greatest) 0 (nodes_of net))
  stop_map greatest {best = best} low S =
      let g = bicycle net in
      let es = entries_of (length_to index best from) (clamped greatest) 0 (nodes_of net) in
      let M = distances_map (stop_distances Y t S one low (clamped_small greatest)) in
      ⊎_elim
      (λ (h : greatest < unlabelled). let e : clamped greatest ≡ greatest = omega arith in subst (λ (f : ℕ). ReachMap g (nodes_of net) t from f es) e M)
      (λ (h : unlabelled ≤ greatest).
      map_clamped (omega arith)
      (some_short g t from (at best) (clamped greatest) (follows_less low (whole_stop Y t S).stop.follows) one (stop_attained Y t S one)
      (λ r l k. omega (arith, stop_room Y t S r l k, h)))
      M)
      (lt_or_ge greatest unlabelled)

  pub map_from_stop : {goals best previous before after : List ℕ} {greatest farthest limit m count : ℕ} → Unknown (nodes_of net) goals
      → farthest ≡ clamped greatest → limit ≡ label_key farthest 0
      → Explored (run_graph net runs t from) (turns_back net) (goal_at net goals) best previous limit m
      → NodesListed index best from farthest (nodes_of net) before after count
      → MapWritten (bicycle net) (nodes_of net) t from greatest before after count
  map_from_stop {best = best} {before = before} {greatest = greatest} {farthest} {limit} {m} {count} U far end S N =
      let es = entries_of (length_to index best from) farthest 0 (nodes_of net) in
      let small = clamped_small greatest in
      let low : clamped greatest ≤ label_in m = omega (arith, stops_at_limit U (omega arith) S) in
      let told : 0 + length (numbers es) ≡ 2 * count = omega (arith, numbers_length es, N.counted) in
      record {
        entries = es;
        map = rw far (stop_map greatest low S);
        counted = sym N.counted;
        text = N.text ∙ ap (λ (k : ℕ). numbers es ++ drop k before) told;
      }

-- ---- the nearest
-- a node is near where it is marked and no farther than the length
module _ (index best : List ℕ) (from : ℕ) (marks : List ℕ) (feet node : ℕ) where
  is_near : is_marked marks node ≡ true → length_to index best from node ≤ feet → is_far index best from marks feet node ≡ false
  unfolding is_far
  is_near m h = simp (m, le-ltb feet (length_to index best from node) h)

  near_is : is_far index best from marks feet node ≡ false → (is_marked marks node ≡ true) × (length_to index best from node ≤ feet)
  unfolding is_far
  near_is e =
      let s = false_or (not (is_marked marks node)) (ltb feet (length_to index best from node)) e in
      (not-false (is_marked marks node) s.0, ltb-false feet (length_to index best from node) s.1)

  far_is : is_far index best from marks feet node ≡ true → is_marked marks node ≡ true → feet < length_to index best from node
  far_is e m =
      ⊎_elim
      (λ (h : feet < length_to index best from node). h)
      (λ (h : length_to index best from node ≤ feet). absurd (true≢false (sym e ∙ is_near m h)))
      (lt_or_ge feet (length_to index best from node))

-- a marked start is its own nearest
pub start_near : {net index : List ℕ} {runs from t : ℕ} {marks : List ℕ} → Ready net index runs from → 1 ≤ t → is_marked marks from ≡ true
    → NearFound (bicycle net) (nodes_of net) t from marks (record { node = from; length = 0 })
start_near {from = from} {t} Y one m =
    record { nearest = start_nearest one (paved Y t) Y.from_node m; small = omega arith }

-- every node may be asked
pub all_markable : {ask : Ask} {marks best : List ℕ} → Marks ask marks → ask.runs ≤ length best
    → AllMarkable (index_in ask) best marks (nodes_of (network_in ask))
all_markable {ask} K fits node l = record { looked = looked_at (ready ask) fits node l; marked = omega (arith, K.fits) }

module _ {net index : List ℕ} {runs from : ℕ} (Y : Ready net index runs from) (t : ℕ) (marks : List ℕ) (off : is_marked marks from ≡ false)
    {best previous : List ℕ} {limit m : ℕ} (S : Explored (run_graph net runs t from) (turns_back net) (goal_at net marks) best previous limit m) where
  apart_marked : (b : ℕ) → is_marked marks b ≡ true → from ≡ b → ⊥
  apart_marked b h e = true≢false (sym h ∙ ap (is_marked marks) (sym e) ∙ off)

  -- no route to a marked node is shorter than the label where the search stopped
  marked_far : (b : ℕ) → is_marked marks b ≡ true → Far (bicycle net) t from b (label_in m)
  unfolding goal_at
  marked_far b h =
      let W = whole_stop Y t S in
      far_below (bicycle net) t from b (at best) (label_in m) W.stop.follows (apart_marked b h)
      (λ q i l k e. W.stop.none q i (omega (arith, (fair (all_runs Y)).small)) (ap (is_marked marks) e ∙ h))

  -- where the search came to its end, there is none
  pub stop_none_marked : top ≤ m → NoneMarked (bicycle net) (nodes_of net) t from marks
  stop_none_marked l b i h = (marked_far b h).none (omega arith)

  module _ (l : m < top) where
    -- the run that was met arrives at a marked node, no farther than its label: some node is near
    pub stop_some_near : limit ≡ top → (v : ℕ) × (v < nodes_of net) × (is_far index best from marks (label_in m) v ≡ false)
    unfolding goal_at
    stop_some_near whole =
        let met = S.stop.whose l in
        let v = finish net (run_in m) in
        let inside = finish_below (run_of Y.counted met.inside) in
        let goal : is_marked marks v ≡ true = S.stop.goal_met (omega arith) in
        let low = (least_arrival_lem Y best v inside).least (run_in m) (omega (arith, Y.counted.count, met.inside)) refl in
        let near =
        is_near index best from marks (label_in m) v goal
        (omega (arith, length_elsewhere index best from v (apart_marked v goal), low, met.exact)) in
        (v, inside, near)

    -- the first marked node that is no farther is the nearest
    pub stop_near : {node : ℕ} → 1 ≤ t → FirstNear index best from marks (label_in m) (nodes_of net) node
        → NearFound (bicycle net) (nodes_of net) t from marks (record { node = node; length = label_in m })
    stop_near {node} one N =
        let s = near_is index best from marks (label_in m) node N.near in
        let small : label_in m < unlabelled = omega arith in
        record {
          nearest =
              first_nearest (stop_distances Y t S one (omega arith) small) node N.inside s.0 s.1
              (λ b i h. far_is index best from marks (label_in m) b (N.lower b i) h)
              (λ b rs i h w. (marked_far b h).long rs w);
          small = small;
        }
