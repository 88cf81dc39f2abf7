-- One goal: a byte that is not 0 at one node, among zeros. A run arrives at a goal exactly when it arrives at that node, so a search for goals is the search
-- for the node: the run that it met is the last of a shortest route, and where it met none there is no route.
-- Assumes nothing.
use mathlib.Core.Path.{◌≡◌, refl, sym, ◌∙◌, ap, subst}
use mathlib.Core.Bool.{false, not}
use mathlib.Core.List.{List, []}
use mathlib.Core.Logic.{⊎_elim}
use Prim.Native.Nat.{ℕ, ◌-◌, ◌≤◌, ◌<◌}
use native.Mathlib.Omega.{arith}
use lib.ListN.{length, set, length-set}
use lib.Seq.{get_or-set_same, get_or-set_other}
use borrow.Author.Tests.{eq-eqb, ne_eqb}
use Rattle.lists.specs.Lists.{at}
use Rattle.lists.specs.Placed.{placed}
use Rattle.lists.proofs.Facts.{eq_or_ne}
use Rattle.routes.specs.Streets.{Streets}
use Rattle.routes.specs.Reach.{is_marked}
use Rattle.routes.specs.Routes.{level_of, NoRoute}
use Rattle.routes.specs.Steps.Labels.{graph_of, chain}
use Rattle.queue.specs.Steps.Queue.{top}
use Rattle.frames.specs.Steps.Sizes.{county_feet}
use Rattle.network.specs.Network.{nodes_of}
use Rattle.streets.specs.Runs.{runs_of, finish, feet_of}
use Rattle.streets.specs.Bicycle.{bicycle}
use Rattle.streets.proofs.LeavingLaws.{finish_below}
use Rattle.search_labels.specs.Steps.Search.{Fair, Stop}
use Rattle.search_labels.specs.Steps.Keys.{label_in, run_in}
use Rattle.search_relaxing.specs.declared.Ask.{Ask}
use Rattle.search_relaxing.specs.Steps.Counted.{Counted, network_in, run_graph, goal_at}
use Rattle.search_relaxing.specs.Steps.Unfound.{Unknown}
use Rattle.search_relaxing.proofs.CountedLaws.{counted, fair, run_of, ask_counted}
use Rattle.search_rounds.specs.declared.explore.Met.{Met}
use Rattle.search_rounds.specs.Steps.Searches.{Sought, StopsAt, MetAt}
use Rattle.search_routes.specs.Steps.Trace.{Traced, Ends}
use Rattle.search_routes.specs.Steps.Answered.{Question, Unmarked, arrives_at, FirstFound}
use Rattle.search_routes.proofs.Stopping.{stop_ends, stop_none, stop_written}

module _ (net : List ℕ) {goals : List ℕ} (U : Unknown (nodes_of net) goals) {to : ℕ} (inside : to < nodes_of net) where
  pub goals_long : nodes_of net ≤ length (set goals to 1)
  goals_long = simp length-set U.long

  -- another node is none
  pub other_node : (v : ℕ) → v < nodes_of net → (v ≡ to → ⊥) → is_marked (set goals to 1) v ≡ false
  unfolding is_marked
  other_node v l e = ap not (eq-eqb (at (set goals to 1) v) 0 (get_or-set_other goals to v 1 0 e ∙ U.none v l))

  one_goal : (r : ℕ) → finish net r < nodes_of net → goal_at net (set goals to 1) r ≡ arrives_at (bicycle net) to r
  unfolding goal_at is_marked arrives_at
  one_goal r l =
      ⊎_elim
      (λ (e : finish net r ≡ to).
      let one : at (set goals to 1) (finish net r) ≡ 1 = ap (at (set goals to 1)) e ∙ get_or-set_same goals to 1 0 (omega (arith, U.long, inside)) in
      ap not (ne_eqb (at (set goals to 1) (finish net r)) 0 (λ (z : at (set goals to 1) (finish net r) ≡ 0). omega (arith, one)))
      ∙ sym (eq-eqb (finish net r) to e))
      (λ (e : finish net r ≡ to → ⊥). other_node (finish net r) l e ∙ sym (ne_eqb (finish net r) to e))
      (eq_or_ne (finish net r) to)

  -- the search for the goal has stopped as a search for the node, over all runs of the network
  pub stop_at_node : (t a : ℕ) {n limit m : ℕ} {best previous : List ℕ} → Counted net n → limit ≡ top
      → Stop (run_graph net n t a) (goal_at net (set goals to 1)) best previous limit m
      → Stop (graph_of (bicycle net) t a) (arrives_at (bicycle net) to) best previous top m
  stop_at_node t a {n} {limit} {m} {best} {previous} T whole S =
      subst
      (λ (size : ℕ). Stop (run_graph net size t a) (arrives_at (bicycle net) to) best previous top m)
      T.count
      (record {
        follows = S.follows;
        whence = S.whence;
        bounded = S.bounded;
        none = λ r l h e. S.none r l h (met r l ∙ e);
        whose = S.whose;
        goal_met = λ k. sym (met (run_in m) (S.whose k).inside) ∙ S.goal_met (omega (arith, whole));
        sound = λ k. S.sound (omega (arith, whole));
      })
    where
      met : (r : ℕ) → r < n → goal_at net (set goals to 1) r ≡ arrives_at (bicycle net) to r
      met r l = one_goal r (finish_below (run_of T l))

module _ {ask : Ask} {to : ℕ} (Q : Question ask to) {goals : List ℕ} (U : Unmarked ask goals) where
  abbrev net : List ℕ
  net = network_in ask

  abbrev g : Streets
  g = bicycle net

  pub sought : (ask.from ≡ to → ⊥) → Sought ask (set goals to 1)
  sought apart =
      record {
        marks = goals_long net U Q.to_node;
        apart = other_node net U Q.to_node ask.from ask.from_node apart;
        limited = omega (arith, Q.whole);
      }

  node_stop : (t : ℕ) {m : ℕ} {best previous : List ℕ} → StopsAt ask t (set goals to 1) best previous m
      → Stop (graph_of g t ask.from) (arrives_at g to) best previous top m
  node_stop t E = stop_at_node net U Q.to_node t ask.from (ask_counted ask) Q.whole E.stop

  all_fair : Fair (runs_of net) (feet_of net) county_feet
  all_fair = fair (counted ask.streets.net.kept refl)

  -- a search that met nothing
  pub none_there : (t : ℕ) {m : ℕ} {best previous : List ℕ} → (ask.from ≡ to → ⊥) → ask.limit ≤ m
      → StopsAt ask t (set goals to 1) best previous m → NoRoute g t ask.from to
  none_there t apart beyond E = stop_none g t ask.from to all_fair (node_stop t E) apart (omega (arith, Q.whole))

  -- one that met the run with this key
  module _ {best previous : List ℕ} {met : Met} (M : MetAt ask (set goals to 1) best previous met) where
    low_key : met.key < top
    low_key = omega (arith, M.below_limit, Q.whole)

    -- its chain ends
    pub met_ends : Ends ask.runs (at previous) (run_in met.key)
    met_ends = rw ask.counted (stop_ends g met.tolerance ask.from to all_fair (node_stop met.tolerance M.stop) low_key)

    -- and where it is written, it is the answer
    pub first_found : {place count level : ℕ} {before after : List ℕ} → (ask.from ≡ to → ⊥)
        → Traced ask.runs (at previous) (run_in met.key) count
        → after ≡ placed place (chain (at previous) count (run_in met.key) []) before
        → level ≡ level_of g (chain (at previous) count (run_in met.key) [])
        → FirstFound g ask.least ask.tolerance ask.from to place before after
        (record { count = count; length = label_in met.key; level = level }) met.tolerance
    first_found apart T text level =
        record {
          low = M.low;
          high = M.high;
          none_below = λ h. let N = M.none_below h in none_there (met.tolerance - 1) apart N.beyond N.stop;
          written = stop_written g met.tolerance ask.from to all_fair (node_stop met.tolerance M.stop) apart low_key (rw ask.counted at T) text level;
        }
