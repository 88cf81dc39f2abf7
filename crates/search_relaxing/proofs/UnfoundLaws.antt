-- What is still to find at a node. Labels are never taken away, so what is said of a node stays true. A run from which every movement is within the
-- tolerance leads on by an edge to every usable run of the node, but for the one by the leg of its own arrival: after it only that leg may be to find, and
-- after it where one other leg was to find, nothing. Where nothing is to find every edge from an arriving run leads to a labelled run: the run is spent. So
-- is the run back where nothing is to find at the node that the first run came from: labelling it too leaves nothing to find here. At the start nothing is
-- to find from the first, since its usable runs are the sources. At a goal, another node, nothing is ever noted, since a run that arrives there is not
-- settled: no goal is spent.
-- Assumes nothing.
use mathlib.Core.Path.{◌≡◌, refl, sym}
use mathlib.Core.Bool.{Bool, true, false}
use mathlib.Core.List.{List}
use mathlib.Core.Logic.{◌⊎◌}
use Rattle.std.specs.Prelude.{Some}
use Rattle.std.proofs.lemmas.Bool.Decides.{nat_tests}
use Rattle.std.proofs.lemmas.Grind.{common_steps}
use Prim.Native.Nat.{ℕ, ◌+◌, ◌*◌, ◌≤◌, ◌<◌}
use native.Mathlib.Omega.{arith}
use lib.ListN.{set, replicate, length-set}
use Rattle.lists.specs.Lists.{at}
use Rattle.routes.specs.Reach.{is_marked}
use Rattle.routes.specs.Steps.Labels.{unlabelled, source_of, edge_of}
use Rattle.frames.specs.Steps.Sizes.{county_feet}
use Rattle.network.specs.Network.{nodes_of}
use Rattle.network.specs.Steps.Corners.{run_leaving}
use Rattle.streets.specs.Runs.{start, finish, leaving_leg, feet_of, joins}
use Rattle.streets.specs.Bicycle.{bicycle, movement_level}
use Rattle.streets.proofs.LeavingLaws.{start_below, finish_below, leaving_below, back_ends}
use Rattle.search_labels.specs.Steps.Begin.{first_label, Begun}
use Rattle.search_labels.specs.Steps.Relax.{Offer, Relaxed, barred, free, kept, labelled, leads}
use Rattle.search_labels.specs.Steps.Search.{Spent, WayBack, Settling}
use Rattle.search_labels.proofs.Queueing.{settling_spent, settling_without}
use Rattle.search_relaxing.specs.declared.Ask.{Ask}
use Rattle.search_relaxing.specs.declared.relax.Reached.{Reached}
use Rattle.search_relaxing.specs.Steps.Counted.{goal_at, Counted, index_in, run_graph, usable}
use Rattle.search_relaxing.specs.Steps.Unfound.{nothing, Unknown, Unfound, spent_of, Unnoted, Noted, to_each, turns_back, leads_of, Spread}
use Rattle.search_relaxing.specs.Steps.Choice.{Rest, Reaches}
use Rattle.search_relaxing.proofs.CountedLaws.{run_of, fair, told, Arriving, arriving}
use Rattle.search_relaxing.proofs.TestLaws.{back_behind, back_offer}

-- a run that arrives where nothing is to find
pub spent_at : (net unfound : List ℕ) (r : ℕ) {node : ℕ} → node ≡ finish net r → nothing ≤ at unfound node → spent_of net unfound r ≡ true
unfolding spent_of
spent_at net unfound r e h = grind (arith, nat_tests)

-- where the run that is settled arrives at no goal, still nothing is noted of one
pub noted_elsewhere : {net : List ℕ} {t n u : ℕ} {best unfound unfound' : List ℕ} → Noted net t n u best unfound unfound' → (goals : List ℕ)
    → goal_at net goals u ≡ false → Unnoted net goals unfound → Unnoted net goals unfound'
unfolding goal_at
noted_elsewhere N goals away U v l m = grind arith

-- zeros say nothing of any node
pub zeros_unknown : (most n : ℕ) → n ≤ most → Unknown n (replicate most 0)
zeros_unknown most n l = grind (arith, common_steps)

-- and at first, where nothing is noted but at the start, of any goal
pub unfound_apart : (net goals : List ℕ) (from : ℕ) {unfound : List ℕ} → Unknown (nodes_of net) unfound → is_marked goals from ≡ false
    → Unnoted net goals (set unfound from nothing)
unfound_apart net goals from U apart v l m = grind (arith, common_steps)

-- what is relaxed is every edge, and beside them only a way back
module _ {net : List ℕ} {t n u base : ℕ} {best previous unfound best' previous' tree' unfound' : List ℕ}
    (S : Spread net t n u base best previous unfound best' previous' tree' unfound') where
  pub spread_all : (r : ℕ) → r < n → edge_of (bicycle net) t u r ≡ true → leads_of net t S.back u r ≡ true
  spread_all r l e = grind arith

  pub spread_only : (r : ℕ) → r < n → leads_of net t S.back u r ≡ true
      → (edge_of (bicycle net) t u r ≡ true) ⊎ WayBack (turns_back net) (spent_of net unfound) (spent_of net unfound') u r
  spread_only r l e = grind arith

module _ {net : List ℕ} {n : ℕ} (T : Counted net n) where
  -- at first every usable run that leaves the start has its label, and nothing is to find there
  pub unfound_begun : (t from : ℕ) {best previous unfound : List ℕ} → Unknown (nodes_of net) unfound → Begun (run_graph net n t from) best previous
      → Unfound net t n best (set unfound from nothing)
  unfolding first_label usable source_of
  unfound_begun t from U B =
      record {
        long = simp length-set U.long;
        labelled = λ r l s said other. grind (arith, nat_tests, common_steps, start_below (run_of T l), (fair T).short r l);
      }

  -- where nothing is to find, every edge leads to a labelled run
  pub spent_closed : {t : ℕ} {best unfound : List ℕ} → Unfound net t n best unfound → (p r : ℕ) → nothing ≤ at unfound (finish net p) → r < n
      → edge_of (bicycle net) t p r ≡ true → at best r < unlabelled
  unfolding edge_of usable joins
  spent_closed L p r s l e = grind (arith, nat_tests, leaving_below (run_of T l))

  -- what the theory of the search asks of spent runs
  pub unfound_spent : {t : ℕ} {best unfound : List ℕ} (from : ℕ) (goals : List ℕ) → Unfound net t n best unfound → Unnoted net goals unfound
      → Spent (run_graph net n t from) (goal_at net goals) (spent_of net unfound) best
  unfolding spent_of goal_at
  unfound_spent from goals L U =
      record {
        closed = λ p r l s l' e. grind (arith, nat_tests, spent_closed L p r);
        aside = λ r l s. grind (arith, nat_tests, finish_below (run_of T l));
      }

-- ---- the way back
module _ {net index : List ℕ} {n u node leg : ℕ} (H : Arriving net index n u node leg) (unfound : List ℕ) (none : nothing ≤ at unfound (start net u)) where
  -- it ends where u began: where nothing is to find there, it is spent
  back_spent : (r : ℕ) → r < n → turns_back net u r ≡ true → spent_of net unfound r ≡ true
  unfolding turns_back spent_of
  back_spent r l e = grind (arith, nat_tests, back_ends net H.counted.network H.indexed (run_of H.counted H.inside) (run_of H.counted l))

  -- so it may be labelled after the edges, and stays out of the queue
  pub back_out : {base : ℕ} {best previous tree best' previous' : List ℕ} → Settling n county_feet u base (spent_of net unfound) best previous tree
      → Offer to_each (feet_of net) u base (at index (node * 8 + leg)) best previous best' previous'
      → Settling n county_feet u base (spent_of net unfound) best' previous' tree
  back_out S (free z e e') = rw (e, e') S
  back_out S (leads (kept h e e') x) = rw (e, e') S
  back_out S (leads (barred h e e') x) = rw (e, e') S
  back_out S (leads {r} (labelled h s e e') x) =
      let l = back_behind H r x in
      rw (e, e') (settling_without (fair H.counted) S l refl h (back_spent r l (sym (back_offer H r x))))

-- it is one of the runs
pub back_inside : (ask : Ask) (here : Reached) (back : ℕ) → Reaches ask here → Some back ≡ run_leaving (at (index_in ask) (here.node * 8 + here.leg))
    → back < ask.runs
back_inside ask here back R some = back_behind (arriving R) back (told some)

-- ---- after the edges from u are relaxed, and the way back where it was to be
module _ {net index : List ℕ} {n u node leg t base : ℕ} {back : Bool} {rest : ℕ} {best previous unfound best' previous' tree' : List ℕ}
    (H : Arriving net index n u node leg) (A : Rest net t u node leg unfound back rest) (L : Unfound net t n best unfound)
    (R : Relaxed (leads_of net t back) (feet_of net) n u base best previous best' previous')
    (S : Settling n county_feet u base (spent_of net unfound) best' previous' tree') where
  -- more is said of the node where something was to find: no run is spent less
  grows : (r : ℕ) → r < n → spent_of net unfound r ≡ true → spent_of net (set unfound node rest) r ≡ true
  unfolding spent_of
  grows r l s = grind (arith, nat_tests, common_steps)

  -- and a usable run of the node has its label unless the note says that it may be to find
  labelled_here : (r : ℕ) → r < n → usable (bicycle net) t r ≡ true → start net r ≡ node → (rest ≡ 0 → ⊥) → (rest ≡ leaving_leg net r + 1 → ⊥)
      → at best' r < unlabelled
  unfolding edge_of usable joins movement_level turns_back
  labelled_here r l s from said other = grind (arith, nat_tests, (fair H.counted).short r l)

  pub spread : Spread net t n u base best previous unfound best' previous' tree' (set unfound node rest)
  unfolding spent_of
  spread =
      record {
        back = back;
        only = λ r l b e. grind (arith, nat_tests, back_spent H unfound, grows r l);
        relaxed = R;
        settling = settling_spent grows S;
        noted =
            record {
              right =
                  record {
                    long = simp length-set L.long;
                    labelled = λ r l s said other. grind (arith, common_steps, labelled_here r l s);
                  };
              elsewhere = λ v e. grind (arith, common_steps);
              grows = grows;
            };
      }
