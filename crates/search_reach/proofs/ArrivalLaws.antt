-- The length that the code reads. A run arrives at a node just where its opposite leaves by the leg of the arrival, and the index of runs has that one at
-- one of the node's eight entries. So the labels behind the entries are those of the runs that arrive, and the least of them is the least arrival; an
-- entry without a run stands for no label.
-- Assumes nothing.
use mathlib.Core.Path.{◌≡◌, sym, ◌∙◌}
use mathlib.Core.List.{List}
use mathlib.Core.Logic.{⊎_elim}
use Prim.Native.Nat.{ℕ, zero, suc, ◌+◌, ◌*◌, ◌≤◌, ◌<◌}
use lib.ListN.{length}
use native.Mathlib.Numerals.{add-one}
use native.Mathlib.Omega.{arith}
use Rattle.lists.specs.Lists.{at}
use Rattle.lists.proofs.Facts.{lt_or_ge, last_or_below}
use Rattle.routes.specs.Steps.Labels.{unlabelled}
use Rattle.routes.specs.Steps.Reach.{LeastArrival}
use Rattle.network.specs.Network.{nodes_of}
use Rattle.network.specs.Steps.Corners.{IndexOf}
use Rattle.streets.specs.Runs.{runs_of, finish}
use Rattle.streets.specs.Bicycle.{bicycle}
use Rattle.streets.specs.Steps.Places.{RunOf}
use Rattle.streets.specs.Steps.Leaving.{opposite, Entry}
use Rattle.streets.proofs.LeavingLaws.{entry_leaves, leaving_entry, opposed}
use Rattle.search_relaxing.specs.declared.Ask.{Ask}
use Rattle.search_relaxing.specs.Steps.Counted.{Counted, network_in, index_in}
use Rattle.search_relaxing.proofs.CountedLaws.{ask_counted}
use Rattle.search_reach.specs.Steps.Arrivals.{label_behind, least_behind, least_arrival, LookedAt}

-- ---- what is searched
-- A network that Read could keep, its runs counted; an index of its runs; a node of it to begin at. The laws hold of any such, asked or not.
pub record Ready (net index : List ℕ) (runs from : ℕ) : Type 0 where
  pub counted : Counted net runs
  pub indexed : IndexOf net index
  pub from_node : from < nodes_of net

-- what a question holds is such
pub ready : (ask : Ask) → Ready (network_in ask) (index_in ask) ask.runs ask.from
ready ask = record { counted = ask_counted ask; indexed = ask.indexed; from_node = ask.from_node }

-- ---- the least of the labels
module _ (index best : List ℕ) (place : ℕ) where
  least_low : (k leg : ℕ) → leg < k → least_behind index best place k ≤ label_behind best (at index (place + leg))
  unfolding least_behind
  least_low zero leg l = absurd (omega arith)
  least_low (suc k) leg l =
      ⊎_elim (λ (e : leg ≡ k). rw e (omega arith)) (λ (h : leg < k). omega (arith, least_low k leg h)) (last_or_below l)

  least_some : (k : ℕ) → least_behind index best place k < unlabelled
      → (leg : ℕ) × (leg < k) × (label_behind best (at index (place + leg)) ≡ least_behind index best place k)
  unfolding least_behind
  least_some zero h = absurd (omega arith)
  least_some (suc k) h =
      ⊎_elim
      (λ (l : label_behind best (at index (place + k)) < least_behind index best place k). (k, omega arith, omega arith))
      (λ (l : least_behind index best place k ≤ label_behind best (at index (place + k))).
      let w = least_some k (omega arith) in
      (w.0, omega (arith, w.1), omega (arith, w.2)))
      (lt_or_ge (label_behind best (at index (place + k))) (least_behind index best place k))

-- ---- the labels of the runs that arrive
-- behind the run that leaves by a leg stands the label of the one that arrives by it
label_of : (best : List ℕ) {entry : ℕ} (q : ℕ) → entry ≡ opposite q + 1 → label_behind best entry ≡ at best q
unfolding label_behind
label_of best q e =
    let twice : opposite (opposite q) ≡ q = omega arith in
    rw (e, add-one (opposite q), twice)

-- and where there is a label, there is such a run
label_whose : (net best : List ℕ) {node leg near : ℕ} (entry : ℕ) → Entry net node leg entry → label_behind best entry ≡ near → near < unlabelled
    → (r : ℕ) × (r < runs_of net) × (finish net r ≡ node) × (at best r ≡ near)
unfolding label_behind
label_whose net best zero E e h = absurd (omega arith)
label_whose net best (suc r) E e h =
    let L = E.leaving r (sym (add-one r)) in
    (opposite r, omega (arith, L.inside), (opposed net r).ends ∙ L.from, e)

module _ {net index : List ℕ} {runs from : ℕ} (Y : Ready net index runs from) where
  -- every node has its eight entries, and the runs that arrive by them their labels
  pub looked_at : {best : List ℕ} → runs ≤ length best → (node : ℕ) → node < nodes_of net → LookedAt index best node
  looked_at fits node l =
      record {
        room = omega (arith, Y.indexed.room);
        each = λ leg low.
            record {
              behind = λ r e.
                  omega (arith, ((entry_leaves net Y.counted.network Y.indexed l low).leaving r e).inside, Y.counted.count);
            };
      }

  -- what the code reads is the least arrival
  pub least_arrival_lem : (best : List ℕ) (node : ℕ) → node < nodes_of net → LeastArrival (bicycle net) (at best) node (least_arrival index best node)
  least_arrival_lem best node l =
      let is = Y.counted.network in
      record {
        least = λ q i e.
            let there : RunOf net (opposite q) = record { network = is; inside = omega arith } in
            let s = leaving_entry net is Y.indexed there node ((opposed net q).starts ∙ e) in
            omega (arith, least_low index best (node * 8) 8 s.0 s.1, label_of best q s.2);
        whose = λ h.
            let s = least_some index best (node * 8) 8 h in
            label_whose net best (at index (node * 8 + s.0)) (entry_leaves net is Y.indexed l s.1) s.2 h;
      }
