-- From the stop to the answer. At the stop no run that arrives at b has a key below m. So where m is a key, its run arrives at b and is the nearest one
-- that does, exactly m's label away, and the certificate below that label makes its chain a shortest route. Where m is `top`, every label is below the
-- bound and none arrives at b: there is no route.
-- Assumes nothing.
use mathlib.Core.Path.{◌≡◌, refl, sym, ◌∙◌}
use mathlib.Core.List.{List, []}
use mathlib.Core.Logic.{⊎_elim}
use Prim.Native.Nat.{ℕ, ◌≤◌, ◌<◌}
use native.Mathlib.Omega.{arith}
use borrow.Author.Tests.{eq-eqb, eqb-true}
use Rattle.routes.specs.Streets.{Streets}
use Rattle.routes.specs.Routes.{length_of, level_of, Shortest, NoRoute}
use Rattle.routes.specs.Steps.Labels.{graph_of, chain}
use Rattle.lists.proofs.Facts.{lt_or_ge}
use Rattle.routes.proofs.Chains.{ChainWalk, chain_count, chain_ends, chain_few, sound_walks}
use Rattle.routes.proofs.Certificate.{Nearest, stay, walk_exact, walk_within, nearest_is_least, far_below}
use Rattle.queue.specs.Steps.Queue.{top}
use Rattle.lists.specs.Lists.{at}
use Rattle.search_labels.specs.Steps.Keys.{label_in, run_in, key}
use Rattle.search_labels.specs.Steps.Search.{Fair, loose, Stop}
use Rattle.lists.specs.Placed.{placed}
use Rattle.lists.proofs.PlacedLaws.{placed_nothing}
use Rattle.search_routes.specs.Steps.Trace.{Traced, Ends}
use Rattle.search_routes.specs.Steps.Answered.{arrives_at}
use Rattle.routes.specs.Written.{Written}
use Rattle.search_labels.proofs.Invariant.{fair_paved}

module _ (g : Streets) (t a b : ℕ) {most m : ℕ} {best previous : List ℕ} (F : Fair g.runs g.feet most)
    (S : Stop (graph_of g t a) (arrives_at g b) best previous top m) where
  -- a run that arrives at b is at least as far as m's label
  arrival_far : (q : ℕ) → q < g.runs → g.finish q ≡ b → m ≤ key best q
  unfolding arrives_at
  arrival_far q l e =
      ⊎_elim
      (λ (h : key best q < m). absurd (S.none q l h (eq-eqb (g.finish q) b e)))
      (λ (h : m ≤ key best q). h)
      (lt_or_ge (key best q) m)

  pub stop_nearest : m < top → Nearest g (at best) b (run_in m)
  unfolding arrives_at
  stop_nearest l =
      let K = S.whose l in
      record {
        inside = K.inside;
        labelled = omega (arith, K.exact);
        arrives = eqb-true (g.finish (run_in m)) b (S.goal_met l);
        least = λ q i h e. omega (arith, arrival_far q i e, K.exact, F.small);
      }

  -- the chain of the run that was found ends
  pub stop_ends : m < top → Ends g.runs (at previous) (run_in m)
  stop_ends l =
      let N = stop_nearest l in
      let w = loose (graph_of g t a) in
      let P = fair_paved w F in
      let d = chain_ends w (at best) (at previous) P S.whence (run_in m) N.inside N.labelled in
      (d.0, record { depth = d.1; few = chain_few w (at best) (at previous) P S.whence d.0 (run_in m) N.inside N.labelled d.1 })

  -- and is a walk along edges
  stop_walks : (k : ℕ) → m < top → Traced g.runs (at previous) (run_in m) k → ChainWalk (graph_of g t a) (at best) (at previous) k (run_in m) []
  stop_walks k l T =
      let s = S.sound l in
      sound_walks (graph_of g t a) (at best) (at previous) (fair_paved (graph_of g t a) F) s.0 k (run_in m) [] s.1 T.depth tt

  module _ (apart : a ≡ b → ⊥) where
    pub stop_none : top ≤ m → NoRoute g t a b
    stop_none l =
        (far_below g t a b (at best) (label_in m) S.follows apart (λ q i h k e. omega (arith, arrival_far q i e, F.small))).none (omega arith)

    module _ {k : ℕ} (l : m < top) (T : Traced g.runs (at previous) (run_in m) k) where
      stop_exact : length_of g (chain (at previous) k (run_in m) []) ≡ at best (run_in m)
      stop_exact = walk_exact g t a (at best) (at previous) (stop_walks k l T)

      pub stop_shortest : Shortest g t a b (chain (at previous) k (run_in m) [])
      stop_shortest =
          let N = stop_nearest l in
          nearest_is_least g t a b (at best) (label_in m) S.follows apart (run_in m) (chain (at previous) k (run_in m) []) N
          (omega (arith, (S.whose l).exact)) (walk_within g t a b (at best) (at previous) (stop_walks k l T) N.arrives) stop_exact

      pub stop_length : length_of g (chain (at previous) k (run_in m) []) ≡ label_in m
      stop_length = stop_exact ∙ (S.whose l).exact

      pub stop_written : {place level : ℕ} {before after : List ℕ} → after ≡ placed place (chain (at previous) k (run_in m) []) before
          → level ≡ level_of g (chain (at previous) k (run_in m) [])
          → Written g t a b place before after (record { count = k; length = label_in m; level = level })
      stop_written e j =
          record {
            runs = chain (at previous) k (run_in m) [];
            shortest = stop_shortest;
            counted = omega (arith, chain_count (at previous) k (run_in m) []);
            measured = stop_length;
            judged = sym j;
            text = e;
            few = T.few;
          }

-- from a node to itself nothing is written
pub stay_written : (g : Streets) (t a b place : ℕ) (before : List ℕ) → 1 ≤ t → a ≡ b
    → Written g t a b place before before (record { count = 0; length = 0; level = 1 })
stay_written g t a b place before l e =
    record {
      runs = [];
      shortest = rw e (stay g t b l);
      counted = refl;
      measured = refl;
      judged = refl;
      text = placed_nothing place before;
      few = omega arith;
    }
