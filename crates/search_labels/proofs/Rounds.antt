-- The rounds in sequence. Before each round the record `Search` holds at the next key m; a round that settles a run which is no goal leads to the same
-- at the key after it, with one run fewer to settle. The search stops when the next run is a goal, or when its key is not below the limit.
-- Assumes nothing.
use mathlib.Core.Path.{◌≡◌, sym, ◌∙◌}
use mathlib.Core.Bool.{Bool, true, false, true≢false}
use mathlib.Core.List.{List}
use mathlib.Core.Logic.{◌⊎◌, inl, inr, ⊎_elim}
use Prim.Native.Nat.{ℕ, ◌≤◌, ◌<◌}
use native.Mathlib.Omega.{arith}
use lib.ListN.{length}
use Rattle.routes.specs.Steps.Labels.{Graph, unlabelled}
use Rattle.lists.specs.Lists.{at}
use Rattle.queue.specs.Steps.Queue.{top, Front}
use Rattle.search_labels.specs.Steps.Keys.{run_in, key, IsKey}
use Rattle.search_labels.specs.Steps.Begin.{Begun}
use Rattle.search_labels.specs.Steps.Queued.{Queued}
use Rattle.search_labels.specs.Steps.Search.{Fair, IsSound, Turned, Settled, Spent, Due, Round, NoGoal, Explored}
use Rattle.search_labels.proofs.Beginning.{settled_none}
use Rattle.search_labels.proofs.Invariant.{unsettled, label_room, settled_follows, settled_skip, settled_more, settled_less, no_goal_more}
use Rattle.search_labels.proofs.Queueing.{queued_least, queued_skip}

-- the search before the run with the key m is settled
pub record Search (w : Graph) (back : ℕ → ℕ → Bool) (goal spent : ℕ → Bool) (best previous tree : List ℕ) (m : ℕ) : Type 0 where
  pub settled : Settled w back spent best previous m
  pub whose : m < top → IsKey best w.size m
  pub long : w.size ≤ length best
  pub long' : w.size ≤ length previous
  pub queued : Queued spent best tree w.size m
  pub none : NoGoal goal best w.size m

pub search_begins : {w : Graph} {back : ℕ → ℕ → Bool} {goal spent : ℕ → Bool} {best previous tree : List ℕ} {m most : ℕ} → Fair w.size w.feet most
    → Spent w goal spent best → Begun w best previous → w.size ≤ length best → w.size ≤ length previous → Queued spent best tree w.size 0 → Front tree w.size m
    → Search w back goal spent best previous tree m
search_begins {w} {back} {goal} {spent} {best} {m = m} F C B l l' Q N =
    let L = queued_least F.small Q (omega arith) N in
    record {
      settled = settled_skip (settled_none F B) F C L;
      whose = L.whose;
      long = l;
      long' = l';
      queued = queued_skip Q L N;
      none = λ r i h e.
          ⊎_elim
          (λ (j : m ≤ key best r). absurd (omega arith))
          (λ (j : spent r ≡ true). absurd (true≢false (sym e ∙ C.aside r i j)))
          (L.least r i (omega arith));
    }

module _ {w : Graph} {back : ℕ → ℕ → Bool} {goal spent : ℕ → Bool} {best previous tree : List ℕ} {m most : ℕ} (F : Fair w.size w.feet most)
    (S : Search w back goal spent best previous tree m) where
  sound_or_turned : (r : ℕ) → r < w.size → at best r < unlabelled → IsSound w best previous r ⊎ Turned w back best previous r (at previous r)
  sound_or_turned r l h =
      ⊎_elim
      (λ (s : IsSound w best previous r). inl s)
      (λ (s : (spent r ≡ true) × Turned w back best previous r (at previous r)). inr s.1)
      (S.settled.sound r l h)

  -- where a labelled run is left, the next one is due
  pub search_due : m < top → Due w.size most m spent best previous tree
  search_due l =
      let K = S.whose l in
      record {
        below = l;
        whose = K;
        room = omega (arith, label_room S.settled F (run_in m) K.inside (omega (arith, K.exact)), K.exact);
        long = S.long;
        long' = S.long';
        queued = S.queued;
      }

  -- it is a goal, and so not spent
  pub search_stops : {limit : ℕ} → Spent w goal spent best → m < top → goal (run_in m) ≡ true → Explored w back goal best previous limit m
  search_stops C l e =
      let K = S.whose l in
      record {
        stop = record {
          follows = settled_follows S.settled F;
          whence = S.settled.whence;
          bounded = S.settled.bounded;
          none = S.none;
          whose = S.whose;
          goal_met = λ k. e;
          sound = λ k.
              ⊎_elim
              (λ (s : IsSound w best previous (run_in m)). s)
              (λ (s : (spent (run_in m) ≡ true) × Turned w back best previous (run_in m) (at previous (run_in m))).
              absurd (true≢false (sym e ∙ C.aside (run_in m) K.inside s.0)))
              (S.settled.sound (run_in m) K.inside (omega (arith, K.exact)));
        };
        labels = sound_or_turned;
      }

  -- its key is not below the limit
  pub search_ends : {limit : ℕ} → limit ≤ m → Explored w back goal best previous limit m
  search_ends l =
      record {
        stop = record {
          follows = settled_follows S.settled F;
          whence = S.settled.whence;
          bounded = S.settled.bounded;
          none = S.none;
          whose = S.whose;
          goal_met = λ k. absurd (omega arith);
          sound = λ k. absurd (omega arith);
        };
        labels = sound_or_turned;
      }

  -- it is settled
  module _ {spent' : ℕ → Bool} {best' previous' tree' : List ℕ} {m' : ℕ} (l : m < top)
      (R : Round w.edge back w.feet w.size m spent spent' best previous best' previous' tree' m') where
    pub search_more : Spent w goal spent best → ((r : ℕ) → r < w.size → spent r ≡ true → spent' r ≡ true) → Spent w goal spent' best'
        → goal (run_in m) ≡ false → Search w back goal spent' best' previous' tree' m'
    search_more C₀ more C e =
        record {
          settled =
              settled_skip (settled_more F S.settled l (S.whose l) R.relaxed C₀ more R.all R.only) F C R.next;
          whose = R.next.whose;
          long = R.long;
          long' = R.long';
          queued = R.queued;
          none = no_goal_more F S.settled l (S.whose l) R.relaxed C R.next e S.none;
        }

    pub search_less : unsettled best' w.size m' < unsettled best w.size m
    search_less = settled_less F S.settled l (S.whose l) R.relaxed R.next
