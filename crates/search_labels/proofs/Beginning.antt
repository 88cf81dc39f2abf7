-- The beginning. First no run has a label. Then the eight entries of the start are taken in turn: each run is blank, or it is a source
-- with its first label and its place in the queue; and every source at an entry already passed is such. A source leaves the start, so it is at one
-- of the eight: after the last exactly the sources are labelled and queued. Nothing is settled yet, so that no edge has to be kept.
-- Assumes nothing.
use mathlib.Core.Path.{◌≡◌, refl, sym, ◌∙◌}
use mathlib.Core.Bool.{Bool, true, false, true≢false}
use mathlib.Core.List.{List}
use mathlib.Core.Logic.{◌⊎◌, inl, inr, ⊎_elim}
use Prim.Native.Nat.{ℕ, ◌+◌, ◌≤◌, ◌<◌}
use native.Mathlib.Nat.{not-suc-le-zero}
use native.Mathlib.Numerals.{add-one}
use native.Mathlib.Omega.{arith}
use lib.ListN.{length, set}
use lib.Seq.{get_or-set_same, get_or-set_other}
use Rattle.routes.specs.Steps.Labels.{Graph, unlabelled}
use Rattle.lists.proofs.Facts.{bool_cases, eq_or_ne, last_or_below}
use Rattle.queue.specs.Steps.Queue.{top, key_of, Queue, Empty}
use Rattle.lists.specs.Lists.{at}
use Rattle.search_labels.specs.Steps.Keys.{label_key}
use Rattle.search_labels.specs.Steps.Labels.{Cleared, LabelWritten}
use Rattle.search_labels.specs.Steps.Begin.{NoneEarlier, Seed, idle, first_label, Begun, first}
use Rattle.search_labels.specs.Steps.Queued.{none_spent, Queued}
use Rattle.search_labels.specs.Steps.Search.{Fair, Settled}

-- ---- the sources
-- r is a source, with its first label, no run before it, and its place in the queue
pub record Sown (w : Graph) (best previous tree : List ℕ) (r : ℕ) : Type 0 where
  pub source : w.source r ≡ true
  pub label : at best r ≡ w.feet r
  pub alone : at previous r ≡ unlabelled
  pub queued : key_of tree w.size r ≡ label_key (w.feet r) r

-- r has no label, and is not queued
abbrev pub Blank : List ℕ → List ℕ → ℕ → ℕ → Type 0
Blank best tree n r = (at best r ≡ unlabelled) × (key_of tree n r ≡ top)

-- the first i entries from the place on were taken
pub record Started (w : Graph) (exits : List ℕ) (place i : ℕ) (best previous tree : List ℕ) : Type 0 where
  pub queue : Queue tree w.size
  pub each : (r : ℕ) → r < w.size → Blank best tree w.size r ⊎ Sown w best previous tree r
  pub passed : (leg : ℕ) → leg < i → (r : ℕ) → r < w.size → at exits (place + leg) ≡ r + 1 → w.source r ≡ true → Sown w best previous tree r

pub started_none : {w : Graph} {best tree : List ℕ} → Cleared best w.size → Empty tree w.size → (previous exits : List ℕ) (place : ℕ)
    → Started w exits place 0 best previous tree
started_none C E previous exits place =
    record {
      queue = E.queue;
      each = λ r l. inl (C.none r l, E.all r l);
      passed = λ leg l. absurd (not-suc-le-zero l);
    }

module _ {w : Graph} {exits : List ℕ} {place i : ℕ} {best previous tree : List ℕ} (S : Started w exits place i best previous tree) where
  -- a run has no key in the queue, or its first one
  pub started_keys : {most : ℕ} → Fair w.size w.feet most → NoneEarlier w.feet tree w.size
  started_keys F r l =
      ⊎_elim
      (λ (s : Blank best tree w.size r). omega (arith, s.1, F.small, F.short r l, F.room))
      (λ (s : Sown w best previous tree r). omega (arith, s.queued))
      (S.each r l)

  -- the entry gives no run its label
  skips : ((r : ℕ) → at exits (place + i) ≡ r + 1 → w.source r ≡ false) → Started w exits place (i + 1) best previous tree
  skips none =
      record {
        queue = S.queue;
        each = S.each;
        passed = λ leg l r k x s.
            ⊎_elim
            (λ (h : leg ≡ i). absurd (true≢false (sym s ∙ none r (rw h at x))))
            (λ (h : leg < i). S.passed leg h r k x s)
            (last_or_below (rw add-one at l));
      }

  -- the entry gives r its label
  module _ {tree' : List ℕ} (r : ℕ) (whose : at exits (place + i) ≡ r + 1) (source : w.source r ≡ true) (inside : r < length best) (inside' : r < length previous)
      (W : LabelWritten w.size r (w.feet r) unlabelled best previous tree (set best r (w.feet r)) (set previous r unlabelled) tree') where
    own : Sown w (set best r (w.feet r)) (set previous r unlabelled) tree' r
    own =
        record {
          source = source;
          label = get_or-set_same best r (w.feet r) 0 inside;
          alone = get_or-set_same previous r unlabelled 0 inside';
          queued = W.queued.here;
        }

    stays : (q : ℕ) → q < w.size → Sown w best previous tree q → Sown w (set best r (w.feet r)) (set previous r unlabelled) tree' q
    stays q l s =
        ⊎_elim
        (λ (e : q ≡ r). rw e own)
        (λ (e : q ≡ r → ⊥).
        record {
          source = s.source;
          label = get_or-set_other best r q (w.feet r) 0 e ∙ s.label;
          alone = get_or-set_other previous r q unlabelled 0 e ∙ s.alone;
          queued = W.queued.others q l e ∙ s.queued;
        })
        (eq_or_ne q r)

    sows : Started w exits place (i + 1) (set best r (w.feet r)) (set previous r unlabelled) tree'
    sows =
        record {
          queue = W.queued.queue;
          each = λ q l.
              ⊎_elim
              (λ (s : Blank best tree w.size q).
              ⊎_elim
              (λ (e : q ≡ r). inr (rw e own))
              (λ (e : q ≡ r → ⊥). inl (get_or-set_other best r q (w.feet r) 0 e ∙ s.0, W.queued.others q l e ∙ s.1))
              (eq_or_ne q r))
              (λ (s : Sown w best previous tree q). inr (stays q l s))
              (S.each q l);
          passed = λ leg l q k x s.
              ⊎_elim
              (λ (h : leg ≡ i).
              let e : q ≡ r = omega (arith, whose, rw h at x) in
              rw e own)
              (λ (h : leg < i). stays q k (S.passed leg h q k x s))
              (last_or_below (rw add-one at l));
        }

  -- one entry more, tested by a test that is the source's of the runs that stand there
  pub started_more : {usable : ℕ → Bool} {best' previous' tree' : List ℕ}
      → ((r : ℕ) → at exits (place + i) ≡ r + 1 → (r < w.size) × (usable r ≡ w.source r))
      → w.size ≤ length best → w.size ≤ length previous
      → Seed usable w.feet w.size (at exits (place + i)) best previous tree best' previous' tree'
      → Started w exits place (i + 1) best' previous' tree'
  started_more here l l' (idle none b p t) = rw (b, p, t) (skips (λ r x. sym (here r x).1 ∙ none r x))
  started_more here l l' (first {r} W x s) =
      let h = here r x in
      rw (W.best_is, W.previous_is)
      (sows r x (sym h.1 ∙ s) (omega (arith, h.0)) (omega (arith, h.0)) (rw (W.best_is, W.previous_is) at W))

-- all eight were taken: every source stands at one of them
module _ {w : Graph} {exits : List ℕ} {place : ℕ} {best previous tree : List ℕ} (S : Started w exits place 8 best previous tree)
    (every : (r : ℕ) → r < w.size → w.source r ≡ true → (leg : ℕ) × (leg < 8) × (at exits (place + leg) ≡ r + 1)) where
  pub started_begun : Begun w best previous
  unfolding first_label
  started_begun =
      record {
        first = λ r l.
            bool_cases (w.source r)
            (λ (e : w.source r ≡ true).
            let x = every r l e in
            simp e (S.passed x.0 x.1 r l x.2 e).label)
            (λ (e : w.source r ≡ false).
            simp e
            (⊎_elim
            (λ (s : Blank best tree w.size r). s.0)
            (λ (s : Sown w best previous tree r). absurd (true≢false (sym s.source ∙ e)))
            (S.each r l)));
        alone = λ r l e.
            let x = every r l e in
            (S.passed x.0 x.1 r l x.2 e).alone;
      }

pub started_queued : {w : Graph} {exits : List ℕ} {place i : ℕ} {best previous tree : List ℕ} → Started w exits place i best previous tree
    → Queued none_spent best tree w.size 0
started_queued {w} {best = best} {previous = previous} {tree = tree} S =
    record {
      queue = S.queue;
      every = λ r l h d.
          ⊎_elim
          (λ (s : Blank best tree w.size r). absurd (omega (arith, s.0)))
          (λ (s : Sown w best previous tree r). inl (omega (arith, s.label, s.queued)))
          (S.each r l);
      only = λ r l d.
          ⊎_elim
          (λ (s : Blank best tree w.size r). absurd (omega (arith, s.1)))
          (λ (s : Sown w best previous tree r). omega (arith, s.label, s.queued))
          (S.each r l);
    }

module _ {w : Graph} {best previous : List ℕ} {most : ℕ} (F : Fair w.size w.feet most) (B : Begun w best previous) where
  source_label : (r : ℕ) → r < w.size → w.source r ≡ true → at best r ≡ w.feet r
  unfolding first_label
  source_label r l e = B.first r l ∙ simp e

  other_label : (r : ℕ) → r < w.size → w.source r ≡ false → at best r ≡ unlabelled
  unfolding first_label
  other_label r l e = B.first r l ∙ simp e

  -- the invariant before the first round
  pub settled_none : {back : ℕ → ℕ → Bool} {spent : ℕ → Bool} → Settled w back spent best previous 0
  settled_none =
      record {
        bounded = omega arith;
        sources = λ r l e. omega (arith, source_label r l e, F.short r l, F.room);
        whence = λ r l h.
            bool_cases (w.source r)
            (λ (e : w.source r ≡ true). inl (record { source = e; exact = source_label r l e; alone = B.alone r l e }))
            (λ (e : w.source r ≡ false). absurd (omega (arith, other_label r l e)));
        sound = λ r l h.
            bool_cases (w.source r)
            (λ (e : w.source r ≡ true). inl (1, inl (record { source = e; exact = source_label r l e; alone = B.alone r l e }, refl)))
            (λ (e : w.source r ≡ false). absurd (omega (arith, other_label r l e)));
        earlier = λ r l h k.
            bool_cases (w.source r)
            (λ (e : w.source r ≡ true). absurd (omega (arith, k, B.alone r l e, F.small)))
            (λ (e : w.source r ≡ false). absurd (omega (arith, other_label r l e)));
        edges = λ p r l h. absurd (not-suc-le-zero h);
      }
