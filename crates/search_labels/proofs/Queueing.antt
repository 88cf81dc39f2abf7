-- The search's use of the queue. A run is put in with its key when it gets its label, and taken out when it is settled; no other entry changes. So the
-- front of the queue is the least key of a labelled run that is not settled. A new label's key lies above the key of the run that is being settled,
-- since feet are at least 1: it counts as not settled. Different runs have different keys, so taking out one run takes out no other. A run that is spent
-- when it gets its label may stay out; a run that becomes spent while it is queued stays in.
-- Assumes nothing.
use mathlib.Core.Path.{◌≡◌, sym, ◌∙◌, ap}
use mathlib.Core.Bool.{Bool, true, true≢false}
use mathlib.Core.List.{List}
use mathlib.Core.Logic.{◌⊎◌, inl, inr, ⊎_elim}
use Prim.Native.Nat.{ℕ, ◌+◌, ◌≤◌, ◌<◌}
use native.Mathlib.Omega.{arith}
use lib.ListN.{set, length-set}
use lib.Seq.{get_or-set_same, get_or-set_other}
use Rattle.routes.specs.Steps.Labels.{unlabelled}
use Rattle.lists.proofs.Facts.{lt_or_ge, eq_or_ne}
use Rattle.queue.specs.Steps.Queue.{top, key_of, Put, Front}
use Rattle.lists.specs.Lists.{at}
use Rattle.search_labels.specs.Steps.Keys.{span, label_key, label_in, run_in, key}
use Rattle.search_labels.specs.Steps.Relax.{Relaxed}
use Rattle.search_labels.specs.Steps.Queued.{none_spent, Queued, Least}
use Rattle.search_labels.specs.Steps.Search.{Fair, Due, Settling, Round, WayBack}

module _ {spent : ℕ → Bool} {best tree : List ℕ} {n k m : ℕ} where
  -- the front of the queue is the next key
  pub queued_least : n ≤ span → Queued spent best tree n k → k ≤ top → Front tree n m → Least spent best n k m
  queued_least small Q bounded N =
      record {
        bounded = N.bounded;
        from =
            ⊎_elim
            (λ (s : m < top).
            let o = N.whose s in
            let p = Q.only o.0 o.1 (omega (arith, o.2)) in
            omega (arith, o.2, p.0, p.1))
            (λ (s : top ≤ m). omega arith)
            (lt_or_ge m top);
        least = λ r l h.
            ⊎_elim
            (λ (s : at best r < unlabelled).
            ⊎_elim
            (λ (e : key_of tree n r ≡ key best r). inl (omega (arith, N.least r l)))
            (λ (e : spent r ≡ true). inr e)
            (Q.every r l h s))
            (λ (s : unlabelled ≤ at best r). inl (omega (arith, N.bounded)))
            (lt_or_ge (at best r) unlabelled);
        whose = λ s.
            let o = N.whose s in
            let p = Q.only o.0 o.1 (omega (arith, o.2)) in
            let e : run_in m ≡ o.0 = omega (arith, o.1, o.2, p.1) in
            record { inside = omega (arith, o.1); exact = rw e (omega (arith, o.1, o.2, p.1)) };
      }

  -- no key in the queue lies between k and m
  pub queued_skip : Queued spent best tree n k → Least spent best n k m → Front tree n m → Queued spent best tree n m
  queued_skip Q L N =
      record {
        queue = Q.queue;
        every = λ r l h. Q.every r l (omega (arith, L.from));
        only = λ r l s.
            let o = Q.only r l s in
            (omega (arith, N.least r l, o.1), o.1);
      }

-- more runs are spent
pub queued_spent : {spent spent' : ℕ → Bool} {best tree : List ℕ} {n k : ℕ} → ((r : ℕ) → r < n → spent r ≡ true → spent' r ≡ true)
    → Queued spent best tree n k → Queued spent' best tree n k
queued_spent {spent} {spent'} {best} {tree} {n} {k} more Q =
    record {
      queue = Q.queue;
      every = λ r l h s.
          ⊎_elim (λ (e : key_of tree n r ≡ key best r). inl e) (λ (e : spent r ≡ true). inr (more r l e)) (Q.every r l h s);
      only = Q.only;
    }

pub queued_none_spent : {spent : ℕ → Bool} {best tree : List ℕ} {n k : ℕ} → Queued none_spent best tree n k → Queued spent best tree n k
queued_none_spent Q = queued_spent (λ r l e. absurd (true≢false (sym e))) Q

pub settling_spent : {spent spent' : ℕ → Bool} {n most u base : ℕ} {best previous tree : List ℕ} → ((r : ℕ) → r < n → spent r ≡ true → spent' r ≡ true)
    → Settling n most u base spent best previous tree → Settling n most u base spent' best previous tree
settling_spent more S =
    record { inside = S.inside; room = S.room; long = S.long; long' = S.long'; queued = queued_spent more S.queued }

-- the run with the key m is taken out
pub settling_begins : {n most m : ℕ} {spent : ℕ → Bool} {best previous tree tree' : List ℕ} → n ≤ span → Due n most m spent best previous tree
    → Put tree tree' n (run_in m) top → Settling n most (run_in m) (label_in m) spent best previous tree'
settling_begins {n} {most} {m} {spent} {best} {previous} {tree} {tree'} small D P =
    record {
      inside = D.whose.inside;
      room = D.room;
      long = D.long;
      long' = D.long';
      queued =
          record {
            queue = P.queue;
            every = λ r l h s.
                ⊎_elim
                (λ (e : key_of tree n r ≡ key best r).
                inl (P.others r l (λ (f : r ≡ run_in m). omega (arith, D.whose.exact, ap (at best) f)) ∙ e))
                (λ (e : spent r ≡ true). inr e)
                (D.queued.every r l (omega arith) s);
            only = λ r l s.
                ⊎_elim
                (λ (e : r ≡ run_in m). absurd (omega (arith, P.here, ap (key_of tree' n) e)))
                (λ (e : r ≡ run_in m → ⊥).
                let p = P.others r l e in
                let o = D.queued.only r l (omega arith) in (
                  ⊎_elim
                      (λ (h : m < key best r). omega arith)
                      (λ (h : key best r ≤ m). absurd (e (omega (arith, o.0))))
                      (lt_or_ge m (key best r)),
                  p ∙ o.1,
                ))
                (eq_or_ne r (run_in m));
          };
    }

-- a run gets its label by way of u
module _ {n most u base r v : ℕ} {feet : ℕ → ℕ} {spent : ℕ → Bool} {best previous tree : List ℕ} (F : Fair n feet most)
    (S : Settling n most u base spent best previous tree) (inside : r < n) (e : v ≡ base + feet r) where
  -- it had none, so it is not in the queue, and any key may be put in
  pub settling_free : unlabelled ≤ at best r → label_key v r ≤ key_of tree n r
  settling_free none =
      ⊎_elim
      (λ (s : key_of tree n r < top). absurd (omega (arith, (S.queued.only r inside s).1)))
      (λ (s : top ≤ key_of tree n r). omega (arith, F.small, F.short r inside, S.room))
      (lt_or_ge (key_of tree n r) top)

  other : (q : ℕ) → (q ≡ r → ⊥) → at (set best r v) q ≡ at best q
  other q s = get_or-set_other best r q v 0 s

  mine : at (set best r v) r ≡ v
  mine = get_or-set_same best r v 0 (omega (arith, S.long))

  same : (q : ℕ) → (q ≡ r → ⊥) → key best q ≡ key (set best r v) q
  same q s = omega (arith, other q s)

  -- another run is queued, or spent, as it was
  others : (q : ℕ) → q < n → (q ≡ r → ⊥) → label_key base u + 1 ≤ key (set best r v) q → at (set best r v) q < unlabelled
      → (key_of tree n q ≡ key (set best r v) q) ⊎ (spent q ≡ true)
  others q l s h d =
      ⊎_elim
      (λ (k : key_of tree n q ≡ key best q). inl (k ∙ same q s))
      (λ (k : spent q ≡ true). inr k)
      (S.queued.every q l (omega (arith, other q s)) (omega (arith, other q s)))

  -- and is put in
  pub settling_more : {tree' : List ℕ} → Put tree tree' n r (label_key v r) → Settling n most u base spent (set best r v) (set previous r u) tree'
  settling_more {tree'} P =
      let own : label_key v r ≡ key (set best r v) r = omega (arith, mine) in
      record {
        inside = S.inside;
        room = S.room;
        long = simp length-set S.long;
        long' = simp length-set S.long';
        queued =
            record {
              queue = P.queue;
              every = λ q l h d.
                  ⊎_elim
                  (λ (s : q ≡ r). inl (rw s (P.here ∙ own)))
                  (λ (s : q ≡ r → ⊥).
                  ⊎_elim
                  (λ (k : key_of tree n q ≡ key (set best r v) q). inl (P.others q l s ∙ k))
                  (λ (k : spent q ≡ true). inr k)
                  (others q l s h d))
                  (eq_or_ne q r);
              only = λ q l d.
                  ⊎_elim
                  (λ (s : q ≡ r). rw s (omega (arith, mine, F.long r inside, F.small, S.inside), P.here ∙ own))
                  (λ (s : q ≡ r → ⊥).
                  let p = P.others q l s in
                  let o = S.queued.only q l (omega arith) in
                  (omega (arith, o.0, other q s), p ∙ o.1 ∙ same q s))
                  (eq_or_ne q r);
            };
      }

  -- or is spent, and stays out: as a run without a label it was not in
  pub settling_without : unlabelled ≤ at best r → spent r ≡ true → Settling n most u base spent (set best r v) (set previous r u) tree
  settling_without none gone =
      record {
        inside = S.inside;
        room = S.room;
        long = simp length-set S.long;
        long' = simp length-set S.long';
        queued =
            record {
              queue = S.queued.queue;
              every = λ q l h d.
                  ⊎_elim (λ (s : q ≡ r). inr (rw s gone)) (λ (s : q ≡ r → ⊥). others q l s h d) (eq_or_ne q r);
              only = λ q l d.
                  let o = S.queued.only q l d in
                  ⊎_elim
                  (λ (s : q ≡ r). absurd (omega (arith, o.1, ap (at best) s)))
                  (λ (s : q ≡ r → ⊥). (omega (arith, o.0, other q s), o.1 ∙ same q s))
                  (eq_or_ne q r);
            };
      }

-- a round, as it was made: the run taken out, its edges relaxed, and the front looked up
pub settling_ends : {edge back leads : ℕ → ℕ → Bool} {feet : ℕ → ℕ} {n most m : ℕ} {spent spent' : ℕ → Bool} {best previous tree best' previous' tree' : List ℕ} {m' : ℕ}
    → n ≤ span → Due n most m spent best previous tree → ((r : ℕ) → r < n → edge (run_in m) r ≡ true → leads (run_in m) r ≡ true)
    → ((r : ℕ) → r < n → leads (run_in m) r ≡ true → (edge (run_in m) r ≡ true) ⊎ WayBack back spent spent' (run_in m) r)
    → Relaxed leads feet n (run_in m) (label_in m) best previous best' previous'
    → Settling n most (run_in m) (label_in m) spent' best' previous' tree' → Front tree' n m'
    → Round edge back feet n m spent spent' best previous best' previous' tree' m'
settling_ends {leads = leads} {m = m} small D all only R S N =
    let e : label_key (label_in m) (run_in m) + 1 ≡ m + 1 = omega arith in
    let Q = rw e at S.queued in
    let L = queued_least small Q (omega (arith, D.below)) N in
    record { leads = leads; all = all; only = only; relaxed = R; next = L; long = S.long; long' = S.long'; queued = queued_skip Q L N }
