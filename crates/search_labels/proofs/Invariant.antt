-- The heart of the search. The run u that is settled next has the least key m among those not settled. A run r that has a label already got it from a
-- run that was settled before u, so its label is at most best u + feet r: the first label that a run gets is its best one, and L2 holds for u too. A
-- run that gets its label now has one above best u, since feet are at least 1, so its key is above m and nothing that is settled changes. After the
-- round u is settled as well. Between m + 1 and the next key lie only keys of spent runs. From such a run every edge leads to a run that has a label, and
-- again has it from one that was settled before, so L2 holds for the spent run too, and the invariant may be read at the next key. A spent run may get
-- its label where no edge leads to it, but the way back from a run that is not spent: nothing is labelled by way of it. So each label is sound, or it is a spent
-- run's that goes back from a sound one.
-- Assumes nothing.
use mathlib.Core.Path.{◌≡◌, refl, sym, ◌∙◌, ap}
use mathlib.Core.Bool.{Bool, true, false, true≢false}
use mathlib.Core.List.{List}
use mathlib.Core.Logic.{◌⊎◌, inl, inr, ⊎_elim}
use Prim.Native.Nat.{ℕ, zero, suc, ◌+◌, ◌-◌, ◌≤◌, ◌<◌}
use native.Mathlib.Omega.{arith}
use lib.Dec.{ltb}
use borrow.Author.Tests.{lt-ltb, le-ltb, ltb-true}
use Rattle.routes.specs.Steps.Labels.{Graph, unlabelled, Paved, First, Next, Follows, Sound}
use Rattle.lists.proofs.Facts.{bool_cases, lt_or_ge}
use Rattle.routes.proofs.Counting.{count, count_le, count_less}
use Rattle.routes.proofs.Chains.{label_bound}
use Rattle.queue.specs.Steps.Queue.{top}
use Rattle.lists.specs.Lists.{at}
use Rattle.search_labels.specs.Steps.Keys.{label_in, run_in, key, IsKey}
use Rattle.search_labels.specs.Steps.Relax.{Relaxed}
use Rattle.search_labels.specs.Steps.Queued.{Least}
use Rattle.search_labels.specs.Steps.Search.{Fair, loose, IsSound, Turned, Settled, Spent, WayBack, NoGoal}

pub fair_paved : (w : Graph) {most : ℕ} → Fair w.size w.feet most → Paved w
fair_paved w F = record { small = omega (arith, F.small); long = F.long }

module _ {w : Graph} {back : ℕ → ℕ → Bool} {spent : ℕ → Bool} {best previous : List ℕ} {m : ℕ} (I : Settled w back spent best previous m) where
  -- a label has room for one run more
  pub label_room : {most : ℕ} → Fair w.size w.feet most → (r : ℕ) → r < w.size → at best r < unlabelled → at best r + most < unlabelled
  label_room {most} F r l h =
      omega (arith, label_bound (loose w) (at best) (at previous) (fair_paved (loose w) F) I.whence most F.short r l h, F.room)

  -- what leads on is right below the bound of m in feet
  pub settled_follows : {most : ℕ} → Fair w.size w.feet most → Follows w (at best) (label_in m)
  settled_follows F = record { sources = I.sources; edges = λ p r l h b. I.edges p r l (omega (arith, F.small)) }

  -- a label that a run settled before, or a source, has given is at most what a run not settled yet would give
  label_no_worse : {most : ℕ} → Fair w.size w.feet most → (p r : ℕ) → p < w.size → m ≤ key best p → r < w.size → at best r < unlabelled
      → at best r ≤ at best p + w.feet r
  label_no_worse F p r l s l' d =
      ⊎_elim
      (λ (f : First (loose w) (at best) (at previous) r). omega (arith, f.exact))
      (λ (f : Next (loose w) (at best) (at previous) r (at previous r)). omega (arith, f.exact, I.earlier r l' d f.inside, F.small))
      (I.whence r l' d)

  -- where only keys of spent runs lie between m and k, what is settled below m is settled below k
  pub settled_skip : {goal : ℕ → Bool} {k most : ℕ} → Fair w.size w.feet most → Spent w goal spent best → Least spent best w.size m k
      → Settled w back spent best previous k
  settled_skip {k = k} F C L =
      record {
        bounded = L.bounded;
        sources = I.sources;
        whence = I.whence;
        sound = I.sound;
        earlier = λ r l h j. omega (arith, I.earlier r l h j, L.from);
        edges = λ p r l h l' e.
            ⊎_elim
            (λ (s : key best p < m). I.edges p r l s l' e)
            (λ (s : m ≤ key best p).
            ⊎_elim
            (λ (j : k ≤ key best p). absurd (omega arith))
            (λ (j : spent p ≡ true).
            let d = C.closed p r l j l' e in
            (d, label_no_worse F p r l s l' d))
            (L.least p l s))
            (lt_or_ge (key best p) m);
      }

-- how many runs are settled, and how many are not
abbrev pub settled_count : List ℕ → ℕ → ℕ → ℕ
settled_count best n m = count (λ (r : ℕ). ltb (key best r) m) n

abbrev pub unsettled : List ℕ → ℕ → ℕ → ℕ
unsettled best n m = n - settled_count best n m

-- r gets its label in this round, by way of u
record Fresh (w : Graph) (leads : ℕ → ℕ → Bool) (u base : ℕ) (best best' previous' : List ℕ) (r : ℕ) : Type 0 where
  none : unlabelled ≤ at best r
  led : leads u r ≡ true
  label : at best' r ≡ base + w.feet r
  before : at previous' r ≡ u

-- where the labels of r and of the run before it are kept, r's still comes from where it came
module _ (w : Graph) (best previous best' previous' : List ℕ) (r : ℕ) (k : (at best' r ≡ at best r) × (at previous' r ≡ at previous r)) where
  first_kept : First w (at best) (at previous) r → First w (at best') (at previous') r
  first_kept s = record { source = s.source; exact = k.0 ∙ s.exact; alone = k.1 ∙ s.alone }

  next_kept : (at best' (at previous r) ≡ at best (at previous r)) × (at previous' (at previous r) ≡ at previous (at previous r))
      → Next w (at best) (at previous) r (at previous r) → Next w (at best') (at previous') r (at previous' r)
  next_kept j s =
      rw k.1
      (record {
        inside = s.inside;
        labelled = omega (arith, j.0, s.labelled);
        edge = s.edge;
        exact = omega (arith, k.0, j.0, s.exact);
      })

-- a round: the run with the key m is settled
module _ {w : Graph} {back : ℕ → ℕ → Bool} {spent : ℕ → Bool} {best previous best' previous' : List ℕ} {m most : ℕ} {leads : ℕ → ℕ → Bool}
    (F : Fair w.size w.feet most) (I : Settled w back spent best previous m) (below : m < top) (K : IsKey best w.size m)
    (R : Relaxed leads w.feet w.size (run_in m) (label_in m) best previous best' previous') where
  -- a label is old, or fresh
  old_or_fresh : (r : ℕ) → r < w.size → at best' r < unlabelled → (at best r < unlabelled) ⊎ Fresh w leads (run_in m) (label_in m) best best' previous' r
  old_or_fresh r l h =
      ⊎_elim
      (λ (s : at best r < unlabelled). inl s)
      (λ (s : unlabelled ≤ at best r).
      bool_cases (leads (run_in m) r)
      (λ (e : leads (run_in m) r ≡ true).
      let k = R.labelled r l s e in
      inr (record { none = s; led = e; label = k.0; before = k.1 }))
      (λ (e : leads (run_in m) r ≡ false). absurd (omega (arith, (R.barred r l e).0))))
      (lt_or_ge (at best r) unlabelled)

  settling : at best (run_in m) < unlabelled
  settling = omega (arith, K.exact)

  same_label : at best' (run_in m) ≡ label_in m
  same_label = (R.kept (run_in m) K.inside settling).0 ∙ K.exact

  -- a key up to m is an old one
  old_key : (r : ℕ) → r < w.size → key best' r < m + 1 → (at best r < unlabelled) × (at best' r ≡ at best r)
  old_key r l h =
      ⊎_elim
      (λ (s : at best r < unlabelled). (s, (R.kept r l s).0))
      (λ (s : Fresh w leads (run_in m) (label_in m) best best' previous' r). absurd (omega (arith, s.label, F.long r l, F.small)))
      (old_or_fresh r l (omega arith))

  -- it is settled before the round, or is m itself
  settled_or_next : (r : ℕ) → r < w.size → key best' r < m + 1 → (key best r < m) ⊎ (r ≡ run_in m)
  settled_or_next r l h =
      let o = old_key r l h in
      ⊎_elim (λ (s : key best r < m). inl s) (λ (s : m ≤ key best r). inr (omega (arith, o.1, F.small))) (lt_or_ge (key best r) m)

  old_whence : (r : ℕ) → r < w.size → at best r < unlabelled
      → First (loose w) (at best') (at previous') r ⊎ Next (loose w) (at best') (at previous') r (at previous' r)
  old_whence r l h =
      let k = R.kept r l h in
      ⊎_elim
      (λ (s : First (loose w) (at best) (at previous) r). inl (first_kept (loose w) best previous best' previous' r k s))
      (λ (s : Next (loose w) (at best) (at previous) r (at previous r)).
      inr (next_kept (loose w) best previous best' previous' r k (R.kept (at previous r) s.inside s.labelled) s))
      (I.whence r l h)

  -- a sound label stays sound, since no label changes
  old_sound : (j r : ℕ) → r < w.size → at best r < unlabelled → Sound w (at best) (at previous) j r → Sound w (at best') (at previous') j r
  old_sound zero r l h s = absurd s
  old_sound (suc j) r l h (inl s) = inl (first_kept w best previous best' previous' r (R.kept r l h) s.0, s.1)
  old_sound (suc j) r l h (inr s) =
      let n = s.0 in
      let k = R.kept r l h in
      inr (
        next_kept w best previous best' previous' r k (R.kept (at previous r) n.inside n.labelled) n,
        rw k.1 (old_sound j (at previous r) n.inside n.labelled s.1),
      )

  old_earlier : (r : ℕ) → r < w.size → at best r < unlabelled → at previous' r < w.size → key best' (at previous' r) < m + 1
  old_earlier r l h i =
      let k = R.kept r l h in
      let i' : at previous r < w.size = omega (arith, k.1) in
      let s = I.earlier r l h i' in
      rw k.1 (omega (arith, (R.kept (at previous r) i' (omega arith)).0))

  -- L2 for the run that is settled
  next_edges : (r : ℕ) → r < w.size → leads (run_in m) r ≡ true → (at best' r < unlabelled) × (at best' r ≤ label_in m + w.feet r)
  next_edges r l e =
      ⊎_elim
      (λ (s : at best r < unlabelled).
      let k = R.kept r l s in
      ⊎_elim
      (λ (f : First (loose w) (at best) (at previous) r). omega (arith, k.0, f.exact))
      (λ (f : Next (loose w) (at best) (at previous) r (at previous r)). omega (arith, k.0, f.exact, I.earlier r l s f.inside))
      (I.whence r l s))
      (λ (s : unlabelled ≤ at best r).
      omega (arith, (R.labelled r l s e).0, label_room I F (run_in m) K.inside settling, K.exact, F.short r l))
      (lt_or_ge (at best r) unlabelled)

  -- a fresh label by an edge is sound, since the run that is settled is not spent: from a spent run no edge leads to a run without a label
  fresh_sound : {goal : ℕ → Bool} → Spent w goal spent best → (r : ℕ) → r < w.size → Fresh w leads (run_in m) (label_in m) best best' previous' r
      → w.edge (run_in m) r ≡ true → IsSound w best' previous' r
  fresh_sound C r l s e =
      ⊎_elim
      (λ (j : IsSound w best previous (run_in m)). (
        suc j.0,
        inr (
          rw s.before
              (record { inside = K.inside; labelled = omega (arith, same_label); edge = e; exact = omega (arith, s.label, same_label) }),
          rw s.before (old_sound j.0 (run_in m) K.inside settling j.1),
        ),
      ))
      (λ (j : (spent (run_in m) ≡ true) × Turned w back best previous (run_in m) (at previous (run_in m))).
      absurd (omega (arith, C.closed (run_in m) r K.inside j.0 l e, s.none)))
      (I.sound (run_in m) K.inside settling)

  -- the label of a way back stays one
  old_turned : (r : ℕ) → r < w.size → at best r < unlabelled → Turned w back best previous r (at previous r)
      → Turned w back best' previous' r (at previous' r)
  old_turned r l h s =
      let k = R.kept r l h in
      let j = R.kept (at previous r) s.inside s.labelled in
      rw k.1
      (record {
        inside = s.inside;
        labelled = omega (arith, j.0, s.labelled);
        goes_back = s.goes_back;
        sound = (s.sound.0, old_sound s.sound.0 (at previous r) s.inside s.labelled s.sound.1);
      })

  -- a fresh label of a way back comes from a sound one, since the run that is settled is not spent
  fresh_turned : {spent' : ℕ → Bool} (r : ℕ) → Fresh w leads (run_in m) (label_in m) best best' previous' r → WayBack back spent spent' (run_in m) r
      → Turned w back best' previous' r (at previous' r)
  fresh_turned r s b =
      ⊎_elim
      (λ (j : IsSound w best previous (run_in m)).
      rw s.before
      (record {
        inside = K.inside;
        labelled = omega (arith, same_label);
        goes_back = b.goes_back;
        sound = (j.0, old_sound j.0 (run_in m) K.inside settling j.1);
      }))
      (λ (j : (spent (run_in m) ≡ true) × Turned w back best previous (run_in m) (at previous (run_in m))). absurd (true≢false (sym j.0 ∙ b.from)))
      (I.sound (run_in m) K.inside settling)

  pub settled_more : {goal spent' : ℕ → Bool} → Spent w goal spent best → ((r : ℕ) → r < w.size → spent r ≡ true → spent' r ≡ true)
      → ((r : ℕ) → r < w.size → w.edge (run_in m) r ≡ true → leads (run_in m) r ≡ true)
      → ((r : ℕ) → r < w.size → leads (run_in m) r ≡ true → (w.edge (run_in m) r ≡ true) ⊎ WayBack back spent spent' (run_in m) r)
      → Settled w back spent' best' previous' (m + 1)
  settled_more {spent' = spent'} C more all only =
      record {
        bounded = omega arith;
        sources = λ r l e.
            let s = I.sources r l e in
            omega (arith, s.0, s.1, (R.kept r l s.0).0);
        whence = λ r l h.
            ⊎_elim
            (λ (s : at best r < unlabelled). old_whence r l s)
            (λ (s : Fresh w leads (run_in m) (label_in m) best best' previous' r).
            inr
            (rw s.before
            (record { inside = K.inside; labelled = omega (arith, same_label); edge = refl; exact = omega (arith, s.label, same_label) })))
            (old_or_fresh r l h);
        sound = λ r l h.
            ⊎_elim
            (λ (s : at best r < unlabelled).
            ⊎_elim
            (λ (j : IsSound w best previous r). inl (j.0, old_sound j.0 r l s j.1))
            (λ (j : (spent r ≡ true) × Turned w back best previous r (at previous r)). inr (more r l j.0, old_turned r l s j.1))
            (I.sound r l s))
            (λ (s : Fresh w leads (run_in m) (label_in m) best best' previous' r).
            ⊎_elim
            (λ (e : w.edge (run_in m) r ≡ true). inl (fresh_sound C r l s e))
            (λ (e : WayBack back spent spent' (run_in m) r). inr (e.onto, fresh_turned r s e))
            (only r l s.led))
            (old_or_fresh r l h);
        earlier = λ r l h i.
            ⊎_elim
            (λ (s : at best r < unlabelled). old_earlier r l s i)
            (λ (s : Fresh w leads (run_in m) (label_in m) best best' previous' r). rw s.before (omega (arith, same_label)))
            (old_or_fresh r l h);
        edges = λ p r l h l' e.
            let o = old_key p l h in
            ⊎_elim
            (λ (s : key best p < m).
            let j = I.edges p r l s l' e in
            omega (arith, (R.kept r l' j.0).0, j.0, j.1, o.1))
            (λ (s : p ≡ run_in m).
            omega (arith, next_edges r l' (all r l' (rw s at e)), same_label, ap (at best') s))
            (settled_or_next p l h);
      }

  -- one run more is settled than before
  pub settled_less : {spent' : ℕ → Bool} {m' : ℕ} → Least spent' best' w.size (m + 1) m' → unsettled best' w.size m' < unsettled best w.size m
  settled_less {m' = m'} L =
      omega (
        arith,
        count_less (λ (r : ℕ). ltb (key best r) m) (λ (r : ℕ). ltb (key best' r) m') w.size
            (λ r l e.
            let s = ltb-true (key best r) m e in
            lt-ltb (key best' r) m' (omega (arith, (R.kept r l (omega arith)).0, L.from)))
            (run_in m) K.inside (le-ltb (key best (run_in m)) m (omega (arith, K.exact)))
            (lt-ltb (key best' (run_in m)) m' (omega (arith, same_label, L.from))),
        count_le (λ (r : ℕ). ltb (key best' r) m') w.size,
      )

  -- where the run that is settled is no goal, still no settled run is
  pub no_goal_more : {goal spent' : ℕ → Bool} {m' : ℕ} → Spent w goal spent' best' → Least spent' best' w.size (m + 1) m' → goal (run_in m) ≡ false
      → NoGoal goal best w.size m → NoGoal goal best' w.size m'
  no_goal_more {goal} {spent'} {m'} C L e N r l h t =
      let k : key best' r < m + 1 =
      ⊎_elim
      (λ (s : key best' r < m + 1). s)
      (λ (s : m + 1 ≤ key best' r).
      ⊎_elim
      (λ (j : m' ≤ key best' r). absurd (omega arith))
      (λ (j : spent' r ≡ true). absurd (true≢false (sym t ∙ C.aside r l j)))
      (L.least r l s))
      (lt_or_ge (key best' r) (m + 1)) in
      ⊎_elim (λ (s : key best r < m). N r l s t) (λ (s : r ≡ run_in m). true≢false (sym t ∙ ap goal s ∙ e)) (settled_or_next r l k)
