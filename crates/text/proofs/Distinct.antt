-- Frame after frame finds its legs free exactly when no corner of all their ends comes twice: by induction on the frames, with the legs taken
-- before them apart from all their ends.
-- Assumes nothing.
use Prim.Native.Nat.{ℕ}
use mathlib.Core.Bool.{Bool, true, false, ◌||◌}
use mathlib.Core.Path.{◌≡◌, refl}
use mathlib.Core.List.{List, [], ◌∷◌}
use lib.Dec.{eqb}
use borrow.Author.Tests.{eq-eqb}
use Rattle.lists.proofs.Facts.{bool_cases, or_right, false_or}
use Rattle.lists.proofs.Lists.{true_is_false, is_false}
use Rattle.network.specs.Legs.{corner_a, corner_b, is_in, legs_free, taking}
use Rattle.network.proofs.LegLaws.{Free, free, in_apart, legs_free_lem}
use Rattle.text.specs.Accepted.{ends_of, Distinct}

-- frame after frame finds its legs free
abbrev pub Fresh : List ℕ → List (List ℕ) → Type 0
Fresh taken [] = Unit {0}
Fresh taken (f ∷ frames) = (legs_free taken f ≡ true) × Fresh (taking taken f) frames

-- no number of one list is in the other
record Apart (ends taken : List ℕ) : Type 0 where
  not_in : (c : ℕ) → is_in c ends ≡ true → is_in c taken ≡ false

or-false : (a b : Bool) → a ≡ false → b ≡ false → a || b ≡ false
or-false a b p q = simp (p, q)

self : (x : ℕ) (xs : List ℕ) → is_in x (x ∷ xs) ≡ true
unfolding is_in
self x xs = rw (eq-eqb x x refl)

-- apart from a longer list is apart from its parts
not_this : {ends taken : List ℕ} (x : ℕ) → Apart ends (x ∷ taken) → is_in x ends ≡ false
not_this {ends} {taken} x h =
    bool_cases (is_in x ends) (λ (i : is_in x ends ≡ true). true_is_false (h.not_in x i) (self x taken)) (λ (i : is_in x ends ≡ false). i)

tail_apart : {ends taken : List ℕ} (x : ℕ) → Apart ends (x ∷ taken) → Apart ends taken
unfolding is_in
tail_apart {ends} {taken} x h = record { not_in = λ c i. (false_or (eqb c x) (is_in c taken) (h.not_in c i)).1 }

more_apart : {ends taken : List ℕ} (x : ℕ) → is_in x ends ≡ false → Apart ends taken → Apart ends (x ∷ taken)
unfolding is_in
more_apart {ends} {taken} x p h = record { not_in = λ c i. or-false (eqb c x) (is_in c taken) (in_apart c x ends i p) (h.not_in c i) }

fresh_distinct : (taken : List ℕ) (frames : List (List ℕ)) → Fresh taken frames → Distinct (ends_of frames) × Apart (ends_of frames) taken
unfolding is_in
fresh_distinct taken [] h = (tt, record { not_in = λ c i. true_is_false refl i })
fresh_distinct taken (f ∷ frames) h =
    let w : Free taken f = free taken f h.0 in
    let q = fresh_distinct (taking taken f) frames h.1 in
    let without-b : Apart (ends_of frames) (corner_a f ∷ taken) = tail_apart (corner_b f) q.1 in (
      (
        or-false (eqb (corner_a f) (corner_b f)) (is_in (corner_a f) (ends_of frames)) w.apart (not_this (corner_a f) without-b),
        (not_this (corner_b f) q.1, q.0),
      ),
      record { not_in = λ c i. end_apart c w (tail_apart (corner_a f) without-b) i },
    )
  where
    end_apart : (c : ℕ) → Free taken f → Apart (ends_of frames) taken → is_in c (corner_a f ∷ corner_b f ∷ ends_of frames) ≡ true → is_in c taken ≡ false
    end_apart c w h i =
        is_false (is_in c taken)
        (λ (t : is_in c taken ≡ true).
        true_is_false
        (or-false (eqb c (corner_a f)) (eqb c (corner_b f) || is_in c (ends_of frames)) (in_apart c (corner_a f) taken t w.new_a)
        (or-false (eqb c (corner_b f)) (is_in c (ends_of frames)) (in_apart c (corner_b f) taken t w.new_b)
        (is_false (is_in c (ends_of frames)) (λ (j : is_in c (ends_of frames) ≡ true). true_is_false (h.not_in c j) t))))
        i)

distinct_fresh : (taken : List ℕ) (frames : List (List ℕ)) → Distinct (ends_of frames) → Apart (ends_of frames) taken → Fresh taken frames
unfolding is_in
distinct_fresh taken [] d h = tt
distinct_fresh taken (f ∷ frames) d h =
    let p = false_or (eqb (corner_a f) (corner_b f)) (is_in (corner_a f) (ends_of frames)) d.0 in
    let others : Apart (ends_of frames) taken =
    record { not_in = λ c i. h.not_in c (or_right (eqb c (corner_a f)) (or_right (eqb c (corner_b f)) i)) } in (
      legs_free_lem taken f
          (record {
            new_a = h.not_in (corner_a f) (self (corner_a f) (corner_b f ∷ ends_of frames));
            new_b = h.not_in (corner_b f) (or_right (eqb (corner_b f) (corner_a f)) (self (corner_b f) (ends_of frames)));
            apart = p.0;
          }),
      distinct_fresh (taking taken f) frames d.1.1
          (more_apart (corner_b f) d.1.0 (more_apart (corner_a f) p.1 others)),
    )

pub fresh_is_distinct : (frames : List (List ℕ)) → Fresh [] frames → Distinct (ends_of frames)
fresh_is_distinct frames h = (fresh_distinct [] frames h).0

pub distinct_is_fresh : (frames : List (List ℕ)) → Distinct (ends_of frames) → Fresh [] frames
unfolding is_in
distinct_is_fresh frames d = distinct_fresh [] frames d (record { not_in = λ c i. refl })
