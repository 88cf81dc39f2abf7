-- A shortest route rides no run twice: what lies between the two times could be left out, and every run has a length. So it has at most as many runs as there
-- are, and it is at most as long as so many of the longest.
-- Assumes nothing.
use mathlib.Core.Path.{◌≡◌, refl, sym, subst}
use mathlib.Core.Bool.{Bool, true, false, true≢false, ◌||◌}
use mathlib.Core.List.{List, [], ◌∷◌}
use Prim.Native.Nat.{ℕ, suc, ◌+◌, ◌*◌, ◌≤◌, ◌<◌}
use native.Mathlib.Nat.{mul-suc, mul-le-mul_left}
use native.Mathlib.Omega.{arith}
use lib.Dec.{eqb}
use lib.ListN.{length}
use borrow.Author.Tests.{eq-eqb, eqb-true}
use Rattle.lists.proofs.Facts.{bool_cases, or_right}
use Rattle.routes.specs.Streets.{Streets}
use Rattle.routes.specs.Routes.{After, length_of, level_from, count_of, Shortest}
use Rattle.routes.proofs.Counting.{count, count_le, count_less}

-- the run is one of these
abbrev is_among : ℕ → List ℕ → Bool
is_among r [] = false
is_among r (q ∷ rs) = eqb r q || is_among r rs

module _ (g : Streets) (t b : ℕ) where
  -- what follows the run r in a route to b, and is as short as anything that may follow it within t
  record Rest (r : ℕ) (rs : List ℕ) : Type 0 where
    after : After g b r rs
    level : level_from g r rs ≤ t
    least : (others : List ℕ) → After g b r others → level_from g r others ≤ t → length_of g rs ≤ length_of g others

  rest_of_rest : (r q : ℕ) (rs : List ℕ) → Rest r (q ∷ rs) → Rest q rs
  rest_of_rest r q rs w =
      record {
        after = w.after.1;
        level = omega (arith, w.level);
        least = λ others h l. omega (arith, w.least (q ∷ others) (w.after.0, h) (omega (arith, w.level, l)));
      }

  -- where a run comes again, what follows it there is shorter by that run at least
  again : (r p : ℕ) (rs : List ℕ) → After g b p rs → level_from g p rs ≤ t → is_among r rs ≡ true
      → (others : List ℕ) × After g b r others × (level_from g r others ≤ t) × (g.feet r + length_of g others ≤ length_of g rs)
  again r p [] h l e = absurd (true≢false (sym e))
  again r p (q ∷ rs) h l e =
      bool_cases (eqb r q)
      (λ (s : eqb r q ≡ true).
      let same : q ≡ r = sym (eqb-true r q s) in (
        rs,
        subst (λ (x : ℕ). After g b x rs) same h.1,
        subst (λ (x : ℕ). level_from g x rs ≤ t) same (omega arith),
        subst (λ (x : ℕ). g.feet x + length_of g rs ≤ length_of g (q ∷ rs)) same (omega arith),
      ))
      (λ (s : eqb r q ≡ false).
      let k = again r q rs h.1 (omega arith) (rw s at e) in
      (k.0, k.1, k.2, omega (arith, k.3)))

  module _ (long : (r : ℕ) → r < g.runs → 1 ≤ g.feet r) where
    never_again : (r : ℕ) (rs : List ℕ) → r < g.runs → Rest r rs → is_among r rs ≡ false
    never_again r rs inside w =
        bool_cases (is_among r rs)
        (λ (s : is_among r rs ≡ true).
        let k = again r r rs w.after w.level s in
        absurd (omega (arith, long r inside, w.least k.0 k.1 k.2, k.3)))
        (λ (s : is_among r rs ≡ false). s)

    -- so each run of the route is another of the numbers below `runs`
    one_more : (r : ℕ) (rs : List ℕ) → r < g.runs → Rest r rs
        → count (λ (x : ℕ). is_among x rs) g.runs < count (λ (x : ℕ). is_among x (r ∷ rs)) g.runs
    one_more r rs inside w =
        count_less (λ (x : ℕ). is_among x rs) (λ (x : ℕ). is_among x (r ∷ rs)) g.runs (λ i l e. or_right (eqb i r) e) r inside
        (never_again r rs inside w) (rw (eq-eqb r r refl) refl)

    counted : (r : ℕ) (rs : List ℕ) → r < g.runs → Rest r rs → suc (length rs) ≤ count (λ (x : ℕ). is_among x (r ∷ rs)) g.runs
    counted r [] inside w = omega (arith, one_more r [] inside w)
    counted r (q ∷ rs) inside w =
        omega (arith, one_more r (q ∷ rs) inside w, counted q rs w.after.0.onto.0 (rest_of_rest r q rs w))

    few : (r : ℕ) (rs : List ℕ) → r < g.runs → Rest r rs → suc (length rs) ≤ g.runs
    few r rs inside w = omega (arith, counted r rs inside w, count_le (λ (x : ℕ). is_among x (r ∷ rs)) g.runs)

  module _ (most : ℕ) (short : (r : ℕ) → r < g.runs → g.feet r ≤ most) where
    rest_bound : (r : ℕ) (rs : List ℕ) → After g b r rs → length_of g rs ≤ most * length rs
    rest_bound r [] h = omega arith
    rest_bound r (q ∷ rs) h = rw (mul-suc most (length rs)) (omega (arith, short q h.0.onto.0, rest_bound q rs h.1))

module _ {g : Streets} {t a b : ℕ} where
  rest_after : (r : ℕ) (rs : List ℕ) → Shortest g t a b (r ∷ rs) → Rest g t b r rs
  rest_after r rs S =
      let R = S.within.route in
      record {
        after = R.2;
        level = S.within.level;
        least = λ others h l. omega (arith, S.least (r ∷ others) (record { route = (R.0, R.1, h); level = l }));
      }

  module _ (long : (r : ℕ) → r < g.runs → 1 ≤ g.feet r) where
    -- a shortest route has at most as many runs as there are
    pub shortest_few : (rs : List ℕ) → Shortest g t a b rs → count_of rs ≤ g.runs
    shortest_few [] S = omega arith
    shortest_few (r ∷ rs) S = few g t b long r rs S.within.route.1.0 (rest_after r rs S)

    -- and is at most as long as so many of the longest
    pub shortest_length : (most : ℕ) → ((r : ℕ) → r < g.runs → g.feet r ≤ most) → (rs : List ℕ) → Shortest g t a b rs
        → length_of g rs ≤ most * g.runs
    shortest_length most short [] S = omega arith
    shortest_length most short (r ∷ rs) S =
        let R = S.within.route in
        let n : most * suc (length rs) ≤ most * g.runs = mul-le-mul_left most (shortest_few (r ∷ rs) S) in
        omega (arith, n, mul-suc most (length rs), short r R.1.0, rest_bound g t b most short r rs R.2)
