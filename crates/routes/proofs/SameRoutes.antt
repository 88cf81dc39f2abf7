-- Two street graphs that are the same are each nowhere worse than the other, so what the one has the other has, and no more.
-- Assumes nothing.
use mathlib.Core.Path.{◌≡◌, sym, ◌∙◌}
use mathlib.Core.List.{List}
use Prim.Native.Nat.{ℕ}
use native.Mathlib.Omega.{arith}
use Rattle.routes.specs.Streets.{Streets}
use Rattle.routes.specs.Routes.{Route, level_of, Shortest, LeastTolerance}
use Rattle.routes.specs.Reach.{LeastLength}
use Rattle.routes.specs.NowhereWorse.{SameGround, NowhereWorse}
use Rattle.routes.specs.SameStreets.{SameStreets, SameRoutes}
use Rattle.routes.proofs.NowhereWorse.{route_too, level_no_higher, same_length, within_too, none_too}

ground_back : {g h : Streets} → SameGround g h → SameGround h g
ground_back {g} {h} G =
    record {
      runs = sym G.runs;
      starts = λ r l. sym (G.starts r (omega (arith, G.runs)));
      finishes = λ r l. sym (G.finishes r (omega (arith, G.runs)));
      lengths = λ r l. sym (G.lengths r (omega (arith, G.runs)));
      joined = λ p q l m. sym (G.joined p q (omega (arith, G.runs)) (omega (arith, G.runs)));
    }

pub same_back : {g h : Streets} → SameStreets g h → SameStreets h g
same_back {g} {h} S =
    record {
      ground = ground_back S.ground;
      opens = λ r l. sym (S.opens r (omega (arith, S.ground.runs)));
      stress = λ r l. sym (S.stress r (omega (arith, S.ground.runs)));
      turns = λ p q l m. sym (S.turns p q (omega (arith, S.ground.runs)) (omega (arith, S.ground.runs)));
    }

pub no_worse : {g h : Streets} → SameStreets g h → NowhereWorse g h
no_worse {g} {h} S =
    record {
      ground = S.ground;
      opens = λ r o. S.opens r o.0 ∙ o.1;
      runs_no_higher = λ r l. omega (arith, S.stress r l);
      turns_no_higher = λ p q m. omega (arith, S.turns p q m.from.0 m.onto.0);
    }

-- what h has, g has
module _ {g h : Streets} (W : NowhereWorse g h) (V : NowhereWorse h g) where
  level_same : (a b : ℕ) (rs : List ℕ) → Route h a b rs → level_of g rs ≡ level_of h rs
  level_same a b rs k = omega (arith, level_no_higher W a b rs k, level_no_higher V a b rs (route_too W a b rs k))

  shortest_too : {t a b : ℕ} {rs : List ℕ} → Shortest h t a b rs → Shortest g t a b rs
  shortest_too {a = a} {b = b} {rs = rs} s =
      record {
        within = within_too W s.within;
        least = λ others k.
            omega (arith, s.least others (within_too V k), same_length W a b rs s.within.route, same_length V a b others k.route);
      }

  least_too : {t a b : ℕ} → LeastTolerance h t a b → LeastTolerance g t a b
  least_too s =
      record { one = s.one; some = (s.some.0, within_too W s.some.1); none_below = λ u l m. none_too V (s.none_below u l m) }

  length_too : {t a b feet : ℕ} → LeastLength h t a b feet → LeastLength g t a b feet
  length_too {t} {a} {b} L =
      record {
        runs = L.runs;
        shortest = shortest_too L.shortest;
        measured = same_length W a b L.runs L.shortest.within.route ∙ L.measured;
      }

pub same_routes : {g h : Streets} → SameStreets g h → SameRoutes g h
same_routes S =
    let W = no_worse S in
    let V = no_worse (same_back S) in
    record {
      routes = λ a b rs. (λ k. route_too V a b rs k, λ k. route_too W a b rs k);
      lengths = λ a b rs k. same_length W a b rs k;
      levels = λ a b rs k. level_same W V a b rs k;
      within = λ t a b rs. (λ k. within_too V k, λ k. within_too W k);
      shortest = λ t a b rs. (λ s. shortest_too V W s, λ s. shortest_too W V s);
      none = λ t a b. (λ n. none_too W n, λ n. none_too V n);
      least = λ t a b. (λ s. least_too V W s, λ s. least_too W V s);
      least_length = λ t a b feet. (λ s. length_too V W s, λ s. length_too W V s);
    }
