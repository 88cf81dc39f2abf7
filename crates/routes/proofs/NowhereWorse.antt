-- Where g is nowhere worse than h, a route of h is a route of g: its runs are open there too, its movements are movements, and no level in it is higher.
-- Its length is the same. So a route of h within a tolerance is one of g within it, where g has none h has none, g's shortest is no longer than h's, and
-- g's least tolerance is no higher than h's.
-- Assumes nothing.
use mathlib.Core.Path.{◌≡◌, refl, ◌∙◌}
use mathlib.Core.List.{List, [], ◌∷◌}
use mathlib.Core.Logic.{⊎_elim}
use Prim.Native.Nat.{ℕ, ◌≤◌, ◌<◌}
use native.Mathlib.Omega.{arith}
use Rattle.lists.proofs.Facts.{lt_or_ge}
use Rattle.routes.specs.Streets.{Streets}
use Rattle.routes.specs.Routes.{Open, Movement, After, Route, length_of, level_from, level_of, Within, Shortest, NoRoute, LeastTolerance}
use Rattle.routes.specs.NowhereWorse.{NowhereWorse}

module _ {g h : Streets} (W : NowhereWorse g h) where
  -- ---- what is of h is of g
  open_too : {r : ℕ} → Open h r → Open g r
  open_too {r} o = (omega (arith, o.0, W.ground.runs), W.opens r o)

  movement_too : {p q : ℕ} → Movement h p q → Movement g p q
  movement_too {p} {q} m =
      record { from = open_too m.from; onto = open_too m.onto; joined = W.ground.joined p q m.from.0 m.onto.0 ∙ m.joined }

  after_too : (b r : ℕ) (rs : List ℕ) → r < h.runs → After h b r rs → After g b r rs
  after_too b r [] l e = W.ground.finishes r l ∙ e
  after_too b r (q ∷ rs) l k = (movement_too k.0, after_too b q rs k.0.onto.0 k.1)

  pub route_too : (a b : ℕ) (rs : List ℕ) → Route h a b rs → Route g a b rs
  route_too a b [] e = e
  route_too a b (r ∷ rs) k = (W.ground.starts r k.1.0 ∙ k.0, open_too k.1, after_too b r rs k.1.0 k.2)

  -- ---- no higher, and as long
  level_from_lem : (b r : ℕ) (rs : List ℕ) → r < h.runs → After h b r rs → level_from g r rs ≤ level_from h r rs
  level_from_lem b r [] l k = W.runs_no_higher r l
  level_from_lem b r (q ∷ rs) l k =
      omega (arith, W.runs_no_higher r l, W.turns_no_higher r q k.0, level_from_lem b q rs k.0.onto.0 k.1)

  pub level_no_higher : (a b : ℕ) (rs : List ℕ) → Route h a b rs → level_of g rs ≤ level_of h rs
  level_no_higher a b [] k = omega arith
  level_no_higher a b (r ∷ rs) k = level_from_lem b r rs k.1.0 k.2

  length_from : (b r : ℕ) (rs : List ℕ) → r < h.runs → After h b r rs → length_of g (r ∷ rs) ≡ length_of h (r ∷ rs)
  length_from b r [] l k = omega (arith, W.ground.lengths r l)
  length_from b r (q ∷ rs) l k = omega (arith, W.ground.lengths r l, length_from b q rs k.0.onto.0 k.1)

  pub same_length : (a b : ℕ) (rs : List ℕ) → Route h a b rs → length_of g rs ≡ length_of h rs
  same_length a b [] k = refl
  same_length a b (r ∷ rs) k = length_from b r rs k.1.0 k.2

  -- ---- within a tolerance
  pub within_too : {t a b : ℕ} {rs : List ℕ} → Within h t a b rs → Within g t a b rs
  within_too {a = a} {b = b} {rs = rs} k =
      record { route = route_too a b rs k.route; level = omega (arith, level_no_higher a b rs k.route, k.level) }

  pub none_too : {t a b : ℕ} → NoRoute g t a b → NoRoute h t a b
  none_too none rs k = none rs (within_too k)

  -- g's shortest is no longer than any route of h
  pub shortest_no_longer : {t a b : ℕ} {rs qs : List ℕ} → Within h t a b rs → Shortest g t a b qs → length_of g qs ≤ length_of h rs
  shortest_no_longer {a = a} {b = b} {rs = rs} k s = omega (arith, s.least rs (within_too k), same_length a b rs k.route)

  pub least_no_higher : {t u a b : ℕ} → LeastTolerance h t a b → LeastTolerance g u a b → u ≤ t
  least_no_higher {t} {u} k s =
      ⊎_elim (λ (l : t < u). absurd (s.none_below t k.one l k.some.0 (within_too k.some.1))) (λ (l : u ≤ t). l) (lt_or_ge t u)
