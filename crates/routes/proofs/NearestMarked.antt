-- Where no route to a marked node is shorter than a length, the first marked node that the distances put within that length is the nearest: those of lower
-- numbers are farther. There is one at most: of two that are as near, the higher number would need the lower to be farther. And of the marked
-- entries of a reach map it is the nearest, and the first of those as near.
-- Assumes nothing.
use mathlib.Core.Path.{◌≡◌}
use mathlib.Core.Bool.{true}
use mathlib.Core.List.{List, [], ◌∷◌}
use mathlib.Core.Logic.{⊎_elim}
use Prim.Native.Nat.{ℕ, ◌≤◌, ◌<◌}
use native.Mathlib.Omega.{arith}
use Rattle.lists.proofs.Facts.{lt_or_ge}
use Rattle.routes.specs.Streets.{Streets}
use Rattle.routes.specs.Routes.{length_of, Within}
use Rattle.routes.specs.Reach.{LeastLength, Listed, ReachMap, is_marked, Nearest, NoneMarked}
use Rattle.routes.specs.Steps.Labels.{graph_of, Paved}
use Rattle.routes.specs.Steps.Reach.{Distances}
use Rattle.routes.specs.declared.Entry.{Entry}
use Rattle.routes.proofs.Reach.{stay_length}
use Rattle.routes.proofs.ReachMaps.{entry_same, listed_inside, least_listed}

-- a route to another node has a run, and so a foot
route_long : (g : Streets) (t a b : ℕ) (rs : List ℕ) → Paved (graph_of g t a) → b < a → Within g t a b rs → 1 ≤ length_of g rs
route_long g t a b [] P l h = absurd (omega (arith, h.route))
route_long g t a b (r ∷ rs) P l h = omega (arith, P.long r h.route.1.0)

module _ {g : Streets} {nodes t a : ℕ} {marks : List ℕ} where
  -- ---- which node it is
  -- the first marked node within a length, where no marked node is nearer
  pub first_nearest : {feet : ℕ} {near : ℕ → ℕ} → Distances g nodes t a feet near → (v : ℕ) → v < nodes → is_marked marks v ≡ true → near v ≤ feet
      → ((b : ℕ) → b < v → is_marked marks b ≡ true → feet < near b)
      → ((b : ℕ) (rs : List ℕ) → b < nodes → is_marked marks b ≡ true → Within g t a b rs → feet ≤ length_of g rs)
      → Nearest g nodes t a marks (record { node = v; length = feet })
  first_nearest {feet} {near} D v l m h farther least =
      let F = D.inside v l h in
      let exact : near v ≡ feet = omega (arith, F.measured, least v F.runs l m F.shortest.within) in
      record {
        inside = l;
        marked = m;
        measured = rw exact at F;
        least = least;
        lower = λ b rs i k w. omega (arith, D.outside b (omega arith) (farther b i k) rs w);
      }

  -- a marked start is the nearest itself
  pub start_nearest : 1 ≤ t → Paved (graph_of g t a) → a < nodes → is_marked marks a ≡ true
      → Nearest g nodes t a marks (record { node = a; length = 0 })
  start_nearest one P l m =
      record {
        inside = l;
        marked = m;
        measured = stay_length g t a one;
        least = λ b rs i k w. omega arith;
        lower = λ b rs i k w. omega (arith, route_long g t a b rs P i w);
      }

  -- ---- there is one at most
  module _ {e : Entry} (N : Nearest g nodes t a marks e) where
    -- no marked node is nearer
    nearest_below : {b feet : ℕ} → b < nodes → is_marked marks b ≡ true → LeastLength g t a b feet → e.length ≤ feet
    nearest_below {b} l m D = omega (arith, D.measured, N.least b D.runs l m D.shortest.within)

    -- and of those as near none has a lower number
    nearest_lower : {b feet : ℕ} → is_marked marks b ≡ true → LeastLength g t a b feet → feet ≡ e.length → e.node ≤ b
    nearest_lower {b} m D s =
        ⊎_elim
        (λ (l : b < e.node). absurd (omega (arith, D.measured, N.lower b D.runs l m D.shortest.within)))
        (λ (l : e.node ≤ b). l)
        (lt_or_ge b e.node)

    pub nearest_some : NoneMarked g nodes t a marks → ⊥
    nearest_some none = none e.node N.inside N.marked N.measured.runs N.measured.shortest.within

  pub nearest_unique : {e e' : Entry} → Nearest g nodes t a marks e → Nearest g nodes t a marks e' → e ≡ e'
  nearest_unique {e} {e'} N N' =
      let same : e.length ≡ e'.length = omega (
        arith,
        nearest_below N N'.inside N'.marked N'.measured,
        nearest_below N' N.inside N.marked N.measured,
      ) in
      let node : e.node ≡ e'.node = omega (
        arith,
        nearest_lower N N'.marked N'.measured (omega arith),
        nearest_lower N' N.marked N.measured same,
      ) in
      entry_same e e' node same

-- ---- in the map
module _ {g : Streets} {nodes t a greatest : ℕ} {es : List Entry} where
  pub nearest_listed : {marks : List ℕ} {e : Entry} → Nearest g nodes t a marks e → ReachMap g nodes t a greatest es → e.length ≤ greatest
      → Listed e.node e.length es
  nearest_listed N M l = least_listed M N.inside N.measured l

  -- it is the nearest of the marked entries, and the first of those as near
  pub nearest_first : {marks : List ℕ} {e : Entry} → Nearest g nodes t a marks e → ReachMap g nodes t a greatest es → (b feet : ℕ)
      → Listed b feet es → is_marked marks b ≡ true → (e.length ≤ feet) × (feet ≡ e.length → e.node ≤ b)
  nearest_first N M b feet k m =
      let D = (M.only b feet k).0 in
      (nearest_below N (listed_inside M b feet k) m D, nearest_lower N m D)

  -- where none is marked within the tolerance, no entry is
  pub none_listed : (marks : List ℕ) → NoneMarked g nodes t a marks → ReachMap g nodes t a greatest es → (b feet : ℕ) → Listed b feet es
      → is_marked marks b ≡ true → ⊥
  none_listed marks none M b feet k m =
      let D = (M.only b feet k).0 in
      none b (listed_inside M b feet k) m D.runs D.shortest.within
