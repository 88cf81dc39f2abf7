-- What leads on (`Follows`) says that no route is shorter than the least label of the runs that arrive where it ends; `Attained` says that some route is no
-- longer. So that label is the least length, whatever the run before it: labels that follow no edge do no harm. A route that met a label at or above the
-- bound went on from there, by runs of at least a foot, and is longer than the bound; so a node exactly at the bound has its label too.
-- Assumes nothing.
use mathlib.Core.Path.{◌≡◌, refl, sym, ◌∙◌}
use mathlib.Core.Bool.{true}
use mathlib.Core.List.{List, []}
use mathlib.Core.Logic.{inl, inr, ⊎_elim}
use Prim.Native.Nat.{ℕ, zero, suc, ◌≤◌, ◌<◌}
use native.Mathlib.Omega.{arith}
use Rattle.lists.proofs.Facts.{eq_or_ne}
use Rattle.routes.specs.Streets.{Streets}
use Rattle.routes.specs.Routes.{length_of, Within}
use Rattle.routes.specs.Reach.{LeastLength}
use Rattle.routes.specs.Steps.Labels.{Graph, graph_of, unlabelled, Paved, Follows, Sound, Depth, chain}
use Rattle.routes.specs.Steps.Reach.{Attained, LeastArrival, Outside, Distances}
use Rattle.routes.proofs.Walks.{true_source, true_edge}
use Rattle.routes.proofs.Chains.{sound_walks}
use Rattle.routes.proofs.Certificate.{Reached, Beyond, Nearest, route_followed, nearest_is_least, stay, walk_exact, walk_within}

-- some route to b within t is at most so long
abbrev pub RouteUpTo : Streets → ℕ → ℕ → ℕ → ℕ → Type 0
RouteUpTo g t a b feet = (rs : List ℕ) × Within g t a b rs × (length_of g rs ≤ feet)

-- a node's least length to itself is 0
pub stay_length : (g : Streets) (t a : ℕ) → 1 ≤ t → LeastLength g t a a 0
stay_length g t a one = record { runs = []; shortest = stay g t a one; measured = refl }

-- the least arrival, where there is one, is the label of the nearest run that arrives
arrival_nearest : {g : Streets} {best : ℕ → ℕ} {b near : ℕ} (N : LeastArrival g best b near) (l : near < unlabelled) → Nearest g best b (N.whose l).0
arrival_nearest N l =
    let w = N.whose l in
    record { inside = w.1; labelled = omega (arith, w.3); arrives = w.2; least = λ q i h e. omega (arith, N.least q i e, w.3) }

module _ (g : Streets) (t a : ℕ) (best : ℕ → ℕ) (bound : ℕ) (L : Follows (graph_of g t a) best bound) where
  module _ (b : ℕ) (apart : a ≡ b → ⊥) where
    -- no route to b is shorter than the nearest run that arrives there, at most the bound
    nearest_low : (r : ℕ) → Nearest g best b r → best r ≤ bound → (rs : List ℕ) → Within g t a b rs → best r ≤ length_of g rs
    nearest_low r N l rs h =
        let f = route_followed g t a b best bound L apart rs h in
        ⊎_elim
        (λ (s : Reached (graph_of g t a) best f.0 (length_of g rs)). omega (arith, s.least, N.least f.0 s.inside s.labelled f.1))
        (λ (s : Beyond (graph_of g t a) best bound (length_of g rs)). omega (arith, s.low, s.high))
        f.2

    -- so its label is the least length
    pub nearest_length : Attained g t a best → (r : ℕ) → Nearest g best b r → best r ≤ bound → LeastLength g t a b (best r)
    nearest_length A r N l =
        let s = A.some r N.inside N.labelled in
        let within : Within g t a b s.0 = rw N.arrives at s.1 in
        let exact : length_of g s.0 ≡ best r = omega (arith, s.2, nearest_low r N l s.0 within) in
        record { runs = s.0; shortest = nearest_is_least g t a b best bound L apart r s.0 N l within exact; measured = exact }

    arrival_inside : Attained g t a best → (near : ℕ) → LeastArrival g best b near → near < unlabelled → near ≤ bound → LeastLength g t a b near
    arrival_inside A near N m l =
        let w = N.whose m in
        rw w.3 at (nearest_length A w.0 (arrival_nearest N m) (omega (arith, w.3)))

    arrival_outside : Paved (graph_of g t a) → (near greatest : ℕ) → LeastArrival g best b near → greatest ≤ bound → greatest < near
        → Outside g t a greatest b
    arrival_outside P near greatest N low h rs k =
        let f = route_followed g t a b best bound L apart rs k in
        ⊎_elim
        (λ (s : Reached (graph_of g t a) best f.0 (length_of g rs)). omega (arith, s.least, N.least f.0 s.inside f.1))
        (λ (s : Beyond (graph_of g t a) best bound (length_of g rs)). omega (arith, s.low, s.longer P))
        f.2

  -- where every label is below the bound, each node that has a route has one that is at most the bound
  pub some_short : 1 ≤ t → Attained g t a best → ((r : ℕ) → r < g.runs → best r < unlabelled → best r < bound) → (b : ℕ) (rs : List ℕ)
      → Within g t a b rs → RouteUpTo g t a b bound
  some_short one A below b rs h =
      ⊎_elim
      (λ (e : a ≡ b). ([], record { route = e; level = one }, omega arith))
      (λ (apart : a ≡ b → ⊥).
      let f = route_followed g t a b best bound L apart rs h in
      ⊎_elim
      (λ (s : Reached (graph_of g t a) best f.0 (length_of g rs)).
      let k = A.some f.0 s.inside s.labelled in
      (k.0, rw f.1 at k.1, omega (arith, k.2, below f.0 s.inside s.labelled)))
      (λ (s : Beyond (graph_of g t a) best bound (length_of g rs)). absurd (omega (arith, s.low, below s.run s.inside s.labelled)))
      f.2)
      (eq_or_ne a b)

-- least arrivals, with 0 at the start, are the distances up to any greatest length that is at most the bound
pub arrivals_distances : (g : Streets) (nodes t a greatest : ℕ) (best near : ℕ → ℕ) (bound : ℕ) → 1 ≤ t → Paved (graph_of g t a)
    → Follows (graph_of g t a) best bound → Attained g t a best → greatest ≤ bound → greatest < unlabelled → near a ≡ 0
    → ((b : ℕ) → b < nodes → (a ≡ b → ⊥) → LeastArrival g best b (near b)) → Distances g nodes t a greatest near
arrivals_distances g nodes t a greatest best near bound one P L A low small start arrivals =
    record {
      inside = λ b l h.
          ⊎_elim
          (λ (e : a ≡ b). rw e (rw (rw e at start) (stay_length g t b one)))
          (λ (apart : a ≡ b → ⊥). arrival_inside g t a best bound L b apart A (near b) (arrivals b l apart) (omega arith) (omega arith))
          (eq_or_ne a b);
      outside = λ b l h.
          ⊎_elim
          (λ (e : a ≡ b). absurd (omega (arith, rw e at start)))
          (λ (apart : a ≡ b → ⊥). arrival_outside g t a best bound L b apart P (near b) greatest (arrivals b l apart) low h)
          (eq_or_ne a b);
    }

-- ---- from sound labels, and from those of ways back
sound_depth : (w : Graph) (best previous : ℕ → ℕ) (k r : ℕ) → r < w.size → Sound w best previous k r → Depth w.size previous k r
sound_depth w best previous zero r l s = absurd s
sound_depth w best previous (suc k) r l (inl s) = (l, inl (s.0.alone, s.1))
sound_depth w best previous (suc k) r l (inr s) = (l, inr (s.0.inside, sound_depth w best previous k (previous r) s.0.inside s.1))

module _ (g : Streets) (t a : ℕ) (best previous : ℕ → ℕ) (P : Paved (graph_of g t a)) where
  -- a sound label is a route's length
  pub sound_attained : (k r : ℕ) → r < g.runs → Sound (graph_of g t a) best previous k r → RouteUpTo g t a (g.finish r) (best r)
  sound_attained k r l s =
      let w = graph_of g t a in
      let c = sound_walks w best previous P k k r [] s (sound_depth w best previous k r l s) tt in
      (chain previous k r [], walk_within g t a (g.finish r) best previous c refl, omega (arith, walk_exact g t a best previous c))

  -- the node that u leaves is nearer than u's end: so a run back there may carry any label from u's on
  pub turned_attained : 1 ≤ t → ((p q : ℕ) → g.joins p q ≡ true → g.finish p ≡ g.start q) → (k u r : ℕ) → Sound (graph_of g t a) best previous k u
      → g.finish r ≡ g.start u → best u ≤ best r → RouteUpTo g t a (g.finish r) (best r)
  turned_attained one meets zero u r s back l = absurd s
  turned_attained one meets (suc k) u r (inl s) back l =
      let e : a ≡ g.finish r = sym (back ∙ (true_source g t a u s.0.source).leaves) in
      ([], record { route = e; level = one }, omega arith)
  turned_attained one meets (suc k) u r (inr s) back l =
      let n = s.0 in
      let e : g.finish (previous u) ≡ g.finish r = meets (previous u) u (true_edge g t (previous u) u n.edge).joined ∙ sym back in
      let h = sound_attained k (previous u) n.inside s.1 in
      (h.0, rw e at h.1, omega (arith, h.2, n.exact))
