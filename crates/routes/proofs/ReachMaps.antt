-- A list that rises has each node at most once, so it is determined by its members; and the members of a reach map are, since a least length is unique.
-- Distances list themselves: a node has an entry just where its number is at most the greatest length. More tolerance and a greater length keep every
-- node and make none farther; where no node needs more than a length, a greater one lists the same.
-- Assumes nothing.
use mathlib.Core.Path.{◌≡◌, refl, sym, ◌∙◌, ap, ap₂}
use mathlib.Core.List.{List, [], ◌∷◌}
use mathlib.Core.Logic.{inl, inr, ⊎_elim}
use Prim.Native.Nat.{ℕ, zero, suc, ◌+◌, ◌*◌, ◌≤◌, ◌<◌}
use native.Mathlib.Omega.{arith}
use lib.ListN.{length}
use borrow.Author.Tests.{le-leb, lt-leb}
use Rattle.lists.proofs.Facts.{lt_or_ge}
use Rattle.routes.specs.Streets.{Streets}
use Rattle.routes.specs.Routes.{Within}
use Rattle.routes.specs.Reach.{LeastLength, Listed, Rising, ReachMap, numbers}
use Rattle.routes.specs.Steps.Reach.{Distances, entries_of}
use Rattle.routes.specs.declared.Entry.{Entry}
use Rattle.routes.proofs.Tolerance.{within_rises, shortest_same_length}
use Rattle.routes.proofs.Reach.{RouteUpTo, stay_length}

-- an entry is its two numbers
pub entry_same : (e f : Entry) → e.node ≡ f.node → e.length ≡ f.length → e ≡ f
entry_same e f p q = λ i. record { node = p i; length = q i }

pub numbers_length : (es : List Entry) → length (numbers es) ≡ 2 * length es
numbers_length [] = refl
numbers_length (e ∷ es) = omega (arith, numbers_length es)

-- every entry of the one list is in the other
abbrev Among : List Entry → List Entry → Type 0
Among es fs = (b feet : ℕ) → Listed b feet es → Listed b feet fs

-- ---- lists that rise
module _ (nodes : ℕ) where
  rising_bound : (low : ℕ) (es : List Entry) → Rising nodes low es → low + length es ≤ nodes
  rising_bound low [] h = omega (arith, h)
  rising_bound low (e ∷ es) h = omega (arith, h.0, rising_bound (e.node + 1) es h.1)

  rising_lower : (low low' : ℕ) (es : List Entry) → low ≤ low' → Rising nodes low' es → Rising nodes low es
  rising_lower low low' [] l h = omega (arith, h)
  rising_lower low low' (e ∷ es) l h = (omega (arith, h.0), h.1)

  listed_between : (low b feet : ℕ) (es : List Entry) → Rising nodes low es → Listed b feet es → (low ≤ b) × (b < nodes)
  listed_between low b feet [] h k = absurd k
  listed_between low b feet (e ∷ es) h (inl k) = omega (arith, h.0, k.0, rising_bound (e.node + 1) es h.1)
  listed_between low b feet (e ∷ es) h (inr k) = omega (arith, h.0, listed_between (e.node + 1) b feet es h.1 k)

  module _ (e f : Entry) (es fs : List Entry) (h : Rising nodes (e.node + 1) es) where
    -- where both begin with the same node, a later entry of the one is a later entry of the other
    among_rest : e.node ≡ f.node → Among (e ∷ es) (f ∷ fs) → Among es fs
    among_rest p k b feet l =
        ⊎_elim
        (λ (s : (f.node ≡ b) × (f.length ≡ feet)). absurd (omega (arith, s.0, (listed_between (e.node + 1) b feet es h l).0)))
        (λ (s : Listed b feet fs). s)
        (k b feet (inr l))

    -- and they do where each has the other's first
    among_first : Rising nodes (f.node + 1) fs → Listed e.node e.length (f ∷ fs) → Listed f.node f.length (e ∷ es)
        → (e.node ≡ f.node) × (e.length ≡ f.length)
    among_first k (inl s) t = (sym s.0, sym s.1)
    among_first k (inr s) (inl t) = t
    among_first k (inr s) (inr t) =
        absurd (omega (
          arith,
          (listed_between (f.node + 1) e.node e.length fs k s).0,
          (listed_between (e.node + 1) f.node f.length es h t).0,
        ))

  -- lists that rise are the same where they have the same entries
  rising_same : (low low' : ℕ) (es fs : List Entry) → Rising nodes low es → Rising nodes low' fs → Among es fs → Among fs es → es ≡ fs
  rising_same low low' [] [] h k p q = refl
  rising_same low low' [] (f ∷ fs) h k p q = absurd (q f.node f.length (inl (refl, refl)))
  rising_same low low' (e ∷ es) [] h k p q = absurd (p e.node e.length (inl (refl, refl)))
  rising_same low low' (e ∷ es) (f ∷ fs) h k p q =
      let s = among_first e f es fs h.1 k.1 (p e.node e.length (inl (refl, refl))) (q f.node f.length (inl (refl, refl))) in
      let rest = rising_same (e.node + 1) (f.node + 1) es fs h.1 k.1 (among_rest e f es fs h.1 s.0 p)
      (among_rest f e fs es k.1 (sym s.0) q) in
      ap₂ (λ (x : Entry) (xs : List Entry). x ∷ xs) (entry_same e f s.0 s.1) rest

-- ---- reach maps
pub least_same : {g : Streets} {t a b feet feet' : ℕ} → LeastLength g t a b feet → LeastLength g t a b feet' → feet ≡ feet'
least_same D E = omega (arith, D.measured, E.measured, shortest_same_length D.shortest E.shortest)

module _ {g : Streets} {nodes t a greatest : ℕ} {es : List Entry} where
  pub listed_inside : ReachMap g nodes t a greatest es → (b feet : ℕ) → Listed b feet es → b < nodes
  listed_inside M b feet k = (listed_between nodes 0 b feet es M.rising k).1

  pub map_few : ReachMap g nodes t a greatest es → length es ≤ nodes
  map_few M = omega (arith, rising_bound nodes 0 es M.rising)

  -- a node within reach is listed with its least length
  pub least_listed : {b feet : ℕ} → ReachMap g nodes t a greatest es → b < nodes → LeastLength g t a b feet → feet ≤ greatest → Listed b feet es
  least_listed {b} {feet} M l D h =
      let k = M.every b D.runs l D.shortest.within (omega (arith, D.measured)) in
      rw (least_same (M.only b k.0 k.1).0 D) at k.1

  pub start_listed : 1 ≤ t → a < nodes → ReachMap g nodes t a greatest es → Listed a 0 es
  start_listed one l M = least_listed M l (stay_length g t a one) (omega arith)

  -- where no node needs more than a length, a greater one lists the same
  pub map_clamped : {greatest' : ℕ} → greatest ≤ greatest' → ((b : ℕ) (rs : List ℕ) → Within g t a b rs → RouteUpTo g t a b greatest)
      → ReachMap g nodes t a greatest es → ReachMap g nodes t a greatest' es
  map_clamped l short M =
      record {
        rising = M.rising;
        every = λ b rs i h m.
            let s = short b rs h in
            M.every b s.0 i s.1 s.2;
        only = λ b feet k.
            let s = M.only b feet k in
            (s.0, omega (arith, s.1));
      }

  -- more tolerance and a greater length keep every node, and make none farther
  pub map_rises : {u greatest' : ℕ} {es' : List Entry} → t ≤ u → greatest ≤ greatest' → ReachMap g nodes t a greatest es
      → ReachMap g nodes u a greatest' es' → (b feet : ℕ) → Listed b feet es → (feet' : ℕ) × Listed b feet' es' × (feet' ≤ feet)
  map_rises up l M N b feet k =
      let s = M.only b feet k in
      let D = s.0 in
      let within = within_rises up D.shortest.within in
      let n = N.every b D.runs (listed_inside M b feet k) within (omega (arith, D.measured, s.1)) in
      let E = (N.only b n.0 n.1).0 in
      (n.0, n.1, omega (arith, D.measured, E.measured, E.shortest.least D.runs within))

  pub map_same_length : {greatest' : ℕ} {es' : List Entry} → ReachMap g nodes t a greatest es → ReachMap g nodes t a greatest' es'
      → (b feet feet' : ℕ) → Listed b feet es → Listed b feet' es' → feet ≡ feet'
  map_same_length M N b feet feet' k m = least_same (M.only b feet k).0 (N.only b feet' m).0

-- what the one lists, the other lists too
map_among : {g : Streets} {nodes t a greatest : ℕ} {es es' : List Entry} → ReachMap g nodes t a greatest es → ReachMap g nodes t a greatest es'
    → Among es es'
map_among M N b feet k =
    let s = M.only b feet k in
    least_listed N (listed_inside M b feet k) s.0 s.1

-- one question has one map
pub map_unique : {g : Streets} {nodes t a greatest : ℕ} {es es' : List Entry} → ReachMap g nodes t a greatest es → ReachMap g nodes t a greatest es'
    → es ≡ es'
map_unique {nodes = nodes} {es = es} {es' = es'} M N = rising_same nodes 0 0 es es' M.rising N.rising (map_among M N) (map_among N M)

-- ---- distances list themselves
module _ (near : ℕ → ℕ) (greatest : ℕ) where
  entries_rising : (nodes v left : ℕ) → v + left ≡ nodes → Rising nodes v (entries_of near greatest v left)
  unfolding entries_of
  entries_rising nodes v zero e = omega arith
  entries_rising nodes v (suc left) e =
      let rest = entries_rising nodes (v + 1) left (omega arith) in
      ⊎_elim
      (λ (h : greatest < near v). rw (lt-leb (near v) greatest h) (rising_lower nodes v (v + 1) (entries_of near greatest (v + 1) left) (omega arith) rest))
      (λ (h : near v ≤ greatest). rw (le-leb (near v) greatest h) (omega arith, rest))
      (lt_or_ge greatest (near v))

  entries_every : (v left b : ℕ) → v ≤ b → b < v + left → near b ≤ greatest → Listed b (near b) (entries_of near greatest v left)
  unfolding entries_of
  entries_every v zero b l m h = absurd (omega arith)
  entries_every v (suc left) b l m h =
      ⊎_elim
      (λ (k : v < b).
      let rest = entries_every (v + 1) left b (omega arith) (omega arith) h in
      ⊎_elim
      (λ (s : greatest < near v). rw (lt-leb (near v) greatest s) rest)
      (λ (s : near v ≤ greatest). rw (le-leb (near v) greatest s) (inr rest))
      (lt_or_ge greatest (near v)))
      (λ (k : b ≤ v).
      let e : v ≡ b = omega arith in
      rw (e, le-leb (near b) greatest h) (inl (refl, refl)))
      (lt_or_ge v b)

  entries_only : (v left b feet : ℕ) → Listed b feet (entries_of near greatest v left) → (b < v + left) × (near b ≡ feet) × (feet ≤ greatest)
  unfolding entries_of
  entries_only v zero b feet k = absurd k
  entries_only v (suc left) b feet k =
      let further : Listed b feet (entries_of near greatest (v + 1) left) → (b < v + suc left) × (near b ≡ feet) × (feet ≤ greatest) = λ m.
      let s = entries_only (v + 1) left b feet m in
      (omega (arith, s.0), s.1, s.2) in
      ⊎_elim
      (λ (h : greatest < near v). further (rw (lt-leb (near v) greatest h) at k))
      (λ (h : near v ≤ greatest).
      ⊎_elim
      (λ (s : (v ≡ b) × (near v ≡ feet)). (omega (arith, s.0), ap near (sym s.0) ∙ s.1, omega (arith, s.1)))
      further
      (rw (le-leb (near v) greatest h) at k))
      (lt_or_ge greatest (near v))

-- the entries of the distances are a reach map
pub distances_map : {g : Streets} {nodes t a greatest : ℕ} {near : ℕ → ℕ} → Distances g nodes t a greatest near
    → ReachMap g nodes t a greatest (entries_of near greatest 0 nodes)
distances_map {g} {nodes} {t} {a} {greatest} {near} D =
    record {
      rising = entries_rising near greatest nodes 0 nodes (omega arith);
      every = λ b rs l h m.
          ⊎_elim
          (λ (s : greatest < near b). absurd (omega (arith, D.outside b l s rs h)))
          (λ (s : near b ≤ greatest). (near b, entries_every near greatest 0 nodes b (omega arith) (omega arith) s))
          (lt_or_ge greatest (near b));
      only = λ b feet k.
          let s = entries_only near greatest 0 nodes b feet k in
          (rw s.1 at (D.inside b (omega (arith, s.0)) (omega (arith, s.1, s.2))), s.2);
    }
