-- The chain of `previous` is counted from its last run backwards: what is counted and what is left make the whole, and the count ends where no run
-- comes before. It is then written into the tail from the back: before each store the chain that is left, put in front of what is written, is the whole
-- chain, so that at the front of the tail it holds it.
-- Assumes nothing.
use mathlib.Core.Path.{◌≡◌, refl, ◌∙◌, ap}
use mathlib.Core.List.{List, [], ◌∷◌, ◌++◌}
use mathlib.Core.Logic.{◌⊎◌, ⊎_elim}
use Prim.Native.Nat.{ℕ, zero, suc, ◌+◌, ◌-◌, ◌≤◌, ◌<◌}
use native.Mathlib.Omega.{arith}
use lib.ListN.{length, take, drop, length-drop}
use lib.Seq.{take-length, drop-drop}
use Rattle.routes.specs.Steps.Labels.{unlabelled, Depth, chain}
use Rattle.routes.proofs.Chains.{chain_count}
use Rattle.lists.specs.Placed.{placed}
use Rattle.lists.proofs.PlacedLaws.{tail_back}
use Rattle.search_routes.specs.Steps.Trace.{Traced}

-- k runs of the chain from r are counted, and p is the number before them
pub record Counted (n : ℕ) (previous : ℕ → ℕ) (r p k : ℕ) : Type 0 where
  pub left : ℕ
  pub rest : ((p ≡ unlabelled) × (left ≡ 0)) ⊎ ((p < n) × Depth n previous left p)
  pub whole : Depth n previous (k + left) r
  pub few : k + left ≤ n

module _ {n : ℕ} {previous : ℕ → ℕ} {r p k : ℕ} (C : Counted n previous r p k) where
  -- a run comes before
  counted_inside : p < unlabelled → (p < n) × Depth n previous C.left p
  counted_inside l =
      ⊎_elim
      (λ (s : (p ≡ unlabelled) × (C.left ≡ 0)). absurd (omega arith))
      (λ (s : (p < n) × Depth n previous C.left p). s)
      C.rest

  pub counted_more : p < unlabelled → {q : ℕ} → q ≡ previous p → Counted n previous r q (k + 1)
  counted_more l {q} same = rw same (go C.left (counted_inside l).1 C.whole C.few)
    where
      go : (left : ℕ) → Depth n previous left p → Depth n previous (k + left) r → k + left ≤ n → Counted n previous r (previous p) (k + 1)
      go zero d h f = absurd d
      go (suc left) d h f =
          let e : k + 1 + left ≡ k + suc left = omega arith in
          record { left = left; rest = d.1; whole = rw e h; few = omega arith }

-- the first k runs of the chain of `previous` from r are runs below n
abbrev pub Runs : ℕ → (ℕ → ℕ) → ℕ → ℕ → Type 0
Runs n previous zero r = Unit {0}
Runs n previous (suc k) r = (r < n) × Runs n previous k (previous r)

depth_runs : (n : ℕ) (previous : ℕ → ℕ) (k r : ℕ) → Depth n previous k r → Runs n previous k r
depth_runs n previous zero r d = tt
depth_runs n previous (suc k) r d =
    ⊎_elim
    (λ (s : (previous r ≡ unlabelled) × (k ≡ 0)). (d.0, rw s.1 tt))
    (λ (s : (previous r < n) × Depth n previous k (previous r)). (d.0, depth_runs n previous k (previous r) s.1))
    d.1

pub traced_runs : {n : ℕ} {previous : ℕ → ℕ} {r k : ℕ} → Traced n previous r k → Runs n previous k r
traced_runs {n} {previous} {r} {k} T = depth_runs n previous k r T.depth

-- the runs after a chain stand after it
pub chain_append : (previous : ℕ → ℕ) (k r : ℕ) (xs ys : List ℕ) → chain previous k r (xs ++ ys) ≡ chain previous k r xs ++ ys
chain_append previous zero r xs ys = refl
chain_append previous (suc k) r xs ys = chain_append previous k (previous r) (r ∷ xs) ys

-- all but the first i of the k runs from r stand in the tail, and q is the next to be written
pub record Filled (n : ℕ) (previous : ℕ → ℕ) (k r : ℕ) (before : List ℕ) (i q : ℕ) (after : List ℕ) : Type 0 where
  pub some : i ≤ k
  pub same : length after ≡ length before
  pub runs : Runs n previous i q
  pub text : chain previous i q (drop i after) ≡ chain previous k r (drop k before)

pub filled_none : {n : ℕ} {previous : ℕ → ℕ} {r k : ℕ} → Traced n previous r k → (before : List ℕ) → Filled n previous k r before k r before
filled_none T before = record { some = omega arith; same = refl; runs = traced_runs T; text = refl }

-- the buffer with its tail, from the place to its end, lent and written
pub tail_placed : {n : ℕ} {previous : ℕ → ℕ} {r k : ℕ} → Traced n previous r k → (place : ℕ) (before : List ℕ) {tail : List ℕ}
    → tail ≡ chain previous k r (drop k (take (length before - place) (drop place before)))
    → take place before ++ (tail ++ drop (length before - place) (drop place before)) ≡ placed place (chain previous k r []) before
tail_placed {previous = previous} {r = r} {k = k} T place before {tail} e =
    let whole : take (length before - place) (drop place before) ≡ drop place before = rw length-drop at (take-length (drop place before)) in
    let counted : length (chain previous k r []) ≡ k = omega (arith, chain_count previous k r []) in
    let text : tail ≡ chain previous k r [] ++ drop (place + k) before =
    e
    ∙ ap (λ (xs : List ℕ). chain previous k r (drop k xs)) whole
    ∙ chain_append previous k r [] (drop k (drop place before))
    ∙ ap (λ (xs : List ℕ). chain previous k r [] ++ xs) (drop-drop k place before) in
    let whole-tail : tail ≡ chain previous k r [] ++ drop (place + length (chain previous k r [])) before = rw counted text in
    tail_back place (chain previous k r []) before whole-tail
