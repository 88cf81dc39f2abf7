-- The level of a chain is read backwards too. At each run q the runs after it are known, and `level` is the level from q on; the run before q adds its
-- own level and the movement's. At the first run of the chain the level from there on is the whole route's.
-- Assumes nothing.
use mathlib.Core.Path.{◌≡◌, refl}
use mathlib.Core.List.{List, []}
use Prim.Native.Nat.{ℕ, zero, suc, ◌+◌}
use native.Mathlib.Omega.{arith}
use Rattle.routes.specs.Streets.{Streets}
use Rattle.routes.specs.Routes.{level_from}
use Rattle.routes.specs.Steps.Labels.{Depth, chain}
use Rattle.search_routes.specs.Steps.Trace.{Traced}
use Rattle.search_routes.proofs.Tracing.{Runs, traced_runs}

-- j runs of the chain are passed, the last of them q, and `level` is the level from q on
pub record Levelled (g : Streets) (n : ℕ) (previous : ℕ → ℕ) (k r j q level : ℕ) : Type 0 where
  pub left : ℕ
  pub split : j + left ≡ k
  pub after : List ℕ
  pub runs : Runs n previous (suc left) q
  pub from : level ≡ level_from g q after
  pub whole : chain previous (suc left) q after ≡ chain previous k r []

pub levelled_one : (g : Streets) {n : ℕ} {previous : ℕ → ℕ} {r k level : ℕ} → Traced n previous r k → level ≡ g.stress r
    → Levelled g n previous k r 1 r level
levelled_one g {n} {previous} {r} {k} {level} T e = go k T.depth (traced_runs T)
  where
    go : (k : ℕ) → Depth n previous k r → Runs n previous k r → Levelled g n previous k r 1 r level
    go zero d h = absurd d
    go (suc k) d h = record { left = k; split = omega arith; after = []; runs = h; from = e; whole = refl }
