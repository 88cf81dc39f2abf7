-- The least tolerance: a route is found at one, and where a lower one was tried there is none one below it, and so none at any below.
-- Assumes nothing.
use mathlib.Core.List.{List}
use Prim.Native.Nat.{ℕ}
use native.Mathlib.Omega.{arith}
use Rattle.routes.specs.Streets.{Streets}
use Rattle.routes.specs.Routes.{LeastTolerance}
use Rattle.routes.proofs.Tolerance.{none_falls, least_of_shortest}
use Rattle.routes.specs.declared.Found.{Found}
use Rattle.search_routes.specs.Steps.Answered.{FirstFound}

pub first_is_least : {g : Streets} {t a b place : ℕ} {before after : List ℕ} {told : Found} {u : ℕ} → FirstFound g 1 t a b place before after told u
    → LeastTolerance g u a b
first_is_least F = least_of_shortest F.low F.written.shortest (λ v l h. none_falls (omega arith) (F.none_below (omega arith)))
