-- Block town searched from node 0: the labels of runs 0 to 5, each the best length and the run before. Their certificate shows the two shortest routes. At
-- tolerance 3 runs 3 and 5 have no label, at tolerance 4 run 5 has none.
-- Assumes nothing.
use Prim.Native.Nat.{ℕ}
use mathlib.Core.List.{[], ◌∷◌}
use lib.ListN.{get_or}
use Rattle.routes.specs.Steps.Labels.{unlabelled}

abbrev pub best3 : ℕ → ℕ
best3 r = get_or (300 ∷ 1500 ∷ 1200 ∷ unlabelled ∷ 1500 ∷ unlabelled ∷ []) r 0

abbrev pub previous3 : ℕ → ℕ
previous3 r = get_or (unlabelled ∷ 2 ∷ 0 ∷ unlabelled ∷ 2 ∷ unlabelled ∷ []) r 0

abbrev pub best4 : ℕ → ℕ
best4 r = get_or (300 ∷ 1500 ∷ 1200 ∷ 1200 ∷ 600 ∷ unlabelled ∷ []) r 0

abbrev pub previous4 : ℕ → ℕ
previous4 r = get_or (unlabelled ∷ 2 ∷ 0 ∷ 0 ∷ 0 ∷ unlabelled ∷ []) r 0
