-- The least of the labels behind the entries of the index of runs that are passed: one more entry is one more comparison.
-- Assumes nothing.
use mathlib.Core.Path.{◌≡◌, refl}
use mathlib.Core.List.{List}
use Prim.Native.Nat.{ℕ, ◌+◌, ◌<◌, min}
use native.Mathlib.Numerals.{add-one}
use lib.ListN.{take, drop}
use Rattle.lists.specs.Lists.{at}
use Rattle.lists.proofs.Lists.{part_element}
use Rattle.routes.specs.Steps.Labels.{unlabelled}
use Rattle.search_reach.specs.Steps.Arrivals.{label_behind, least_behind}

pub least_none : (index best : List ℕ) (place : ℕ) → least_behind index best place 0 ≡ unlabelled
unfolding least_behind
least_none index best place = refl

-- the entries stand in a part of the index, from the place on
pub least_more : (index best : List ℕ) (place size leg : ℕ) {label least next : ℕ} → leg < size → next ≡ min label least
    → label ≡ label_behind best (at (take size (drop place index)) leg)
    → least ≡ least_behind index best place leg
    → next ≡ least_behind index best place (leg + 1)
unfolding least_behind
least_more index best place size leg h n b l =
    rw (add-one leg, least_behind, n, b, l, part_element index place size leg h)
