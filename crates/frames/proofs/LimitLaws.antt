-- The limits of a control, looked up, allow what the definition allows: one case for each control.
-- Assumes nothing.
use Prim.Native.Nat.{ℕ, zero, suc, ◌≤◌, ◌<◌}
use mathlib.Core.Bool.{Bool, true, false, ◌&&◌, ◌||◌}
use mathlib.Core.Path.{◌≡◌}
use mathlib.Core.List.{List, [], ◌∷◌}
use native.Mathlib.Omega.{arith}
use lib.Dec.{eqb}
use Rattle.std.specs.Prelude.{slice_index_or}
use Rattle.std.proofs.lemmas.Bool.Decides.{nat_tests}
use Rattle.frames.specs.Edition.{crosses_nothing}
use Rattle.frames.specs.Frame.{control, lanes_crossed, speed_crossed}
use Rattle.frames.specs.Ranges.{within, crossing_ok}
use Rattle.frames.specs.Steps.Sizes.{last_control}

abbrev six : ℕ → ℕ → ℕ → ℕ → ℕ → ℕ → List ℕ
six a b c d e f = a ∷ b ∷ c ∷ d ∷ e ∷ f ∷ []

crossing_limits : (newer : Bool) (k lanes speed : ℕ) → k ≤ last_control newer
    → (within (slice_index_or (six 0 0 1 1 1 0) k 0) (slice_index_or (six 0 0 12 12 12 0) k 0) lanes
    && within (slice_index_or (six 0 0 5 5 5 0) k 0) (slice_index_or (six 0 0 85 85 85 0) k 0) speed)
    ≡ (crosses_nothing newer k && eqb lanes 0 && eqb speed 0 || (within 2 4 k && within 1 12 lanes && within 5 85 speed))
unfolding crosses_nothing
crossing_limits newer zero l s h = grind (arith, nat_tests)
crossing_limits newer (suc zero) l s h = grind (arith, nat_tests)
crossing_limits newer (suc (suc zero)) l s h = grind (arith, nat_tests)
crossing_limits newer (suc (suc (suc zero))) l s h = grind (arith, nat_tests)
crossing_limits newer (suc (suc (suc (suc zero)))) l s h = grind (arith, nat_tests)
crossing_limits true (suc (suc (suc (suc (suc zero))))) l s h = grind (arith, nat_tests)
crossing_limits false (suc (suc (suc (suc (suc zero))))) l s h = absurd (omega arith)
crossing_limits true (suc (suc (suc (suc (suc (suc k)))))) l s h = absurd (omega arith)
crossing_limits false (suc (suc (suc (suc (suc (suc k)))))) l s h = absurd (omega arith)

pub crossing_by_limits : (newer : Bool) (f : List ℕ) (i : ℕ) → control f i ≤ last_control newer
    → (within (slice_index_or (six 0 0 1 1 1 0) (control f i) 0) (slice_index_or (six 0 0 12 12 12 0) (control f i) 0) (lanes_crossed f i)
    && within (slice_index_or (six 0 0 5 5 5 0) (control f i) 0) (slice_index_or (six 0 0 85 85 85 0) (control f i) 0) (speed_crossed f i))
    ≡ crossing_ok newer f i
unfolding crossing_ok
crossing_by_limits newer f i h = crossing_limits newer (control f i) (lanes_crossed f i) (speed_crossed f i) h

pub no_such_control : (newer : Bool) (f : List ℕ) (i : ℕ) → last_control newer < control f i → crossing_ok newer f i ≡ false
unfolding crossing_ok crosses_nothing
no_such_control newer f i h = grind (arith, nat_tests)
