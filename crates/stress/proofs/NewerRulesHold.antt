-- Note 5's rules: a reach that counts as what it is and a mixed level that is not lower leave a street as it was. A wider reach raises no measure, and the
-- lower of two levels is above neither.
-- Assumes nothing.
use Prim.Native.Nat.{ℕ, ◌+◌, ◌≤◌}
use mathlib.Core.Path.{◌≡◌, refl}
use mathlib.Core.Bool.{Bool, true, false, cond, ◌||◌, true≢false}
use native.Mathlib.Omega.{arith}
use lib.Dec.{ltb}
use Rattle.std.proofs.lemmas.Bool.Decides.{nat_tests}
use Rattle.frames.specs.declared.Form.{Form}
use Rattle.frames.specs.declared.Form.TheVariants.{Mixed, BesideParking, BikeLane, SeparatePath}
use Rattle.frames.specs.declared.Crossing.{Crossing}
use Rattle.frames.specs.declared.Crossing.TheVariants.{Nothing, Signal, NoIsland, Island, OneWay, ImprovedSignal}
use Rattle.stress.specs.declared.segment.Grade.{Grade}
use Rattle.stress.specs.Crossing.{older_crossing, newer_crossing, crossing_level}
use Rattle.stress.specs.Segment.{older_grade, grade_of_four, parking_reach, bike_lane_reach}
use Rattle.stress.specs.NewerSegment.{is_widened, counted_reach, mixed_beside, lower_of, newer_grade, grade_of}
use Rattle.stress.specs.NewerRules.{has_condition, is_signal, NewerRules}

-- ---- the lower of a level and a grade's
lower_first : (mixed : ℕ) (grade : Grade) → (lower_of mixed grade).level ≤ mixed
lower_first mixed grade = grind (arith, nat_tests)

lower_second : (mixed : ℕ) (grade : Grade) → (lower_of mixed grade).level ≤ grade.level
lower_second mixed grade = grind (arith, nat_tests)

-- a street's level and measure by its counted reach are its own, where nothing is counted and the mixed level is not lower
lower_same : (widened : Bool) (mixed reach : ℕ) (by_reach : ℕ → Grade) → (widened || ltb mixed (by_reach reach).level) ≡ false
    → lower_of mixed (by_reach (cond widened (reach + 4) reach)) ≡ by_reach reach
lower_same true mixed reach by_reach e = absurd (true≢false e)
lower_same false mixed reach by_reach e = rw e

-- ---- a reach that counts as more
module _ (widened : Bool) (reach : ℕ) where
  parking_counted : (speed marks : ℕ) → parking_reach speed (cond widened (reach + 4) reach) marks ≤ parking_reach speed reach marks
  parking_counted speed marks = grind (arith, nat_tests)

  bike_lane_counted : bike_lane_reach (cond widened (reach + 4) reach) ≤ bike_lane_reach reach
  bike_lane_counted = grind (arith, nat_tests)

-- ---- the rules
street_same : (ways : ℕ) (form : Form) → has_condition ways form ≡ false → grade_of true ways form ≡ older_grade form
unfolding grade_of newer_grade
street_same ways (Mixed lanes speed marks) e = refl
street_same ways (BesideParking lanes speed reach marks) e =
    lower_same (is_widened ways lanes marks) (mixed_beside ways lanes speed marks) reach (λ (r : ℕ). older_grade (BesideParking lanes speed r marks)) e
street_same ways (BikeLane lanes speed reach marks) e =
    lower_same (is_widened ways lanes marks) (mixed_beside ways lanes speed marks) reach (λ (r : ℕ). older_grade (BikeLane lanes speed r marks)) e
street_same ways SeparatePath e = refl

street_no_higher : (ways : ℕ) (form : Form) → (grade_of true ways form).level ≤ (older_grade form).level
unfolding grade_of newer_grade older_grade grade_of_four
street_no_higher ways (Mixed lanes speed marks) = omega arith
street_no_higher ways (BesideParking lanes speed reach marks) =
    let counted = parking_counted (is_widened ways lanes marks) reach speed marks in grind (arith, nat_tests)
street_no_higher ways (BikeLane lanes speed reach marks) =
    let counted = bike_lane_counted (is_widened ways lanes marks) reach in grind (arith, nat_tests)
street_no_higher ways SeparatePath = omega arith

module _ (ways lanes speed reach marks : ℕ) where
  parking_no_higher : (grade_of true ways (BesideParking lanes speed reach marks)).level ≤ mixed_beside ways lanes speed marks
  unfolding grade_of newer_grade
  parking_no_higher =
      lower_first (mixed_beside ways lanes speed marks) (older_grade (BesideParking lanes speed (counted_reach ways lanes reach marks) marks))

  bike_lane_no_higher : (grade_of true ways (BikeLane lanes speed reach marks)).level ≤ mixed_beside ways lanes speed marks
  unfolding grade_of newer_grade
  bike_lane_no_higher =
      lower_first (mixed_beside ways lanes speed marks) (older_grade (BikeLane lanes speed (counted_reach ways lanes reach marks) marks))

crossing_same : (crossing : Crossing) → is_signal crossing ≡ false → crossing_level true crossing ≡ older_crossing crossing
unfolding crossing_level newer_crossing
crossing_same Nothing e = refl
crossing_same Signal e = absurd (true≢false e)
crossing_same (NoIsland lanes speed) e = refl
crossing_same (Island lanes speed) e = refl
crossing_same (OneWay lanes speed) e = refl
crossing_same ImprovedSignal e = absurd (true≢false e)

crossing_no_lower : (crossing : Crossing) → older_crossing crossing ≤ crossing_level true crossing
unfolding crossing_level newer_crossing older_crossing
crossing_no_lower Nothing = omega arith
crossing_no_lower Signal = omega arith
crossing_no_lower (NoIsland lanes speed) = omega arith
crossing_no_lower (Island lanes speed) = omega arith
crossing_no_lower (OneWay lanes speed) = omega arith
crossing_no_lower ImprovedSignal = omega arith

street_before : (ways : ℕ) (form : Form) → grade_of false ways form ≡ older_grade form
unfolding grade_of
street_before ways form = refl

crossing_before : (crossing : Crossing) → crossing_level false crossing ≡ older_crossing crossing
unfolding crossing_level
crossing_before crossing = refl

pub newer_rules : NewerRules
newer_rules =
    record {
      street_before = street_before;
      crossing_before = crossing_before;
      street_same = street_same;
      crossing_same = crossing_same;
      street_no_higher = street_no_higher;
      crossing_no_lower = crossing_no_lower;
      parking_no_higher = parking_no_higher;
      bike_lane_no_higher = bike_lane_no_higher;
    }
