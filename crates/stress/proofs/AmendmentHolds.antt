-- Note 2's amendment: measure 2 of form 1 is nowhere above what it was, it is the same where the street is not amended, and 2 instead of 3 where it is. A
-- level is the greatest of the four measures, so the rest is arithmetic; a governing measure is chosen from the same four, so that equal measures give
-- equal grades.
-- Assumes nothing.
use Prim.Native.Nat.{ℕ, ◌≤◌, max}
use mathlib.Core.Path.{◌≡◌, refl, ap, ◌∙◌}
use mathlib.Core.Bool.{Bool, true, false, cond, ◌&&◌, true≢false}
use native.Mathlib.Omega.{arith}
use lib.Dec.{leb, lit≤}
use borrow.Author.Tests.{leb-true, leb-false, le-leb, lt-leb}
use Rattle.lists.proofs.Facts.{and_true}
use Rattle.frames.specs.declared.Form.{Form}
use Rattle.frames.specs.declared.Form.TheVariants.{Mixed, BesideParking, BikeLane, SeparatePath}
use Rattle.stress.specs.Segment.{is_quiet, parking_lanes, parking_reach, parking_speed, blocked_level, grade_of_four, older_grade}
use Rattle.stress.specs.Amendment.{former_reach, former_grade, is_amended, other_measures, Amendment}

-- ---- the measure, by its tests: a and b are those of the two upper rows, n is that of 27 and under, q is the footnote's
rows_no_higher : (a b q : Bool) → cond a 1 (cond b 2 (cond q 2 3)) ≤ cond a 1 (cond b 2 3)
rows_no_higher true b q = lit≤ tt
rows_no_higher false true q = lit≤ tt
rows_no_higher false false true = lit≤ tt
rows_no_higher false false false = lit≤ tt

rows_same : (q n a b : Bool) → (n ≡ false → b ≡ true) → n && q ≡ false
    → ◌≡◌ {A = ℕ} (cond a 1 (cond b 2 (cond q 2 3))) (cond a 1 (cond b 2 3))
rows_same false n a b above e = refl
rows_same true true a b above e = absurd (true≢false e)
rows_same true false a b above e = rw (above refl)

module _ (reach : ℕ) where
  -- a reach that is not 27 and under is in one of the upper rows, and one that is, in neither
  above_narrow : leb reach 27 ≡ false → leb 28 reach ≡ true
  above_narrow e = let l = leb-false reach 27 e in le-leb 28 reach (omega arith)

  lowest_row : (level : ℕ) → leb reach 27 ≡ true → cond (leb 30 reach) 1 (cond (leb 28 reach) 2 level) ≡ level
  lowest_row level e = let l = leb-true reach 27 e in rw (lt-leb 30 reach (omega arith), lt-leb 28 reach (omega arith))

  module _ (speed marks : ℕ) where
    reach_after : leb reach 27 ≡ true → is_quiet speed marks ≡ true → parking_reach speed reach marks ≡ 2
    reach_after e q = lowest_row (cond (is_quiet speed marks) 2 3) e ∙ rw q

    reach_no_higher : parking_reach speed reach marks ≤ former_reach reach
    reach_no_higher = rows_no_higher (leb 30 reach) (leb 28 reach) (is_quiet speed marks)

    reach_same : leb reach 27 && is_quiet speed marks ≡ false → parking_reach speed reach marks ≡ former_reach reach
    reach_same e = rows_same (is_quiet speed marks) (leb reach 27) (leb 30 reach) (leb 28 reach) above_narrow e

-- ---- the greatest of the four
greatest_no_higher : (one two former three four : ℕ) → two ≤ former → max (max one two) (max three four) ≤ max (max one former) (max three four)
greatest_no_higher one two former three four l = omega arith

second_apart : (one two three four n : ℕ) → two ≡ n → max (max one two) (max three four) ≡ max n (max one (max three four))
second_apart one two three four n e = omega arith

-- ---- the amendment
never_higher : (form : Form) → (older_grade form).level ≤ (former_grade form).level
unfolding older_grade former_grade grade_of_four
never_higher (Mixed lanes speed marks) = omega arith
never_higher (BesideParking lanes speed reach marks) =
    greatest_no_higher (parking_lanes lanes) (parking_reach speed reach marks) (former_reach reach) (parking_speed speed) (blocked_level marks)
    (reach_no_higher reach speed marks)
never_higher (BikeLane lanes speed reach marks) = omega arith
never_higher SeparatePath = omega arith

elsewhere : (form : Form) → is_amended form ≡ false → older_grade form ≡ former_grade form
unfolding older_grade former_grade
elsewhere (Mixed lanes speed marks) e = refl
elsewhere (BesideParking lanes speed reach marks) e =
    ap (λ (two : ℕ). grade_of_four (parking_lanes lanes) two (parking_speed speed) (blocked_level marks)) (reach_same reach speed marks e)
elsewhere (BikeLane lanes speed reach marks) e = refl
elsewhere SeparatePath e = refl

module _ (lanes speed reach marks : ℕ) (e : is_amended (BesideParking lanes speed reach marks) ≡ true) where
  level_before : (former_grade (BesideParking lanes speed reach marks)).level ≡ max 3 (other_measures lanes speed marks)
  unfolding former_grade grade_of_four
  level_before =
      second_apart (parking_lanes lanes) (former_reach reach) (parking_speed speed) (blocked_level marks) 3
      (lowest_row reach 3 (and_true (leb reach 27) (is_quiet speed marks) e).0)

  level_after : (older_grade (BesideParking lanes speed reach marks)).level ≡ max 2 (other_measures lanes speed marks)
  unfolding older_grade grade_of_four
  level_after =
      let both = and_true (leb reach 27) (is_quiet speed marks) e in
      second_apart (parking_lanes lanes) (parking_reach speed reach marks) (parking_speed speed) (blocked_level marks) 2
      (reach_after reach speed marks both.0 both.1)

pub amendment : Amendment
amendment = record { never_higher = never_higher; elsewhere = elsewhere; level_before = level_before; level_after = level_after }
