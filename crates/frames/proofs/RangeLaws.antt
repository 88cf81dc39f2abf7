-- A number that is within two others is no less than the one and no greater than the other; what the code's tests of fields answer; and what the older rules
-- allow, the newer ones do.
-- Assumes nothing.
use Rattle.std.specs.declared.ops.RangeInclusive.{RangeInclusive}
use Rattle.std.specs.Range.{range_inclusive_start, range_inclusive_end, range_inclusive_exhausted, range_inclusive_contains}
use Rattle.std.proofs.Common.{rules, Some, nat_cmp}
use Rattle.std.proofs.lemmas.Bool.Decides.{nat_tests}
use Prim.Native.Nat.{ℕ, ◌≤◌}
use mathlib.Core.Bool.{Bool, true, false, ◌&&◌, ◌||◌}
use mathlib.Core.Path.{◌≡◌, refl}
use mathlib.Core.List.{List}
use native.Mathlib.Omega.{arith}
use lib.Dec.{leb, eqb}
use borrow.Author.Tests.{leb-true}
use Rattle.lists.proofs.Facts.{and_true}
use Rattle.frames.specs.Edition.{extra, length_bytes, most_feet, most_turn_feet, marks_ok, crosses_nothing}
use Rattle.frames.specs.Steps.Sizes.{Alike}
use Rattle.frames.specs.Frame.{feet, marks, control, turn_kind, turn_feet, turning_speed, approach_b, approach_a}
use Rattle.frames.specs.Ranges.{within, form_ok, crossing_ok, no_lane, turn_lane_ok, approach_ok, street_by, street_ok}

pub within_low : (lo hi x : ℕ) → within lo hi x ≡ true → lo ≤ x
within_low lo hi x e = leb-true lo x (and_true (leb lo x) (leb x hi) e).0

pub within_high : (lo hi x : ℕ) → within lo hi x ≡ true → x ≤ hi
within_high lo hi x e = leb-true x hi (and_true (leb lo x) (leb x hi) e).1

-- what `contains` answers at a range of both its ends
pub contains_within : (s : RangeInclusive ℕ) (lo hi x : ℕ) → range_inclusive_start s ≡ lo → range_inclusive_end s ≡ hi → range_inclusive_exhausted s ≡ false
    → range_inclusive_contains (λ (a b : ℕ). Some (nat_cmp a b)) s x ≡ within lo hi x
contains_within s lo hi x a b c = rw (a, b, c) (search rules)

-- a form other than 3 leaves the first alternative, in which one that is not 0 is 1 or 2
pub other_form : (form : ℕ) (a b c d none w x y z : Bool) → (form ≡ 3 → ⊥)
    → (leb form 2 && a && b && c && d && (within 1 2 form || none) || (eqb form 3 && w && x && y && z)) ≡ (leb form 2 && a && b && c && d && (leb 1 form || none))
other_form form a b c d none w x y z h = grind (arith, nat_tests)

-- a turn lane whose fields are all 0 is none; another one has the ranges of the kinds from 1 on
module _ (f : List ℕ) (i : ℕ) where
  pub lane_absent : no_lane f i ≡ true → turn_lane_ok f i ≡ true
  unfolding turn_lane_ok
  lane_absent h = rw h

  pub lane_there : no_lane f i ≡ false
      → turn_lane_ok f i ≡ (within 1 3 (turn_kind f i) && within 1 most_turn_feet (turn_feet f i) && within 5 85 (turning_speed f i))
  unfolding turn_lane_ok
  lane_there h = rw h

-- ---- what the older rules allow, the newer ones do
newer_marks : (marks : ℕ) → marks_ok false marks ≡ true → marks_ok true marks ≡ true
unfolding marks_ok
newer_marks marks h = grind (arith, nat_tests)

newer_crosses : (control : ℕ) → crosses_nothing false control ≡ true → crosses_nothing true control ≡ true
unfolding crosses_nothing
newer_crosses control h = grind (arith, nat_tests)

module _ (f : List ℕ) where
  newer_form : (e : ℕ) → form_ok false e f ≡ true → form_ok true e f ≡ true
  unfolding form_ok
  newer_form e h = let n = newer_marks (marks e f) in grind (arith, nat_tests)

  newer_crossing : (i : ℕ) → crossing_ok false f i ≡ true → crossing_ok true f i ≡ true
  unfolding crossing_ok
  newer_crossing i h = let n = newer_crosses (control f i) in grind (arith, nat_tests)

  newer_approach : (i : ℕ) → approach_ok false f i ≡ true → approach_ok true f i ≡ true
  unfolding approach_ok
  newer_approach i h = let n = newer_crossing i in grind (arith, nat_tests)

  pub newer_street : (e : ℕ) → street_by false e f ≡ true → street_by true e f ≡ true
  unfolding street_by
  newer_street e h =
      let form = newer_form e in
      let b = newer_approach (approach_b e) in
      let a = newer_approach (approach_a e) in
      grind (arith, nat_tests)

-- streets of editions that are alike
pub alike_streets : {e d : ℕ} (f : List ℕ) → Alike e d → street_ok e f ≡ street_ok d f
unfolding street_by form_ok feet length_bytes most_feet extra
alike_streets f a = rw (a.newer, a.wide) refl
