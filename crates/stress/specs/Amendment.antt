-- Document 02, Note 2: what its amendment of measure 2 of form 1 changes, for every street of edition 01. Its proof is proofs/AmendmentHolds.antt.
-- Assumes nothing.
use Rattle.std.specs.Prelude.{ℕ, ◌≤◌, max, ◌≡◌, Bool, true, false, cond, ◌&&◌, leb}
use Rattle.frames.specs.declared.Form.{Form}
use Rattle.frames.specs.declared.Form.TheVariants.{Mixed, BesideParking, BikeLane, SeparatePath}
use Rattle.stress.specs.declared.segment.Grade.{Grade}
use Rattle.stress.specs.Segment.{is_quiet, parking_lanes, parking_speed, blocked_level, grade_of_four, older_grade}

-- Measure 2 of form 1 as document 01 has it: 30 and over 1, 28 or 29 2, 27 and under 3.
abbrev pub former_reach : ℕ → ℕ
former_reach reach = cond (leb 30 reach) 1 (cond (leb 28 reach) 2 3)

-- Level and governing measure as document 01 has them: the other forms were not amended.
unfoldable pub former_grade : Form → Grade
former_grade (Mixed lanes speed marks) = older_grade (Mixed lanes speed marks)
former_grade (BesideParking lanes speed reach marks) =
    grade_of_four (parking_lanes lanes) (former_reach reach) (parking_speed speed) (blocked_level marks)
former_grade (BikeLane lanes speed reach marks) = older_grade (BikeLane lanes speed reach marks)
former_grade SeparatePath = older_grade SeparatePath

-- Form 1 with a reach of 27 and under, where the limit is below 25 mph or the street is residential.
abbrev pub is_amended : Form → Bool
is_amended (Mixed lanes speed marks) = false
is_amended (BesideParking lanes speed reach marks) = leb reach 27 && is_quiet speed marks
is_amended (BikeLane lanes speed reach marks) = false
is_amended SeparatePath = false

-- The greatest level of form 1's other measures: lanes, speed, blocked often.
abbrev pub other_measures : ℕ → ℕ → ℕ → ℕ
other_measures lanes speed marks = max (parking_lanes lanes) (max (parking_speed speed) (blocked_level marks))

pub record Amendment : Type 0 where
  -- no level is raised
  pub never_higher : (form : Form) → (older_grade form).level ≤ (former_grade form).level
  -- level and measure are as they were for every other street
  pub elsewhere : (form : Form) → is_amended form ≡ false → older_grade form ≡ former_grade form
  -- there the level was the greatest of 3 and the other measures, and is the greatest of 2 and those: it falls, from 3 to 2, exactly where those are at most 2
  pub level_before : (lanes speed reach marks : ℕ) → is_amended (BesideParking lanes speed reach marks) ≡ true
      → (former_grade (BesideParking lanes speed reach marks)).level ≡ max 3 (other_measures lanes speed marks)
  pub level_after : (lanes speed reach marks : ℕ) → is_amended (BesideParking lanes speed reach marks) ≡ true
      → (older_grade (BesideParking lanes speed reach marks)).level ≡ max 2 (other_measures lanes speed marks)
