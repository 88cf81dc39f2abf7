-- Document 02, Note 5, of every street and every crossing: by the older rules each is what it was, and the newer ones change nothing but what the note
-- names. Its proof is proofs/NewerRulesHold.antt.
-- Assumes nothing.
use Rattle.std.specs.Prelude.{ℕ, ◌≤◌, ◌≡◌, Bool, true, false, ◌||◌, ltb}
use Rattle.frames.specs.declared.Form.{Form}
use Rattle.frames.specs.declared.Form.TheVariants.{Mixed, BesideParking, BikeLane, SeparatePath}
use Rattle.frames.specs.declared.Crossing.{Crossing}
use Rattle.frames.specs.declared.Crossing.TheVariants.{Nothing, Signal, NoIsland, Island, OneWay, ImprovedSignal}
use Rattle.stress.specs.Crossing.{older_crossing, crossing_level}
use Rattle.stress.specs.Segment.{older_grade}
use Rattle.stress.specs.NewerSegment.{is_widened, mixed_beside, grade_of}

-- The note's conditions of a street of form 1 or 2: its reach counts as more, or the mixed level is lower than its own.
abbrev pub has_condition : ℕ → Form → Bool
has_condition ways (Mixed lanes speed marks) = false
has_condition ways (BesideParking lanes speed reach marks) =
    is_widened ways lanes marks || ltb (mixed_beside ways lanes speed marks) (older_grade (BesideParking lanes speed reach marks)).level
has_condition ways (BikeLane lanes speed reach marks) =
    is_widened ways lanes marks || ltb (mixed_beside ways lanes speed marks) (older_grade (BikeLane lanes speed reach marks)).level
has_condition ways SeparatePath = false

-- Those of a crossing: a signal, with or without the improvement.
abbrev pub is_signal : Crossing → Bool
is_signal Nothing = false
is_signal Signal = true
is_signal (NoIsland lanes speed) = false
is_signal (Island lanes speed) = false
is_signal (OneWay lanes speed) = false
is_signal ImprovedSignal = true

pub record NewerRules : Type 0 where
  -- by the older rules every level and measure is what it was
  pub street_before : (ways : ℕ) (form : Form) → grade_of false ways form ≡ older_grade form
  pub crossing_before : (crossing : Crossing) → crossing_level false crossing ≡ older_crossing crossing
  -- by the newer ones what has none of the note's conditions is what it was too
  pub street_same : (ways : ℕ) (form : Form) → has_condition ways form ≡ false → grade_of true ways form ≡ older_grade form
  pub crossing_same : (crossing : Crossing) → is_signal crossing ≡ false → crossing_level true crossing ≡ older_crossing crossing
  -- no street's level is raised, and no crossing's is lowered
  pub street_no_higher : (ways : ℕ) (form : Form) → (grade_of true ways form).level ≤ (older_grade form).level
  pub crossing_no_lower : (crossing : Crossing) → older_crossing crossing ≤ crossing_level true crossing
  -- no street of form 1 or 2 is above the mixed level
  pub parking_no_higher : (ways lanes speed reach marks : ℕ)
      → (grade_of true ways (BesideParking lanes speed reach marks)).level ≤ mixed_beside ways lanes speed marks
  pub bike_lane_no_higher : (ways lanes speed reach marks : ℕ)
      → (grade_of true ways (BikeLane lanes speed reach marks)).level ≤ mixed_beside ways lanes speed marks
