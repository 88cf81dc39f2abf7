-- Document 02, Note 5: the level of a segment by the newer rules, which are the older ones of specs/Segment.antt changed by what the note says and by nothing
-- more; and the one definition that the code is equated with, which takes newer rules or not, and the ways.
-- Assumes nothing.
use Rattle.std.specs.Prelude.{ℕ, ◌+◌, ◌*◌, Bool, cond, ◌&&◌, ltb, eqb}
use Rattle.frames.specs.declared.Form.{Form}
use Rattle.frames.specs.declared.Form.TheVariants.{Mixed, BesideParking, BikeLane, SeparatePath}
use Rattle.stress.specs.declared.segment.Grade.{Grade}
use Rattle.stress.specs.Segment.{has_mark, mixed_level, older_grade}

-- Mark 16 (10 hexadecimal) means a central two-way turn lane.
abbrev pub has_central_lane : ℕ → Bool
has_central_lane marks = has_mark 16 marks

-- For forms 1 and 2 the reach counts as 4 half feet more when lanes are 1, ways are 3 and that mark is set.
abbrev pub is_widened : ℕ → ℕ → ℕ → Bool
is_widened ways lanes marks = eqb lanes 1 && eqb ways 3 && has_central_lane marks

abbrev pub counted_reach : ℕ → ℕ → ℕ → ℕ → ℕ
counted_reach ways lanes reach marks = cond (is_widened ways lanes marks) (reach + 4) reach

-- The mixed level of a street of form 1 or 2 is looked up at twice its lanes where ways are 3, and at its lanes where it is open one way.
abbrev pub mixed_beside : ℕ → ℕ → ℕ → ℕ → ℕ
mixed_beside ways lanes speed marks = mixed_level (cond (eqb ways 3) (2 * lanes) lanes) speed marks

-- A street of form 1 or 2 takes the mixed level when that is lower, and measure 5 then governs.
abbrev pub lower_of : ℕ → Grade → Grade
lower_of mixed grade = cond (ltb mixed grade.level) (record { level = mixed; measure = 5 }) grade

unfoldable pub newer_grade : ℕ → Form → Grade
newer_grade ways (Mixed lanes speed marks) = older_grade (Mixed lanes speed marks)
newer_grade ways (BesideParking lanes speed reach marks) =
    lower_of (mixed_beside ways lanes speed marks) (older_grade (BesideParking lanes speed (counted_reach ways lanes reach marks) marks))
newer_grade ways (BikeLane lanes speed reach marks) =
    lower_of (mixed_beside ways lanes speed marks) (older_grade (BikeLane lanes speed (counted_reach ways lanes reach marks) marks))
newer_grade ways SeparatePath = older_grade SeparatePath

unfoldable pub grade_of : Bool → ℕ → Form → Grade
grade_of newer ways form = cond newer (newer_grade ways form) (older_grade form)
