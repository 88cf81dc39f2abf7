-- Document 01, "Read": the first fault of a segment's line.
-- Assumes nothing.
use Rattle.std.specs.Prelude.{ℕ, Bool, ◌&&◌, List}
use Rattle.refusals.specs.declared.Refusal.TheVariants.{WrongField, WrongCount, LegTaken}
use Rattle.refusals.specs.Numbers.{unless}
use Rattle.frames.specs.Edition.{frame_bytes}
use Rattle.frames.specs.Ranges.{ends_ok, street_ok}
use Rattle.frames.specs.Faults.{framed}
use Rattle.network.specs.Legs.{legs_free}

-- A segment's line, where its frame has no fault of those that every frame may have: 5 a segment beyond S (`more` says whether S allows one more);
-- 4 a field against the ranges or rules; 6 a leg taken already.
abbrev pub segment_tests : Bool → Bool → Bool → ℕ
segment_tests more fields free = unless more WrongCount (unless fields WrongField (unless free LegTaken 0))

-- A segment's line in a network of edition e and n nodes, where it is known whether its legs are free.
abbrev pub line_fault : ℕ → ℕ → Bool → Bool → List ℕ → ℕ
line_fault e n more free f = framed 2 (frame_bytes e) f (segment_tests more (ends_ok n f && street_ok e f) free)

-- The same, where these legs are taken already.
unfoldable pub segment_fault : ℕ → ℕ → Bool → List ℕ → List ℕ → ℕ
segment_fault e n more taken f = line_fault e n more (legs_free taken f) f
