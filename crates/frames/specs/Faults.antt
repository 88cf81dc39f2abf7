-- Document 01, "Read": the first fault of a frame, of those that every frame may have, and of a head. (A segment's other faults need the network: they stand
-- in crate network.)
-- Assumes nothing.
use Rattle.std.specs.Prelude.{ℕ, not, List}
use Rattle.lists.specs.Lists.{is_empty}
use Rattle.refusals.specs.declared.Refusal.TheVariants.{NotDigits, WrongCheck, WrongFrame, WrongField}
use Rattle.refusals.specs.Numbers.{unless}
use Rattle.frames.specs.Frame.{check_ok, is_frame, head_bytes}
use Rattle.frames.specs.Ranges.{head_ok}

-- A frame's faults are numbers, 0 for none, in this order: 1 an empty line or one that is not whole pairs (which has no bytes); 2 check; 3 wrong
-- kind or frame length for its position; then what the position tests.
unfoldable pub framed : ℕ → ℕ → List ℕ → ℕ → ℕ
framed kind size f later = unless (not (is_empty f)) NotDigits (unless (check_ok f) WrongCheck (unless (is_frame kind size f) WrongFrame later))

-- The head line: 4 a field against the ranges.
unfoldable pub head_fault : List ℕ → ℕ
head_fault h = framed 1 head_bytes h (unless (head_ok h) WrongField 0)
