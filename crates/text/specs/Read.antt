-- Document 01, "Read": what a text and an output's length give. The first faulty line decides.
-- Assumes nothing.
use Rattle.std.specs.Prelude.{ℕ, zero, suc, ◌+◌, true, false, cond, List, [], ◌++◌, leb}
use Rattle.lists.specs.Lists.{is_empty}
use Rattle.refusals.specs.declared.Refusal.TheVariants.{WrongFrame, WrongCount, OutputTooShort}
use Rattle.refusals.specs.Numbers.{number_of}
use Rattle.frames.specs.Frame.{edition, nodes, segments}
use Rattle.frames.specs.Faults.{head_fault}
use Rattle.network.specs.Legs.{taking}
use Rattle.network.specs.Faults.{segment_fault}
use Rattle.network.specs.Network.{kept_bytes}
use Rattle.digits.specs.Digits.{line_of, bytes_of, rest_of}

-- A refusal has its number and its line, counted from 1; an acceptance keeps the frames' bytes joined.
pub data Reading : Type 0 where
  refused : ℕ → ℕ → Reading
  kept : List ℕ → Reading

-- A fault at this line decides, else what comes after it.
abbrev pub unless_fault : ℕ → ℕ → Reading → Reading
unless_fault zero at later = later
unless_fault (suc fault) at later = refused (suc fault) at

-- The lines from line `at` on: so many segments are left, these legs are taken, these bytes are kept so far. After the last line: 5 too few
-- segments, at the line after it.
unfoldable pub segment_lines : ℕ → ℕ → ℕ → ℕ → List ℕ → List ℕ → List ℕ → Reading
segment_lines e n zero at taken sofar text =
    cond (is_empty text) (kept sofar) (refused (segment_fault e n false taken (bytes_of (line_of text))) at)
segment_lines e n (suc left) at taken sofar text =
    cond (is_empty text) (refused (number_of WrongCount) at)
    (unless_fault (segment_fault e n true taken (bytes_of (line_of text))) at
    (segment_lines e n left (at + 1) (taking taken (bytes_of (line_of text))) (sofar ++ bytes_of (line_of text)) (rest_of (line_of text))))

-- After a good head and before line 2: 7, with line 1, output shorter than 7 + 30 × S.
abbrev pub after_head : List ℕ → ℕ → List ℕ → Reading
after_head h room text =
    cond (leb (kept_bytes h) room) (segment_lines (edition h) (nodes h) (segments h) 2 [] h text) (refused (number_of OutputTooShort) 1)

-- An empty text is 3 at line 1.
unfoldable pub read_of : List ℕ → ℕ → Reading
read_of text room =
    cond (is_empty text) (refused (number_of WrongFrame) 1)
    (unless_fault (head_fault (bytes_of (line_of text))) 1 (after_head (bytes_of (line_of text)) room (rest_of (line_of text))))
