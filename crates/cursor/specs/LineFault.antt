-- Document 01, "Read": the first faulty line decides. Here each line of a text, as 0A parts it, has a fault of its own, by what it holds and by what the lines
-- before it took; 0 is none.
-- Assumes nothing.
use Rattle.std.specs.Prelude.{ℕ, zero, suc, ◌-◌, ◌<◌, cond, ◌≡◌, List, [], eqb, leb, ltb}
use Rattle.lists.specs.Lists.{is_empty}
use Rattle.refusals.specs.declared.Refusal.TheVariants.{WrongFrame, WrongCount, OutputTooShort}
use Rattle.refusals.specs.Numbers.{number_of, unless}
use Rattle.frames.specs.Frame.{edition, nodes, segments}
use Rattle.frames.specs.Faults.{head_fault}
use Rattle.network.specs.Legs.{taking}
use Rattle.network.specs.Faults.{segment_fault}
use Rattle.network.specs.Network.{kept_bytes}
use Rattle.digits.specs.Digits.{line_of, bytes_of}
use Rattle.cursor.specs.Lines.{after_line}

-- The bytes that a text's first line spells; none where it is no frame.
abbrev pub line_bytes : List ℕ → List ℕ
line_bytes text = bytes_of (line_of text)

-- The first line: an empty text is 3; then the head's fault; then 7, an output that is too short.
abbrev pub or_else : ℕ → ℕ → ℕ
or_else zero later = later
or_else (suc fault) later = suc fault

unfoldable pub first_fault : List ℕ → ℕ → ℕ
first_fault text room =
    cond (is_empty text) (number_of WrongFrame)
    (or_else (head_fault (line_bytes text)) (unless (leb (kept_bytes (line_bytes text)) room) OutputTooShort 0))

-- The line that so many others stand before, where so many segments are left and these legs are taken: 5 at the text's end while segments are left.
unfoldable pub later_fault : ℕ → ℕ → ℕ → List ℕ → List ℕ → ℕ → ℕ
later_fault e n left taken text zero =
    cond (is_empty text) (unless (eqb left 0) WrongCount 0) (segment_fault e n (ltb 0 left) taken (line_bytes text))
later_fault e n left taken text (suc lines) = later_fault e n (left - 1) (taking taken (line_bytes text)) (after_line text) lines

-- Line k of a text, counted from 1, where Read is lent an output of `room` bytes.
abbrev pub fault_of_line : List ℕ → ℕ → ℕ → ℕ
fault_of_line text room zero = 0
fault_of_line text room (suc zero) = first_fault text room
fault_of_line text room (suc (suc lines)) =
    later_fault (edition (line_bytes text)) (nodes (line_bytes text)) (segments (line_bytes text)) [] (after_line text) lines

-- Line k has this fault, and no line before it has any.
pub record FirstFaulty (text : List ℕ) (room number k : ℕ) : Type 0 where
  pub own : fault_of_line text room k ≡ number
  pub none_before : (j : ℕ) → j < k → fault_of_line text room j ≡ 0
