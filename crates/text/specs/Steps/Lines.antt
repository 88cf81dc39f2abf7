-- What the steps of Read promise of one line.
-- Assumes nothing.
use Rattle.std.specs.Prelude.{ℕ, ◌+◌, ◌*◌, ◌≤◌, Bool, true, ◌≡◌, List, [], eqb, ltb, length, drop, Result, Ok, Err, ⊤}
use Rattle.refusals.specs.declared.Refusal.{Refusal}
use Rattle.refusals.specs.Numbers.{number_of}
use Rattle.frames.specs.declared.Head.{Head}
use Rattle.frames.specs.Frame.{head_bytes, edition, nodes, segments}
use Rattle.frames.specs.Faults.{framed}
use Rattle.network.specs.Steps.Taken.{claimed, ends_of}
use Rattle.network.specs.Steps.Checks.{legs_fault}
use Rattle.digits.specs.Digits.{line_of, bytes_of}
use Rattle.text.specs.declared.GoodHead.{GoodHead}
use Rattle.text.specs.Read.{Reading, refused, segment_lines, read_of}

-- The bytes of a text's first line.
abbrev pub line_bytes : List ℕ → List ℕ
line_bytes text = bytes_of (line_of text)

-- The answer for a line whose fault has this number: 0 is a frame.
abbrev pub Tells : ℕ → Result ⊤ Refusal → Type 0
Tells number (Ok _) = number ≡ 0
Tells number (Err fault) = number ≡ number_of fault

-- A line decoded into the buffer, if it has as many bytes as the buffer.
pub record LineDecoded (text before after : List ℕ) (r : Bool) : Type 0 where
  pub answer : r ≡ eqb (length (line_bytes text)) (length before)
  pub frame : r ≡ true → after ≡ line_bytes text

-- The fault of a line, wherever it has not the length that it should have.
pub record LineFault (text : List ℕ) (r : Refusal) : Type 0 where
  pub answer : (kind size : ℕ) → (length (line_bytes text) ≡ size → ⊥) → framed kind size (line_bytes text) 0 ≡ number_of r

-- A line read as a frame of this kind and of the buffer's length, into the buffer.
pub record FrameRead (text : List ℕ) (kind : ℕ) (before after : List ℕ) (r : Result ⊤ Refusal) : Type 0 where
  pub answer : Tells (framed kind (length before) (line_bytes text) 0) r
  pub frame : framed kind (length before) (line_bytes text) 0 ≡ 0 → after ≡ line_bytes text

-- The lines after a good head.
abbrev pub lines_after : List ℕ → List ℕ → Reading
lines_after h text = segment_lines (edition h) (nodes h) (segments h) 2 [] h text

-- Line 1 judged, and the room for the network that its head says: a fault decides, else the lines after the head do.
abbrev pub HeadJudged : List ℕ → ℕ → Result GoodHead Refusal → Type 0
HeadJudged text room (Ok first) = (2 * head_bytes + 1 ≤ length text) × (read_of text room ≡ lines_after first.bytes (drop (2 * head_bytes + 1) text))
HeadJudged text room (Err fault) = read_of text room ≡ refused (number_of fault) 1

-- The fault of the line of segment s, after this head, by the bytes of used legs.
abbrev pub fault_after : Head → ℕ → List ℕ → List ℕ → ℕ
fault_after head s legs f = legs_fault head.edition head.nodes (ltb s head.segments) legs f

-- The frame of segment s judged; its legs are claimed where it has no fault.
pub record SegmentJudged (f : List ℕ) (head : Head) (s : ℕ) (before after : List ℕ) (r : Result ⊤ Refusal) : Type 0 where
  pub answer : Tells (fault_after head s before f) r
  pub legs : fault_after head s before f ≡ 0 → after ≡ claimed before (ends_of f)

-- The same of a text's first line.
abbrev pub LineJudged : List ℕ → Head → ℕ → List ℕ → List ℕ → Result ⊤ Refusal → Type 0
LineJudged text head s before after r = SegmentJudged (line_bytes text) head s before after r
