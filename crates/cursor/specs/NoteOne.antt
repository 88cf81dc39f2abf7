-- Document 02, note 1, whole: one statement over what the call returns, beside what Read returns for the same text and an output of the length that is
-- told. Lines are those of specs/Lines.antt, `told` gives what Read's answer tells. Its proof is proofs/NoteOneHolds.antt.
-- Assumes nothing.
use Rattle.std.specs.Prelude.{ℕ, ◌+◌, ◌≤◌, ◌≡◌, List, [], ◌↔◌, length, Result}
use Rattle.std.specs.Borrow.{Bor}
use Rattle.refusals.specs.declared.Refusal.TheVariants.{OutputTooShort, NoRefusedLine}
use Rattle.refusals.specs.Numbers.{number_of}
use Rattle.text.specs.declared.Refused.{Refused}
use Rattle.text.specs.Told.{told, refusal, written, ReadDid}
use Rattle.cursor.specs.Lines.{from_line, IsLine}
use Rattle.cursor.specs.Cursor.{Points, cursor_of}
use Rattle.cursor.specs.LineFault.{FirstFaulty}

-- A call: the text that was lent, and the part and the number that came back. `returned` is the contract of the call.
pub record LineCall (text : List ℕ) (room : ℕ) : Type 0 where
  pub lent : Bor (List ℕ)
  pub part : Bor (List ℕ)
  pub number : ℕ
  pub of_this : lent.now ≡ text
  pub returned : Points lent room part number

-- A call of Read with the same text, and an output of so many bytes.
pub record ReadCall (text : List ℕ) (room : ℕ) : Type 0 where
  pub before : List ℕ
  pub after : List ℕ
  pub of_room : length before ≡ room
  pub answer : Result ℕ Refused
  pub returned : ReadDid text before after answer

-- Where the part begins in the text.
abbrev pub place_of : {text : List ℕ} {room : ℕ} → LineCall text room → ℕ
place_of {text} {room} call = (cursor_of text room).start

-- Where Read refuses with a number and a line.
pub record OfRefusal {text : List ℕ} {room : ℕ} (call : LineCall text room) (number k : ℕ) : Type 0 where
  -- the number is Read's own
  pub same_number : call.number ≡ number
  -- the part is the line that Read counts, without its 0A
  pub the_line : IsLine text k (place_of call) call.part.now
  -- the fault is that line's own, and no line before it has one
  pub first_faulty : FirstFaulty text room number k
  -- a short output: the head line
  pub head_line : number ≡ number_of OutputTooShort → k ≡ 1
  -- too few segments, where the text has no line k: the empty part at the text's end
  pub no_line : from_line k text ≡ [] → (call.part.now ≡ []) × (place_of call ≡ length text)

-- Where Read accepts: 14, and the empty part at the text's end.
pub record OfAcceptance {text : List ℕ} {room : ℕ} (call : LineCall text room) : Type 0 where
  pub fourteen : call.number ≡ number_of NoRefusedLine
  pub empty : call.part.now ≡ []
  pub at_end : place_of call ≡ length text

pub record NoteOne : Type 0 where
  pub refused : {text : List ℕ} {room : ℕ} (call : LineCall text room) (read : ReadCall text room) {number k : ℕ}
      → told read.answer ≡ refusal number k → OfRefusal call number k
  pub accepted : {text : List ℕ} {room : ℕ} (call : LineCall text room) (read : ReadCall text room) {count : ℕ}
      → told read.answer ≡ written count → OfAcceptance call
  -- 14 exactly when Read accepts
  pub fourteen_exactly : {text : List ℕ} {room : ℕ} (call : LineCall text room) (read : ReadCall text room)
      → (call.number ≡ number_of NoRefusedLine) ↔ ((count : ℕ) × (told read.answer ≡ written count))
  -- a text has one line k
  pub one_line : {text line other : List ℕ} {k start place : ℕ} → IsLine text k start line → IsLine text k place other
      → (start ≡ place) × (line ≡ other)
  -- the part stands in the caller's own text, at its place, and ends inside it
  pub own_text : {text : List ℕ} {room : ℕ} (call : LineCall text room)
      → (call.part.ref_ptr.0 ≡ call.lent.ref_ptr.0) × (call.part.ref_ptr.1 ≡ call.lent.ref_ptr.1 + place_of call)
  pub inside : {text : List ℕ} {room : ℕ} (call : LineCall text room) → place_of call + length call.part.now ≤ length text
