-- Document 02, note 1: the part of a text that holds the refused line, without its 0A, and the refusal's number. For too few segments the refused line is
-- the one after the last, so that the part is empty and stands at the text's end; for a short output it is line 1, the head. That a text is in order once
-- this line is mended or cut out is not claimed: later lines were not judged.
-- Assumes nothing.
use Rattle.std.specs.Prelude.{ℕ, ◌+◌, ◌≡◌, List, length, take, drop}
use Rattle.std.specs.Borrow.{Bor}
use Rattle.refusals.specs.declared.Refusal.TheVariants.{NoRefusedLine}
use Rattle.refusals.specs.Numbers.{number_of}
use Rattle.text.specs.Read.{Reading, refused, kept, read_of}
use Rattle.cursor.specs.declared.Cursor.{Cursor}
use Rattle.cursor.specs.Lines.{first_line, from_line, line_start}

-- A refusal's number, where the part begins in the text, and how many bytes it has.
abbrev pub cursor_with : ℕ → ℕ → ℕ → Cursor
cursor_with number start bytes = record { number = number; start = start; length = bytes }

-- Where Read refuses: its number, and its line. Where it accepts: 14, and the empty part at the text's end.
abbrev pub cursor_at : List ℕ → Reading → Cursor
cursor_at text (refused number line) = cursor_with number (line_start line text) (length (first_line (from_line line text)))
cursor_at text (kept bytes) = cursor_with (number_of NoRefusedLine) (length text) 0

-- Of a text, and an output of `room` bytes that Read would be lent.
unfoldable pub cursor_of : List ℕ → ℕ → Cursor
cursor_of text room = cursor_at text (read_of text room)

-- What the call promises of the part and of the number that it gives back: the part is of the caller's own text, and begins and ends where
-- the definition says, also where it is empty.
pub record Points (text : Bor (List ℕ)) (room : ℕ) (part : Bor (List ℕ)) (number : ℕ) : Type 0 where
  pub number_is : number ≡ (cursor_of text.now room).number
  pub of_text : part.ref_ptr.0 ≡ text.ref_ptr.0
  pub begins : part.ref_ptr.1 ≡ text.ref_ptr.1 + (cursor_of text.now room).start
  pub bytes : part.now ≡ take (cursor_of text.now room).length (drop (cursor_of text.now room).start text.now)
