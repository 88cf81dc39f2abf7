-- Document 01, "Frames": a network text is lines of uppercase hexadecimal digits, two for a byte, one frame a line, each line ended by byte 0A.
-- Assumes nothing.
use Rattle.std.specs.Prelude.{ℕ, ◌+◌, ◌*◌, ◌-◌, Bool, ◌&&◌, ◌||◌, cond, List, [], ◌∷◌, eqb}
use Rattle.frames.specs.Ranges.{within}

-- An uppercase hexadecimal digit: 0 to 9 are the bytes 48 to 57, A to F the bytes 65 to 70.
unfoldable pub is_digit : ℕ → Bool
is_digit x = within 48 57 x || within 65 70 x

-- A digit's value; 0 for what is no digit.
unfoldable pub digit : ℕ → ℕ
digit x = cond (within 48 57 x) (x - 48) (cond (within 65 70 x) (x - 55) 0)

-- A line at the front of a text: its bytes and the text after its 0A. It is broken where it is not whole pairs of digits ended by 0A.
pub data Line : Type 0 where
  broken : Line
  line : List ℕ → List ℕ → Line

abbrev pub push : ℕ → Line → Line
push b broken = broken
push b (line bytes rest) = line (b ∷ bytes) rest

unfoldable pub line_of : List ℕ → Line
line_of [] = broken
line_of (x ∷ []) = cond (eqb x 10) (line [] []) broken
line_of (x ∷ y ∷ text) =
    cond (eqb x 10) (line [] (y ∷ text)) (cond (is_digit x && is_digit y) (push (16 * digit x + digit y) (line_of text)) broken)

-- The bytes of a line, none where it is broken; and the text after it.
abbrev pub bytes_of : Line → List ℕ
bytes_of broken = []
bytes_of (line bytes rest) = bytes

abbrev pub rest_of : Line → List ℕ
rest_of broken = []
rest_of (line bytes rest) = rest
