-- Lines of a text, as byte 0A parts them.
-- Assumes nothing.
use Rattle.std.specs.Prelude.{ℕ, zero, suc, ◌+◌, ◌-◌, cond, ◌≡◌, List, [], ◌∷◌, ◌++◌, eqb, length}
use Rattle.text.specs.Accepted.{count, Each}

-- The first line of a text, without its 0A; to the text's end where there is none. And the text after that line and its 0A.
unfoldable pub first_line : List ℕ → List ℕ
first_line [] = []
first_line (x ∷ text) = cond (eqb x 0x0A) [] (x ∷ first_line text)

unfoldable pub after_line : List ℕ → List ℕ
after_line [] = []
after_line (x ∷ text) = cond (eqb x 0x0A) text (after_line text)

-- The text after so many lines; nothing where it has no more.
unfoldable pub after_lines : ℕ → List ℕ → List ℕ
after_lines zero text = text
after_lines (suc lines) text = after_lines lines (after_line text)

-- The text from line k on, counted from 1; and where line k begins, counted in bytes from 0. A line after the last is empty and begins at the text's end.
abbrev pub from_line : ℕ → List ℕ → List ℕ
from_line k text = after_lines (k - 1) text

abbrev pub line_start : ℕ → List ℕ → ℕ
line_start k text = length text - length (from_line k text)

-- ---- The same said of the text as a whole
-- No byte is 0A.
abbrev pub NoEnd : List ℕ → Type 0
NoEnd [] = Unit {0}
NoEnd (x ∷ line) = (x ≡ 0x0A → ⊥) × NoEnd line

-- Lines, each with its 0A, joined.
abbrev pub ended : List (List ℕ) → List ℕ
ended [] = []
ended (line ∷ lines) = line ++ (0x0A ∷ ended lines)

-- What comes after a line: its 0A, or nothing.
abbrev pub Ends : List ℕ → Type 0
Ends [] = Unit {0}
Ends (x ∷ text) = x ≡ 0x0A

-- Line k of a text: k - 1 lines with their 0A stand before it, it has no 0A itself, and its own comes next or the text's end.
pub record IsLine (text : List ℕ) (k start : ℕ) (line : List ℕ) : Type 0 where
  pub before : List (List ℕ)
  pub after : List ℕ
  pub text_is : text ≡ ended before ++ (line ++ after)
  pub counted : count before + 1 ≡ k
  pub begins : start ≡ length (ended before)
  pub ended_before : Each NoEnd before
  pub no_end : NoEnd line
  pub ends : Ends after
