-- What the second pass of Read writes: the bytes that the digits of a good text's lines spell, one line after the other.
-- Assumes nothing.
use Rattle.std.specs.Prelude.{ℕ, zero, suc, ◌+◌, ◌*◌, List, [], ◌++◌, drop}
use Rattle.frames.specs.Frame.{head_bytes}
use Rattle.digits.specs.Steps.Scan.{spelled}

-- The bytes of so many lines, each of `size` bytes and its 0A, joined.
unfoldable pub spelled_lines : ℕ → ℕ → List ℕ → List ℕ
spelled_lines size zero text = []
spelled_lines size (suc lines) text = spelled size text ++ spelled_lines size lines (drop (2 * size + 1) text)

-- The bytes of a head's line and of so many lines after it.
abbrev pub spelled_text : ℕ → ℕ → List ℕ → List ℕ
spelled_text size lines text = spelled head_bytes text ++ spelled_lines size lines (drop (2 * head_bytes + 1) text)
