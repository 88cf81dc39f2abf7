-- What the steps of the call promise of places in a text.
-- Assumes nothing.
use Rattle.std.specs.Prelude.{ℕ, ◌+◌, ◌*◌, ◌-◌, ◌≤◌, ◌≡◌, List, length, drop}
use Rattle.frames.specs.Edition.{frame_bytes}
use Rattle.frames.specs.Frame.{head_bytes, edition}
use Rattle.digits.specs.Steps.Scan.{spelled}
use Rattle.cursor.specs.Lines.{from_line, line_start}

-- The place after a head's line and so many lines of the frames that the head names.
abbrev pub after_frames : List ℕ → ℕ → ℕ
after_frames text lines = 2 * head_bytes + 1 + (2 * frame_bytes (edition (spelled head_bytes text)) + 1) * lines

-- The lines before line k are a head's and frames', so that their lengths tell where it begins.
pub record WholeBefore (text : List ℕ) (k : ℕ) : Type 0 where
  pub first : 1 ≤ k
  pub long : 2 ≤ k → after_frames text (k - 2) ≤ length text
  pub rest : 2 ≤ k → from_line k text ≡ drop (after_frames text (k - 2)) text

-- A place where line k begins.
pub record Begins (text : List ℕ) (k place : ℕ) : Type 0 where
  pub is : place ≡ line_start k text
  pub inside : place ≤ length text
  pub rest : drop place text ≡ from_line k text
