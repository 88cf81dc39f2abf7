-- Document 01, "Frames": a frame that follows the rules, in named parts, as far as the frame alone can tell. Demand 2 is written in these words.
-- Assumes nothing.
use Rattle.std.specs.Prelude.{ℕ, true, ◌≡◌, List, length}
use Rattle.frames.specs.Edition.{frame_bytes}
use Rattle.frames.specs.Frame.{check_ok, byte, head_bytes}
use Rattle.frames.specs.Ranges.{head_ok, ends_ok, street_ok}

-- A head's frame follows the rules: its check, its kind 01, its length, its fields.
pub record HeadFollows (h : List ℕ) : Type 0 where
  pub check : check_ok h ≡ true
  pub kind : byte h 0 ≡ 1
  pub size : length h ≡ head_bytes
  pub fields : head_ok h ≡ true

-- The same of a segment's frame in a network of edition e and n nodes, its kind 02; all but its legs, which other frames decide.
pub record SegmentFollows (e n : ℕ) (f : List ℕ) : Type 0 where
  pub check : check_ok f ≡ true
  pub kind : byte f 0 ≡ 2
  pub size : length f ≡ frame_bytes e
  pub ends : ends_ok n f ≡ true
  pub street : street_ok e f ≡ true
