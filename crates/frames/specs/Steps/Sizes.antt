-- Sizes that memory and laws are laid out by, and what the code learns of an edition's sizes and of a head's counts.
-- Assumes nothing.
use Rattle.std.specs.Prelude.{ℕ, ◌+◌, ◌≤◌, Bool, cond, ◌&&◌, ◌≡◌, leb}
use Rattle.frames.specs.declared.Head.{Head}
use Rattle.frames.specs.Edition.{is_newer, is_wide, extra, segment_bytes, frame_bytes}

-- A town has at most so many nodes, and so many segments: it needs no more memory, whatever its edition allows.
abbrev pub town_size : ℕ
town_size = 1000

unfoldable pub is_town : ℕ → ℕ → Bool
is_town nodes segments = leb nodes town_size && leb segments town_size

-- A county is as large as the largest edition, document 02's edition 03, allows: so many nodes, and so many segments; a length of so many feet; a segment's
-- frame of so many bytes. No edition goes beyond it (proofs/EditionLaws.antt), so that its memory serves every network.
abbrev pub county_size : ℕ
county_size = 8000

abbrev pub county_feet : ℕ
county_feet = 264000

abbrev pub most_bytes : ℕ
most_bytes = 32

-- r more bytes of length, and of a frame.
pub record Extra (e r : ℕ) : Type 0 where
  pub is : r ≡ extra e
  pub frame : frame_bytes e ≡ segment_bytes + r
  pub few : segment_bytes + r ≤ most_bytes

pub record FrameSize (e r : ℕ) : Type 0 where
  pub is : r ≡ frame_bytes e
  pub least : segment_bytes ≤ r
  pub most : r ≤ most_bytes

-- The last control that the rules have.
abbrev pub last_control : Bool → ℕ
last_control newer = cond newer 5 4

-- Two editions with the same rules and the same widths: each test of a frame says the same under both.
pub record Alike (e d : ℕ) : Type 0 where
  pub newer : is_newer e ≡ is_newer d
  pub wide : is_wide e ≡ is_wide d

-- A head with no more nodes and segments than a county.
pub record Limited (head : Head) : Type 0 where
  pub few_nodes : head.nodes ≤ county_size
  pub few_segments : head.segments ≤ county_size
