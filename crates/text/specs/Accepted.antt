-- Demand 2, when Read accepts: the text is the lines of a head and S segment frames that each follow the rules, no leg is taken twice, and the
-- bytes fit the output.
-- Assumes nothing.
use Rattle.std.specs.Prelude.{ℕ, zero, suc, ◌≤◌, false, ◌≡◌, List, [], ◌∷◌, ◌++◌}
use Rattle.lists.specs.Lists.{Bytes}
use Rattle.frames.specs.Frame.{edition, nodes, segments}
use Rattle.frames.specs.Follows.{HeadFollows, SegmentFollows}
use Rattle.network.specs.Legs.{corner_a, corner_b, is_in}
use Rattle.network.specs.Network.{kept_bytes}
use Rattle.text.specs.Text.{line_text}

-- Of a list of frames: their number; each of them has a property; their bytes joined; their lines; the corners of their ends.
abbrev pub count : List (List ℕ) → ℕ
count [] = zero
count (f ∷ frames) = suc (count frames)

abbrev pub Each : (List ℕ → Type 0) → List (List ℕ) → Type 0
Each P [] = Unit {0}
Each P (f ∷ frames) = P f × Each P frames

abbrev pub joined : List (List ℕ) → List ℕ
joined [] = []
joined (f ∷ frames) = f ++ joined frames

abbrev pub lines_text : List (List ℕ) → List ℕ
lines_text [] = []
lines_text (f ∷ frames) = line_text f ++ lines_text frames

abbrev pub ends_of : List (List ℕ) → List ℕ
ends_of [] = []
ends_of (f ∷ frames) = corner_a f ∷ corner_b f ∷ ends_of frames

-- No number comes twice.
abbrev pub Distinct : List ℕ → Type 0
Distinct [] = Unit {0}
Distinct (x ∷ xs) = (is_in x xs ≡ false) × Distinct xs

pub record Accepted (text : List ℕ) (room : ℕ) (bytes : List ℕ) : Type 0 where
  pub head : List ℕ
  pub frames : List (List ℕ)
  pub text_is : text ≡ line_text head ++ lines_text frames
  pub head_follows : HeadFollows head
  pub frames_follow : Each (SegmentFollows (edition head) (nodes head)) frames
  pub segment_count : count frames ≡ segments head
  pub legs : Distinct (ends_of frames)
  pub fits : kept_bytes head ≤ room
  pub bytes_are : bytes ≡ head ++ joined frames
  pub are_bytes : Bytes bytes
