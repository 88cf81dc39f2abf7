-- The text of a kept network: a line of uppercase digits for each frame.
-- Assumes nothing.
use Rattle.std.specs.Prelude.{ℕ, zero, suc, ◌+◌, ◌/◌, ◌%◌, cond, List, [], ◌∷◌, ◌++◌, ltb, take, drop}
use Rattle.frames.specs.Edition.{frame_bytes}
use Rattle.frames.specs.Frame.{head_bytes}
use Rattle.network.specs.Network.{head_of, edition_of, segments_of}

-- The uppercase digit of a number below 16.
unfoldable pub hex_digit : ℕ → ℕ
hex_digit n = cond (ltb n 10) (48 + n) (55 + n)

-- A frame's line: two digits for a byte, and 0A.
unfoldable pub line_text : List ℕ → List ℕ
line_text [] = 10 ∷ []
line_text (b ∷ bytes) = hex_digit (b / 16) ∷ hex_digit (b % 16) ∷ line_text bytes

-- The lines of so many frames of `size` bytes.
unfoldable pub frames_text : ℕ → ℕ → List ℕ → List ℕ
frames_text size zero bytes = []
frames_text size (suc left) bytes = line_text (take size bytes) ++ frames_text size left (drop size bytes)

unfoldable pub text_of : List ℕ → List ℕ
text_of net = line_text (head_of net) ++ frames_text (frame_bytes (edition_of net)) (segments_of net) (drop head_bytes net)
