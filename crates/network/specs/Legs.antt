-- Document 01, "Frames": no two segment ends share node and leg, nor do the two ends of one segment.
-- Assumes nothing.
use Rattle.std.specs.Prelude.{ℕ, ◌+◌, ◌*◌, Bool, false, not, ◌&&◌, ◌||◌, List, [], ◌∷◌, eqb}
use Rattle.frames.specs.Frame.{node_a, leg_a, node_b, leg_b}

-- A corner is a leg of a node, as one number: eight legs to a node.
abbrev pub corner : ℕ → ℕ → ℕ
corner node leg = node * 8 + leg

abbrev pub corner_a : List ℕ → ℕ
corner_a f = corner (node_a f) (leg_a f)

abbrev pub corner_b : List ℕ → ℕ
corner_b f = corner (node_b f) (leg_b f)

unfoldable pub is_in : ℕ → List ℕ → Bool
is_in x [] = false
is_in x (y ∷ ys) = eqb x y || is_in x ys

-- No leg of this frame is taken already, by an earlier frame or by the frame's other end.
unfoldable pub legs_free : List ℕ → List ℕ → Bool
legs_free taken f = not (is_in (corner_a f) taken) && not (is_in (corner_b f) taken) && not (eqb (corner_a f) (corner_b f))

-- The legs taken after this frame, the last end first: the run that leaves by a leg (2s at the A end of segment s, 2s + 1 at its B end) is the
-- number of legs after it in the list.
abbrev pub taking : List ℕ → List ℕ → List ℕ
taking taken f = corner_b f ∷ corner_a f ∷ taken
