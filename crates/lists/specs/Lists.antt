-- Lists of numbers: whether one has no element, its element at a place, and whether all are bytes.
-- Assumes nothing.
use Rattle.std.specs.Prelude.{ℕ, ◌<◌, Bool, true, false, List, [], ◌∷◌, get_or}

abbrev pub is_empty : List ℕ → Bool
is_empty [] = true
is_empty (x ∷ xs) = false

-- The element at a place; 0 beyond the end.
abbrev pub at : List ℕ → ℕ → ℕ
at list i = get_or list i 0

-- Every element is a byte.
abbrev pub Bytes : List ℕ → Type 0
Bytes [] = Unit {0}
Bytes (b ∷ bytes) = (b < 256) × Bytes bytes
