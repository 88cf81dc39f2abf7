-- What a lent slice holds after numbers were written into it.
-- Assumes nothing.
use Rattle.std.specs.Prelude.{ℕ, ◌+◌, List, ◌++◌, length, take, drop}

-- The list with xs written over it from a place on, the rest as it was.
abbrev pub placed : ℕ → List ℕ → List ℕ → List ℕ
placed place xs before = take place before ++ (xs ++ drop (place + length xs) before)
