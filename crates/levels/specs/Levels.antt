-- Document 01, "Starred and plain examples": program levels prints for each segment its number, level and measure, decimal, one space between, each line
-- ended by byte 0A, no header; for a refusal one such line: "refused", number, line.
-- Assumes nothing.
use Rattle.std.specs.Prelude.{ℕ, zero, suc, ◌+◌, List, [], ◌∷◌, ◌++◌}
use Rattle.frames.specs.Edition.{most_kept}
use Rattle.text.specs.Read.{Reading, read_of, refused, kept}
use Rattle.network.specs.Network.{segments_of}
use Rattle.text.specs.Samples.{characters}
use Rattle.streets.specs.Bicycle.{segment_grade}
use Rattle.printing.specs.Output.{decimal}

-- It reads at most so many bytes. Of a network whose text is no longer, no more lines are printed than these; a page has room for 63 bytes of each.
abbrev pub most_input : ℕ
most_input = 65536

abbrev pub most_lines : ℕ
most_lines = 1040

-- Twenty digits hold every number of 64 bits.
abbrev pub in_decimal : ℕ → List ℕ
in_decimal n = decimal 20 n

abbrev pub space : List ℕ
space = 0x20 ∷ []

abbrev pub line_end : List ℕ
line_end = 0x0A ∷ []

unfoldable pub level_line : List ℕ → ℕ → List ℕ
level_line net s =
    (in_decimal s ++ space) ++ (in_decimal (segment_grade net s).level ++ space) ++ (in_decimal (segment_grade net s).measure ++ line_end)

-- The lines of so many segments from segment s on.
unfoldable pub level_lines : List ℕ → ℕ → ℕ → List ℕ
level_lines net s zero = []
level_lines net s (suc left) = level_line net s ++ level_lines net (s + 1) left

unfoldable pub refused_line : ℕ → ℕ → List ℕ
refused_line number at = characters "refused " ++ (in_decimal number ++ space) ++ (in_decimal at ++ line_end)

-- Read is lent an output in which every network fits.
abbrev pub levels_room : ℕ
levels_room = most_kept

abbrev pub levels_told : Reading → List ℕ
levels_told (refused number at) = refused_line number at
levels_told (kept net) = level_lines net 0 (segments_of net)

-- What program levels prints of a text.
unfoldable pub levels_of : List ℕ → List ℕ
levels_of text = levels_told (read_of text levels_room)
