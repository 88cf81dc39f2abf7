-- The page has the lines of the segments passed, at most 63 bytes each.
use Rattle.std.proofs.Common.{◌≡◌, ◌*◌, ◌≤◌}
use Rattle.arrayvec.specs.ArrayString.{array_string_len}
use Rattle.levels.specs.Levels.{level_lines}
use Rattle.levels.proofs.levels.put_levels.Given as goal

abbrev pub invariant-loop-segment : goal.invariant-loop-segment
invariant-loop-segment l =
    (l.page.bytes ≡ level_lines l.net.bytes.now 0 l.segment) × (array_string_len l.page ≤ 63 * l.segment)
