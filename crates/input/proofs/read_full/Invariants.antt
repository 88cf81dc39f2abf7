-- What was put at the front is what the reader lost.
use Rattle.std.proofs.Common.{◌≡◌, ◌-◌, ◌≤◌, length, take}
use Rattle.std.specs.Io.KnownBytes.{Consumes}
use Rattle.input.proofs.read_full.Given as goal

abbrev pub invariant-loop-count : goal.invariant-loop-count
invariant-loop-count g l =
    (length l.room ≡ length l.initial.room)
    × (l.count ≤ length l.room)
    × Consumes (g.R.Read.remaining l.initial.input) (g.R.Read.remaining l.input) (take l.count l.room)

abbrev pub decreases-loop-count : goal.decreases-loop-count
decreases-loop-count g l = length l.room - l.count
