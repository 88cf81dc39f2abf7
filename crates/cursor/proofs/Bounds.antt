-- The numbers of Read's faults are at most 7, and those of a line after the head at most 6: each test gives the number of its refusal or leaves it to the
-- later ones.
-- Assumes nothing.
use Prim.Native.Nat.{ℕ, zero, suc, ◌-◌, ◌≤◌}
use mathlib.Core.Bool.{Bool}
use mathlib.Core.List.{List}
use native.Mathlib.Omega.{arith}
use lib.Dec.{ltb}
use Rattle.frames.specs.Faults.{framed, head_fault}
use Rattle.network.specs.Legs.{taking}
use Rattle.network.specs.Faults.{segment_fault}
use Rattle.cursor.specs.Lines.{after_line}
use Rattle.cursor.specs.LineFault.{line_bytes, first_fault, later_fault}

head_most : (h : List ℕ) → head_fault h ≤ 4
unfolding head_fault framed
head_most h = grind arith

segment_most : (e n : ℕ) (more : Bool) (taken f : List ℕ) → segment_fault e n more taken f ≤ 6
unfolding segment_fault framed
segment_most e n more taken f = grind arith

pub first_most : (t : List ℕ) (room : ℕ) → first_fault t room ≤ 7
unfolding first_fault
first_most t room = grind (arith, head_most (line_bytes t))

pub later_most : (e n left : ℕ) (taken t : List ℕ) (lines : ℕ) → later_fault e n left taken t lines ≤ 6
unfolding later_fault
later_most e n left taken t zero = grind (arith, segment_most e n (ltb 0 left) taken (line_bytes t))
later_most e n left taken t (suc lines) = later_most e n (left - 1) (taking taken (line_bytes t)) (after_line t) lines
