-- The loop's invariant: the frames written so far, and what the lines left spell, are the whole; from `out` on the output is as it was.
use Prim.Native.Nat.{ℕ, ◌+◌, ◌*◌, ◌-◌, ◌≤◌}
use mathlib.Core.List.{List, ◌++◌}
use mathlib.Core.Path.{◌≡◌}
use lib.ListN.{length, drop, take}
use Rattle.text.specs.Steps.Spelled.{spelled_lines, spelled_text}
use Rattle.text.proofs.read.write_frames.Given as goal

pub record Writing (t : List ℕ) (b m : ℕ) (o₀ o : List ℕ) (s at out : ℕ) : Type 0 where
  pub low : s ≤ m
  pub at_is : at ≡ 15 + (2 * b + 1) * s
  pub out_is : out ≡ 7 + b * s
  pub long : length o ≡ length o₀
  pub room : 7 + b * m ≤ length o₀
  pub digits : 15 + (2 * b + 1) * m ≤ length t
  pub later : drop out o ≡ drop out o₀
  pub whole : take out o ++ spelled_lines b (m - s) (drop at t) ≡ spelled_text b m t

abbrev pub invariant-loop-s : goal.invariant-loop-s
invariant-loop-s l =
    Writing l.text l.size l.segments l.initial.output l.output l.s (15 + (2 * l.size + 1) * l.s) (7 + l.size * l.s)
