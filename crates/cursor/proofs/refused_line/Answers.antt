-- The three numbers are the definition's, and the part that is lent back begins and ends by them.
use Prim.Native.Nat.{ℕ, ◌+◌, ◌-◌, ◌≤◌}
use mathlib.Core.List.{List}
use mathlib.Core.Path.{◌≡◌, refl, ap, ◌∙◌}
use native.Mathlib.Omega.{arith}
use lib.ListN.{length, take, drop}
use Rattle.cursor.specs.declared.Cursor.{Cursor}
use Rattle.cursor.specs.Cursor.{cursor_of}
use Rattle.cursor.proofs.CursorLaws.{cursor_inside}
use Rattle.cursor.proofs.refused_line.Goals as goal

module _ (t : List ℕ) (room : ℕ) {r : Cursor} (e : r ≡ cursor_of t room) where
  inside : r.start + r.length ≤ length t
  inside = omega (arith, cursor_inside t room, ap (λ (c : Cursor). c.start) e, ap (λ (c : Cursor). c.length) e)

  bytes : take (r.start + r.length - r.start) (drop r.start t) ≡ take (cursor_of t room).length (drop (cursor_of t room).start t)
  bytes =
      let n : r.start + r.length - r.start ≡ r.length = omega arith in
      ap (λ (x : ℕ). take x (drop r.start t)) n ∙ ap (λ (c : Cursor). take c.length (drop c.start t)) e

pub overflow_add-end : goal.overflow_add-end
overflow_add-end c =
    omega (arith, inside _ _ c.locate-cursor.ensures)

pub slice_bounds-result-end : goal.slice_bounds-result-end
slice_bounds-result-end c =
    omega (arith, inside _ _ c.locate-cursor.ensures)

pub returns : goal.returns
returns c =
    let e = c.locate-cursor.ensures in
    record {
      number_is = ap (λ (x : Cursor). x.number) e;
      of_text = refl;
      begins = omega (arith, ap (λ (x : Cursor). x.start) e);
      bytes = bytes _ _ e;
    }
