-- Line 1 begins where the text does. A later line comes after a head's line and frames' lines, whose size the head's digits tell.
use Prim.Native.Nat.{ℕ, ◌+◌, ◌*◌, ◌-◌, ◌≤◌, ◌<◌}
use mathlib.Core.List.{List}
use mathlib.Core.Path.{◌≡◌, sym, ap, ◌∙◌}
use native.Mathlib.Omega.{arith}
use lib.ListN.{length, drop, length-drop}
use Rattle.frames.specs.declared.Head.{Head}
use Rattle.frames.specs.Edition.{frame_bytes}
use Rattle.frames.specs.Frame.{edition}
use Rattle.frames.specs.Decoded.{head_fields}
use Rattle.digits.specs.Steps.Scan.{spelled}
use Rattle.cursor.specs.Lines.{after_lines}
use Rattle.cursor.specs.Steps.Places.{after_frames, WholeBefore, Begins}
use Rattle.cursor.proofs.line_start.Goals as goal

first_begins : {t : List ℕ} {k : ℕ} → k < 2 → Begins t k 0
unfolding after_lines
first_begins {t} {k} l =
    let z : k - 1 ≡ 0 = omega arith in
    let whole : t ≡ after_lines (k - 1) t = rw z in
    record { is = omega (arith, ap length whole); inside = omega arith; rest = whole }

module _ {t : List ℕ} {k : ℕ} (w : WholeBefore t k) (l : 2 ≤ k) {h : List ℕ} {head : Head} {size : ℕ}
    (p : h ≡ spelled 7 t) (q : size ≡ frame_bytes head.edition) (r : head ≡ head_fields h) where
  place_is : 15 + (2 * size + 1) * (k - 2) ≡ after_frames t (k - 2)
  place_is =
      let e : size ≡ frame_bytes (edition (spelled 7 t)) = q ∙ ap (λ (x : Head). frame_bytes x.edition) r ∙ ap (λ (x : List ℕ). frame_bytes (edition x)) p in
      ap (λ (n : ℕ). 15 + (2 * n + 1) * (k - 2)) e

  place_inside : 15 + (2 * size + 1) * (k - 2) ≤ length t
  place_inside = omega (arith, place_is, w.long l)

  later_begins : Begins t k (15 + (2 * size + 1) * (k - 2))
  later_begins =
      let m : ℕ = 15 + (2 * size + 1) * (k - 2) in
      let rest : drop m t ≡ after_lines (k - 1) t = ap (λ (n : ℕ). drop n t) place_is ∙ sym (w.rest l) in
      record { is = omega (arith, ap length rest, length-drop m t, place_inside); inside = place_inside; rest = rest }

pub returns-then-line-lt2 : goal.returns-then-line-lt2
returns-then-line-lt2 c =
    first_begins (omega (arith, c.if-line-lt2.true))

pub returns : goal.returns
returns c =
    later_begins c.requires (omega (arith, c.if-line-lt2.false))
    c.decode_into.ensures.bytes c.frame_bytes-size.ensures.is c.head_of-head.ensures
