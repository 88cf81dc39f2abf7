-- Lines of a text. A line of digits ends at the 0A that `line_of` found, so that the text after
-- it is the same by both definitions.
-- Assumes nothing.
use Prim.Native.Nat.{ℕ, zero, suc, ◌+◌, ◌*◌, ◌≤◌, ◌<◌}
use mathlib.Core.Bool.{Bool, true, false, cond}
use mathlib.Core.Path.{◌≡◌, refl, sym, ap, ◌∙◌}
use mathlib.Core.List.{List, [], ◌∷◌, ◌++◌}
use native.Mathlib.Omega.{arith}
use lib.Dec.{eqb}
use lib.ListN.{length, get_or, take, drop, take-append-drop}
use borrow.Author.Tests.{eq-eqb, eqb-true}
use Rattle.lists.proofs.Facts.{and_true}
use Rattle.lists.proofs.Lists.{drop_one, true_is_false}
use Rattle.digits.specs.Digits.{is_digit, line_of, bytes_of, rest_of}
use Rattle.digits.specs.Steps.Scan.{are_digits}
use Rattle.digits.proofs.DigitLaws.{digit_no_end, line_digits, line_after}
use Rattle.cursor.specs.Lines.{first_line, after_line, NoEnd, Ends}

-- ---- the first line of any text: it is the front, it has no 0A, and its 0A or the text's end comes next
pub take_first : (u : List ℕ) → take (length (first_line u)) u ≡ first_line u
unfolding first_line
take_first [] = refl
take_first (x ∷ u) = grind (arith, take_first u)

pub first_ends : (u : List ℕ) → Ends (drop (length (first_line u)) u)
unfolding first_line
first_ends [] = tt
first_ends (x ∷ u) = go (eqb x 10) refl (first_ends u)
  where
    go : (b : Bool) → eqb x 10 ≡ b → Ends (drop (length (first_line u)) u) → Ends (drop (length (cond b [] (x ∷ first_line u))) (x ∷ u))
    go true e h = eqb-true x 10 e
    go false e h = h

pub first_no_end : (u : List ℕ) → NoEnd (first_line u)
unfolding first_line
first_no_end [] = tt
first_no_end (x ∷ u) = go (eqb x 10) refl (first_no_end u)
  where
    go : (b : Bool) → eqb x 10 ≡ b → NoEnd (first_line u) → NoEnd (cond b [] (x ∷ first_line u))
    go true e h = tt
    go false e h = (λ (q : x ≡ 10). true_is_false e (eq-eqb x 10 q), h)

pub first_inside : (u : List ℕ) → length (first_line u) ≤ length u
unfolding first_line
first_inside [] = omega arith
first_inside (x ∷ u) = grind (arith, first_inside u)

-- ---- a line of digits
digits_line : (m : ℕ) (u : List ℕ) → m < length u → are_digits m u ≡ true → get_or u m 0 ≡ 10
    → (first_line u ≡ take m u) × (after_line u ≡ drop (m + 1) u)
unfolding are_digits first_line after_line
digits_line m [] l d e = absurd (omega arith)
digits_line zero (x ∷ u) l d e = (rw (eq-eqb x 10 e), rw (eq-eqb x 10 e))
digits_line (suc m) (x ∷ u) l d e =
    let p = and_true (is_digit x) (are_digits m u) d in
    let h = digits_line m u (omega arith) p.1 e in
    let z : eqb x 10 ≡ false = digit_no_end x p.0 in
    let next : suc m + 1 ≡ suc (m + 1) = omega arith in
    (rw z (ap (λ (v : List ℕ). x ∷ v) h.0), rw (z, next) h.1)

-- a frame's line: the text after it, by both definitions, and the line, its 0A and that text are the whole
pub record FrameLine (u : List ℕ) (size : ℕ) : Type 0 where
  pub room : 2 * size + 1 ≤ length u
  pub rest : rest_of (line_of u) ≡ after_line u
  pub after : after_line u ≡ drop (2 * size + 1) u
  pub parts : u ≡ first_line u ++ (0x0A ∷ after_line u)

pub frame_line : (u : List ℕ) (size : ℕ) → 0 < size → length (bytes_of (line_of u)) ≡ size → FrameLine u size
frame_line u size z e =
    let v = line_after u size z e in
    let g = line_digits u size z e in
    let h = digits_line (2 * size) u (omega (arith, v.0)) g.0 g.1 in
    record {
      room = v.0;
      rest = v.1 ∙ sym h.1;
      after = h.1;
      parts =
          sym (take-append-drop (2 * size) u)
          ∙ ap (λ (x : List ℕ). take (2 * size) u ++ x) (drop_one u (2 * size) (omega (arith, v.0)) ∙ rw (g.1, sym h.1))
          ∙ ap (λ (x : List ℕ). x ++ (10 ∷ after_line u)) (sym h.0);
    }
