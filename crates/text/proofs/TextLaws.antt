-- A frame's line and its text. The line of bytes is read back as those bytes, and a whole line is the text of its bytes: lines have uppercase
-- digits only, so the text of a frame is unique.
-- Assumes nothing.
use Prim.Native.Nat.{ℕ, zero, suc, ◌+◌, ◌*◌, ◌-◌, ◌/◌, ◌%◌, ◌<◌}
use mathlib.Core.Bool.{Bool, true, false, cond, ◌&&◌, ◌||◌}
use mathlib.Core.Path.{◌≡◌, refl, sym, ap, ◌∙◌}
use mathlib.Core.List.{List, [], ◌∷◌, ◌++◌}
use native.Mathlib.Omega.{arith}
use lib.Dec.{eqb, leb, ltb}
use lib.ListN.{length, get_or, drop}
use borrow.Author.Tests.{eqb-true, ne_eqb, lt-ltb, le-ltb, le-leb, lt-leb, ltb-true, ltb-false}
use Rattle.lists.specs.Lists.{is_empty, Bytes}
use Rattle.lists.proofs.Facts.{and_true, true_and}
use Rattle.lists.proofs.Lists.{true_is_false}
use Rattle.frames.specs.Ranges.{within}
use Rattle.frames.proofs.RangeLaws.{within_low, within_high}
use Rattle.digits.specs.Digits.{is_digit, line, digit, Line, broken, push, line_of, bytes_of, rest_of}
use Rattle.digits.specs.Steps.Scan.{spelled}
use Rattle.digits.proofs.DigitLaws.{digit_small, line_end_lem, line_pair}
use Rattle.text.specs.Text.{hex_digit, line_text}

-- ---- bytes
pub bytes_append : (a b : List ℕ) → Bytes a → Bytes b → Bytes (a ++ b)
bytes_append [] b p q = q
bytes_append (x ∷ a) b p q = (p.0, bytes_append a b p.1 q)

pub bytes_parts : (a b : List ℕ) → Bytes (a ++ b) → Bytes a × Bytes b
bytes_parts [] b h = (tt, h)
bytes_parts (x ∷ a) b h = let q = bytes_parts a b h.1 in ((h.0, q.0), q.1)

pub spelled_bytes : (n : ℕ) (t : List ℕ) → Bytes (spelled n t)
unfolding spelled
spelled_bytes zero t = tt
spelled_bytes (suc n) t = (omega (arith, digit_small (get_or t 0 0), digit_small (get_or t 1 0)), spelled_bytes n (drop 2 t))

-- ---- digits and their values
module _ (n : ℕ) (h : n < 16) where
  digit_back : (digit (hex_digit n) ≡ n) × (is_digit (hex_digit n) ≡ true) × (eqb (hex_digit n) 10 ≡ false)
  unfolding hex_digit digit is_digit
  digit_back = go (ltb n 10) refl
    where
      go : (b : Bool) → ltb n 10 ≡ b → let x = cond b (48 + n) (55 + n) in
          (cond (within 48 57 x) (x - 48) (cond (within 65 70 x) (x - 55) 0) ≡ n) × ((within 48 57 x || within 65 70 x) ≡ true) × (eqb x 10 ≡ false)
      go true p =
          let l : n < 10 = ltb-true n 10 p in
          let a : leb 48 (48 + n) ≡ true = le-leb 48 (48 + n) (omega arith) in
          let d : leb (48 + n) 57 ≡ true = le-leb (48 + n) 57 (omega arith) in
          (rw (a, d) (omega arith), rw (a, d), ne_eqb (48 + n) 10 (λ z. omega arith))
      go false p =
          let a : leb 48 (55 + n) ≡ true = le-leb 48 (55 + n) (omega arith) in
          let d : leb (55 + n) 57 ≡ false = lt-leb (55 + n) 57 (omega (arith, ltb-false n 10 p)) in
          let e : leb 65 (55 + n) ≡ true = le-leb 65 (55 + n) (omega (arith, ltb-false n 10 p)) in
          let f : leb (55 + n) 70 ≡ true = le-leb (55 + n) 70 (omega arith) in
          (rw (a, d, e, f) (omega arith), rw (a, d, e, f), ne_eqb (55 + n) 10 (λ z. omega arith))

value_back : (x : ℕ) → is_digit x ≡ true → hex_digit (digit x) ≡ x
unfolding hex_digit digit is_digit
value_back x e = go (within 48 57 x) refl (within 65 70 x) refl e
  where
    go : (a : Bool) → within 48 57 x ≡ a → (b : Bool) → within 65 70 x ≡ b → (a || b) ≡ true → let v = cond a (x - 48) (cond b (x - 55) 0) in
        cond (ltb v 10) (48 + v) (55 + v) ≡ x
    go true p b q f = rw (lt-ltb (x - 48) 10 (omega (arith, within_high 48 57 x p))) (omega (arith, within_low 48 57 x p))
    go false p true q f = rw (le-ltb (x - 55) 10 (omega (arith, within_low 65 70 x q))) (omega (arith, within_low 65 70 x q))
    go false p false q f = true_is_false refl f

-- ---- the line of bytes, read back
pub line_back : (bs rest : List ℕ) → Bytes bs → line_of (line_text bs ++ rest) ≡ line bs rest
unfolding line_text
line_back [] rest h = line_end_lem 10 rest refl
line_back (b ∷ bs) rest h =
    let p = digit_back (b / 16) (omega (arith, h.0)) in
    let q = digit_back (b % 16) (omega arith) in
    let e : 16 * digit (hex_digit (b / 16)) + digit (hex_digit (b % 16)) ≡ b = rw (p.0, q.0) (omega arith) in
    line_pair (hex_digit (b / 16)) (hex_digit (b % 16)) (line_text bs ++ rest) p.2
    (true_and (is_digit (hex_digit (b / 16))) (is_digit (hex_digit (b % 16))) p.1 q.1)
    ∙ rw (e, line_back bs rest h.1)

pub line_some : (bs rest : List ℕ) → is_empty (line_text bs ++ rest) ≡ false
unfolding line_text
line_some [] rest = refl
line_some (b ∷ bs) rest = refl

-- ---- a whole line is the text of its bytes
abbrev Writes : List ℕ → Line → Type 0
Writes t broken = Unit {0}
Writes t (line bs rest) = line_text bs ++ rest ≡ t

writes_push : (x y : ℕ) (t : List ℕ) (l : Line) → is_digit x ≡ true → is_digit y ≡ true → Writes t l
    → Writes (x ∷ y ∷ t) (push (16 * digit x + digit y) l)
unfolding line_text
writes_push x y t broken p q w = tt
writes_push x y t (line bs rest) p q w =
    let d : (16 * digit x + digit y) / 16 ≡ digit x = omega (arith, digit_small x, digit_small y) in
    let m : (16 * digit x + digit y) % 16 ≡ digit y = omega (arith, digit_small x, digit_small y) in
    rw (d, m, value_back x p, value_back y q, w)

writes : (t : List ℕ) → Writes t (line_of t)
unfolding line_of line_text
writes [] = tt
writes (x ∷ []) = go (eqb x 10) refl
  where
    go : (b : Bool) → eqb x 10 ≡ b → Writes (x ∷ []) (cond b (line [] []) broken)
    go true e = ap (λ (z : ℕ). z ∷ []) (sym (eqb-true x 10 e))
    go false e = tt
writes (x ∷ y ∷ t) = go (eqb x 10) refl (is_digit x && is_digit y) refl (writes t)
  where
    go : (b : Bool) → eqb x 10 ≡ b → (d : Bool) → (is_digit x && is_digit y) ≡ d → Writes t (line_of t)
        → Writes (x ∷ y ∷ t) (cond b (line [] (y ∷ t)) (cond d (push (16 * digit x + digit y) (line_of t)) broken))
    go true e d f w = ap (λ (z : ℕ). z ∷ y ∷ t) (sym (eqb-true x 10 e))
    go false e true f w = let p = and_true (is_digit x) (is_digit y) f in writes_push x y t (line_of t) p.0 p.1 w
    go false e false f w = tt

whole_line : (t : List ℕ) (l : Line) → Writes t l → 0 < length (bytes_of l) → line_text (bytes_of l) ++ rest_of l ≡ t
whole_line t broken w e = absurd (omega arith)
whole_line t (line bs rest) w e = w

pub line_text_lem : (t : List ℕ) → 0 < length (bytes_of (line_of t)) → t ≡ line_text (bytes_of (line_of t)) ++ rest_of (line_of t)
line_text_lem t h = sym (whole_line t (line_of t) (writes t) h)
