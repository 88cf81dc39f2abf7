-- Lines and their digits. A line is taken apart from the front of its text, clause by clause of `line_of`; what a whole line says of its text
-- (`Fronts`) is proved along the same clauses, and a scan's answer then tells the line's bytes, their sum and the text after it.
-- Assumes nothing.
use Prim.Native.Nat.{ℕ, zero, suc, ◌+◌, ◌*◌, ◌-◌, ◌%◌, ◌≤◌, ◌<◌, min}
use mathlib.Core.Bool.{Bool, true, false, cond, ◌&&◌, true≢false}
use mathlib.Core.Path.{◌≡◌, refl, sym, ap, ◌∙◌}
use mathlib.Core.List.{List, [], ◌∷◌, ◌++◌}
use native.Mathlib.Omega.{arith}
use lib.Dec.{eqb}
use lib.ListN.{length, get_or, drop}
use borrow.Author.Tests.{eq-eqb, ne_eqb, eqb-true}
use Rattle.lists.proofs.Facts.{and_true, true_and}
use Rattle.lists.proofs.Lists.{drop_two}
use Rattle.frames.specs.Frame.{total}
use Rattle.frames.specs.Ranges.{within}
use Rattle.frames.proofs.RangeLaws.{within_high}
use Rattle.std.specs.Prelude.{Some, None}
use Rattle.digits.specs.declared.Scanned.{Scanned}
use Rattle.digits.specs.Digits.{is_digit, line, digit, Line, broken, push, line_of, bytes_of, rest_of}
use Rattle.digits.specs.Steps.Scan.{scanned, are_digits, spelled}

pub digit_small : (x : ℕ) → digit x < 16
unfolding digit
digit_small x = go (within 48 57 x) refl (within 65 70 x) refl
  where
    go : (a : Bool) → within 48 57 x ≡ a → (b : Bool) → within 65 70 x ≡ b → cond a (x - 48) (cond b (x - 55) 0) < 16
    go true p b q = omega (arith, within_high 48 57 x p)
    go false p true q = omega (arith, within_high 65 70 x q)
    go false p false q = omega arith

-- ---- the cases of a line
pub line_end_lem : (x : ℕ) (u : List ℕ) → eqb x 10 ≡ true → line_of (x ∷ u) ≡ line [] u
unfolding line_of
line_end_lem x [] e = rw e
line_end_lem x (y ∷ t) e = rw e

line_odd : (x : ℕ) → eqb x 10 ≡ false → line_of (x ∷ []) ≡ broken
unfolding line_of
line_odd x e = rw e

pub line_pair : (x y : ℕ) (t : List ℕ) → eqb x 10 ≡ false → (is_digit x && is_digit y) ≡ true
    → line_of (x ∷ y ∷ t) ≡ push (16 * digit x + digit y) (line_of t)
unfolding line_of
line_pair x y t e d = rw (e, d)

line_bad : (x y : ℕ) (t : List ℕ) → eqb x 10 ≡ false → (is_digit x && is_digit y) ≡ false → line_of (x ∷ y ∷ t) ≡ broken
unfolding line_of
line_bad x y t e d = rw (e, d)

-- ---- the same at a place of a text
pub pair_at_lem : (t : List ℕ) (i : ℕ) → i + 1 < length t → (get_or t i 0 ≡ 10 → ⊥) → (is_digit (get_or t i 0) && is_digit (get_or t (i + 1) 0)) ≡ true
    → line_of (drop i t) ≡ push (16 * digit (get_or t i 0) + digit (get_or t (i + 1) 0)) (line_of (drop (i + 2) t))
pair_at_lem t i h e d = rw (drop_two t i h) (line_pair _ _ _ (ne_eqb _ _ e) d)

-- ---- and where two bytes, or the last one, come off the front of what is left of a text
pub end_front : (x l : List ℕ) → 0 < length x → get_or x 0 0 ≡ 10 → (r : List ℕ) × (line_of (x ++ l) ≡ line [] r)
end_front [] l h e = absurd (omega arith)
end_front (a ∷ x) l h e = (x ++ l, line_end_lem a (x ++ l) (eq-eqb a 10 e))

pub odd_front : (x l : List ℕ) → length x < 2 → length x ≡ min 2 (length (x ++ l)) → (get_or x 0 0 ≡ 10 → ⊥) → line_of (x ++ l) ≡ broken
unfolding line_of
odd_front [] [] h m e = refl
odd_front [] (b ∷ l) h m e = absurd (omega arith)
odd_front (a ∷ []) [] h m e = line_odd a (ne_eqb a 10 e)
odd_front (a ∷ []) (b ∷ l) h m e = absurd (omega arith)
odd_front (a ∷ b ∷ x) l h m e = absurd (omega arith)

pub bad_front : (x l : List ℕ) → length x ≡ 2 → (get_or x 0 0 ≡ 10 → ⊥) → (is_digit (get_or x 0 0) && is_digit (get_or x 1 0)) ≡ false
    → line_of (x ++ l) ≡ broken
bad_front [] l h e d = absurd (omega arith)
bad_front (a ∷ []) l h e d = absurd (omega arith)
bad_front (a ∷ b ∷ []) l h e d = line_bad a b l (ne_eqb a 10 e) d
bad_front (a ∷ b ∷ c ∷ x) l h e d = absurd (omega arith)

pub pair_front : (x l : List ℕ) → length x ≡ 2 → (get_or x 0 0 ≡ 10 → ⊥) → (is_digit (get_or x 0 0) && is_digit (get_or x 1 0)) ≡ true
    → line_of (x ++ l) ≡ push (16 * digit (get_or x 0 0) + digit (get_or x 1 0)) (line_of l)
pair_front [] l h e d = absurd (omega arith)
pair_front (a ∷ []) l h e d = absurd (omega arith)
pair_front (a ∷ b ∷ []) l h e d = line_pair a b l (ne_eqb a 10 e) d
pair_front (a ∷ b ∷ c ∷ x) l h e d = absurd (omega arith)

-- ---- what a scan answers
pub scanned_end : (c s : ℕ) (r : List ℕ) → s < 256 → scanned c s (line [] r) ≡ Some (record { count = c; sum = s })
unfolding total scanned
scanned_end c s r h =
    let e : c + 0 ≡ c = omega arith in
    let f : (s + 0) % 256 ≡ s = omega arith in
    cc

pub scanned_push : (c s b : ℕ) (l : Line) → scanned c s (push b l) ≡ scanned (c + 1) ((s + b) % 256) l
unfolding total scanned
scanned_push c s b broken = refl
scanned_push c s b (line bs r) =
    let e : c + suc (length bs) ≡ c + 1 + length bs = omega arith in
    let f : (s + (b + total bs)) % 256 ≡ ((s + b) % 256 + total bs) % 256 = omega arith in
    cc

-- ---- bytes that digits spell
pub length_spelled : (n : ℕ) (t : List ℕ) → length (spelled n t) ≡ n
unfolding spelled
length_spelled zero t = refl
length_spelled (suc n) t = ap suc (length_spelled n (drop 2 t))

-- ---- a line and the text that it fronts: the text has room for it, its digits spell its bytes, the rest comes after it, and it is digits and 0A
abbrev pub Fronts : List ℕ → Line → Type 0
Fronts t broken = Unit {0}
Fronts t (line bs rest) =
    (2 * length bs + 1 ≤ length t) × (bs ≡ spelled (length bs) t) × (rest ≡ drop (2 * length bs + 1) t)
    × (are_digits (2 * length bs) t ≡ true) × (get_or t (2 * length bs) 0 ≡ 10)

fronts_cond : (t : List ℕ) (b : Bool) (l m : Line) → (b ≡ true → Fronts t l) → Fronts t m → Fronts t (cond b l m)
fronts_cond t true l m p q = p refl
fronts_cond t false l m p q = q

fronts_push : (x y : ℕ) (t : List ℕ) (l : Line) → (is_digit x && is_digit y) ≡ true → Fronts t l
    → Fronts (x ∷ y ∷ t) (push (16 * digit x + digit y) l)
unfolding spelled are_digits
fronts_push x y t broken d p = tt
fronts_push x y t (line bs rest) d p =
    let e : 2 * suc (length bs) + 1 ≡ suc (suc (2 * length bs + 1)) = omega arith in
    let f : 2 * suc (length bs) ≡ suc (suc (2 * length bs)) = omega arith in
    let g = and_true (is_digit x) (is_digit y) d in (
      omega (arith, p.0),
      ap (λ (u : List ℕ). (16 * digit x + digit y) ∷ u) p.1,
      rw e p.2,
      rw (f, g.0, g.1) p.3,
      rw f p.4,
    )

pub fronts : (t : List ℕ) → Fronts t (line_of t)
unfolding line_of spelled are_digits
fronts [] = tt
fronts (x ∷ []) = fronts_cond (x ∷ []) (eqb x 10) (line [] []) broken (λ e. (omega arith, refl, refl, refl, eqb-true _ _ e)) tt
fronts (x ∷ y ∷ t) =
    fronts_cond (x ∷ y ∷ t) (eqb x 10) (line [] (y ∷ t)) _ (λ e. (omega arith, refl, refl, refl, eqb-true _ _ e))
    (fronts_cond (x ∷ y ∷ t) (is_digit x && is_digit y) _ broken (λ d. fronts_push x y t (line_of t) d (fronts t)) tt)

-- digits and 0A in their places are a line
pub digit_no_end : (x : ℕ) → is_digit x ≡ true → eqb x 10 ≡ false
unfolding is_digit
digit_no_end x d = ne_eqb x 10 (λ (e : x ≡ 10). true≢false (sym d ∙ rw e))

pub whole_line : (n : ℕ) (t : List ℕ) → 2 * n < length t → are_digits (2 * n) t ≡ true → get_or t (2 * n) 0 ≡ 10
    → line_of t ≡ line (spelled n t) (drop (2 * n + 1) t)
unfolding spelled are_digits
whole_line zero [] h d e = absurd (omega arith)
whole_line zero (x ∷ t) h d e = line_end_lem x t (eq-eqb x 10 e)
whole_line (suc n) [] h d e = absurd (omega arith)
whole_line (suc n) (x ∷ []) h d e = absurd (omega arith)
whole_line (suc n) (x ∷ y ∷ t) h d e =
    let f : 2 * suc n ≡ suc (suc (2 * n)) = omega arith in
    let p = and_true (is_digit x) (is_digit y && are_digits (2 * n) t) (rw f at d) in
    let q = and_true (is_digit y) (are_digits (2 * n) t) p.1 in
    let g : 2 * suc n + 1 ≡ suc (suc (2 * n + 1)) = omega arith in
    rw g
    (line_pair x y t (digit_no_end x p.0) (true_and (is_digit x) (is_digit y) p.0 q.0)
    ∙ ap (push (16 * digit x + digit y)) (whole_line n t (omega arith) q.1 (rw f at e)))

-- ---- what a scan tells
pub record LineScanned (scan : Scanned) (l : Line) : Type 0 where
  pub count_is : length (bytes_of l) ≡ scan.count
  pub sum_is : total (bytes_of l) % 256 ≡ scan.sum

pub scan_tells : {scan : Scanned} (l : Line) → Some scan ≡ scanned 0 0 l → LineScanned scan l
unfolding scanned
scan_tells broken e = cc
scan_tells {scan} (line bs r) e =
    let f : scan ≡ record { count = 0 + length bs; sum = (0 + total bs) % 256 } = cc in
    let g : scan.count ≡ 0 + length bs = ap (λ (x : Scanned). x.count) f in
    let h : scan.sum ≡ (0 + total bs) % 256 = ap (λ (x : Scanned). x.sum) f in
    record { count_is = omega arith; sum_is = omega arith }

pub scan_breaks : (l : Line) → None ≡ scanned 0 0 l → bytes_of l ≡ []
unfolding scanned
scan_breaks broken e = refl
scan_breaks (line bs r) e = cc

-- ---- a line of a known length: its bytes, and the text after it
spelled_line : (t : List ℕ) (l : Line) → Fronts t l → bytes_of l ≡ spelled (length (bytes_of l)) t
unfolding spelled
spelled_line t broken p = refl
spelled_line t (line bs r) p = p.1

pub line_spells : (t : List ℕ) (n : ℕ) → length (bytes_of (line_of t)) ≡ n → bytes_of (line_of t) ≡ spelled n t
line_spells t n e = spelled_line t (line_of t) (fronts t) ∙ ap (λ (k : ℕ). spelled k t) e

after_line_lem : (t : List ℕ) (n : ℕ) (l : Line) → 0 < n → Fronts t l → length (bytes_of l) ≡ n
    → (2 * n + 1 ≤ length t) × (rest_of l ≡ drop (2 * n + 1) t)
after_line_lem t n broken z p e = absurd (omega arith)
after_line_lem t n (line bs r) z p e = (omega (arith, p.0), rw e at p.2)

digits_of_line : (t : List ℕ) (n : ℕ) (l : Line) → 0 < n → Fronts t l → length (bytes_of l) ≡ n
    → (are_digits (2 * n) t ≡ true) × (get_or t (2 * n) 0 ≡ 10)
digits_of_line t n broken z p e = absurd (omega arith)
digits_of_line t n (line bs r) z p e = (rw e at p.3, rw e at p.4)

pub line_digits : (t : List ℕ) (n : ℕ) → 0 < n → length (bytes_of (line_of t)) ≡ n → (are_digits (2 * n) t ≡ true) × (get_or t (2 * n) 0 ≡ 10)
line_digits t n z e = digits_of_line t n (line_of t) z (fronts t) e

pub line_after : (t : List ℕ) (n : ℕ) → 0 < n → length (bytes_of (line_of t)) ≡ n → (2 * n + 1 ≤ length t) × (rest_of (line_of t) ≡ drop (2 * n + 1) t)
line_after t n z e = after_line_lem t n (line_of t) z (fronts t) e
