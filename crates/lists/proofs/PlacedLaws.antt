-- Writing over a list. It keeps its length; writing nothing changes nothing; and writing xs and then ys right after it is writing xs ++ ys: the front of what
-- the first wrote stays, and what lies past both is as it was. A store writes one number. A tail that is lent, written and put back is written in its place.
-- Assumes nothing.
use Prim.Native.Nat.{ℕ, ◌+◌, ◌-◌, ◌≤◌, ◌<◌}
use native.Mathlib.Nat.{add-zero}
use native.Mathlib.Numerals.{add-one}
use native.Mathlib.Omega.{arith}
use mathlib.Core.Path.{◌≡◌, sym, ◌∙◌, ap, ap₂}
use mathlib.Core.List.{List, [], ◌∷◌, ◌++◌, append_assoc, append-nil}
use lib.ListN.{length, take, drop, set, length-append, length-drop, take-append-drop}
use lib.Seq.{length-take-le, take_at, drop-append-add, drop-drop, drop-length, set_split}
use Rattle.lists.specs.Placed.{placed}

module _ (place : ℕ) (xs b : List ℕ) (fits : place + length xs ≤ length b) where
  -- as many are written as are passed over
  pub placed_length : length (placed place xs b) ≡ length b
  placed_length =
      let rest = drop (place + length xs) b in
      omega (
        arith,
        length-append (take place b) (xs ++ rest),
        length-append xs rest,
        length-drop (place + length xs) b,
        length-take-le place b (omega arith),
      )

  front : length (take place b ++ xs) ≡ place + length xs
  front = omega (arith, length-append (take place b) xs, length-take-le place b (omega arith))

  as_front : placed place xs b ≡ (take place b ++ xs) ++ drop (place + length xs) b
  as_front = sym (append_assoc (take place b) xs (drop (place + length xs) b))

  pub placed_then : (ys : List ℕ) → placed (place + length xs) ys (placed place xs b) ≡ placed place (xs ++ ys) b
  placed_then ys =
      let p = take place b ++ xs in
      let rest = drop (place + length xs) b in
      let head : take (place + length xs) (p ++ rest) ≡ p = take_at p rest (place + length xs) front in
      let sum : place + length xs + length ys ≡ place + length (xs ++ ys) = omega (arith, length-append xs ys) in
      let tail : drop (place + length xs + length ys) (p ++ rest) ≡ drop (place + length (xs ++ ys)) b =
      ap (λ (n : ℕ). drop (n + length ys) (p ++ rest)) (sym front)
      ∙ drop-append-add p rest (length ys)
      ∙ drop-drop (length ys) (place + length xs) b
      ∙ ap (λ (n : ℕ). drop n b) sum in
      ap (placed (place + length xs) ys) as_front
      ∙ ap₂ (λ (u v : List ℕ). u ++ (ys ++ v)) head tail
      ∙ append_assoc (take place b) xs (ys ++ drop (place + length (xs ++ ys)) b)
      ∙ ap (λ (l : List ℕ). take place b ++ l) (sym (append_assoc xs ys (drop (place + length (xs ++ ys)) b)))

pub placed_nothing : (place : ℕ) (b : List ℕ) → b ≡ placed place [] b
placed_nothing place b = rw (add-zero place) (sym (take-append-drop place b))

-- a store is one number written over the list
set_placed : (b : List ℕ) (place x : ℕ) → place < length b → set b place x ≡ placed place (x ∷ []) b
set_placed b place x h = rw add-one (set_split b place x h)

-- two stores, and then what follows
pub placed_two : (place x y : ℕ) (xs b : List ℕ) → place + 2 ≤ length b
    → placed (place + 2) xs (set (set b place x) (place + 1) y) ≡ placed place (x ∷ y ∷ xs) b
placed_two place x y xs b h =
    let one = placed place (x ∷ []) b in
    let both : set (set b place x) (place + 1) y ≡ placed place (x ∷ y ∷ []) b =
    ap (λ (l : List ℕ). set l (place + 1) y) (set_placed b place x (omega arith))
    ∙ set_placed one (place + 1) y (omega (arith, placed_length place (x ∷ []) b (omega arith)))
    ∙ placed_then place (x ∷ []) b (omega arith) (y ∷ []) in
    ap (placed (place + 2) xs) both ∙ placed_then place (x ∷ y ∷ []) b h xs

-- a list's tail from the place on, lent, written and put back
pub tail_back : (place : ℕ) (xs b : List ℕ) {tail : List ℕ} → tail ≡ xs ++ drop (place + length xs) b
    → take place b ++ (tail ++ drop (length b - place) (drop place b)) ≡ placed place xs b
tail_back place xs b e =
    let none : drop (length b - place) (drop place b) ≡ [] = rw length-drop at (drop-length (drop place b)) in
    rw (none, append-nil, e)
