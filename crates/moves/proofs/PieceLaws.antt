-- The first bytes of a list written over another, and then the last, which overlap or meet: the whole list.
-- Assumes nothing.
use Prim.Native.Nat.{ℕ, ◌+◌, ◌-◌, ◌≤◌}
use mathlib.Core.Path.{◌≡◌, sym, ap, ◌∙◌}
use mathlib.Core.List.{List, ◌++◌}
use native.Mathlib.Omega.{arith}
use lib.ListN.{length, take, drop, length-take, take-append-drop}
use Rattle.std.proofs.lemmas.List.{take-append-le}

pub pieces_join : (n : ℕ) (from to : List ℕ) → n ≤ length from → length from ≤ n + n
    → take (length from - n) (take n from ++ drop n to) ++ drop (length from - n) from ≡ from
pieces_join n from to low high =
    let m = length from - n in
    let covered : m ≤ length (take n from) = omega (arith, length-take n from) in
    let front : take m (take n from ++ drop n to) ≡ take m from =
    take-append-le m (take n from) (drop n to) covered ∙ sym (take-append-le m (take n from) (drop n from) covered) ∙ ap (take m) (take-append-drop n from) in
    ap (λ (l : List ℕ). l ++ drop m from) front ∙ take-append-drop m from
