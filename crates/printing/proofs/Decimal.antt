-- Numbers in decimal. However few digits are asked for, there are no more; and where they are enough, they are what `{}` prints of the number.
-- Assumes nothing.
use Prim.Native.Nat.{ℕ, zero, suc, ◌+◌, ◌/◌, ◌%◌, ◌^◌, ◌≤◌, ◌<◌}
use native.Mathlib.Nat.{pow-succ'}
use native.Mathlib.Omega.{arith}
use mathlib.Core.Path.{◌≡◌, refl, ap}
use mathlib.Core.Bool.{Bool, true, false, cond}
use mathlib.Core.List.{List, [], ◌∷◌, ◌++◌}
use lib.Dec.{ltb}
use lib.ListN.{length, length-append}
use borrow.Author.Tests.{lt-ltb, le-ltb}
use Rattle.std.proofs.lemmas.Fmt.{decimal_by_steps}
use Rattle.printing.specs.Output.{decimal, displayed}

pub decimal_length : (k n : ℕ) → length (decimal k n) ≤ k
unfolding decimal
decimal_length zero n = omega arith
decimal_length (suc k) n = go (ltb n 10) _ _ (decimal_length k (n / 10))
  where
    go : (t : Bool) (x y : ℕ) → length (decimal k (n / 10)) ≤ k → length (cond t (x ∷ []) (decimal k (n / 10) ++ (y ∷ []))) ≤ suc k
    go true x y h = omega arith
    go false x y h = omega (arith, length-append (decimal k (n / 10)) (y ∷ []))

-- so many digits are the number's
abbrev Spelled : ℕ → List ℕ → Type 0
Spelled n ds = (k : ℕ) → n < 10 ^ suc k → decimal (suc k) n ≡ ds

one_digit : (n : ℕ) → n < 10 → Spelled n ((48 + n) ∷ [])
unfolding decimal
one_digit n h k l = rw (lt-ltb n 10 h) refl

-- the last digit, and those before it
more_digits : (n : ℕ) (ds : List ℕ) → 10 ≤ n → Spelled (n / 10) ds → Spelled n (ds ++ ((48 + n % 10) ∷ []))
unfolding decimal
more_digits n ds h tenth zero l = absurd (omega arith)
more_digits n ds h tenth (suc k) l =
    rw (le-ltb n 10 h) (ap (λ (front : List ℕ). front ++ ((48 + n % 10) ∷ [])) (tenth k (omega (arith, pow-succ' 10 (suc k)))))

-- twenty digits are enough for a number of 64 bits
pub decimal_displayed : (n : ℕ) → n < 2 ^ 64 → decimal 20 n ≡ displayed n
decimal_displayed n l = decimal_by_steps Spelled one_digit more_digits n l 19 (omega arith)
